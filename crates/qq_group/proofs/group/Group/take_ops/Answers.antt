use Rattle.std.proofs.Common.{sym, ◌∙◌}
use Rattle.std.specs.Prelude.{slice_get, is_ok, if◌then◌else◌}
use Rattle.qq_group.specs.Follows.{Follows, Makes}
use Rattle.qq_group.specs.Group.{server_at}
use Rattle.qq_group.specs.Handing.{count_by, takes}
use Rattle.qq_group.proofs.Returning.{handed-queue, keeps-same}
use Rattle.qq_group.proofs.Taking.{at-err, at-ok, down-takes, handed-others, handed-out, makes-follows, none-of, none-waiting, sound-op}
use Rattle.qq_group.proofs.group.Group.take_ops.Goals as goal

pub returns-then-not-up-clause-value : goal.returns-then-not-up-clause-value
returns-then-not-up-clause-value g c =
    let old = c.args.self.now in
    c.new.ensures.items
    ∙ none-waiting (slice_get old.seats.items c.args.node.0)
    (none-of (server_at c.args.node.0 old) (sym c.is_up-up.ensures.value ∙ c.if-not-up.true))

pub returns-then-not-up-clause-made : goal.returns-then-not-up-clause-made
returns-then-not-up-clause-made g c =
    let old = c.args.self.now in
    down-takes g.L.LogView.log c.args.node.0 old
    (none-of (server_at c.args.node.0 old) (sym c.is_up-up.ensures.value ∙ c.if-not-up.true))

pub returns-then-not-up-clause-queue : goal.returns-then-not-up-clause-queue
returns-then-not-up-clause-queue g c = keeps-same (server_at c.args.node.0 c.args.self.now)

pub returns-clause-made : goal.returns-clause-made
returns-clause-made g c =
    let log = g.L.LogView.log in
    let k = c.args.node.0 in
    let old = c.args.self.now in
    let new = c.take_waiting.new.self in
    let d = c.take_waiting.ensures.out in
    at-ok c.take_waiting.result
    (λ b. Follows log (takes k (if b then count_by (server_at k old) else 0)) old new)
    (makes-follows log (takes k (if is_ok c.take_waiting.result then count_by (server_at k old) else 0)) old new
    (handed-out log (if is_ok c.take_waiting.result then count_by (server_at k old) else 0) k old new d
    (sound-op g.Q.Queue.stands log g.Q.Queue.applied k old c.requires d.seat d.out.was d.changes.there d.out.up)))

pub returns-clause-err : goal.returns-clause-err
returns-clause-err g c =
    let log = g.L.LogView.log in
    let k = c.args.node.0 in
    let old = c.args.self.now in
    let new = c.take_waiting.new.self in
    let d = c.take_waiting.ensures.out in
    at-err c.take_waiting.result
    (λ b. Makes log (takes k (if b then count_by (server_at k old) else 0)) old new)
    (handed-out log (if is_ok c.take_waiting.result then count_by (server_at k old) else 0) k old new d
    (sound-op g.Q.Queue.stands log g.Q.Queue.applied k old c.requires d.seat d.out.was d.changes.there d.out.up))

pub returns-clause-queue : goal.returns-clause-queue
returns-clause-queue g c =
    handed-queue _ c.args.node.0 c.args.self.now c.take_waiting.new.self c.take_waiting.ensures.out

pub returns-clause-audit : goal.returns-clause-audit
returns-clause-audit g c = c.take_waiting.ensures.out.audit

pub returns-clause-bag : goal.returns-clause-bag
returns-clause-bag g c = c.take_waiting.ensures.out.bag

pub returns-clause-others : goal.returns-clause-others
returns-clause-others g c =
    handed-others _ c.args.node.0 c.args.self.now c.take_waiting.new.self c.take_waiting.ensures.out
