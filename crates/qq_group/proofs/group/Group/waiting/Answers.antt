use Rattle.std.proofs.Common.{◌≡◌, None, ap, refl, sym, ◌∙◌, arith}
use Rattle.std.specs.Prelude.{slice_get}
use Rattle.qq_group.specs.Group.{server_at, server_by}
use Rattle.qq_group.specs.Handing.{has_returned, next_by, returned_at}
use Rattle.qq_group.proofs.Returning.{any-some, handed-queue, keeps-same, left-after, left-none, none-returned, refilled-queue}
use Rattle.qq_group.proofs.Seats.{there-of}
use Rattle.qq_group.proofs.Taking.{again-handed, first-handed, handed-others, next-follows, none-handed, none-waits, returned-next, server-next, sound-op, waits-there}
use Rattle.qq_group.proofs.group.Group.waiting.Goals as goal

pub refill-requires-clause-there : goal.refill-requires-clause-there
refill-requires-clause-there g c =
    there-of c.args.self.now.seats.items c.args.node.0 has_returned refl (sym c.if-has_returned.ensures)

pub returns-then-has_returned-clause-value : goal.returns-then-has_returned-clause-value
returns-then-has_returned-clause-value g c =
    c.refill.ensures.value
    ∙ returned-next g.L.LogView.log (slice_get c.args.self.now.seats.items c.args.node.0)
    (sym c.if-has_returned.ensures)

pub returns-then-has_returned-clause-made : goal.returns-then-has_returned-clause-made
returns-then-has_returned-clause-made g c =
    again-handed g.L.LogView.log c.args.node.0 (has_returned (slice_get c.args.self.now.seats.items c.args.node.0)) None
    c.args.self.now c.refill.new.self (sym c.if-has_returned.ensures) c.refill.ensures.refills

pub returns-then-has_returned-clause-left : goal.returns-then-has_returned-clause-left
returns-then-has_returned-clause-left g c =
    let seat = slice_get c.args.self.now.seats.items c.args.node.0 in
    let none : returned_at (slice_get c.refill.new.self.seats.items c.args.node.0) ≡ None =
    ap returned_at c.refill.ensures.refills.seat ∙ none-returned seat in
    left-after c.refill.result c.refill.result None
    (returned_at (slice_get c.refill.new.self.seats.items c.args.node.0)) refl none (any-some c.refill.result)

pub returns-then-count-eq0-clause-value : goal.returns-then-count-eq0-clause-value
returns-then-count-eq0-clause-value g c =
    let log = g.L.LogView.log in
    let seat = slice_get c.args.self.now.seats.items c.args.node.0 in
    none-waits log c.args.node.0 c.args.self.now (omega (arith, c.count-count.ensures, c.if-count-eq0.true))
    ∙ server-next log seat (sym c.if-has_returned.ensures)

pub returns-then-count-eq0-clause-made : goal.returns-then-count-eq0-clause-made
returns-then-count-eq0-clause-made g c =
    let log = g.L.LogView.log in
    let old = c.args.self.now in
    let seat = slice_get old.seats.items c.args.node.0 in
    first-handed log c.args.node.0 (has_returned seat) old old (sym c.if-has_returned.ensures)
    (none-handed log c.args.node.0 old old refl
    (none-waits log c.args.node.0 old (omega (arith, c.count-count.ensures, c.if-count-eq0.true))))

pub returns-then-count-eq0-clause-queue : goal.returns-then-count-eq0-clause-queue
returns-then-count-eq0-clause-queue g c = keeps-same (server_at c.args.node.0 c.args.self.now)

pub next_change-requires-clause-some : goal.next_change-requires-clause-some
next_change-requires-clause-some g c = omega (arith, c.count-count.ensures, c.if-count-eq0.false)

pub next_change-requires-clause-there : goal.next_change-requires-clause-there
next_change-requires-clause-there g c =
    waits-there c.args.node.0 c.args.self.now (omega (arith, c.count-count.ensures, c.if-count-eq0.false))

pub returns-clause-value : goal.returns-clause-value
returns-clause-value g c =
    let log = g.L.LogView.log in
    let seat = slice_get c.args.self.now.seats.items c.args.node.0 in
    c.next_change.ensures.value ∙ server-next log seat (sym c.if-has_returned.ensures)

pub returns-clause-made : goal.returns-clause-made
returns-clause-made g c =
    let log = g.L.LogView.log in
    let k = c.args.node.0 in
    let old = c.args.self.now in
    let d = c.next_change.ensures.out in
    first-handed log k (has_returned (slice_get old.seats.items k)) old c.next_change.new.self
    (sym c.if-has_returned.ensures)
    (next-follows log k old c.next_change.new.self d
    (sound-op g.Q.Queue.stands log g.Q.Queue.applied k old c.requires d.seat d.out.was d.changes.there d.out.up))

pub returns-clause-queue : goal.returns-clause-queue
returns-clause-queue g c =
    handed-queue 1 c.args.node.0 c.args.self.now c.next_change.new.self c.next_change.ensures.out

pub returns-clause-audit : goal.returns-clause-audit
returns-clause-audit g c = c.next_change.ensures.out.audit

pub returns-clause-bag : goal.returns-clause-bag
returns-clause-bag g c = c.next_change.ensures.out.bag

pub returns-clause-others : goal.returns-clause-others
returns-clause-others g c =
    handed-others 1 c.args.node.0 c.args.self.now c.next_change.new.self c.next_change.ensures.out

pub returns-clause-left : goal.returns-clause-left
returns-clause-left g c =
    let log = g.L.LogView.log in
    let seat = slice_get c.args.self.now.seats.items c.args.node.0 in
    left-after c.next_change.result (next_by log None (server_by seat)) (returned_at seat)
    (returned_at (slice_get c.next_change.new.self.seats.items c.args.node.0)) c.next_change.ensures.value
    c.next_change.ensures.returned (left-none log seat (sym c.if-has_returned.ensures))

pub returns-then-has_returned-clause-queue : goal.returns-then-has_returned-clause-queue
returns-then-has_returned-clause-queue g c =
    refilled-queue c.args.node.0 None c.args.self.now c.refill.new.self c.refill.ensures.refills

pub returns-then-has_returned-clause-audit : goal.returns-then-has_returned-clause-audit
returns-then-has_returned-clause-audit g c = c.refill.ensures.refills.only.audit

pub returns-then-has_returned-clause-bag : goal.returns-then-has_returned-clause-bag
returns-then-has_returned-clause-bag g c = c.refill.ensures.refills.only.bag
