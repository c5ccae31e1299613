use Rattle.std.proofs.Common.{◌-◌, sym, ◌∙◌, subst, arith}
use Rattle.qq_base.proofs.Exits.{at_exit}
use Rattle.qq_cluster_model.specs.Cluster.{Setup}
use Rattle.qq_cluster_model.specs.Rules.{IsWrite}
use Rattle.qq_cluster.specs.Logs.{Appends, NodeTurns}
use Rattle.qq_cluster.specs.Nodes.{GaveUp}
use Rattle.qq_cluster.proofs.Items.{is-empty, not-empty, queues-sound}
use Rattle.qq_cluster.proofs.Stands.{gave_up-same}
use Rattle.qq_cluster.proofs.Turned.{taken-sound}
use Rattle.qq_cluster.proofs.Written.{may-append, write-down, write-failed, write-none, write-spent, write-wants, written}
use Rattle.qq_cluster.proofs.nodes.Nodes.write_up.Goals as goal

pub returns-then-not-up-clause-ok : goal.returns-then-not-up-clause-ok
returns-then-not-up-clause-ok g c =
    write-down c.args.node.0 c.args.self.now c.args.told.now
    (λ setup d st. sym c.if-not-up.true ∙ c.is_up-up.ensures setup d st)

pub take_ops-requires-clause-sound : goal.take_ops-requires-clause-sound
take_ops-requires-clause-sound g c = queues-sound c.requires.serve

pub take_ops-requires-clause-within : goal.take_ops-requires-clause-within
take_ops-requires-clause-within g c = c.requires.serve.3.within

pub returns-in_err-ops-clause-err : goal.returns-in_err-ops-clause-err
returns-in_err-ops-clause-err g c =
    at_exit _ _ c.from_residual.ensures.1 (gave_up-same c.args.self.now c.take_ops.new.self c.in_err-ops.field-0.0 c.in_err-ops.ensures.nodes c.in_err-ops.ensures.want)

pub returns-then-count-eq0-clause-ok : goal.returns-then-count-eq0-clause-ok
returns-then-count-eq0-clause-ok g c =
    write-none c.args.node.0 c.args.self.now c.take_ops.new.self c.in_ok-ops.ops.items c.requires.node.0 c.requires.node.1
    (λ setup d st. sym c.if-not-up.false ∙ c.is_up-up.ensures setup d st) c.in_ok-ops.ensures.ok
    c.args.told.now (is-empty c.in_ok-ops.ops.items (omega (arith, c.len-count.ensures)))

pub append_in-requires-clause-may : goal.append_in-requires-clause-may
append_in-requires-clause-may g c =
    may-append c.args.node.0 c.args.self.now c.take_ops.new.self c.in_ok-ops.ops.items c.requires.node.0 c.requires.node.1
    (λ setup d st. sym c.if-not-up.false ∙ c.is_up-up.ensures setup d st) c.in_ok-ops.ensures.ok
    c.what_waits_goes_on.ensures.sound c.requires.serve

pub returns-in_err-more-clause-err : goal.returns-in_err-more-clause-err
returns-in_err-more-clause-err g c =
    at_exit _ _ c.from_residual-in_err-more.ensures.1 (write-spent c.args.node.0 c.args.self.now c.take_ops.new.self c.in_ok-ops.ops.items c.requires.node.0 c.requires.node.1
    (λ setup d st. sym c.if-not-up.false ∙ c.is_up-up.ensures setup d st) c.in_ok-ops.ensures.ok
    c.append_in.new.nodes c.in_err-more.field-0.0 c.in_err-more.ensures.err)

pub returns-then-more-clause-ok : goal.returns-then-more-clause-ok
returns-then-more-clause-ok g c =
    written c.args.node.0 c.args.self.now c.take_ops.new.self c.in_ok-ops.ops.items c.requires.node.0 c.requires.node.1
    (λ setup d st. sym c.if-not-up.false ∙ c.is_up-up.ensures setup d st) c.in_ok-ops.ensures.ok
    c.append_in.new.nodes c.args.told.now (not-empty c.in_ok-ops.ops.items (omega (arith, c.len-count.ensures))) (subst
    (λ more. NodeTurns (Appends g.D.NodeDisk.facts c.in_ok-ops.ops.items more) (c.args.node.0 - 1)
    c.take_ops.new.self.nodes.items c.append_in.new.nodes.items) c.if-more.true c.in_ok-more.ensures.ok)

pub fail-requires-clause-sound : goal.fail-requires-clause-sound
fail-requires-clause-sound g c =
    taken-sound c.args.node.0 c.args.self.now c.take_ops.new.self c.in_ok-ops.ops.items (queues-sound c.requires.serve)
    c.in_ok-ops.ensures.ok

pub returns-in_err-fail-clause-err : goal.returns-in_err-fail-clause-err
returns-in_err-fail-clause-err g c =
    at_exit _ _ c.from_residual-in_err-fail.ensures.1 (subst
    (λ left. GaveUp g.D.NodeDisk.facts (λ (setup : Setup). IsWrite setup c.args.node.0) c.args.self.now left
    c.in_err-fail.field-0.0) (sym c.in_err-fail.ensures.err)
    (write-wants c.args.node.0 c.args.self.now c.take_ops.new.self c.in_ok-ops.ops.items c.requires.node.0 c.requires.node.1
    (λ setup d st. sym c.if-not-up.false ∙ c.is_up-up.ensures setup d st) c.in_ok-ops.ensures.ok
    c.append_in.new.nodes c.in_err-fail.field-0.0 (subst
    (λ more. NodeTurns (Appends g.D.NodeDisk.facts c.in_ok-ops.ops.items more) (c.args.node.0 - 1)
    c.take_ops.new.self.nodes.items c.append_in.new.nodes.items) c.if-more.false c.in_ok-more.ensures.ok) c.in_err-fail.ensures.want))

pub returns-clause-ok : goal.returns-clause-ok
returns-clause-ok g c =
    write-failed c.args.node.0 c.args.self.now c.take_ops.new.self c.in_ok-ops.ops.items c.requires.node.0 c.requires.node.1
    (λ setup d st. sym c.if-not-up.false ∙ c.is_up-up.ensures setup d st) c.in_ok-ops.ensures.ok
    c.append_in.new.nodes c.fail.new.self c.args.told.now c.fail.new.told (not-empty c.in_ok-ops.ops.items (omega (arith, c.len-count.ensures))) (subst
    (λ more. NodeTurns (Appends g.D.NodeDisk.facts c.in_ok-ops.ops.items more) (c.args.node.0 - 1)
    c.take_ops.new.self.nodes.items c.append_in.new.nodes.items) c.if-more.false c.in_ok-more.ensures.ok)
    c.in_ok-fail.ensures.ok c.in_ok-fail.ensures.says
