use Rattle.std.proofs.Common.{refl, arith}
use Rattle.qq_base.proofs.Exits.{at_exit}
use Rattle.qq_cluster_model.specs.Lines.{IsDeliver}
use Rattle.qq_cluster.proofs.OnTheWay.{delivers, delivers-gave_up, delivers-none, no-message}
use Rattle.qq_cluster.proofs.Stands.{gave_up-same}
use Rattle.qq_cluster.proofs.nodes.Nodes.deliver.Goals as goal

pub returns-in_err-say_no_such-clause-err : goal.returns-in_err-say_no_such-clause-err
returns-in_err-say_no_such-clause-err g c =
    at_exit _ _ c.from_residual.ensures.1 (gave_up-same c.args.self.now c.args.self.now c.in_err-say_no_such.field-0.0 refl c.in_err-say_no_such.ensures.want)

pub returns-then-message-eq0-clause-ok : goal.returns-then-message-eq0-clause-ok
returns-then-message-eq0-clause-ok g c =
    no-message c.args.message IsDeliver c.args.queue.0 (omega arith) (λ d events said. said)
    c.in_ok-say_no_such.ensures.ok

pub returns-in_err-say_no_such-2-clause-err : goal.returns-in_err-say_no_such-2-clause-err
returns-in_err-say_no_such-2-clause-err g c =
    at_exit _ _ c.from_residual-in_err-say_no_such-2.ensures.1
    (gave_up-same c.args.self.now c.args.self.now c.in_err-say_no_such-2.field-0.0 refl c.in_err-say_no_such-2.ensures.want)

pub returns-in_default-clause-ok : goal.returns-in_default-clause-ok
returns-in_default-clause-ok g c =
    delivers-none c.args.queue c.args.message c.receiver.result c.requires.queue.0 (omega arith) c.in_default.is
    c.receiver.ensures.receiver c.in_ok-say_no_such-2.ensures.ok

pub returns-in_err-deliver_to-clause-err : goal.returns-in_err-deliver_to-clause-err
returns-in_err-deliver_to-clause-err g c =
    at_exit _ _ c.from_residual-in_err-deliver_to.ensures.1 (delivers-gave_up c.args.queue c.args.message c.receiver.result c.in-Some.node c.requires.queue.0 (omega arith)
    c.in-Some.is c.receiver.ensures.receiver c.in_err-deliver_to.ensures.err)

pub returns-clause-ok : goal.returns-clause-ok
returns-clause-ok g c =
    delivers c.args.queue c.args.message c.receiver.result c.in-Some.node c.requires.queue.0 (omega arith)
    c.in-Some.is c.receiver.ensures.receiver c.in_ok-deliver_to.ensures.ok
