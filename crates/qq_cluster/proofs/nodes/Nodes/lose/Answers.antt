use Rattle.std.proofs.Common.{refl, arith}
use Rattle.qq_base.proofs.Exits.{at_exit}
use Rattle.qq_cluster_model.specs.Lines.{IsLose}
use Rattle.qq_cluster_model.specs.Queue.{Loses}
use Rattle.qq_cluster.proofs.LineRules.{queue-index}
use Rattle.qq_cluster.proofs.OnTheWay.{happens-there, lose-is, no-message, there-gave_up_line}
use Rattle.qq_cluster.proofs.Stands.{gave_up-same}
use Rattle.qq_cluster.proofs.nodes.Nodes.lose.Goals as goal

pub happen_where_there-requires-clause-place : goal.happen_where_there-requires-clause-place
happen_where_there-requires-clause-place g c = queue-index c.args.self.now c.args.queue c.requires.queue

pub returns-clause-ok : goal.returns-clause-ok
returns-clause-ok g c =
    happens-there IsLose Loses lose-is c.args.queue c.args.message c.requires.queue.0 (omega arith)
    c.in_ok-happen_where_there.ensures.ok

pub returns-in_err-happen_where_there-clause-err : goal.returns-in_err-happen_where_there-clause-err
returns-in_err-happen_where_there-clause-err g c =
    at_exit _ _ c.from_residual-in_err-happen_where_there.ensures.1 (there-gave_up_line IsLose Loses lose-is c.args.queue c.args.message c.requires.queue.0 (omega arith)
    c.in_err-happen_where_there.ensures.err)

pub returns-in_err-say_no_such-clause-err : goal.returns-in_err-say_no_such-clause-err
returns-in_err-say_no_such-clause-err g c =
    at_exit _ _ c.from_residual.ensures.1 (gave_up-same c.args.self.now c.args.self.now c.in_err-say_no_such.field-0.0 refl c.in_err-say_no_such.ensures.want)

pub returns-then-message-eq0-clause-ok : goal.returns-then-message-eq0-clause-ok
returns-then-message-eq0-clause-ok g c =
    no-message c.args.message IsLose c.args.queue.0 (omega arith) (λ d events said. said)
    c.in_ok-say_no_such.ensures.ok
