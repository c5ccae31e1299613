use Rattle.std.proofs.Common.{◌-◌, refl, sym, ◌∙◌}
use Rattle.qq_base.proofs.Exits.{at_exit}
use Rattle.qq_queue.specs.Events.{event_of}
use Rattle.qq_cluster.proofs.OnTheWay.{not-there, some-receiver, none-receiver, there, there-gave_up}
use Rattle.qq_cluster.proofs.Stands.{gave_up-same}
use Rattle.qq_cluster.proofs.nodes.Nodes.happen_where_there.Goals as goal

pub returns-then-not-there-clause-ok : goal.returns-then-not-there-clause-ok
returns-then-not-there-clause-ok g c =
    not-there c.args.at (c.args.message - 1) (event_of c.args.event) c.receiver.result
    (none-receiver c.receiver.result (sym c.is_some-there.ensures ∙ c.if-not-there.true)) c.receiver.ensures.receiver
    c.in_ok-say_no_such.ensures.ok

pub returns-in_err-say_no_such-clause-err : goal.returns-in_err-say_no_such-clause-err
returns-in_err-say_no_such-clause-err g c =
    at_exit _ _ c.from_residual.ensures.1 (gave_up-same c.args.self.now c.args.self.now c.in_err-say_no_such.field-0.0 refl c.in_err-say_no_such.ensures.want)

pub returns-clause-ok : goal.returns-clause-ok
returns-clause-ok g c =
    let o = some-receiver c.receiver.result (sym c.is_some-there.ensures ∙ c.if-not-there.false) in
    there c.args.at (c.args.message - 1) (event_of c.args.event) c.receiver.result o.0 o.1 c.receiver.ensures.receiver
    c.in_ok-happen.ensures.ok

pub returns-in_err-happen-clause-err : goal.returns-in_err-happen-clause-err
returns-in_err-happen-clause-err g c =
    at_exit _ _ c.from_residual-in_err-happen.ensures.1 (let o = some-receiver c.receiver.result (sym c.is_some-there.ensures ∙ c.if-not-there.false) in
    there-gave_up c.args.at (c.args.message - 1) (event_of c.args.event) c.receiver.result o.0 o.1
    c.receiver.ensures.receiver c.in_err-happen.ensures.err)
