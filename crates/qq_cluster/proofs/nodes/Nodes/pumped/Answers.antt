use Rattle.qq_base.proofs.Exits.{at_exit}
use Rattle.qq_cluster.proofs.Pumping.{is-pumped, not-pumped, pumped-gave_up}
use Rattle.qq_cluster.proofs.nodes.Nodes.pumped.Goals as goal

pub returns-then-not-self-clause-ok : goal.returns-then-not-self-clause-ok
returns-then-not-self-clause-ok g c = not-pumped c.args.self.now c.args.told.now c.if-not-self.true

pub returns-clause-ok : goal.returns-clause-ok
returns-clause-ok g c = is-pumped c.if-not-self.false c.in_ok-pump.ensures.ok

pub returns-in_err-pump-clause-err : goal.returns-in_err-pump-clause-err
returns-in_err-pump-clause-err g c =
    at_exit _ _ c.from_residual.ensures.1 (pumped-gave_up c.if-not-self.false c.in_err-pump.ensures.err)
