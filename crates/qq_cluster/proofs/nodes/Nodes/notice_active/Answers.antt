use Rattle.std.proofs.Common.{sym, ◌∙◌}
use Rattle.qq_base.proofs.Exits.{at_exit}
use Rattle.qq_cluster.proofs.Pumping.{notice-gave_up, notices, notices-nothing}
use Rattle.qq_cluster.proofs.nodes.Nodes.notice_active.Goals as goal

pub returns-then-not-waits-clause-ok : goal.returns-then-not-waits-clause-ok
returns-then-not-waits-clause-ok g c =
    notices-nothing c.args.node.0 c.args.at c.args.self.now c.args.told.now
    (λ setup d r st. sym (sym c.if-not-waits.true ∙ c.waits_noticed-waits.ensures setup d r st))

pub returns-clause-ok : goal.returns-clause-ok
returns-clause-ok g c =
    notices c.args.node.0 c.args.at
    (λ setup d r st. sym (sym c.if-not-waits.false ∙ c.waits_noticed-waits.ensures setup d r st))
    c.in_ok-tell_active.ensures.ok

pub returns-in_err-tell_active-clause-err : goal.returns-in_err-tell_active-clause-err
returns-in_err-tell_active-clause-err g c =
    at_exit _ _ c.from_residual.ensures.1 (notice-gave_up c.args.node.0 c.args.at
    (λ setup d r st. sym (sym c.if-not-waits.false ∙ c.waits_noticed-waits.ensures setup d r st))
    c.in_err-tell_active.ensures.err)
