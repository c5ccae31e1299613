use Rattle.std.proofs.Common.{refl, sym, ◌∙◌, arith}
use Rattle.qq_base.proofs.Exits.{at_exit}
use Rattle.qq_cluster.proofs.Sent.{resends-each, resends-ended, resends-gave_up, resends-none}
use Rattle.qq_cluster.proofs.Stands.{gave_up-same}
use Rattle.qq_cluster.proofs.nodes.Nodes.resend_or_tell.Goals as goal

pub returns-then-not-some-clause-ok : goal.returns-then-not-some-clause-ok
returns-then-not-some-clause-ok g c =
    resends-none c.args.session c.args.self.now c.args.told.now (omega (arith, c.len-some.ensures))

pub returns-in_err-say_ended-clause-err : goal.returns-in_err-say_ended-clause-err
returns-in_err-say_ended-clause-err g c =
    at_exit _ _ c.from_residual.ensures.1 (gave_up-same c.args.self.now c.args.self.now c.in_err-say_ended.field-0.0 refl c.in_err-say_ended.ensures.want)

pub returns-then-ended-clause-ok : goal.returns-then-ended-clause-ok
returns-then-ended-clause-ok g c =
    resends-ended c.args.session (sym c.if-ended.true ∙ c.is_ended-ended.ensures) (omega (arith, c.len-some.ensures))
    c.in_ok-say_ended.ensures.ok

pub returns-in_err-resend_and_fetch-clause-err : goal.returns-in_err-resend_and_fetch-clause-err
returns-in_err-resend_and_fetch-clause-err g c =
    at_exit _ _ c.from_residual-in_err-resend_and_fetch.ensures.1 (resends-gave_up c.args.session (sym c.if-ended.false ∙ c.is_ended-ended.ensures)
    c.in_err-resend_and_fetch.ensures.err)

pub returns-clause-ok : goal.returns-clause-ok
returns-clause-ok g c =
    resends-each c.args.session (sym c.if-ended.false ∙ c.is_ended-ended.ensures)
    c.in_ok-resend_and_fetch.ensures.ok
