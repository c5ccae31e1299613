use Rattle.std.proofs.Common.{arith, sym, subst}
use Rattle.std.proofs.lemmas.Result.{IfOk-weaker}
use Rattle.qq_defs.specs.Runnable.{IsRunnable}
use Rattle.qq_words.specs.declared.options.TheConstants.{LOG_BYTES}
use Rattle.qq_cluster_run.proofs.playing.drill_setup.Goals as goal

pub returns-clause-runs : goal.returns-clause-runs
returns-clause-runs c =
    IfOk-weaker c.plain.result _ _
    (λ setup is. subst IsRunnable (sym is)
    (c.setups_may_be_run.ensures.plain c.number.result 3 4 LOG_BYTES
    c.number.ensures.some c.number.ensures.few (omega arith))) c.plain.ensures.ok
