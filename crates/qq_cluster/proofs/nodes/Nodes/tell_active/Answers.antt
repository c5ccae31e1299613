use Rattle.std.proofs.Common.{◌+◌, arith, ap, ◌∙◌}
use Rattle.qq_base.proofs.Exits.{at_exit}
use Rattle.qq_cluster.specs.Active.{is_in}
use Rattle.qq_cluster.proofs.Pumping.{many-after}
use Rattle.qq_cluster.proofs.Stands.{can-after, gave_up-first, gave_up-second, served-then}
use Rattle.qq_cluster.proofs.Total.{total-told}
use Rattle.qq_cluster.proofs.nodes.Nodes.tell_active.Goals as goal

pub judge_each-requires-clause-serve : goal.judge_each-requires-clause-serve
judge_each-requires-clause-serve g c = can-after c.requires.serve c.in_ok-happen_active.ensures.ok

pub judge_each-requires-clause-place : goal.judge_each-requires-clause-place
judge_each-requires-clause-place g c =
    let many = (many-after c.requires.serve c.in_ok-happen_active.ensures.ok).0 in omega (arith, many, c.requires.place)

pub judge_each-requires-clause-active : goal.judge_each-requires-clause-active
judge_each-requires-clause-active g c = ap (is_in c.args.at) c.happen_active.ensures.active ∙ c.requires.active

pub returns-clause-ok : goal.returns-clause-ok
returns-clause-ok g c = served-then c.in_ok-happen_active.ensures.ok c.in_ok-judge_each.ensures.ok

pub returns-in_err-happen_active-clause-err : goal.returns-in_err-happen_active-clause-err
returns-in_err-happen_active-clause-err g c =
    at_exit _ _ c.from_residual.ensures.1 (gave_up-first (λ setup. total-told (c.args.at + 1)) c.in_err-happen_active.ensures.err)

pub returns-in_err-judge_each-clause-err : goal.returns-in_err-judge_each-clause-err
returns-in_err-judge_each-clause-err g c =
    at_exit _ _ c.from_residual-in_err-judge_each.ensures.1 (gave_up-second c.in_ok-happen_active.ensures.ok c.in_err-judge_each.ensures.err)
