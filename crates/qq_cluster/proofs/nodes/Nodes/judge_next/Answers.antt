use Rattle.std.proofs.Common.{◌+◌, arith, ap, ◌∙◌}
use Rattle.qq_base.proofs.Exits.{at_exit}
use Rattle.qq_cluster.specs.Active.{is_in}
use Rattle.qq_cluster.proofs.Judged.{judged-then}
use Rattle.qq_cluster.proofs.Pumping.{many-after}
use Rattle.qq_cluster.proofs.Stands.{can-after, gave_up-after, gave_up-same, served-both}
use Rattle.qq_cluster.proofs.nodes.Nodes.judge_next.Goals as goal

pub returns-in_err-claim-clause-err : goal.returns-in_err-claim-clause-err
returns-in_err-claim-clause-err g c =
    at_exit _ _ c.from_residual.ensures.1 (gave_up-same c.args.self.now c.judge.new.self c.in_err-claim.field-0.0 c.in_err-claim.ensures.nodes c.in_err-claim.ensures.want)

pub follow-requires-clause-serve : goal.follow-requires-clause-serve
follow-requires-clause-serve g c = can-after c.requires.serve c.in_ok-claim.ensures.ok

pub follow-requires-clause-place : goal.follow-requires-clause-place
follow-requires-clause-place g c =
    let many = (many-after c.requires.serve c.in_ok-claim.ensures.ok).0 in omega (arith, many, c.requires.place)

pub follow-requires-clause-active : goal.follow-requires-clause-active
follow-requires-clause-active g c = ap (is_in c.args.at) c.judge.ensures.active ∙ c.requires.active

pub returns-clause-ok : goal.returns-clause-ok
returns-clause-ok g c =
    served-both c.in_ok-claim.ensures.ok c.in_ok-follow.ensures.ok
    (λ setup d events others one other. judged-then c.in_ok-claim.claim (c.args.at + 1) d events others one other)

pub returns-in_err-follow-clause-err : goal.returns-in_err-follow-clause-err
returns-in_err-follow-clause-err g c =
    at_exit _ _ c.from_residual-in_err-follow.ensures.1 (gave_up-after
    (λ setup d events others one other. judged-then c.in_ok-claim.claim (c.args.at + 1) d events others one other)
    c.in_ok-claim.ensures.ok c.in_err-follow.ensures.err)
