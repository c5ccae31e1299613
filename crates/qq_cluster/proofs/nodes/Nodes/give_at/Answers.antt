use Rattle.std.proofs.Common.{arith}
use Rattle.qq_base.proofs.Exits.{at_exit}
use Rattle.qq_cluster.proofs.Pumping.{many-after}
use Rattle.qq_cluster.proofs.Stands.{after-nothing, can-after, gave_up-nothing}
use Rattle.qq_cluster.proofs.nodes.Nodes.give_at.Goals as goal

pub give_active-requires-clause-serve : goal.give_active-requires-clause-serve
give_active-requires-clause-serve g c = can-after c.requires.serve (c.in_ok-wake.ensures.ok c.args.told.now)

pub give_active-requires-clause-place : goal.give_active-requires-clause-place
give_active-requires-clause-place g c =
    let many = (many-after c.requires.serve (c.in_ok-wake.ensures.ok c.args.told.now)).0 in
    omega (arith, many, c.requires.place)

pub returns-clause-ok : goal.returns-clause-ok
returns-clause-ok g c = after-nothing (c.in_ok-wake.ensures.ok c.args.told.now) c.in_ok-give_active.ensures.ok

pub returns-in_err-give_active-clause-err : goal.returns-in_err-give_active-clause-err
returns-in_err-give_active-clause-err g c =
    at_exit _ _ c.from_residual-in_err-give_active.ensures.1 (gave_up-nothing (c.in_ok-wake.ensures.ok c.args.told.now) c.in_err-give_active.ensures.err)
