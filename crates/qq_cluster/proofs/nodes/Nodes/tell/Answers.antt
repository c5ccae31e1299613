use Rattle.std.proofs.Common.{arith}
use Rattle.qq_base.proofs.Exits.{at_exit}
use Rattle.qq_cluster.proofs.Pumping.{many-after}
use Rattle.qq_cluster.proofs.Stands.{after-nothing, can-after, gave_up-nothing}
use Rattle.qq_cluster.proofs.nodes.Nodes.tell.Goals as goal

pub tell_active-requires-clause-serve : goal.tell_active-requires-clause-serve
tell_active-requires-clause-serve g c = can-after c.requires.serve (c.in_ok-wake.ensures.ok c.args.told.now)

pub tell_active-requires-clause-place : goal.tell_active-requires-clause-place
tell_active-requires-clause-place g c =
    let many = (many-after c.requires.serve (c.in_ok-wake.ensures.ok c.args.told.now)).0 in
    omega (arith, many, c.requires.place)

pub returns-clause-ok : goal.returns-clause-ok
returns-clause-ok g c = after-nothing (c.in_ok-wake.ensures.ok c.args.told.now) c.in_ok-tell_active.ensures.ok

pub returns-in_err-tell_active-clause-err : goal.returns-in_err-tell_active-clause-err
returns-in_err-tell_active-clause-err g c =
    at_exit _ _ c.from_residual-in_err-tell_active.ensures.1 (gave_up-nothing (c.in_ok-wake.ensures.ok c.args.told.now) c.in_err-tell_active.ensures.err)
