use Rattle.std.proofs.Common.{arith, refl, subst, sym}
use Rattle.qq_base.proofs.Exits.{at_exit}
use Rattle.qq_cluster.proofs.Items.{node-here}
use Rattle.qq_node_log.specs.Found.{AreDistinct}
use Rattle.qq_opening.specs.Taking.{MayTakeEach}
use Rattle.qq_opening.proofs.GoingOn.{goes-on, stays-down}
use Rattle.qq_opening.proofs.stepping.go_on.Goals as goal

pub index-own-requires : goal.index-own-requires
index-own-requires g c = omega (arith, c.requires.may.place.0, c.requires.may.place.1)

pub take_up_each-requires-clause-sound : goal.take_up_each-requires-clause-sound
take_up_each-requires-clause-sound g c = c.requires.may.sound

pub take_up_each-requires-clause-node : goal.take_up_each-requires-clause-node
take_up_each-requires-clause-node g c = c.requires.may.within

pub take_up_each-requires-clause-may : goal.take_up_each-requires-clause-may
take_up_each-requires-clause-may g c =
    subst (MayTakeEach c.args.node.0 c.args.nodes.now.queues.items) (sym c.deref.ensures.value)
    (c.requires.may.take c.index-own.result.now
    (node-here c.args.nodes.now c.index-own.result.now c.args.node c.requires.may.place c.index-own.ensures))

pub take_up_each-requires-clause-apart : goal.take_up_each-requires-clause-apart
take_up_each-requires-clause-apart g c =
    subst AreDistinct (sym c.deref.ensures.value)
    (c.requires.may.apart c.index-own.result.now
    (node-here c.args.nodes.now c.index-own.result.now c.args.node c.requires.may.place c.index-own.ensures))

pub returns-in_err-take_up_each-clause-cause : goal.returns-in_err-take_up_each-clause-cause
returns-in_err-take_up_each-clause-cause g c =
    at_exit _ _ c.from_residual.ensures.1 (stays-down c.args.node c.args.opens c.args.lanes.items c.args.nodes.now c.index-own.result.now
    (node-here c.args.nodes.now c.index-own.result.now c.args.node c.requires.may.place c.index-own.ensures)
    c.deref.result.now c.deref.ensures.value c.handed_of-handed.result c.handed_of-handed.ensures c.in_err-take_up_each.field-0.0
    c.in_err-take_up_each.ensures.cause)

pub returns-clause-ok : goal.returns-clause-ok
returns-clause-ok g c =
    goes-on c.args.node c.args.opens c.args.lanes.items c.args.nodes.now c.index-own.result.now
    (node-here c.args.nodes.now c.index-own.result.now c.args.node c.requires.may.place c.index-own.ensures)
    c.deref.result.now c.deref.ensures.value c.handed_of-handed.result c.handed_of-handed.ensures _
    c.in_ok-take_up_each.ensures.ok refl c.mark_in.ensures
