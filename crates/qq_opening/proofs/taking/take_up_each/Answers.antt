use Rattle.std.proofs.Common.{refl}
use Rattle.qq_opening.proofs.TakingUp.{lost-among, taken-more, taken-none}
use Rattle.qq_opening.proofs.taking.take_up_each.Goals as goal

pub lanes-init : goal.lanes-init
lanes-init c =
    taken-none c.args.node.0 c.args.handed c.args.ids.now c.args.lanes.items c.args.queues.now.items
    c.into_iter-lane-iterator.result.rest.items c.into_iter-lane-iterator.ensures.into_iter_gives.0 c.requires.sound
    c.requires.may c.requires.apart c.requires.ends

pub returns-in-Err-Lost-clause-cause : goal.returns-in-Err-Lost-clause-cause
returns-in-Err-Lost-clause-cause c = (
  refl,
  lost-among c.args.node.0 c.args.handed c.args.ids.now c.args.lanes.items c.args.queues.now.items c.lanes.at
      c.lanes.lane-iterator.rest.items c.next.new.self.rest.items c.in-Some.lane c.lanes.queues.items
      c.in-Some.ensures.steps.0 c.requires.count c.lanes.invariant _ c.in-Err-Lost.field-0 c.in-Err-Lost.noticed
      c.in-Err-Lost.found _ _ c.in-Err-Lost.field-0-is c.in-Err-Lost.noticed-is c.in-Err-Lost.found-is
      c.in-Err-Lost.ensures.cause,
)

pub lanes-preserved : goal.lanes-preserved
lanes-preserved c =
    taken-more c.args.node.0 c.args.handed c.args.ids.now c.args.lanes.items c.args.queues.now.items c.lanes.at
    c.lanes.lane-iterator.rest.items c.next.new.self.rest.items c.in-Some.lane c.lanes.queues.items
    c.in-Some.ensures.steps.0 c.requires.count c.lanes.invariant _ c.take_up_in.new.queues.items c.in-Ok.ensures.ok
