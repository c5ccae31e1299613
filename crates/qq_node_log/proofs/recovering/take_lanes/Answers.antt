use Rattle.std.proofs.Common.{◌∙◌, refl, arith}
use Rattle.qq_recover.specs.Recovered.{lanes_left}
use Rattle.qq_node_log.proofs.Lanes.{apart-later, left-later, taken-later, within-later}
use Rattle.qq_node_log.proofs.recovering.take_lanes.Goals as goal

pub queues-preserved : goal.queues-preserved
queues-preserved g c =
    let first = lanes_left c.args.recovered.now in
    let left = lanes_left c.queues.recovered in
    let next = lanes_left c.lane-lane.new.self in
    record {
      within = omega (arith, c.queues-test.true);
      apart = apart-later c.args.queues.now c.queues.at c.queues-test.true c.queues.invariant.apart;
      left = left-later first left next c.args.queues.now c.queues.at _ _ c.queues-test.true refl
          c.lane-lane.ensures.rest c.queues.invariant.apart c.queues.invariant.left;
      taken = taken-later first left c.args.queues.now c.queues.lanes.items c.push.new.self.items c.queues.at _ _
          c.lane-lane.result c.queues-test.true refl c.in_ok-push.ensures.items c.queues.invariant.left
          c.lane-lane.ensures.lane c.queues.invariant.taken;
      ends = within-later c.queues.lanes.items c.push.new.self.items c.lane-lane.result c.in_ok-push.ensures.items
          c.queues.invariant.ends c.lane-lane.ensures.ends;
      wal = c.lane-lane.ensures.wal ∙ c.queues.invariant.wal;
    }
