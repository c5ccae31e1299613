use Rattle.std.proofs.Common.{refl, ap}
use Rattle.qq_group.proofs.seat.Seat.leave.Goals as goal

pub returns : goal.returns
returns g c = record {
  lanes = c.into_lanes.result;
  newest_is = c.into_lanes.ensures.newest;
  undos = ap (λ us. us.items) c.into_lanes.ensures.undos;
  log_is = c.into_lanes.ensures.log;
  seat = refl;
}
