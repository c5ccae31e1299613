use Rattle.qq_taker.specs.Seats.{leaves}
use Rattle.qq_taker.proofs.SeatLemmas.{at-place, past-all}
use Rattle.qq_taker.proofs.seats.place_leaving.Goals as goal

pub returns-in-Some : goal.returns-in-Some
returns-in-Some c = at-place (leaves c.args.whom) c.args.rows.now c.in-Some.at c.in-Some.ensures

pub returns-in-None : goal.returns-in-None
returns-in-None c = past-all (leaves c.args.whom) c.args.rows.now c.in-None.ensures
