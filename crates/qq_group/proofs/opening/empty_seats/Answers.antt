use Rattle.std.proofs.Common.{[], ◌∷◌, None, false, refl, ap, length-append, arith, length}
use Rattle.qq_group.specs.Opening.{IsEmpty}
use Rattle.qq_group.specs.declared.seat.Seat.{Seat}
use Rattle.qq_group.proofs.Bags.{all-more}
use Rattle.qq_group.proofs.opening.empty_seats.Goals as goal

pub seats-preserved : goal.seats-preserved
seats-preserved g c =
    let seat : Seat g.row.Q.Denot g.row.L.Denot =
    record { server = None; known = false; noticed = 0; handed = 0; left = None; returned = None } in
    let before = c.seats.seats.items in
    record {
      each = all-more IsEmpty before c.push.new.self.items seat c.in_ok-push.ensures.items c.seats.invariant.each
          (record { server = refl; unknown = refl; left = refl; returned = refl });
      count = omega (arith, ap length c.in_ok-push.ensures.items, length-append before (seat ∷ []), c.seats.invariant.count);
    }
