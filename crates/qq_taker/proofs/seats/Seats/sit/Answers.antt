use Rattle.std.proofs.Common.{◌≤◌, length, ap, ◌∙◌, arith}
use Rattle.std.specs.Prelude.{insert}
use Rattle.std.specs.List.{position_or_len}
use Rattle.qq_taker.specs.declared.seats.Seat.{Seat}
use Rattle.qq_taker.specs.Seats.{is_above, sit}
use Rattle.qq_taker.proofs.SeatLemmas.{insert-is, within-all}
use Rattle.qq_taker.proofs.seats.Seats.sit.Goals as goal

pub insert-requires : goal.insert-requires
insert-requires c =
    let within : position_or_len (is_above c.args.id.tag) c.deref.result.now ≤ length c.deref.result.now =
    within-all (is_above c.args.id.tag) c.deref.result.now in
    omega arith

pub returns-clause-ok : goal.returns-clause-ok
returns-clause-ok c =
    let seat : Seat = record { consumer = c.args.id; number = c.args.number } in
    let rows = c.self.inside.rows.items in
    c.in_ok-insert.ensures.items
    ∙ ap (λ k. insert rows k seat) (c.place_above-at.ensures ∙ ap (position_or_len (is_above c.args.id.tag)) c.deref.ensures.value)
    ∙ insert-is seat rows ∙ ap (sit seat) c.self.view_is
