use Rattle.std.proofs.Common.{ap, sym, ◌∙◌, arith}
use Rattle.std.specs.Prelude.{find, remove}
use Rattle.std.specs.List.{position_or_len}
use Rattle.qq_taker.specs.Seats.{leaves, without_first}
use Rattle.qq_taker.proofs.SeatLemmas.{found-none, found-there, remove-is, remove-past}
use Rattle.qq_taker.proofs.seats.Seats.leave_first.Goals as goal

pub returns-then-at-len-clause-seat : goal.returns-then-at-len-clause-seat
returns-then-at-len-clause-seat c =
    let test = leaves c.args.whom in
    let seats = c.self.inside.rows.items in
    found-none test seats _ (c.place_leaving-at.ensures ∙ ap (position_or_len test) c.deref.ensures.value) (omega arith)
    ∙ ap (find test) c.self.view_is

pub returns-then-at-len-clause-after : goal.returns-then-at-len-clause-after
returns-then-at-len-clause-after c =
    let test = leaves c.args.whom in
    let seats = c.self.inside.rows.items in
    sym c.self.view_is
    ∙ remove-past c.args.whom seats _ (c.place_leaving-at.ensures ∙ ap (position_or_len test) c.deref.ensures.value)
    (omega arith) ∙ ap (without_first c.args.whom) c.self.view_is

pub returns-clause-seat : goal.returns-clause-seat
returns-clause-seat c =
    let test = leaves c.args.whom in
    let seats = c.self.inside.rows.items in
    found-there test seats c.place_leaving-at.result c.remove.result
    (c.place_leaving-at.ensures ∙ ap (position_or_len test) c.deref.ensures.value) (omega arith)
    c.remove.ensures.value ∙ ap (find test) c.self.view_is

pub returns-clause-after : goal.returns-clause-after
returns-clause-after c =
    let test = leaves c.args.whom in
    let seats = c.self.inside.rows.items in
    c.remove.ensures.items
    ∙ ap (remove seats) (c.place_leaving-at.ensures ∙ ap (position_or_len test) c.deref.ensures.value)
    ∙ remove-is c.args.whom seats ∙ ap (without_first c.args.whom) c.self.view_is
