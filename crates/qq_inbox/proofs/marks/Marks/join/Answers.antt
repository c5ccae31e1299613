use Rattle.std.proofs.Common.{ap, ◌∙◌, length}
use Rattle.qq_inbox.specs.Marks.{reading}
use Rattle.qq_inbox.proofs.Seatings.{checks, joins, joined_lengths, answers_below}
use Rattle.qq_inbox.proofs.marks.Marks.join.Goals as goal

pub join_seat-requires : goal.join_seat-requires
join_seat-requires c = (c.requires.seat.0, c.requires.other.0, c.requires.other.1, c.requires.seat.2, joins _ _ _ _ _)

pub load-requires : goal.load-requires
load-requires c = (c.join_seat.ensures.0 ∙ c.requires.seat.0, c.requires.seat.2, checks _ _ _ _)

pub returns-clause-seat : goal.returns-clause-seat
returns-clause-seat c =
    let joined = c.join_seat.ensures in
    let checked = c.load.ensures in
    let me = checked.2.0 ∙ joined.2 in
    let here = c.requires.seat in
    let there = c.requires.other in
    let lengths = joined_lengths (reading c.args.seat.now) (reading c.args.other) _ here.3 here.4 there.3 there.4 in (
      checked.0 ∙ (joined.0 ∙ here.0),
      ap (λ m. m.1) me ∙ here.1,
      here.2,
      ap (λ m. length m.0.raised) me ∙ lengths.0,
      ap (λ m. length m.0.seen) me ∙ lengths.1,
    )

pub returns-clause-answers : goal.returns-clause-answers
returns-clause-answers c right =
    let joined = c.join_seat.ensures in
    let checked = c.load.ensures in
    answers_below (reading c.args.seat.now) (reading c.args.other) (reading c.join_seat.new.seat)
    (reading c.load.new.seat) (ap (λ m. m.0) joined.2) (ap (λ m. m.0) checked.2.0) checked.2.1 right
