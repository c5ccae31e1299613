-- Marks and their seats, as contracts name them.
use Rattle.std.specs.Prelude.{◌≡◌, ◌<◌, ℕ, [], length}
use Rattle.atomic_table.specs.declared.shared.Seat.{Seat}
use Rattle.qq_inbox.specs.declared.marks.Marks.{Marks}
use Rattle.qq_inbox.specs.declared.seat.SeatView.{SeatView}

abbrev pub MarkSeat : Type 0
MarkSeat = Seat (Unit {0}) SeatView

-- what a seat knows
abbrev pub reading : MarkSeat → SeatView
reading seat = seat.me.0

-- how many words there are: one for each queue, and one for the stop
abbrev pub words : Marks → ℕ
words marks = marks.table.shared.table_id.words

-- a seat of these marks
abbrev pub IsSeatOf : Marks → MarkSeat → Type 0
IsSeatOf marks seat =
    (seat.table_id ≡ marks.table.shared.table_id) × (seat.me.1 ≡ []) × (0 < words marks)
    × (length (reading seat).raised ≡ words marks) × (length (reading seat).seen ≡ words marks)
