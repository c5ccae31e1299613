use Rattle.qq_laws.specs.Always.{queue_after}
use Rattle.qq_queue_pins.proofs.Moved.{moves-live}
use Rattle.qq_queue_pins.proofs.moves.entries_move_what_is_live.Goals as goal

pub returns : goal.returns
returns c = λ args entries entry k row.
    moves-live (queue_after args entries) entry k row (c.entries_move_messages.ensures args entries entry)
