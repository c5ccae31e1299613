-- What an answer says of where it comes from.
use Rattle.std.specs.Prelude.{Bool, true, false}
use Rattle.qq_entry.specs.declared.answer.Answer.{Answer}
use Rattle.qq_entry.specs.declared.answer.Answer.TheVariants.{Gap, Forgotten, Ended, WindowFull, SessionsFull}

-- the answers of the session gate itself
abbrev pub comes_from_gate : Answer → Bool
comes_from_gate (Gap next) = true
comes_from_gate Forgotten = true
comes_from_gate Ended = true
comes_from_gate WindowFull = true
comes_from_gate SessionsFull = true
comes_from_gate _ = false
