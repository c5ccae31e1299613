-- What a reader has of its input, and what each call makes of it.
use Rattle.std.specs.Prelude.{ℕ, Bool, true, false, List, [], ◌++◌, drop, Option, Some, None, Result, Ok, Err}
use Rattle.qq_amqp_wire.specs.Frames.{Found, found_at}
use Rattle.qq_amqp_wire.specs.declared.fault.WireFault.{WireFault}
use Rattle.qq_amqp_wire.specs.declared.fault.WireFault.TheVariants.{Memory}
use Rattle.qq_amqp_wire.specs.declared.frame.Frame.{Frame}

pub record Input : Type 0 where
  -- what stands before the first frame has been read
  pub begun : Bool
  -- the most bytes of a frame
  pub max : ℕ
  -- the bytes that came and weren't handed out
  pub unread : List ℕ
  -- what is answered from now on
  pub fault : Option WireFault

abbrev pub fresh : ℕ → Input
fresh max = record { begun = false; max = max; unread = []; fault = None }

-- More bytes came. After a fault they aren't looked at.
abbrev pub fed_by : Option WireFault → List ℕ → Input → Input
fed_by None piece input = record input { unread = input.unread ++ piece }
fed_by (Some e) piece input = input

unfoldable pub fed : List ℕ → Input → Input
fed piece input = fed_by input.fault piece input

-- An answer, and the input after it. A frame is handed out; at a fault the reader stops.
abbrev pub Step : Type 0
Step = Result (Option Frame) WireFault × Input

abbrev pub step_by : Found → Input → Step
step_by (Ok None) input = (Ok None, input)
step_by (Ok (Some x)) input = (Ok (Some x.0), record input { begun = true; unread = drop x.1 input.unread })
step_by (Err e) input = (Err e, record input { unread = []; fault = Some e })

abbrev pub next_by : Option WireFault → Input → Step
next_by None input = step_by (found_at input.begun input.max input.unread) input
next_by (Some e) input = (Err e, input)

unfoldable pub next : Input → Step
next input = next_by input.fault input

-- Out of memory the input is as before.
abbrev pub left_by : Result (Option Frame) WireFault → Input → Input
left_by (Err Memory) input = input
left_by _ input = (next input).1
