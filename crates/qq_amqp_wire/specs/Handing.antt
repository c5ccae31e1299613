-- What a reader's answers say of its input, in the words of the grammar.
use Rattle.std.specs.Prelude.{◌≡◌, true, Option, Some, None}
use Rattle.qq_amqp_wire.specs.Grammar.{HasFault, IsRead, IsPartial}
use Rattle.qq_amqp_wire.specs.Input.{Input}
use Rattle.qq_amqp_wire.specs.declared.fault.WireFault.{WireFault}
use Rattle.qq_amqp_wire.specs.declared.fault.WireFault.TheVariants.{Memory}
use Rattle.qq_amqp_wire.specs.declared.frame.Frame.{Frame}

-- the frame at the front of the bytes is handed out, and no other byte
pub record HandsOut (old new : Input) (frame : Frame) : Type 0 where
  pub sound : old.fault ≡ None
  pub read : IsRead old.begun old.max old.unread frame new.unread
  pub is : new ≡ record old { begun = true; unread = new.unread }

-- no whole frame has come, and no fault shows yet
pub record Waits (old new : Input) : Type 0 where
  pub sound : old.fault ≡ None
  pub partial : IsPartial old.begun old.max old.unread
  pub is : new ≡ old

-- the fault was answered before, or stands at the front of the bytes
abbrev pub IsDue : Option WireFault → Input → WireFault → Type 0
IsDue None old fault = HasFault old.begun old.max old.unread fault
IsDue (Some earlier) old fault = earlier ≡ fault

pub record Stops (old new : Input) (fault : WireFault) : Type 0 where
  pub due : IsDue old.fault old fault
  -- it is answered from now on
  pub later : new.fault ≡ Some fault

abbrev pub StopsAt : Input → Input → WireFault → Type 0
StopsAt old new Memory = new ≡ old
StopsAt old new fault = Stops old new fault
