-- A reader's calls between two that set the most bytes of a frame, each of which had memory. Pieces may be cut anywhere.
use Rattle.std.specs.Prelude.{◌≡◌, ℕ, Bool, true, List, [], ◌∷◌, ◌++◌, Option, Some, None, Result, Ok}
use Rattle.qq_amqp_wire.specs.Grammar.{HasFault, IsRead}
use Rattle.qq_amqp_wire.specs.Input.{Input, fed, next}
use Rattle.qq_amqp_wire.specs.declared.fault.WireFault.{WireFault}
use Rattle.qq_amqp_wire.specs.declared.frame.Frame.{Frame}

-- a piece that is fed, and an ask for the next frame
pub data Call : Type 0 where
  Feeds : (piece : List ℕ) → Call
  Asks : Call

-- all bytes that are fed
abbrev pub bytes_of : List Call → List ℕ
bytes_of [] = []
bytes_of (Feeds piece ∷ calls) = piece ++ bytes_of calls
bytes_of (Asks ∷ calls) = bytes_of calls

-- the input after the calls
unfoldable pub left_of : List Call → Input → Input
left_of [] input = input
left_of (Feeds piece ∷ calls) input = left_of calls (fed piece input)
left_of (Asks ∷ calls) input = left_of calls (next input).1

abbrev pub handed : Result (Option Frame) WireFault → List Frame → List Frame
handed (Ok (Some frame)) frames = frame ∷ frames
handed _ frames = frames

-- the frames that they hand out
unfoldable pub frames_of : List Call → Input → List Frame
frames_of [] input = []
frames_of (Feeds piece ∷ calls) input = frames_of calls (fed piece input)
frames_of (Asks ∷ calls) input = handed (next input).0 (frames_of calls (next input).1)

-- the bytes are these frames, one after the other, and then a rest
abbrev pub Splits : Bool → ℕ → List ℕ → List Frame → List ℕ → Type 0
Splits begun max bytes [] rest = bytes ≡ rest
Splits begun max bytes (frame ∷ frames) rest =
    (more : List ℕ) × (IsRead begun max bytes frame more × Splits true max more frames rest)

-- whether the first frame of a list has been read
abbrev pub begun_by : Bool → List Frame → Bool
begun_by begun [] = begun
begun_by begun (frame ∷ frames) = true

-- What is left of the bytes is unread, or has the fault that was answered at its front.
abbrev pub IsLeftBy : Option WireFault → Input → List ℕ → Type 0
IsLeftBy None input rest = rest ≡ input.unread
IsLeftBy (Some fault) input rest = HasFault input.begun input.max rest fault

-- Frames that were handed out are a split of the bytes that came, and so is what is left.
pub record AreSplit (input : Input) (bytes : List ℕ) (frames : List Frame) (last : Input) : Type 0 where
  pub rest : List ℕ
  pub split : Splits input.begun input.max bytes frames rest
  pub begun : last.begun ≡ begun_by input.begun frames
  pub max : last.max ≡ input.max
  pub left : IsLeftBy last.fault last rest

-- asked once more, the reader hands out nothing
abbrev pub IsDrained : List Call → Input → Type 0
IsDrained calls input = (frame : Frame) → (next (left_of calls input)).0 ≡ Ok (Some frame) → ⊥
