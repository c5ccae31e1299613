-- Reading the frame at the front of bytes, with the first fault that applies (AMQP 0-9-1, sections 4.2.2 and 4.2.3).
use Rattle.std.specs.Prelude.{◌+◌, ◌-◌, ◌==◌, ◌||◌, ℕ, Bool, true, false, List, [], ◌∷◌, length, take, Option, Some, None, Result, Ok, Err, nat_eq, nat_lt, slice_index, if◌then◌else◌}
use Rattle.std.specs.Int.{w8, w16, w32, w64}
use Rattle.std.specs.Cmp.Lexicographic.{pointwise}
use Rattle.qq_fields.specs.Reading as fields
use Rattle.qq_fields.specs.Reading.{◌>>=◌}
use Rattle.qq_amqp_wire.specs.Arguments.{number_at}
use Rattle.qq_amqp_wire.specs.Rows.{arguments_at}
use Rattle.qq_amqp_wire.specs.declared.fault.WireFault.{WireFault}
use Rattle.qq_amqp_wire.specs.declared.fault.WireFault.TheVariants.{BadProtocol, BadType, TooLong, BadEnd, BadField}
use Rattle.qq_amqp_wire.specs.declared.frame.Frame.{Frame}
use Rattle.qq_amqp_wire.specs.declared.frame.Frame.TheVariants.{Protocol, Method as MethodFrame, Header, Body, Heartbeat}
use Rattle.qq_amqp_wire.specs.declared.head.Head.{Head}
use Rattle.qq_amqp_wire.specs.declared.kinds.TheConstants as kinds
use Rattle.qq_amqp_wire.specs.declared.method.Method.{Method}

-- ---- payloads

-- a value whose bytes are all
abbrev pub whole : {A : Type 0} → A × List ℕ → Result A WireFault
whole (x, []) = Ok x
whole (x, b ∷ bytes) = Err BadField

unfoldable pub method_in : List ℕ → Result Method WireFault
method_in payload = do
  class ← number_at w16 payload
  number ← number_at w16 class.1
  x ← arguments_at class.0 number.0 number.1
  whole x

-- class, weight, size of the bodies, and the properties, which aren't read
unfoldable pub header_in : ℕ → List ℕ → Result Frame WireFault
header_in channel payload = do
  class ← number_at w16 payload
  weight ← number_at w16 class.1
  size ← number_at w64 weight.1
  Ok (Header channel class.0 size.0 size.1)

unfoldable pub payload_in : ℕ → ℕ → List ℕ → Result Frame WireFault
payload_in kind channel payload =
    if kind == kinds.METHOD then (method_in payload >>= λ m. Ok (MethodFrame channel m))
    else if kind == kinds.HEADER then header_in channel payload
    else if kind == kinds.BODY then Ok (Body channel payload)
    else whole (Heartbeat channel, payload)

-- ---- frames

abbrev pub is_kind : ℕ → Bool
is_kind n = n == kinds.METHOD || n == kinds.HEADER || n == kinds.BODY || n == kinds.HEARTBEAT

-- the first byte is there, and no type of frame
abbrev pub has_bad_kind : List ℕ → Bool
has_bad_kind [] = false
has_bad_kind (kind ∷ bytes) = if is_kind kind then false else true

-- What begins a frame, and the bytes after it. There is none where bytes are missing.
unfoldable pub head_at : List ℕ → fields.Field (Unit {0}) Head
head_at bytes = do
  kind ← fields.number_at tt w8 bytes
  channel ← fields.number_at tt w16 kind.1
  size ← fields.number_at tt w32 channel.1
  Ok (record { kind = kind.0; channel = channel.0; size = size.0 }, size.1)

-- a frame, and how many bytes it takes, or None
abbrev pub Found : Type 0
Found = Result (Option (Frame × ℕ)) WireFault

-- the frame of a head and the bytes after it
unfoldable pub frame_of : ℕ → Head → List ℕ → Found
frame_of max head bytes =
    if nat_lt (max - 8) head.size then Err TooLong
    else if nat_lt (length bytes) (head.size + 1) then Ok None
    else if slice_index bytes head.size == kinds.END then (do
      frame ← payload_in head.kind head.channel (take head.size bytes)
      Ok (Some (frame, head.size + 8)))
    else Err BadEnd

abbrev pub frame_by : ℕ → fields.Field (Unit {0}) Head → Found
frame_by max (Err _) = Ok None
frame_by max (Ok x) = frame_of max x.0 x.1

-- The frame at the front of bytes, of at most so many bytes with its head and its end.
unfoldable pub frame_at : ℕ → List ℕ → Found
frame_at max bytes = if has_bad_kind bytes then Err BadType else frame_by max (head_at bytes)

-- ---- what stands before the first frame

-- two lists agree as far as both go
abbrev pub agree : List ℕ → List ℕ → Bool
agree xs ys = pointwise nat_eq (take (length ys) xs) (take (length xs) ys)

unfoldable pub protocol_at : List ℕ → Found
protocol_at bytes =
    if agree bytes kinds.PROTOCOL then (if nat_lt (length bytes) 8 then Ok None else Ok (Some (Protocol, 8)))
    else Err BadProtocol

-- what stands at the front of bytes: the protocol at first, and then frames
unfoldable pub found_at : Bool → ℕ → List ℕ → Found
found_at begun max bytes = if begun then frame_at max bytes else protocol_at bytes
