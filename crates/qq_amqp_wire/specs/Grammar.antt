-- The grammar: which bytes spell which frame, and where a fault stands. A frame has several spellings, which differ
-- in what is reserved.
use Rattle.std.specs.Prelude.{◌≡◌, ◌≢◌, ◌<◌, ◌≤◌, ◌-◌, ◌^◌, ℕ, Bool, true, false, List, [], ◌∷◌, ◌++◌, length, None, IsSome, slice_index}
use Rattle.qq_fields.specs.Writing.{u8, u16, u32, u64}
use Rattle.qq_amqp_wire.specs.Arguments.{Parts, ArePartsInRange, text_of, values_of}
use Rattle.qq_amqp_wire.specs.Frames.{is_kind}
use Rattle.qq_amqp_wire.specs.Rows.{row_of, values_in, row_at}
use Rattle.qq_amqp_wire.specs.Writing.{kind_of, channel_of, framed}
use Rattle.qq_amqp_wire.specs.declared.fault.WireFault.{WireFault}
use Rattle.qq_amqp_wire.specs.declared.fault.WireFault.TheVariants.{BadProtocol, BadType, TooLong, BadEnd, BadMethod, BadField, Memory}
use Rattle.qq_amqp_wire.specs.declared.frame.Frame.{Frame}
use Rattle.qq_amqp_wire.specs.declared.frame.Frame.TheVariants.{Protocol, Method as MethodFrame, Header, Body, Heartbeat}
use Rattle.qq_amqp_wire.specs.declared.kinds.TheConstants as kinds
use Rattle.qq_amqp_wire.specs.declared.method.Method.{Method}

-- ---- spellings

-- a method's numbers, and parts that tell its values
pub record SpellsMethod (m : Method) (payload : List ℕ) : Type 0 where
  pub parts : Parts (row_of m).arguments
  pub range : ArePartsInRange (row_of m).arguments parts
  pub values : values_of (row_of m).arguments parts ≡ values_in m
  pub is : payload ≡ u16 (row_of m).class ++ (u16 (row_of m).number ++ text_of (row_of m).arguments parts)

-- class, any weight, size of the bodies, and the properties
pub record SpellsHeader (class size : ℕ) (properties payload : List ℕ) : Type 0 where
  pub weight : ℕ
  pub range : (class < 2 ^ 16) × (weight < 2 ^ 16) × (size < 2 ^ 64)
  pub is : payload ≡ u16 class ++ (u16 weight ++ (u64 size ++ properties))

abbrev pub SpellsPayload : Frame → List ℕ → Type 0
SpellsPayload Protocol payload = ⊥
SpellsPayload (MethodFrame channel m) payload = SpellsMethod m payload
SpellsPayload (Header channel class size properties) payload = SpellsHeader class size properties payload
SpellsPayload (Body channel bytes) payload = payload ≡ bytes
SpellsPayload (Heartbeat channel) payload = payload ≡ []

-- a payload of at most so many bytes, whose length has four bytes
pub record IsShort (max : ℕ) (payload : List ℕ) : Type 0 where
  pub within : length payload ≤ max - 8
  pub fits : length payload < 2 ^ 32

pub record SpellsFrame (max : ℕ) (frame : Frame) (text : List ℕ) : Type 0 where
  pub payload : List ℕ
  pub spells : SpellsPayload frame payload
  pub short : IsShort max payload
  pub channel : channel_of frame < 2 ^ 16
  pub is : text ≡ framed (kind_of frame) (channel_of frame) payload

-- a spelling where one stands: the protocol's at first, and then frames'
abbrev pub Spells : Bool → ℕ → Frame → List ℕ → Type 0
Spells false max frame text = (frame ≡ Protocol) × (text ≡ kinds.PROTOCOL)
Spells true max frame text = SpellsFrame max frame text

-- ---- faults

-- a byte that differs from the protocol's
pub record HasOtherProtocol (bytes : List ℕ) : Type 0 where
  pub place : ℕ
  pub early : place < 8
  pub there : place < length bytes
  pub differs : slice_index bytes place ≢ slice_index kinds.PROTOCOL place

-- a first byte that is no type of frame
pub record HasNoKind (bytes : List ℕ) : Type 0 where
  pub kind : ℕ
  pub rest : List ℕ
  pub is : bytes ≡ kind ∷ rest
  pub unknown : is_kind kind ≡ false

-- a head whose size is above what is allowed
pub record IsTooLong (max : ℕ) (bytes : List ℕ) : Type 0 where
  pub kind : ℕ
  pub channel : ℕ
  pub size : ℕ
  pub rest : List ℕ
  pub known : is_kind kind ≡ true
  pub range : (kind < 2 ^ 8) × (channel < 2 ^ 16) × (size < 2 ^ 32)
  pub is : bytes ≡ u8 kind ++ (u16 channel ++ (u32 size ++ rest))
  pub long : max - 8 < size

-- a payload with another byte after it than the end of a frame
pub record HasNoEnd (max : ℕ) (bytes : List ℕ) : Type 0 where
  pub kind : ℕ
  pub channel : ℕ
  pub payload : List ℕ
  pub last : ℕ
  pub rest : List ℕ
  pub known : is_kind kind ≡ true
  pub range : (kind < 2 ^ 8) × (channel < 2 ^ 16)
  pub short : IsShort max payload
  pub is : bytes ≡ u8 kind ++ (u16 channel ++ (u32 (length payload) ++ (payload ++ last ∷ rest)))
  pub other : last ≢ kinds.END

-- numbers that no method has
pub record NamesNoMethod (kind class number : ℕ) (payload : List ℕ) : Type 0 where
  pub method : kind ≡ kinds.METHOD
  pub rest : List ℕ
  pub range : (class < 2 ^ 16) × (number < 2 ^ 16)
  pub is : payload ≡ u16 class ++ (u16 number ++ rest)
  pub unknown : row_at class number ≡ None

-- no frame has this payload, though a method has its numbers, where it has numbers
pub record SpellsNothing (kind channel : ℕ) (payload : List ℕ) : Type 0 where
  pub nothing : (frame : Frame) → kind_of frame ≡ kind → channel_of frame ≡ channel → SpellsPayload frame payload → ⊥
  pub named : (class number : ℕ) (rest : List ℕ) → kind ≡ kinds.METHOD → class < 2 ^ 16 → number < 2 ^ 16
      → payload ≡ u16 class ++ (u16 number ++ rest) → IsSome (row_at class number)

abbrev pub HasPayloadFault : ℕ → ℕ → List ℕ → WireFault → Type 0
HasPayloadFault kind channel payload (BadMethod class number) = NamesNoMethod kind class number payload
HasPayloadFault kind channel payload BadField = SpellsNothing kind channel payload
HasPayloadFault kind channel payload _ = ⊥

-- a frame with its end, whose payload is none
pub record HasBadPayload (max : ℕ) (bytes : List ℕ) (fault : WireFault) : Type 0 where
  pub kind : ℕ
  pub channel : ℕ
  pub payload : List ℕ
  pub rest : List ℕ
  pub known : is_kind kind ≡ true
  pub range : (kind < 2 ^ 8) × (channel < 2 ^ 16)
  pub short : IsShort max payload
  pub is : bytes ≡ framed kind channel payload ++ rest
  pub fails : HasPayloadFault kind channel payload fault

abbrev pub HasFrameFault : ℕ → List ℕ → WireFault → Type 0
HasFrameFault max bytes BadProtocol = ⊥
HasFrameFault max bytes BadType = HasNoKind bytes
HasFrameFault max bytes TooLong = IsTooLong max bytes
HasFrameFault max bytes BadEnd = HasNoEnd max bytes
HasFrameFault max bytes (BadMethod class number) = HasBadPayload max bytes (BadMethod class number)
HasFrameFault max bytes BadField = HasBadPayload max bytes BadField
HasFrameFault max bytes Memory = ⊥

abbrev pub HasProtocolFault : List ℕ → WireFault → Type 0
HasProtocolFault bytes BadProtocol = HasOtherProtocol bytes
HasProtocolFault bytes _ = ⊥

-- a fault stands at the front of the bytes
abbrev pub HasFault : Bool → ℕ → List ℕ → WireFault → Type 0
HasFault false max bytes fault = HasProtocolFault bytes fault
HasFault true max bytes fault = HasFrameFault max bytes fault

-- a frame stands at the front of the bytes, and the rest after it
pub record IsRead (begun : Bool) (max : ℕ) (bytes : List ℕ) (frame : Frame) (rest : List ℕ) : Type 0 where
  pub text : List ℕ
  pub spells : Spells begun max frame text
  pub is : bytes ≡ text ++ rest

-- no whole frame stands at the front of the bytes, and no fault shows yet
pub record IsPartial (begun : Bool) (max : ℕ) (bytes : List ℕ) : Type 0 where
  pub none : (frame : Frame) (rest : List ℕ) → IsRead begun max bytes frame rest → ⊥
  pub sound : (fault : WireFault) → HasFault begun max bytes fault → ⊥
