-- The bytes that are written of each frame: what is reserved is zero or empty.
use Rattle.std.specs.Prelude.{◌<◌, ◌^◌, ℕ, Bool, true, false, List, [], ◌∷◌, ◌++◌, length, ⊤}
use Rattle.qq_fields.specs.Writing.{u8, u16, u32, u64}
use Rattle.qq_amqp_wire.specs.Arguments.{HaveLengths, long_lens, AreInRange, text_of, parts_of}
use Rattle.qq_amqp_wire.specs.Rows.{row_of, values_in}
use Rattle.qq_amqp_wire.specs.declared.frame.Frame.{Frame}
use Rattle.qq_amqp_wire.specs.declared.frame.Frame.TheVariants.{Protocol, Method as MethodFrame, Header, Body, Heartbeat}
use Rattle.qq_amqp_wire.specs.declared.kinds.TheConstants as kinds
use Rattle.qq_amqp_wire.specs.declared.method.Method.{Method}

abbrev pub kind_of : Frame → ℕ
kind_of Protocol = 0
kind_of (MethodFrame channel m) = kinds.METHOD
kind_of (Header channel class size properties) = kinds.HEADER
kind_of (Body channel bytes) = kinds.BODY
kind_of (Heartbeat channel) = kinds.HEARTBEAT

abbrev pub channel_of : Frame → ℕ
channel_of Protocol = 0
channel_of (MethodFrame channel m) = channel
channel_of (Header channel class size properties) = channel
channel_of (Body channel bytes) = channel
channel_of (Heartbeat channel) = channel

-- Whether a connection has begun where a frame stands: what begins it stands first.
abbrev pub begun_at : Frame → Bool
begun_at Protocol = false
begun_at _ = true

-- a frame of this type and channel with this payload
unfoldable pub framed : ℕ → ℕ → List ℕ → List ℕ
framed kind channel payload = u8 kind ++ (u16 channel ++ (u32 (length payload) ++ (payload ++ kinds.END ∷ [])))

-- ---- payloads

unfoldable pub method_bytes : Method → List ℕ
method_bytes m =
    u16 (row_of m).class ++ (u16 (row_of m).number
    ++ text_of (row_of m).arguments (parts_of (row_of m).arguments (values_in m)))

-- numbers are as wide as their fields, texts are UTF-8, and each length fits its field
pub record HasValues (m : Method) : Type 0 where
  pub range : AreInRange (row_of m).arguments (values_in m)

-- the lengths of its strings fit their fields, and those of the long ones together a frame
pub record HasLengths (m : Method) : Type 0 where
  pub fit : HaveLengths (row_of m).arguments (values_in m) × (long_lens (row_of m).arguments (values_in m) < 2 ^ 31)

unfoldable pub header_bytes : ℕ → ℕ → List ℕ → List ℕ
header_bytes class size properties = u16 class ++ (u16 0 ++ (u64 size ++ properties))

abbrev pub payload_of : Frame → List ℕ
payload_of Protocol = []
payload_of (MethodFrame channel m) = method_bytes m
payload_of (Header channel class size properties) = header_bytes class size properties
payload_of (Body channel bytes) = bytes
payload_of (Heartbeat channel) = []

-- ---- frames

unfoldable pub written : Frame → List ℕ
written Protocol = kinds.PROTOCOL
written frame = framed (kind_of frame) (channel_of frame) (payload_of frame)

-- Lengths fit their fields, which is all that a caller has to see to.
abbrev pub HasRoom : Frame → Type 0
HasRoom Protocol = ⊤
HasRoom (MethodFrame channel m) = HasLengths m
HasRoom (Header channel class size properties) = length properties < 2 ^ 31
HasRoom (Body channel bytes) = length bytes < 2 ^ 32
HasRoom (Heartbeat channel) = ⊤

pub record MayWrite (f : Frame) : Type 0 where
  pub room : HasRoom f

abbrev pub HasFields : Frame → Type 0
HasFields Protocol = ⊤
HasFields (MethodFrame channel m) = HasValues m
HasFields (Header channel class size properties) = (class < 2 ^ 16) × (size < 2 ^ 64)
HasFields (Body channel bytes) = ⊤
HasFields (Heartbeat channel) = ⊤

-- Its numbers are as wide as their fields and its texts are UTF-8 too, as those of each frame in code are.
pub record IsWritable (f : Frame) : Type 0 where
  pub channel : channel_of f < 2 ^ 16
  pub fields : HasFields f
  pub size : length (payload_of f) < 2 ^ 32
