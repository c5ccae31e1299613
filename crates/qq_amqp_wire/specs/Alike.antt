-- Spellings that differ in what is reserved alone.
use Rattle.std.specs.Prelude.{◌≡◌, ℕ, List, [], ◌∷◌, ◌++◌}
use Rattle.qq_fields.specs.Writing.{u16, u64}
use Rattle.qq_amqp_wire.specs.Arguments.{Argument, Given, Reserved, Bits, bits_of, Parts, text_of}
use Rattle.qq_amqp_wire.specs.Rows.{row_of}
use Rattle.qq_amqp_wire.specs.Writing.{kind_of, channel_of, framed}
use Rattle.qq_amqp_wire.specs.declared.frame.Frame.{Frame}
use Rattle.qq_amqp_wire.specs.declared.frame.Frame.TheVariants.{Protocol, Method as MethodFrame, Header, Body, Heartbeat}
use Rattle.qq_amqp_wire.specs.declared.method.Method.{Method}

-- each value that isn't reserved is the same, and so is each bit that is used
abbrev pub AreAlike : (arguments : List Argument) → Parts arguments → Parts arguments → Type 0
AreAlike [] p q = Unit {0}
AreAlike (Given d ∷ arguments) p q = (p.0 ≡ q.0) × AreAlike arguments p.1 q.1
AreAlike (Reserved d ∷ arguments) p q = AreAlike arguments p.1 q.1
AreAlike (Bits n ∷ arguments) p q = (bits_of n p.0 ≡ bits_of n q.0) × AreAlike arguments p.1 q.1

-- two payloads of a method's row
pub record MethodsAlike (m : Method) (a b : List ℕ) : Type 0 where
  pub first : Parts (row_of m).arguments
  pub second : Parts (row_of m).arguments
  pub a_is : a ≡ u16 (row_of m).class ++ (u16 (row_of m).number ++ text_of (row_of m).arguments first)
  pub b_is : b ≡ u16 (row_of m).class ++ (u16 (row_of m).number ++ text_of (row_of m).arguments second)
  pub alike : AreAlike (row_of m).arguments first second

-- two payloads with the same class, size and properties
pub record HeadersAlike (class size : ℕ) (properties a b : List ℕ) : Type 0 where
  pub first : ℕ
  pub second : ℕ
  pub a_is : a ≡ u16 class ++ (u16 first ++ (u64 size ++ properties))
  pub b_is : b ≡ u16 class ++ (u16 second ++ (u64 size ++ properties))

abbrev pub PayloadsAlike : Frame → List ℕ → List ℕ → Type 0
PayloadsAlike Protocol a b = a ≡ b
PayloadsAlike (MethodFrame channel m) a b = MethodsAlike m a b
PayloadsAlike (Header channel class size properties) a b = HeadersAlike class size properties a b
PayloadsAlike (Body channel bytes) a b = a ≡ b
PayloadsAlike (Heartbeat channel) a b = a ≡ b

-- the same type and channel, and payloads that differ in what is reserved alone
pub record FramesAlike (frame : Frame) (a b : List ℕ) : Type 0 where
  pub first : List ℕ
  pub second : List ℕ
  pub a_is : a ≡ framed (kind_of frame) (channel_of frame) first
  pub b_is : b ≡ framed (kind_of frame) (channel_of frame) second
  pub alike : PayloadsAlike frame first second
