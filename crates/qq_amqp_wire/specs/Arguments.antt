-- The arguments of methods as bytes (AMQP 0-9-1, sections 4.2.1 and 4.2.5). Numbers have their high byte first.
use Rattle.std.specs.Prelude.{◌<◌, ◌+◌, ◌*◌, ◌/◌, ◌%◌, ◌^◌, ◌==◌, ℕ, zero, suc, Bool, List, [], ◌∷◌, ◌++◌, length, Option, Some, None, Ok, if◌then◌else◌}
use Rattle.std.specs.Int.{Width, w8, w16, w32, w64}
use Rattle.std.specs.Str.{IsUtf8, is_utf8}
use Rattle.qq_base.specs.declared.memory.Memory.{Memory as Cause}
use Rattle.qq_base.specs.declared.memory.Memory.TheVariants.{Want}
use Rattle.qq_fields.specs.Reading as fields
use Rattle.qq_fields.specs.Reading.{◌>>=◌}
use Rattle.qq_fields.specs.Writing.{u8, u16, u32, u64}
use Rattle.qq_amqp_wire.specs.declared.fault.WireFault.{WireFault}
use Rattle.qq_amqp_wire.specs.declared.fault.WireFault.TheVariants.{BadField, Memory}

-- The memory that a fault is for want of.
abbrev pub memory_of : WireFault → Option Cause
memory_of Memory = Some Want
memory_of _ = None

-- ---- domains

-- What a value may be. A table is a long string of which nothing is read.
pub data Domain : Type 0 where
  Octet : Domain
  Short : Domain
  Long : Domain
  LongLong : Domain
  ShortStr : Domain
  LongStr : Domain

abbrev pub Of : Domain → Type 0
Of Octet = ℕ
Of Short = ℕ
Of Long = ℕ
Of LongLong = ℕ
Of ShortStr = List ℕ
Of LongStr = List ℕ

abbrev pub IsOf : (d : Domain) → Of d → Type 0
IsOf Octet n = n < 2 ^ 8
IsOf Short n = n < 2 ^ 16
IsOf Long n = n < 2 ^ 32
IsOf LongLong n = n < 2 ^ 64
IsOf ShortStr bytes = (length bytes < 2 ^ 8) × IsUtf8 bytes
IsOf LongStr bytes = length bytes < 2 ^ 32

-- a length in one byte, and so many bytes
unfoldable pub short_str : List ℕ → List ℕ
short_str bytes = u8 (length bytes) ++ bytes

-- a length in four bytes, and so many bytes
unfoldable pub long_str : List ℕ → List ℕ
long_str bytes = u32 (length bytes) ++ bytes

-- a value's bytes
abbrev pub bytes_of : (d : Domain) → Of d → List ℕ
bytes_of Octet n = u8 n
bytes_of Short n = u16 n
bytes_of Long n = u32 n
bytes_of LongLong n = u64 n
bytes_of ShortStr bytes = short_str bytes
bytes_of LongStr bytes = long_str bytes

-- zero, or empty
abbrev pub nothing : (d : Domain) → Of d
nothing Octet = 0
nothing Short = 0
nothing Long = 0
nothing LongLong = 0
nothing ShortStr = []
nothing LongStr = []

-- ---- bits that share a byte, the first lowest

abbrev pub Bools : ℕ → Type 0
Bools zero = Unit {0}
Bools (suc n) = Bool × Bools n

-- the byte's lowest bits
abbrev pub bits_of : (n : ℕ) → ℕ → Bools n
bits_of zero byte = tt
bits_of (suc n) byte = (byte % 2 == 1, bits_of n (byte / 2))

-- the byte that has these bits, and zeros above them
abbrev pub byte_of : (n : ℕ) → Bools n → ℕ
byte_of zero bits = 0
byte_of (suc n) bits = (if bits.0 then 1 else 0) + 2 * byte_of n bits.1

-- ---- arguments

-- a value, one that is reserved, and so many neighbouring bits
pub data Argument : Type 0 where
  Given : (d : Domain) → Argument
  Reserved : (d : Domain) → Argument
  Bits : (n : ℕ) → Argument

-- All that stands in the bytes: reserved values too, and the whole byte of bits.
abbrev pub Parts : List Argument → Type 0
Parts [] = Unit {0}
Parts (Given d ∷ arguments) = Of d × Parts arguments
Parts (Reserved d ∷ arguments) = Of d × Parts arguments
Parts (Bits n ∷ arguments) = ℕ × Parts arguments

-- what they tell: no reserved values, and each bit
abbrev pub Values : List Argument → Type 0
Values [] = Unit {0}
Values (Given d ∷ arguments) = Of d × Values arguments
Values (Reserved d ∷ arguments) = Values arguments
Values (Bits n ∷ arguments) = Bools n × Values arguments

abbrev pub ArePartsInRange : (arguments : List Argument) → Parts arguments → Type 0
ArePartsInRange [] parts = Unit {0}
ArePartsInRange (Given d ∷ arguments) parts = IsOf d parts.0 × ArePartsInRange arguments parts.1
ArePartsInRange (Reserved d ∷ arguments) parts = IsOf d parts.0 × ArePartsInRange arguments parts.1
ArePartsInRange (Bits n ∷ arguments) parts = (parts.0 < 2 ^ 8) × ArePartsInRange arguments parts.1

abbrev pub AreInRange : (arguments : List Argument) → Values arguments → Type 0
AreInRange [] values = Unit {0}
AreInRange (Given d ∷ arguments) values = IsOf d values.0 × AreInRange arguments values.1
AreInRange (Reserved d ∷ arguments) values = AreInRange arguments values
AreInRange (Bits n ∷ arguments) values = AreInRange arguments values.1

-- a string's length fits its field
abbrev pub HasLength : (d : Domain) → Of d → Type 0
HasLength Octet n = Unit {0}
HasLength Short n = Unit {0}
HasLength Long n = Unit {0}
HasLength LongLong n = Unit {0}
HasLength ShortStr bytes = length bytes < 2 ^ 8
HasLength LongStr bytes = length bytes < 2 ^ 32

abbrev pub HaveLengths : (arguments : List Argument) → Values arguments → Type 0
HaveLengths [] values = Unit {0}
HaveLengths (Given d ∷ arguments) values = HasLength d values.0 × HaveLengths arguments values.1
HaveLengths (Reserved d ∷ arguments) values = HaveLengths arguments values
HaveLengths (Bits n ∷ arguments) values = HaveLengths arguments values.1

-- how many bytes long strings have
abbrev pub long_len : (d : Domain) → Of d → ℕ
long_len Octet n = 0
long_len Short n = 0
long_len Long n = 0
long_len LongLong n = 0
long_len ShortStr bytes = 0
long_len LongStr bytes = length bytes

abbrev pub long_lens : (arguments : List Argument) → Values arguments → ℕ
long_lens [] values = 0
long_lens (Given d ∷ arguments) values = long_len d values.0 + long_lens arguments values.1
long_lens (Reserved d ∷ arguments) values = long_lens arguments values
long_lens (Bits n ∷ arguments) values = long_lens arguments values.1

-- a spelling
abbrev pub text_of : (arguments : List Argument) → Parts arguments → List ℕ
text_of [] parts = []
text_of (Given d ∷ arguments) parts = bytes_of d parts.0 ++ text_of arguments parts.1
text_of (Reserved d ∷ arguments) parts = bytes_of d parts.0 ++ text_of arguments parts.1
text_of (Bits n ∷ arguments) parts = u8 parts.0 ++ text_of arguments parts.1

-- what a spelling tells
abbrev pub values_of : (arguments : List Argument) → Parts arguments → Values arguments
values_of [] parts = tt
values_of (Given d ∷ arguments) parts = (parts.0, values_of arguments parts.1)
values_of (Reserved d ∷ arguments) parts = values_of arguments parts.1
values_of (Bits n ∷ arguments) parts = (bits_of n parts.0, values_of arguments parts.1)

-- the spelling that is written: reserved values are zero or empty, and so are bits that aren't used
abbrev pub parts_of : (arguments : List Argument) → Values arguments → Parts arguments
parts_of [] values = tt
parts_of (Given d ∷ arguments) values = (values.0, parts_of arguments values.1)
parts_of (Reserved d ∷ arguments) values = (nothing d, parts_of arguments values)
parts_of (Bits n ∷ arguments) values = (byte_of n values.0, parts_of arguments values.1)

-- ---- reading

-- a value that has to be there, else it is a bad field
abbrev pub Field : Type 0 → Type 0
Field A = fields.Field WireFault A

abbrev pub number_at : Width → List ℕ → Field ℕ
number_at w bytes = fields.number_at BadField w bytes

abbrev pub bytes_at : ℕ → List ℕ → Field (List ℕ)
bytes_at n bytes = fields.bytes_at BadField n bytes

unfoldable pub short_str_at : List ℕ → Field (List ℕ)
short_str_at bytes = do
  n ← number_at w8 bytes
  fields.checked BadField is_utf8 (bytes_at n.0 n.1)

unfoldable pub long_str_at : List ℕ → Field (List ℕ)
long_str_at bytes = do
  n ← number_at w32 bytes
  bytes_at n.0 n.1

abbrev pub value_at : (d : Domain) → List ℕ → Field (Of d)
value_at Octet bytes = number_at w8 bytes
value_at Short bytes = number_at w16 bytes
value_at Long bytes = number_at w32 bytes
value_at LongLong bytes = number_at w64 bytes
value_at ShortStr bytes = short_str_at bytes
value_at LongStr bytes = long_str_at bytes

-- A function of so many bits, and one of the values.
abbrev pub OfBits : ℕ → Type 0 → Type 0
OfBits zero A = A
OfBits (suc n) A = Bool → OfBits n A

abbrev pub OfValues : Type 0 → List Argument → Type 0
OfValues A [] = A
OfValues A (Given d ∷ arguments) = Of d → OfValues A arguments
OfValues A (Reserved d ∷ arguments) = OfValues A arguments
OfValues A (Bits n ∷ arguments) = OfBits n (OfValues A arguments)

abbrev pub at_bits : {A : Type 0} (n : ℕ) → OfBits n A → Bools n → A
at_bits zero make bits = make
at_bits (suc n) make bits = at_bits n (make bits.0) bits.1

abbrev pub at_values : {A : Type 0} (arguments : List Argument) → OfValues A arguments → Values arguments → A
at_values [] make values = make
at_values (Given d ∷ arguments) make values = at_values arguments (make values.0) values.1
at_values (Reserved d ∷ arguments) make values = at_values arguments make values
at_values (Bits n ∷ arguments) make values = at_values arguments (at_bits n make values.0) values.1

-- the value that is made of the arguments at the front of the bytes, in their order
abbrev pub made_at : {A : Type 0} (arguments : List Argument) → OfValues A arguments → List ℕ → Field A
made_at [] make bytes = Ok (make, bytes)
made_at (Given d ∷ arguments) make bytes = do
  x ← value_at d bytes
  made_at arguments (make x.0) x.1
made_at (Reserved d ∷ arguments) make bytes = do
  x ← value_at d bytes
  made_at arguments make x.1
made_at (Bits n ∷ arguments) make bytes = do
  byte ← number_at w8 bytes
  made_at arguments (at_bits n make (bits_of n byte.0)) byte.1
