-- Reading values from a prefix of bytes, with the first fault that applies. The faults are of any type E.
use Rattle.std.specs.Prelude.{◌≡◌, ℕ, zero, suc, Bool, List, [], ◌∷◌, length, take, drop, Option, Some, None, Result, Ok, Err, nat_lt, ◌==◌, if◌then◌else◌}
use Rattle.std.specs.Int.{Width, w8, w32}
use Rattle.qq_base.specs.Fields as base
use Rattle.qq_base.specs.declared.memory.Memory.{Memory}
use Rattle.qq_base.specs.declared.memory.Memory.TheVariants.{Want}

infixl 10 ◌>>=◌
abbrev pub ◌>>=◌ : {A B E : Type 0} → Result A E → (A → Result B E) → Result B E
(Ok x) >>= f = f x
(Err e) >>= f = Err e

-- A field is a value and the bytes after it.
abbrev pub Field : Type 0 → Type 0 → Type 0
Field E A = Result (A × List ℕ) E

-- ---- what a call answers

-- a fault that memory caused, or else one of the bytes
abbrev pub FailsBy : {E Y : Type 0} → Option Memory → E → Result Y E → Type 0
FailsBy None e read = read ≡ Err e
FailsBy (Some m) e read = m ≡ Want

-- What a call answered is what reading gives, unless memory ran out.
abbrev pub Fails : {E Y : Type 0} → (E → Option Memory) → E → Result Y E → Type 0
Fails memory e read = FailsBy (memory e) e read

abbrev pub Gives : {E X Y : Type 0} → (E → Option Memory) → (X → Y) → Result X E → Result Y E → Type 0
Gives memory view (Ok x) read = read ≡ Ok (view x)
Gives memory view (Err e) read = Fails memory e read

-- ---- fields

-- a value that has to be there
abbrev pub required : {E A : Type 0} → E → Option A → Result A E
required e None = Err e
required e (Some x) = Ok x

-- a value that has to pass a test
unfoldable pub checked : {E A : Type 0} → E → (A → Bool) → Field E A → Field E A
checked e passes read = do
  x ← read
  if passes x.0 then Ok x else Err e

abbrev pub number_of : {E : Type 0} → E → List ℕ → Option (ℕ × ℕ) → Field E ℕ
number_of short bytes None = Err short
number_of short bytes (Some x) = Ok (x.0, drop x.1 bytes)

-- a number, the high byte first
unfoldable pub number_at : {E : Type 0} → E → Width → List ℕ → Field E ℕ
number_at short w bytes = number_of short bytes (base.number_at w bytes)

-- so many bytes
unfoldable pub bytes_at : {E : Type 0} → E → ℕ → List ℕ → Field E (List ℕ)
bytes_at short n bytes = if nat_lt (length bytes) n then Err short else Ok (take n bytes, drop n bytes)

-- 0 or 1
unfoldable pub flag_at : {E : Type 0} → E → E → List ℕ → Field E Bool
flag_at short other bytes = do
  n ← checked other (λ n. nat_lt n 2) (number_at short w8 bytes)
  Ok (n.0 == 1, n.1)

-- so many values one behind the other
unfoldable pub many : {E A : Type 0} → (List ℕ → Field E A) → ℕ → List ℕ → Field E (List A)
many read zero bytes = Ok ([], bytes)
many read (suc n) bytes = do
  first ← read bytes
  others ← many read n first.1
  Ok (first.0 ∷ others.0, others.1)

-- a count in four bytes, and so many values
unfoldable pub list_at : {E A : Type 0} → E → (List ℕ → Field E A) → List ℕ → Field E (List A)
list_at short read bytes = do
  count ← number_at short w32 bytes
  many read count.0 count.1
