-- What files give, or the first place where they break the rules of the log.
use Rattle.std.specs.Prelude.{◌≡◌, Result, Ok, Err, Option, Some, None}
use Rattle.qq_recover.specs.declared.fault.RecoverFault.{RecoverFault}
use Rattle.qq_recover.specs.declared.fault.RecoverFault.TheVariants.{Disk, Damaged, Version, Memory}

abbrev pub Answer : Type 0 → Type 0
Answer A = Result A RecoverFault

infixl 10 ◌>>=◌
abbrev pub ◌>>=◌ : {A B : Type 0} → Answer A → (A → Answer B) → Answer B
(Ok x) >>= f = f x
(Err e) >>= f = Err e

-- a value that is there
abbrev pub or_refuse : {A : Type 0} → RecoverFault → Option A → Answer A
or_refuse e None = Err e
or_refuse e (Some x) = Ok x

abbrev pub answered : {A : Type 0} → Answer A → Option A
answered (Ok x) = Some x
answered (Err e) = None

-- What a call answered is what the files give, unless the disk failed or there was no memory.
abbrev pub Fails : {Y : Type 0} → RecoverFault → Answer Y → Type 0
Fails Disk read = Unit {0}
Fails (Memory m) read = Unit {0}
Fails (Damaged file place) read = read ≡ Err (Damaged file place)
Fails (Version file byte) read = read ≡ Err (Version file byte)

abbrev pub Gives : {X Y : Type 0} → (X → Y) → Result X RecoverFault → Answer Y → Type 0
Gives view (Ok x) read = read ≡ Ok (view x)
Gives view (Err e) read = Fails e read
