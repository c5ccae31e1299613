-- Numbers, bytes and flags, where what can't be read is a field out of range.
use Rattle.std.proofs.Common.{ℕ, ◌^◌, ◌<◌, ltb}
use Rattle.std.specs.Int.{Width, w8, w16, w32, w64, to_be_bytes}
use Rattle.std.proofs.lemmas.Bool.{ltb-true, lt-ltb}
use Rattle.qq_command.specs.declared.refusal.Refusal.TheVariants.{BadField}
use Rattle.qq_entry.specs.Range.{IsPositive}
use Rattle.qq_fields.specs.Writing.{flag}
use Rattle.qq_command.specs.Reading.{number_at, flag_at, positive_at}
use Rattle.qq_fields.proofs.Laws as fields
use Rattle.qq_fields.proofs.Laws.{Takes, Holds, Reads, Reads-fits, checked-reads}

pub u8-reads : Reads (number_at w8) (to_be_bytes w8) (λ n. n < 2 ^ 8)
u8-reads = fields.u8-reads BadField

pub u16-reads : Reads (number_at w16) (to_be_bytes w16) (λ n. n < 2 ^ 16)
u16-reads = fields.u16-reads BadField

pub u32-reads : Reads (number_at w32) (to_be_bytes w32) (λ n. n < 2 ^ 32)
u32-reads = fields.u32-reads BadField

pub u64-reads : Reads (number_at w64) (to_be_bytes w64) (λ n. n < 2 ^ 64)
u64-reads = fields.u64-reads BadField

pub flag-reads : Reads flag_at flag (λ b. Unit {0})
flag-reads = fields.flag-reads BadField BadField

positive-reads : (w : Width) (bits : ℕ) → Reads (number_at w) (to_be_bytes w) (λ n. n < 2 ^ bits)
    → Reads (positive_at w) (to_be_bytes w) (IsPositive bits)
unfolding positive_at
positive-reads w bits r =
    Reads-fits (checked-reads BadField (λ n. ltb 0 n) r) (λ n p. (ltb-true _ _ p.1, p.0))
    (λ n p. (p.1, lt-ltb _ _ p.0))

pub positive32-reads : Reads (positive_at w32) (to_be_bytes w32) (IsPositive 32)
positive32-reads = positive-reads w32 32 u32-reads

pub positive64-reads : Reads (positive_at w64) (to_be_bytes w64) (IsPositive 64)
positive64-reads = positive-reads w64 64 u64-reads
