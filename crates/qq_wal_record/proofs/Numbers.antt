-- Numbers, where what can't be read is a field out of range.
use Rattle.std.proofs.Common.{◌^◌, ◌<◌}
use Rattle.std.specs.Int.{w8, w32, w64, to_be_bytes}
use Rattle.qq_wal_record.specs.declared.record.NoRecord.TheVariants.{Field}
use Rattle.qq_wal_record.specs.Reading.{number_at}
use Rattle.qq_fields.proofs.Laws as fields
use Rattle.qq_fields.proofs.Laws.{Reads}

pub u8-reads : Reads (number_at w8) (to_be_bytes w8) (λ n. n < 2 ^ 8)
u8-reads = fields.u8-reads Field

pub u32-reads : Reads (number_at w32) (to_be_bytes w32) (λ n. n < 2 ^ 32)
u32-reads = fields.u32-reads Field

pub u64-reads : Reads (number_at w64) (to_be_bytes w64) (λ n. n < 2 ^ 64)
u64-reads = fields.u64-reads Field
