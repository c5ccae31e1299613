use Rattle.std.proofs.Common.{◌≡◌, ◌++◌, take, map}
use Rattle.std.specs.List.{AllByRecursion}
use Rattle.qq_wal_record.specs.declared.record.LogRecord.TheVariants.{Carry as CarryRecord}
use Rattle.qq_wal_chain.specs.Wal.{RecordFits}
use Rattle.qq_wal.specs.Batch.{encodings}
use Rattle.qq_wal.specs.Marks.{carries_in}
use Rattle.qq_wal.proofs.begin.put_carries.Given as goal

-- the carries of the first marks are added
abbrev pub invariant-marks : goal.invariant-marks
invariant-marks l = record {
  bytes : l.out.items ≡ l.initial.out.items ++ encodings l.file (map CarryRecord (carries_in (take l.mark-index l.marks)));
  fits : AllByRecursion (RecordFits l.file) (map CarryRecord (carries_in (take l.mark-index l.marks)));
}
