use Rattle.std.proofs.Common.{◌≡◌, ◌+◌, ◌++◌, [], length}
use Rattle.qq_wal_chain.specs.Records.{records}
use Rattle.qq_wal_chain.specs.Wal.{wal}
use Rattle.qq_dump.specs.Text.{records_text}
use Rattle.qq_dump.proofs.text.push_records.Given as goal

-- the lines so far, and those of the rest, are those of all
abbrev pub invariant-records : goal.invariant-records
invariant-records l = record {
  so :
      l.out.items ++ records_text l.file l.place (records (wal []) l.file l.rest)
      ≡ l.fn.out.items ++ records_text l.file 38 (records (wal []) l.file l.bytes);
  long : l.place + length l.rest ≡ 38 + length l.bytes;
}

abbrev pub decreases-records : goal.decreases-records
decreases-records l = length l.rest
