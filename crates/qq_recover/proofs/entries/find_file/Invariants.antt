use Rattle.std.proofs.Common.{◌≡◌, take}
use Rattle.std.specs.List.{fold}
use Rattle.qq_wal.specs.Ranges.{ranges_in}
use Rattle.qq_recover.specs.Entries.{find_record}
use Rattle.qq_recover.proofs.entries.find_file.Given as goal

-- the first records were passed
abbrev pub invariant-records : goal.invariant-records
invariant-records l =
    ranges_in l.ranges ≡ fold (find_record l.file.number) (ranges_in l.fn.ranges) (take l.record-index l.file.records)
