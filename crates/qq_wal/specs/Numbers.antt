-- The numbers of files: a new one is above all that were listed, given or begun.
use Rattle.std.specs.Prelude.{◌+◌, ℕ, Bool, true, false, List, max, fold, if◌then◌else◌}
use Rattle.qq_disk.specs.declared.name.FileKind.{FileKind}
use Rattle.qq_disk.specs.declared.name.FileKind.TheVariants.{Log, Segment, Snapshot}
use Rattle.qq_disk.specs.declared.name.FileName.{FileName}
use Rattle.qq_wal_record.specs.declared.header.Header.{Header}
use Rattle.qq_wal.specs.declared.numbers.Numbers.{Numbers}

abbrev pub same_kind : FileKind → FileKind → Bool
same_kind Log Log = true
same_kind Segment Segment = true
same_kind Snapshot Snapshot = true
same_kind _ _ = false

abbrev pub greater : FileKind → ℕ → FileName → ℕ
greater kind greatest name = if same_kind kind name.kind then max greatest name.number else greatest

-- the greatest number of a kind among names, 0 where none is of that kind
abbrev pub greatest_number : FileKind → List FileName → ℕ
greatest_number kind names = fold (greater kind) 0 names

-- the numbers behind a new log file
abbrev pub first_numbers : Header → List FileName → Numbers
first_numbers h names = record {
  log = h.file;
  segment = greatest_number Segment names;
  snapshot = greatest_number Snapshot names;
}

-- that of one kind
abbrev pub number_of : FileKind → Numbers → ℕ
number_of Log numbers = numbers.log
number_of Segment numbers = numbers.segment
number_of Snapshot numbers = numbers.snapshot

-- the numbers once the next of a kind is given
abbrev pub raise : FileKind → Numbers → Numbers
raise Log numbers = record numbers { log = numbers.log + 1 }
raise Segment numbers = record numbers { segment = numbers.segment + 1 }
raise Snapshot numbers = record numbers { snapshot = numbers.snapshot + 1 }
