-- A log file with a record of each kind.
use Rattle.std.specs.Prelude.{ℕ, List, [], ◌++◌, Some}
use Rattle.qq_log.specs.declared.op.Op.TheVariants.{Change, SnapshotMade, SegmentMade}
use Rattle.qq_wal_record.specs.declared.record.LogRecord.{LogRecord}
use Rattle.qq_wal_record.specs.declared.record.LogRecord.TheVariants.{Op, Carry}
use Rattle.qq_wal_record.specs.Encoding.{header_encoding, record_encoding}

-- op 1 of queue 1: term 1, a vote for node 1, and no entries
abbrev pub change : LogRecord
change =
    Op (Change (record { 0 = 1 }) 1 (record { 0 = 1 }) (Some (record { 0 = 1 })) (record { 0 = 0 }) [])

-- op 7 of queue 2: file 5 is a snapshot at entry 3 of term 1
abbrev pub snapshot : LogRecord
snapshot =
    Op (SnapshotMade (record { 0 = 2 }) 7
    (record { index = record { 0 = 3 }; term = record { 0 = 1 }; through = record { 0 = 3 } }) 5)

-- op 12 of queue 30: entries 1 to 4 stand in file 6
abbrev pub segment : LogRecord
segment = Op (SegmentMade (record { 0 = 30 }) 12 6 (record { 0 = 1 }) (record { 0 = 4 }))

-- what op 1 of queue 1 left
abbrev pub carry : LogRecord
carry =
    Carry (record {
      queue = record { 0 = 1 };
      op = 1;
      term = record { 0 = 1 };
      vote = Some (record { 0 = 1 });
      base = record { index = record { 0 = 0 }; term = record { 0 = 0 }; through = record { 0 = 0 } };
      snapshot = 0;
      segments = [];
      last = record { 0 = 0 };
    })

-- log file 1
abbrev pub worked_log : List ℕ
worked_log =
    header_encoding (record { file = 1; previous = 0; good = 0 })
    ++ (record_encoding 1 change
    ++ (record_encoding 1 snapshot ++ (record_encoding 1 segment ++ record_encoding 1 carry)))
