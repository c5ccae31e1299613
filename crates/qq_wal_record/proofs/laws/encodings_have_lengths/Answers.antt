use Rattle.qq_wal_record.proofs.Lengths.{record_len, header_len}
use Rattle.qq_wal_record.proofs.laws.encodings_have_lengths.Goals as goal

pub returns-clause-records : goal.returns-clause-records
returns-clause-records c = record_len

pub returns-clause-headers : goal.returns-clause-headers
returns-clause-headers c = header_len
