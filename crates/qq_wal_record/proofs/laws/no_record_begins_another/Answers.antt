use Rattle.qq_wal_record.proofs.RecordLaws.{same_record}
use Rattle.qq_wal_record.proofs.laws.no_record_begins_another.Goals as goal

pub returns : goal.returns
returns c = same_record
