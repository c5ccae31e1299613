use Rattle.std.proofs.Common.{◌++◌, refl}
use Rattle.qq_wal_record.specs.Encoding.{record_encoding}
use Rattle.qq_wal_record.proofs.RecordLaws.{record_again, record_alone}
use Rattle.qq_wal_record.proofs.laws.records_read_back.Goals as goal

pub returns-clause-again : goal.returns-clause-again
returns-clause-again c = λ file r rest w. record_again file r (record_encoding file r ++ rest) rest refl w

pub returns-clause-alone : goal.returns-clause-alone
returns-clause-alone c = record_alone
