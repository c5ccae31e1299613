use Rattle.qq_wal_record.proofs.HeaderLaws.{header_again, header_alone}
use Rattle.qq_wal_record.proofs.laws.headers_read_back.Goals as goal

pub returns-clause-again : goal.returns-clause-again
returns-clause-again c = header_again

pub returns-clause-alone : goal.returns-clause-alone
returns-clause-alone c = header_alone
