use Rattle.std.proofs.Common.{arith}
use Rattle.qq_wal_record.proofs.Places.{is_long}
use Rattle.qq_wal_record.proofs.RecordLaws.{is_found, is_within, record_again, is_read}
use Rattle.qq_wal_record.proofs.reading.read_record_with.Goals as goal

pub returns-clause-found : goal.returns-clause-found
returns-clause-found c =
    is_found c.args.file c.args.bytes.now c.record_at.result (λ i. omega (arith, c.type_inv.bytes i))
    c.record_at.ensures

pub returns-clause-only : goal.returns-clause-only
returns-clause-only c = λ r rest w e.
    is_read c.record_at.result (record_again c.args.file r c.args.bytes.now rest e w) c.record_at.ensures

pub returns-clause-within : goal.returns-clause-within
returns-clause-within c =
    is_within c.args.file c.args.bytes.now c.record_at.result (returns-clause-found c)

pub returns-clause-next : goal.returns-clause-next
returns-clause-next c = is_long c.args.file c.args.bytes.now c.record_at.result c.record_at.ensures
