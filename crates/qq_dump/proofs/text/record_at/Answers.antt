use Rattle.std.proofs.Common.{Ok, Err, sym, subst, arith}
use Rattle.qq_wal_record.specs.declared.record.NoRecord.{NoRecord}
use Rattle.qq_wal_record.specs.declared.record.NoRecord.TheVariants.{Short, Mark, Kind, Field}
use Rattle.qq_wal_record.specs.Reading.{Fails, record_at}
use Rattle.qq_dump.proofs.Records.{read-one}
use Rattle.qq_dump.proofs.text.record_at.Goals as goal

pub returns-in-Ok-clause-read : goal.returns-in-Ok-clause-read
returns-in-Ok-clause-read c =
    sym (read-one c.args.file c.args.bytes.now (Ok (c.in-Ok.entry, c.in-Ok.taken))
    (λ i. omega (arith, c.type_inv.bytes i)) c.in-Ok.ensures.exact)

pub returns-in-Err-Short-clause-read : goal.returns-in-Err-Short-clause-read
returns-in-Err-Short-clause-read c =
    sym (read-one c.args.file c.args.bytes.now (Err Short) (λ i. omega (arith, c.type_inv.bytes i))
    (subst (λ (e : NoRecord). Fails e (record_at c.args.file c.args.bytes.now)) c.in-Err-Short.field-0-is
    c.in-Err-Short.ensures.exact))

pub returns-in-Err-Mark-clause-read : goal.returns-in-Err-Mark-clause-read
returns-in-Err-Mark-clause-read c =
    sym (read-one c.args.file c.args.bytes.now (Err Mark) (λ i. omega (arith, c.type_inv.bytes i))
    (subst (λ (e : NoRecord). Fails e (record_at c.args.file c.args.bytes.now)) c.in-Err-Mark.field-0-is
    c.in-Err-Mark.ensures.exact))

pub returns-in-Err-Kind-clause-read : goal.returns-in-Err-Kind-clause-read
returns-in-Err-Kind-clause-read c =
    sym (read-one c.args.file c.args.bytes.now (Err Kind) (λ i. omega (arith, c.type_inv.bytes i))
    (subst (λ (e : NoRecord). Fails e (record_at c.args.file c.args.bytes.now)) c.in-Err-Kind.field-0-is
    c.in-Err-Kind.ensures.exact))

pub returns-in-Err-Field-clause-read : goal.returns-in-Err-Field-clause-read
returns-in-Err-Field-clause-read c =
    sym (read-one c.args.file c.args.bytes.now (Err Field) (λ i. omega (arith, c.type_inv.bytes i))
    (subst (λ (e : NoRecord). Fails e (record_at c.args.file c.args.bytes.now)) c.in-Err-Field.field-0-is
    c.in-Err-Field.ensures.exact))
