use Rattle.std.proofs.Common.{ℕ, ◌+◌, List, drop, sym, subst, arith, Ok, Err}
use Rattle.qq_wal_record.specs.declared.record.NoRecord.{NoRecord}
use Rattle.qq_wal_record.specs.declared.record.NoRecord.TheVariants.{Short, Mark, Kind, Field}
use Rattle.qq_wal_record.specs.Reading.{Fails, record_at}
use Rattle.qq_recover.proofs.Records.{read-one}
use Rattle.qq_wal_record.specs.Ahead.{AreMarks, mark_place}
use Rattle.qq_recover.proofs.Marks.{first-mark, later-marks}
use Rattle.qq_recover.proofs.file.record_at.Goals as goal

pub read_record_with-requires : goal.read_record_with-requires
read_record_with-requires c =
    first-mark c.args.number c.args.bytes.now c.pop_front-known.result c.refill.new.ahead.items
    c.pop_front-known.new.self.items c.pop_front-known.ensures.items c.in_ok-refill.ensures.ok

pub returns-in-Ok-clause-read : goal.returns-in-Ok-clause-read
returns-in-Ok-clause-read c =
    sym (read-one c.args.number c.args.bytes.now (Ok (c.in-Ok.entry, c.in-Ok.taken))
    (λ i. omega (arith, c.type_inv.bytes i)) c.in-Ok.ensures.exact)

pub returns-in-Ok-clause-ahead : goal.returns-in-Ok-clause-ahead
returns-in-Ok-clause-ahead c =
    subst (λ (taken : ℕ). AreMarks c.args.number c.pop_front-known.new.self.items (drop taken c.args.bytes.now))
    (sym c.in-Ok.ensures.next)
    (subst (λ (ms : List (List ℕ)). AreMarks c.args.number ms (drop (mark_place c.args.bytes.now + 8) c.args.bytes.now))
    (sym c.pop_front-known.ensures.rest)
    (later-marks c.args.number c.args.bytes.now c.refill.new.ahead.items c.in_ok-refill.ensures.ok))

pub returns-in-Err-Short-clause-read : goal.returns-in-Err-Short-clause-read
returns-in-Err-Short-clause-read c =
    sym (read-one c.args.number c.args.bytes.now (Err Short) (λ i. omega (arith, c.type_inv.bytes i))
    (subst (λ (e : NoRecord). Fails e (record_at c.args.number c.args.bytes.now)) c.in-Err-Short.field-0-is
    c.in-Err-Short.ensures.exact))

pub returns-in-Err-Mark-clause-read : goal.returns-in-Err-Mark-clause-read
returns-in-Err-Mark-clause-read c =
    sym (read-one c.args.number c.args.bytes.now (Err Mark) (λ i. omega (arith, c.type_inv.bytes i))
    (subst (λ (e : NoRecord). Fails e (record_at c.args.number c.args.bytes.now)) c.in-Err-Mark.field-0-is
    c.in-Err-Mark.ensures.exact))

pub returns-in-Err-Kind-clause-read : goal.returns-in-Err-Kind-clause-read
returns-in-Err-Kind-clause-read c =
    sym (read-one c.args.number c.args.bytes.now (Err Kind) (λ i. omega (arith, c.type_inv.bytes i))
    (subst (λ (e : NoRecord). Fails e (record_at c.args.number c.args.bytes.now)) c.in-Err-Kind.field-0-is
    c.in-Err-Kind.ensures.exact))

pub returns-in-Err-Field-clause-read : goal.returns-in-Err-Field-clause-read
returns-in-Err-Field-clause-read c =
    sym (read-one c.args.number c.args.bytes.now (Err Field) (λ i. omega (arith, c.type_inv.bytes i))
    (subst (λ (e : NoRecord). Fails e (record_at c.args.number c.args.bytes.now)) c.in-Err-Field.field-0-is
    c.in-Err-Field.ensures.exact))
