use Rattle.std.proofs.Common.{◌≡◌, ◌≤◌, ◌∙◌, ◌+◌, ℕ, List, [], ◌∷◌, ◌++◌, Option, Some, option_map, length, drop, length-drop, ap, sym, subst, subst₂, arith}
use Rattle.std.specs.Prelude.{IfSome}
use Rattle.qq_wal_record.specs.declared.record.LogRecord.{LogRecord}
use Rattle.qq_wal_record.specs.Ahead.{AreMarks}
use Rattle.qq_wal_record.specs.Reading.{IsRecordAt}
use Rattle.qq_wal_chain.specs.Wal.{read_record}
use Rattle.qq_recover.specs.Placed.{Placed}
use Rattle.qq_recover.proofs.Records.{ReadsOn, ends, goes-on, shorter, stops}
use Rattle.qq_recover.proofs.file.records_at.Goals as goal

pub records-smaller : goal.records-smaller
records-smaller c =
    let found : IsRecordAt c.args.number c.records.rest.now (c.in-Some.entry, c.in-Some.taken) =
    subst (λ (o : Option (LogRecord × ℕ)). IfSome o (IsRecordAt c.args.number c.records.rest.now)) c.in-Some.is
    c.in_ok-entry.ensures.found in
    let within : c.in-Some.taken ≤ length c.records.rest.now =
    subst (λ (o : Option (LogRecord × ℕ)). IfSome o (λ x. x.1 ≤ length c.records.rest.now)) c.in-Some.is
    c.in_ok-entry.ensures.within in
    omega (
      arith,
      ap length c.split_at.ensures.back,
      shorter [] (c.the_log_has_a_format.ensures []) c.args.number c.records.rest.now c.in-Some.entry
          c.in-Some.taken found.len within,
    )

pub records-preserved : goal.records-preserved
records-preserved c =
    let one : Placed = record { place = c.records.place; entry = c.in-Some.entry } in
    let pushed : c.push.new.self.items ≡ c.records.found.items ++ one ∷ [] =
    c.in_ok-push.ensures.items ∙ ap (λ (p : Placed). c.records.found.items ++ p ∷ []) c.new.ensures in
    let found : IsRecordAt c.args.number c.records.rest.now (c.in-Some.entry, c.in-Some.taken) =
    subst (λ (o : Option (LogRecord × ℕ)). IfSome o (IsRecordAt c.args.number c.records.rest.now)) c.in-Some.is
    c.in_ok-entry.ensures.found in
    let within : c.in-Some.taken ≤ length c.records.rest.now =
    subst (λ (o : Option (LogRecord × ℕ)). IfSome o (λ x. x.1 ≤ length c.records.rest.now)) c.in-Some.is
    c.in_ok-entry.ensures.within in
    let read : read_record c.args.number c.records.rest.now ≡ Some c.in-Some.entry =
    sym c.in_ok-entry.ensures.read ∙ ap (λ (o : Option (LogRecord × ℕ)). option_map (λ x. x.0) o) c.in-Some.is in
    record {
      so = λ queues.
          subst₂ (λ (found : List Placed) (rest : List ℕ). ReadsOn queues c.args.number c.args.start c.args.bytes.now
          found (c.records.place + c.in-Some.taken) rest) (sym pushed) (sym c.split_at.ensures.back)
          (goes-on queues (c.the_log_has_a_format.ensures queues) c.args.number c.args.start c.args.bytes.now
          c.records.found.items c.records.place c.records.rest.now c.in-Some.entry c.in-Some.taken read found.len
          (c.records.invariant.so queues));
      long = omega (
        arith,
        ap length c.split_at.ensures.back,
        length-drop c.in-Some.taken c.records.rest.now,
        c.records.invariant.long,
        within,
      );
      marks = subst (λ (rest : List ℕ). AreMarks c.args.number c.record_at.new.ahead.items rest)
          (sym c.split_at.ensures.back)
          (subst (λ (o : Option (LogRecord × ℕ)). IfSome o (λ x.
          AreMarks c.args.number c.record_at.new.ahead.items (drop x.1 c.records.rest.now))) c.in-Some.is
          c.in_ok-entry.ensures.ahead);
    }

pub returns-clause-records : goal.returns-clause-records
returns-clause-records c = λ queues.
    (ends queues c.args.number c.args.start c.args.bytes.now c.records.found.items c.records.place c.records.rest.now
    (stops queues (c.the_log_has_a_format.ensures queues) c.args.number c.records.rest.now
    (sym c.in_ok-entry.ensures.read ∙ ap (λ (o : Option (LogRecord × ℕ)). option_map (λ x. x.0) o) c.in_default.is))
    (c.records.invariant.so queues)).0

pub returns-clause-end : goal.returns-clause-end
returns-clause-end c = λ queues.
    (ends queues c.args.number c.args.start c.args.bytes.now c.records.found.items c.records.place c.records.rest.now
    (stops queues (c.the_log_has_a_format.ensures queues) c.args.number c.records.rest.now
    (sym c.in_ok-entry.ensures.read ∙ ap (λ (o : Option (LogRecord × ℕ)). option_map (λ x. x.0) o) c.in_default.is))
    (c.records.invariant.so queues)).1
