use Rattle.std.proofs.Common.{◌≡◌, ◌≤◌, ◌++◌, ◌∙◌, ℕ, List, [], Option, Some, option_map, length, length-drop, ap, sym, subst, arith}
use Rattle.std.specs.Prelude.{IfSome}
use Rattle.std.proofs.lemmas.Result.{on_ok_weaker}
use Rattle.qq_wal_record.specs.declared.record.LogRecord.{LogRecord}
use Rattle.qq_wal_record.specs.Reading.{IsRecordAt}
use Rattle.qq_wal_chain.specs.Records.{records}
use Rattle.qq_wal_chain.specs.Wal.{wal, read_record}
use Rattle.qq_dump.specs.Text.{end_text, records_text}
use Rattle.qq_dump.proofs.Records.{goes-on, no-more}
use Rattle.qq_dump.proofs.text.push_records.Goals as goal

pub records-preserved : goal.records-preserved
records-preserved c =
    let found : IsRecordAt c.args.file c.records.rest.now (c.in-Some.entry, c.in-Some.taken) =
    subst (λ (o : Option (LogRecord × ℕ)). IfSome o (IsRecordAt c.args.file c.records.rest.now)) c.in-Some.is
    c.in_ok-entry.ensures.found in
    let within : c.in-Some.taken ≤ length c.records.rest.now =
    subst (λ (o : Option (LogRecord × ℕ)). IfSome o (λ x. x.1 ≤ length c.records.rest.now)) c.in-Some.is
    c.in_ok-entry.ensures.within in
    let read : read_record c.args.file c.records.rest.now ≡ Some c.in-Some.entry =
    sym c.in_ok-entry.ensures.read ∙ ap (λ (o : Option (LogRecord × ℕ)). option_map (λ x. x.0) o) c.in-Some.is in
    record {
      so = goes-on (c.the_log_has_a_format.ensures []) c.args.file c.records.out.items
          c.push_record-pushed.new.out.items
          (c.args.out.now.items ++ records_text c.args.file 38 (records (wal []) c.args.file c.args.bytes.now))
          c.records.place c.records.rest.now c.split_at.result.1.now c.in-Some.entry c.in-Some.taken read found.len
          c.split_at.ensures.back c.in_ok-pushed.ensures.ok c.records.invariant.so;
      long = omega (
        arith,
        ap length c.split_at.ensures.back,
        length-drop c.in-Some.taken c.records.rest.now,
        c.records.invariant.long,
        within,
      );
    }

pub returns-clause-ok : goal.returns-clause-ok
returns-clause-ok c =
    let none = sym c.in_ok-entry.ensures.read
    ∙ ap (λ (o : Option (LogRecord × ℕ)). option_map (λ x. x.0) o) c.in_default.is in
    on_ok_weaker c.push_end.result
    (λ (e : c.push_end.new.out.items ≡ c.records.out.items ++ end_text c.args.file c.records.place).
    e ∙ ap (λ (l : List ℕ). c.records.out.items ++ l) (sym (no-more (c.the_log_has_a_format.ensures []) c.args.file
    c.records.place c.records.rest.now none))
    ∙ c.records.invariant.so)
    c.push_end.ensures.ok
