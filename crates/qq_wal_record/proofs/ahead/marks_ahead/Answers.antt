use Rattle.std.proofs.Common.{ℕ, List, Bor, map, ap, sym, subst, ◌∙◌}
use Rattle.qq_wal_record.specs.Ahead.{AreMarks}
use Rattle.qq_wal_record.specs.Encoding.{record_mark}
use Rattle.qq_wal_record.proofs.ahead.marks_ahead.Goals as goal

pub returns-clause-ok : goal.returns-clause-ok
returns-clause-ok c =
    subst (λ (ms : List (List ℕ)). AreMarks c.args.file ms c.args.bytes.now)
    (sym (c.in_ok-marks.ensures.ok
    ∙ ap (map (λ (b : Bor (List ℕ)). record_mark c.args.file b.now)) c.as_slice.ensures.value))
    (c.in_ok-bodies.ensures.ok c.args.file)
