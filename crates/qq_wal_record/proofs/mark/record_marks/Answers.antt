use Rattle.std.proofs.Common.{ℕ, List, map, take, ap, ◌∙◌, arith}
use Rattle.std.proofs.lemmas.List.{take_all}
use Rattle.sha2.specs.Sha256.{sha256}
use Rattle.qq_digests.specs.Lanes.{with_prefix}
use Rattle.qq_wal_record.proofs.Marks.{marks_of}
use Rattle.qq_wal_record.proofs.mark.record_marks.Goals as goal

pub returns-clause-ok : goal.returns-clause-ok
returns-clause-ok c =
    let front = map (λ (d : List ℕ). take 8 d) in
    let bodies = c.args.bodies.now in
    c.marks.invariant
    ∙ ap front (take_all c.marks.digest-index c.as_slice-digest-items.result.now (omega arith)
    ∙ c.as_slice-digest-items.ensures.value ∙ c.in_ok-digests.ensures.ok
    ∙ ap (λ (p : List ℕ). map sha256 (with_prefix p bodies)) c.to_be_bytes.ensures)
    ∙ marks_of c.args.file bodies
