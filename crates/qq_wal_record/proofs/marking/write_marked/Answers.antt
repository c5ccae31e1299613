use Rattle.std.proofs.Common.{ℕ, List, ◌++◌, length, map, ap, ◌∙◌}
use Rattle.std.proofs.lemmas.List.{length-map}
use Rattle.sha2.specs.Sha256.{sha256}
use Rattle.qq_digests.specs.Pieces.{pieces}
use Rattle.qq_wal_record.specs.Marked.{with_fronts}
use Rattle.qq_wal_record.proofs.Marks.{encoded, fronts_are, pieces_len}
use Rattle.qq_wal_record.proofs.marking.write_marked.Goals as goal

pub put_pieces-requires-clause-count : goal.put_pieces-requires-clause-count
put_pieces-requires-clause-count c =
    let digest = λ (p : List ℕ). sha256 (c.to_be_bytes-prefix.result ++ p) in
    let all = pieces c.args.lengths.now c.args.bytes.now in
    ap length (c.as_slice.ensures.value ∙ c.in_ok-put_digests.ensures.ok
    ∙ ap (λ (l : List (List ℕ)). l ++ map digest all) c.clear.ensures.items)
    ∙ length-map all digest ∙ pieces_len c.args.lengths.now c.args.bytes.now

pub returns-clause-ok : goal.returns-clause-ok
returns-clause-ok c = λ records eb el.
    let all = pieces c.args.lengths.now c.args.bytes.now in
    let made = λ (prefix : List ℕ). map (λ (p : List ℕ). sha256 (prefix ++ p)) all in
    let digests = c.as_slice.ensures.value ∙ c.in_ok-put_digests.ensures.ok
    ∙ ap (λ (l : List (List ℕ)). l ++ made c.to_be_bytes-prefix.result) c.clear.ensures.items
    ∙ ap made c.to_be_bytes-prefix.ensures in
    c.in_ok-put_pieces.ensures.ok
    ∙ ap (λ (l : List ℕ). c.args.out.now.items ++ l)
    (ap (with_fronts all) digests ∙ fronts_are c.args.file all
    ∙ encoded c.args.file records c.args.bytes.now c.args.lengths.now eb el)
