use Rattle.std.proofs.Common.{◌≡◌, ℕ, List, ◌+◌, ◌*◌, length, take, drop, slice_index, inl, inr, ◌∙◌, arith}
use Rattle.std.proofs.lemmas.List.{get_or-set_same, get_or-set_other, length-map, length-set, map-set}
use Rattle.std.proofs.lemmas.Bool.{cases_lt}
use Rattle.sha2.proofs.Schedule256.{IsWindow_first}
use Rattle.qq_digests.specs.Lanes.{words_of}
use Rattle.qq_digests.proofs.Bytes.{block_word}
use Rattle.qq_digests.proofs.rounds.load.Goals as goal

pub load-preserved : goal.load-preserved
load-preserved c =
    let words = c.load.words in
    let i = c.load.i in
    let new = c.words_at.result in
    record {
      long = length-set words i new ∙ c.load.invariant.long;
      words = λ j k lt below.
          let old = words_of j words in
          let moved = map-set (λ (v : List ℕ). slice_index v j) words i new in
          let long : length old ≡ 16 = length-map words (λ (v : List ℕ). slice_index v j) ∙ c.load.invariant.long in
          rw moved (elim (cases_lt k i) [
            | inl a ↦ get_or-set_other old i k (slice_index new j) 0 (omega arith) ∙ c.load.invariant.words j k lt a
            | inr b ↦
                let e : i ≡ k = omega arith in
                rw (← e) (get_or-set_same old i (slice_index new j) 0 (omega arith) ∙ c.words_at.ensures j lt)
          ]);
    }

pub returns : goal.returns
returns c = λ j lt.
    let bytes = c.args.bytes.now in
    let words = c.load.words in
    let place = j * c.args.size + c.args.at in
    IsWindow_first (take 64 (drop place bytes)) (words_of j words)
    (length-map words (λ (v : List ℕ). slice_index v j) ∙ c.load.invariant.long)
    (λ k low. c.load.invariant.words j k lt (omega arith)
    ∙ block_word bytes place (4 * k) (j * c.args.size + (c.args.at + 4 * k)) (omega arith) (omega arith))
