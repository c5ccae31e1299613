use Rattle.std.proofs.Common.{◌≡◌, ℕ, ◌+◌, List, [], ◌∷◌, ◌++◌, map, take, drop, get_or, sym, ap, ◌∙◌, arith, length-drop}
use Rattle.std.specs.List.{sum}
use Rattle.std.specs.Borrow.{Bor}
use Rattle.std.proofs.lemmas.List.{drop-drop, length-set, map-append, take_more_set}
use Rattle.qq_digests.specs.Pieces.{pieces}
use Rattle.qq_digests.proofs.Lengths.{pieces_more, sum_more}
use Rattle.qq_digests.proofs.pieces.pieces.Goals as goal

pub pieces-preserved : goal.pieces-preserved
pieces-preserved c =
    let ns = c.args.lengths.now in
    let i = c.pieces.i in
    let n : ℕ = get_or ns i 0 in
    let found = c.pieces.found in
    let rest = c.pieces.rest.now in
    let piece = c.split_at.result.0 in
    let now = λ (x : Bor (List ℕ)). x.now in
    let sums : sum (drop i ns) ≡ n + sum (drop (i + 1) ns) = sum_more ns i (omega arith) in
    let front : piece.now ≡ take n rest = c.split_at.ensures.front in
    let back : c.split_at.result.1.now ≡ drop n rest = c.split_at.ensures.back in
    let grown = take_more_set found i piece (omega (arith, c.pieces.invariant.long)) in
    record {
      long = length-set found i piece ∙ c.pieces.invariant.long;
      found =
          ap (λ (l : List (Bor (List ℕ))). map now l ++ pieces (drop (i + 1) ns) c.split_at.result.1.now) grown
          ∙ ap (λ (l : List (List ℕ)). l ++ pieces (drop (i + 1) ns) c.split_at.result.1.now)
          (map-append now (take i found) (piece ∷ []))
          ∙ (λ j. (map now (take i found) ++ front j ∷ []) ++ pieces (drop (i + 1) ns) (back j))
          ∙ sym (pieces_more (map now (take i found)) ns rest i (omega arith))
          ∙ c.pieces.invariant.found;
      room = rw back (omega (arith, sums, length-drop n rest, c.pieces.invariant.room));
      rest =
          ap (drop (sum (drop (i + 1) ns))) back ∙ drop-drop (sum (drop (i + 1) ns)) n rest
          ∙ ap (λ (k : ℕ). drop k rest) (sym sums) ∙ c.pieces.invariant.rest;
    }
