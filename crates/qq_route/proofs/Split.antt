-- What stands before the first dot is the first word.
use Rattle.std.proofs.Common.{◌≡◌, ◌≢◌, ℕ, ◌<◌, List, [], ◌∷◌, length, get_or, Option, Some, None, MatchOption, arith, false}
use Rattle.std.specs.List.{slice_split, All}
use Rattle.std.proofs.lemmas.Str.Pattern.{IsSplitOnceResult, split_parts, split_once_first}
use Rattle.std.proofs.lemmas.List.Splits.{slice_split_none, slice_split_first}
use Rattle.std.proofs.lemmas.List.Elements.{All-from_get_or}
use Rattle.std.proofs.lemmas.Bool.{false_from_ne_true}
use Rattle.qq_route.specs.Topic.{is_dot}
use denote.Ref.{Bor}

pub at_dot : (text : List ℕ) (r : Option (Bor (List ℕ) × Bor (List ℕ))) → IsSplitOnceResult 46 text r
    → MatchOption r (slice_split is_dot text ≡ text ∷ [])
    (λ p. slice_split is_dot text ≡ p.0.now ∷ slice_split is_dot p.1.now)
at_dot text None is =
    let parts : (i : ℕ) → i < length text → get_or text i 0 ≢ 46 = split_parts 46 text None is (omega arith) in
    let none : All (λ b. is_dot b ≡ false) text = All-from_get_or (λ b. is_dot b ≡ false) text 0
    (λ i h. false_from_ne_true (is_dot (get_or text i 0)) (λ e. parts i h (grind (arith, e)))) in
    slice_split_none is_dot text none
at_dot text (Some p) is =
    let parts = split_once_first 46 text (Some p) is (omega arith) in
    rw parts.1 (rw parts.2 (slice_split_first is_dot text 0 parts.0))
