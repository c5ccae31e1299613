use Rattle.std.proofs.Common.{◌≡◌, ℕ, ◌/◌, ◌^◌, ◌<◌, List, [], ◌∷◌, slice_index, refl}
use Rattle.std.specs.Simd.Lanes.{zip2}
use Rattle.qq_digests.proofs.Eight.{below_eight, eight_items}
use Rattle.qq_digests.proofs.words.right.Goals as goal

pub returns : goal.returns
returns c =
    let k : ℕ = c.args.by in
    eight_items (λ (v : List ℕ). (j : ℕ) → j < 8
    → slice_index (zip2 (λ x n. x / 2 ^ n) v (k ∷ k ∷ k ∷ k ∷ k ∷ k ∷ k ∷ k ∷ [])) j ≡ slice_index v j / 2 ^ k)
    (λ a b c d e f g h. below_eight _ refl refl refl refl refl refl refl refl) c.args.x c.fits-x.0
