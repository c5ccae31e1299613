-- A loop of so many rounds that stops where there is no next goes on while there is one.
use Rattle.std.proofs.Common.{◌≡◌, ℕ, suc, ◌+◌, ◌-◌, ◌<◌, Bool, true, Option, Some, None, ap, ◌∙◌, sym, arith, if◌then◌else◌}
use Rattle.std.specs.Option.{option_map_or}
use Rattle.qq_model.specs.Changes.{while_next}

-- a round with a next step leaves one round less, from that step on
pub while_next-more : {A : Type 0} (n i : ℕ) (next : A → Option A) (a b whole : A) (did : Bool) → i < n
    → next a ≡ (if did then Some b else None) → did ≡ true → while_next (n - i) next a ≡ whole
    → while_next (n - (i + 1)) next b ≡ whole
while_next-more {A = A} n i next a b whole did lt made went so_far =
    let rounds : n - i ≡ suc (n - (i + 1)) = omega arith in
    let step : next a ≡ Some b = made ∙ ap (λ (d : Bool). if d then Some b else None) went in
    sym (ap (λ (k : ℕ). while_next k next a) rounds
    ∙ ap (λ (o : Option A). option_map_or (while_next (n - (i + 1)) next) o a) step) ∙ so_far
