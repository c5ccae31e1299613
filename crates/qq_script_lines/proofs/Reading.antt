-- Lists that are read item by item, and what stands behind a sign.
use Rattle.std.proofs.Common.{◌≡◌, ℕ, List, [], ◌∷◌, ◌++◌, Bool, true, false, Option, Some, None, refl, sym, ap, nat_eq, Bor, ◌≢◌, if◌then◌else◌}
use Rattle.std.specs.Option.{MatchOption, option_map, option_copied}
use Rattle.std.proofs.lemmas.List.{append-nil, append_assoc}
use Rattle.std.proofs.lemmas.Bool.{eqb-true}
use Rattle.qq_script_lines.specs.Numbers.{with_first, all_ids}
use Rattle.qq_script_lines.specs.Names.{behind_hash}

pub more_ids : (ids : List ℕ) (id : ℕ) (rest : Option (List ℕ))
    → option_map (λ (r : List ℕ). ids ++ r) (with_first (Some id) rest)
    ≡ option_map (λ (r : List ℕ). (ids ++ id ∷ []) ++ r) rest
more_ids ids id None = refl
more_ids ids id (Some r) = ap Some (sym (append_assoc ids (id ∷ []) r))

pub all_read : (ids : List ℕ) → option_map (λ (r : List ℕ). ids ++ r) (all_ids []) ≡ Some ids
all_read ids = ap Some (append-nil ids)

-- a word that doesn't begin with the sign
pub no_hash : (word : List ℕ) → ((rest : List ℕ) → word ≡ 35 ∷ rest → ⊥) → None ≡ behind_hash word
no_hash [] other = refl
no_hash (b ∷ rest) other = by (nat_eq b 35) refl
  where
    by : (t : Bool) → nat_eq b 35 ≡ t → None ≡ (if t then Some rest else None)
    by true e = absurd (other rest (ap (λ (c : ℕ). c ∷ rest) (eqb-true b 35 e)))
    by false e = refl

pub stripped : (word : List ℕ) (r : Option (Bor (List ℕ)))
    → MatchOption r ((rest : List ℕ) → word ≢ 35 ∷ rest) (λ x. word ≡ 35 ∷ x.now) → option_copied r ≡ behind_hash word
stripped word None other = no_hash word other
stripped word (Some x) is = rw is refl
