-- Loops of so many rounds.
use Rattle.std.proofs.Common.{◌≡◌, ℕ, zero, suc, ◌<◌, ◌≤◌, List, [], ◌∷◌, Option, Some, None, fold, refl, inl, inr, arith}
use Rattle.std.specs.Option.{option_map_or}
use Rattle.qq_model.specs.Changes.{while_next}
use Rattle.qq_base.proofs.Lists.{In}

-- each step lowers a size
abbrev pub Falls : {A : Type 0} → (A → ℕ) → (A → Option A) → Type 0
Falls {A} size next = (a b : A) → next a ≡ Some b → size b < size a

none_left : {A : Type 0} (size : A → ℕ) (next : A → Option A) → Falls size next
    → (a : A) (o : Option A) → next a ≡ o → size a ≤ 0 → next a ≡ None
none_left size next falls a None e le = e
none_left size next falls a (Some b) e le = let lt : size b < size a = falls a b e in absurd (omega arith)

one_less : {A : Type 0} (size : A → ℕ) (next : A → Option A) → Falls size next
    → (n : ℕ) → ((b : A) → size b ≤ n → next (while_next n next b) ≡ None)
    → (a : A) (o : Option A) → next a ≡ o → size a ≤ suc n → next (option_map_or (while_next n next) o a) ≡ None
one_less size next falls n later a None e le = e
one_less size next falls n later a (Some b) e le = let lt : size b < size a = falls a b e in later b (omega arith)

-- as many rounds as the size, which each step lowers, end where there is no next step
pub while_next-runs_out : {A : Type 0} (size : A → ℕ) (next : A → Option A) → Falls size next
    → (n : ℕ) (a : A) → size a ≤ n → next (while_next n next a) ≡ None
while_next-runs_out size next falls zero a le = none_left size next falls a (next a) refl le
while_next-runs_out size next falls (suc n) a le =
    one_less size next falls n (while_next-runs_out size next falls n) a (next a) refl le

-- what each round keeps, the loop keeps
pub while_next-keeps : {A : Type 0} (I : A → Type 0) (next : A → Option A) → ((a b : A) → I a → next a ≡ Some b → I b)
    → (n : ℕ) (a : A) → I a → I (while_next n next a)
while_next-keeps I next keeps zero a holds = holds
while_next-keeps {A = A} I next keeps (suc n) a holds =
    onward (next a) refl (λ b it. while_next-keeps I next keeps n b it)
  where
    onward : (o : Option A) → next a ≡ o → ((b : A) → I b → I (while_next n next b))
        → I (option_map_or (while_next n next) o a)
    onward None made rest = holds
    onward (Some b) made rest = rest b (keeps a b holds made)

-- what each element of a list keeps, a fold over it keeps
pub fold-keeps_in : {A B : Type 0} (I : B → Type 0) (f : B → A → B) (xs : List A)
    → ((b : B) (x : A) → In x xs → I b → I (f b x)) → (b : B) → I b → I (fold f b xs)
fold-keeps_in I f [] keeps b holds = holds
fold-keeps_in I f (x ∷ xs) keeps b holds =
    fold-keeps_in I f xs (λ c y later. keeps c y (inr later)) (f b x) (keeps b x (inl refl) holds)
