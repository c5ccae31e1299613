-- Lists of four.
use Rattle.std.proofs.Common.{◌≡◌, List, [], ◌∷◌, length, get_or, arith, refl}

-- what holds of each list of four
pub four_items : {A : Type 0} (P : List A → Type 0) → ((a b c d : A) → P (a ∷ b ∷ c ∷ d ∷ []))
    → (xs : List A) → length xs ≡ 4 → P xs
four_items P p (a ∷ b ∷ c ∷ d ∷ []) h = p a b c d
four_items P p [] h = absurd (omega arith)
four_items P p (a ∷ []) h = absurd (omega arith)
four_items P p (a ∷ b ∷ []) h = absurd (omega arith)
four_items P p (a ∷ b ∷ c ∷ []) h = absurd (omega arith)
four_items P p (a ∷ b ∷ c ∷ d ∷ e ∷ xs) h = absurd (omega arith)

-- its items, each read
pub four_are : {A : Type 0} (e : A) (xs : List A) → length xs ≡ 4
    → xs ≡ get_or xs 0 e ∷ get_or xs 1 e ∷ get_or xs 2 e ∷ get_or xs 3 e ∷ []
four_are e =
    four_items (λ xs. xs ≡ get_or xs 0 e ∷ get_or xs 1 e ∷ get_or xs 2 e ∷ get_or xs 3 e ∷ []) (λ a b c d. refl)
