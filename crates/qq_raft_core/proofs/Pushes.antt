-- Messages to some of the members.
use Rattle.std.proofs.Common.{◌≡◌, ℕ, ◌+◌, ◌<◌, Bool, true, false, cond, List, [], ◌∷◌, ◌++◌, length, take, drop, map, get_or, refl, sym, ap, ◌∙◌, append_assoc, add-zero}
use Rattle.std.specs.Prelude.{filter, if◌then◌else◌}
use Rattle.std.proofs.lemmas.List.{take_more, map-append, get_or-drop}
use Rattle.std.proofs.lemmas.List.Elements.{filter-append}

one : {A B : Type 0} (p : A → Bool) (f : A → B) (x : A) → map f (filter p (x ∷ [])) ≡ (if p x then f x ∷ [] else [])
one p f x = by (p x)
  where
    by : (b : Bool) → map f (cond b (x ∷ []) []) ≡ cond b (f x ∷ []) []
    by true = refl
    by false = refl

-- one more of them, in a loop that changes each in place
pub sent-front :
    {A B : Type 0} (p : A → Bool) (f : A → B) (was now : List A) (i : ℕ) (x : A) (old before new : List B)
    → i < length was → drop i now ≡ drop i was
    → before ≡ old ++ map f (filter p (take i was))
    → new ≡ before ++ (if p (get_or now i x) then f (get_or now i x) ∷ [] else [])
    → new ≡ old ++ map f (filter p (take (i + 1) was))
sent-front {A} p f was now i x old before new lt rest front pushed =
    let same : get_or now i x ≡ get_or was i x =
    ap (λ (k : ℕ). get_or now k x) (sym (add-zero i)) ∙ sym (get_or-drop i now 0 x)
    ∙ ap (λ l. get_or l 0 x) rest ∙ get_or-drop i was 0 x ∙ ap (λ (k : ℕ). get_or was k x) (add-zero i) in
    let last = get_or was i x in
    pushed
    ∙ ap (λ (y : A). before ++ (if p y then f y ∷ [] else [])) same
    ∙ ap (λ zs. zs ++ (if p last then f last ∷ [] else [])) front
    ∙ append_assoc old (map f (filter p (take i was))) (if p last then f last ∷ [] else [])
    ∙ ap (λ zs. old ++ zs) (sym (
    ap (λ ys. map f (filter p ys)) (take_more was i x lt)
    ∙ ap (map f) (filter-append p (take i was) (last ∷ []))
    ∙ map-append f (filter p (take i was)) (filter p (last ∷ []))
    ∙ ap (λ zs. map f (filter p (take i was)) ++ zs) (one p f last)))
