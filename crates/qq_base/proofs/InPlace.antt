-- A loop that changes each item of a list in place maps the list.
use Rattle.std.proofs.Common.{◌≡◌, ℕ, ◌+◌, ◌<◌, List, [], ◌∷◌, ◌++◌, length, get_or, set, take, drop, map, sym, ap, ◌∙◌, arith, add-zero}
use Rattle.std.proofs.lemmas.List.{take_more_set, take_more, map-append, drop-drop, get_or-drop, drop-set-lt}

pub mapped_front : {A : Type 0} (f : A → A) (was now : List A) (i : ℕ) (x y : A) → i < length now → i < length was
    → take i now ≡ map f (take i was) → drop i now ≡ drop i was → y ≡ f (get_or now i x)
    → take (i + 1) (set now i y) ≡ map f (take (i + 1) was)
mapped_front f was now i x y lt lt' front rest made =
    let same : get_or was i x ≡ get_or now i x =
    ap (λ (k : ℕ). get_or was k x) (sym (add-zero i)) ∙ sym (get_or-drop i was 0 x)
    ∙ ap (λ l. get_or l 0 x) (sym rest) ∙ get_or-drop i now 0 x ∙ ap (λ (k : ℕ). get_or now k x) (add-zero i) in
    take_more_set now i y lt ∙ ap (λ l. l ++ y ∷ []) front
    ∙ ap (λ z. map f (take i was) ++ z ∷ []) (made ∙ ap f (sym same))
    ∙ sym (ap (map f) (take_more was i x lt') ∙ map-append f (take i was) (get_or was i x ∷ []))

pub mapped_rest : {A : Type 0} (was now : List A) (i : ℕ) (y : A) → drop i now ≡ drop i was
    → drop (i + 1) (set now i y) ≡ drop (i + 1) was
mapped_rest was now i y rest =
    drop-set-lt (i + 1) now i y (omega arith) ∙ sym (drop-drop 1 i now) ∙ ap (drop 1) rest ∙ drop-drop 1 i was
