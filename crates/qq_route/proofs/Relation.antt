-- The test of words is their relation.
use Rattle.std.proofs.Common.{◌≡◌, Bool, true, false, ◌||◌, ◌&&◌, List, [], ◌∷◌, refl, sym, subst, inl, inr, if◌then◌else◌, codes}
use Rattle.std.specs.Str.{bytes_eq}
use Rattle.std.proofs.lemmas.Slice.Eq.{bytes_eq-Decides}
use Rattle.qq_route.specs.Topic.{Word, Matches, at_end, same, star, hash_none, hash_more, is_hash, takes_word, from_any, after_one, do_match}
use Rattle.qq_route.proofs.Walks.{here_any, later_any, split_or}

is_codes : (p q : Word) → bytes_eq p q ≡ true → p ≡ q
is_codes p q e = (bytes_eq-Decides p q).0 e

any_matches : (ps ws : List Word) → ((vs : List Word) → do_match ps vs ≡ true → Matches ps vs)
    → from_any (do_match ps) ws ≡ true → Matches (codes "#" ∷ ps) ws
any_matches ps [] each h = hash_none (each [] h)
any_matches ps (w ∷ ws) each h =
    elim (split_or (do_match ps (w ∷ ws)) (from_any (do_match ps) ws) h) [
      | inl now ↦ hash_none (each (w ∷ ws) now)
      | inr later ↦ hash_more (any_matches ps ws each later)
    ]

one_matches : (p w : Word) (ps ws : List Word) → (do_match ps ws ≡ true → Matches ps ws)
    → (takes_word p w && do_match ps ws) ≡ true → Matches (p ∷ ps) (w ∷ ws)
one_matches p w ps ws rest h = by (bytes_eq p (codes "*")) (bytes_eq p w) refl refl h
  where
    by : (s t : Bool) → bytes_eq p (codes "*") ≡ s → bytes_eq p w ≡ t → ((s || t) && do_match ps ws) ≡ true
        → Matches (p ∷ ps) (w ∷ ws)
    by true t e f h = subst (λ q. Matches (q ∷ ps) (w ∷ ws)) (sym (is_codes p (codes "*") e)) (star (rest h))
    by false true e f h = subst (λ q. Matches (p ∷ ps) (q ∷ ws)) (is_codes p w f) (same (rest h))
    by false false e f h = absurd (let g : false ≡ true = h in cc)

pub matched : (ps ws : List Word) → do_match ps ws ≡ true → Matches ps ws
matched [] [] h = at_end
matched [] (w ∷ ws) h = absurd (let g : false ≡ true = h in cc)
matched (p ∷ ps) [] h = by (matched ps) (is_hash p) refl h
  where
    by : ((vs : List Word) → do_match ps vs ≡ true → Matches ps vs) → (t : Bool) → is_hash p ≡ t
        → (if t then from_any (do_match ps) [] else false) ≡ true → Matches (p ∷ ps) []
    by each true e h = subst (λ q. Matches (q ∷ ps) []) (sym (is_codes p (codes "#") e)) (any_matches ps [] each h)
    by each false e h = absurd (let g : false ≡ true = h in cc)
matched (p ∷ ps) (w ∷ ws) h = by (matched ps) (is_hash p) refl h
  where
    by : ((vs : List Word) → do_match ps vs ≡ true → Matches ps vs) → (t : Bool) → is_hash p ≡ t
        → (if t then from_any (do_match ps) (w ∷ ws) else after_one p (do_match ps) (w ∷ ws)) ≡ true → Matches
        (p ∷ ps) (w ∷ ws)
    by each true e h =
        subst (λ q. Matches (q ∷ ps) (w ∷ ws)) (sym (is_codes p (codes "#") e)) (any_matches ps (w ∷ ws) each h)
    by each false e h = one_matches p w ps ws (each ws) h

same_true : (w : Word) (ps ws : List Word) → do_match ps ws ≡ true → do_match (w ∷ ps) (w ∷ ws) ≡ true
same_true w ps ws h = by (is_hash w) (bytes_eq w (codes "*")) (bytes_eq w w) ((bytes_eq-Decides w w).1 refl)
  where
    by : (t s u : Bool) → u ≡ true
        → (if t then from_any (do_match ps) (w ∷ ws) else ((s || u) && do_match ps ws)) ≡ true
    by true s u e = later_any (do_match ps) w ws (here_any (do_match ps) ws h)
    by false true u e = h
    by false false true e = h
    by false false false e = e

pub do_match-true : (ps ws : List Word) → Matches ps ws → do_match ps ws ≡ true
do_match-true _ _ at_end = refl
do_match-true _ _ (same {w} {ps} {ws} m) = same_true w ps ws (do_match-true ps ws m)
do_match-true _ _ (star {w} {ps} {ws} m) = do_match-true ps ws m
do_match-true _ _ (hash_none {ps} {ws} m) = here_any (do_match ps) ws (do_match-true ps ws m)
do_match-true _ _ (hash_more {w} {ps} {ws} m) = later_any (do_match ps) w ws (do_match-true (codes "#" ∷ ps) ws m)
