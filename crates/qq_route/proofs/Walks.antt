-- What stands before a hash may be taken where it is found first.
use Rattle.std.proofs.Common.{◌≡◌, ℕ, ◌+◌, ◌<◌, Bool, true, false, ◌||◌, ◌&&◌, ◌⊎◌, List, [], ◌∷◌, length, refl, sym, ap, ◌∙◌, subst, inl, inr, if◌then◌else◌, arith}
use Rattle.qq_route.specs.Topic.{Word, is_hash, takes_word, from_any, after_one, do_match}
use Rattle.qq_route.specs.Walk.{Reach, fails, ends, comes, walk}

pub which : (t : Bool) → (t ≡ true) ⊎ (t ≡ false)
which true = inl refl
which false = inr refl

abbrev pub taken : Reach → Bool
taken fails = false
taken ends = true
taken (comes ps ws) = from_any (do_match ps) ws

pub walk-taken : (ps ws : List Word) → do_match ps ws ≡ taken (walk ps ws)
walk-taken [] [] = refl
walk-taken [] (w ∷ ws) = refl
walk-taken (p ∷ ps) [] = by (is_hash p)
  where
    by : (t : Bool) → (if t then from_any (do_match ps) [] else false) ≡ taken (if t then comes ps [] else fails)
    by true = refl
    by false = refl
walk-taken (p ∷ ps) (w ∷ ws) = by (walk-taken ps ws) (is_hash p) (takes_word p w)
  where
    by : do_match ps ws ≡ taken (walk ps ws) → (t u : Bool)
        → (if t then from_any (do_match ps) (w ∷ ws) else (u && do_match ps ws)) ≡ taken
        (if t then comes ps (w ∷ ws) else (if u then walk ps ws else fails))
    by rest true u = refl
    by rest false true = rest
    by rest false false = refl

pub or_right : (a : Bool) → (a || true) ≡ true
or_right true = refl
or_right false = refl

pub here_any : (test : List Word → Bool) (ws : List Word) → test ws ≡ true → from_any test ws ≡ true
here_any test [] e = e
here_any test (w ∷ ws) e = ap (λ b. b || from_any test ws) e

-- where the tail is taken, so is the whole
pub later_any : (test : List Word → Bool) (w : Word) (ws : List Word) → from_any test ws ≡ true
    → from_any test (w ∷ ws) ≡ true
later_any test w ws e = ap (λ b. test (w ∷ ws) || b) e ∙ or_right (test (w ∷ ws))

-- a word's part of what is taken
past_word : (p w : Word) (ps ws : List Word) → is_hash p ≡ false → do_match (p ∷ ps) (w ∷ ws) ≡ true
    → do_match ps ws ≡ true
past_word p w ps ws e h = by (is_hash p) (takes_word p w) e h
  where
    by : (t u : Bool) → t ≡ false → (if t then from_any (do_match ps) (w ∷ ws) else (u && do_match ps ws)) ≡ true
        → do_match ps ws ≡ true
    by true u e h = absurd (let f : true ≡ false = e in cc)
    by false true e h = h
    by false false e h = absurd (let f : false ≡ true = h in cc)

no_words : (p : Word) (ps : List Word) → is_hash p ≡ false → do_match (p ∷ ps) [] ≡ true → ⊥
no_words p ps e h = by (is_hash p) e h
  where
    by : (t : Bool) → t ≡ false → (if t then from_any (do_match ps) [] else false) ≡ true → ⊥
    by true e h = let f : true ≡ false = e in cc
    by false e h = let f : false ≡ true = h in cc

pub split_or : (a b : Bool) → (a || b) ≡ true → (a ≡ true) ⊎ (b ≡ true)
split_or true b e = inl refl
split_or false b e = inr e

word_any : (p : Word) (ps ws : List Word) → is_hash p ≡ false → from_any (do_match (p ∷ ps)) ws ≡ true
    → from_any (do_match ps) ws ≡ true
word_any p ps [] e h = absurd (no_words p ps e h)
word_any p ps (w ∷ ws) e h =
    elim (split_or (do_match (p ∷ ps) (w ∷ ws)) (from_any (do_match (p ∷ ps)) ws) h) [
      | inl now ↦ later_any (do_match ps) w ws (here_any (do_match ps) ws (past_word p w ps ws e now))
      | inr later ↦ later_any (do_match ps) w ws (word_any p ps ws e later)
    ]

pub word_later : (p w : Word) (ps ws : List Word) → is_hash p ≡ false → from_any (do_match (p ∷ ps)) (w ∷ ws) ≡ true
    → from_any (do_match ps) ws ≡ true
word_later p w ps ws e h =
    elim (split_or (do_match (p ∷ ps) (w ∷ ws)) (from_any (do_match (p ∷ ps)) ws) h) [
      | inl now ↦ here_any (do_match ps) ws (past_word p w ps ws e now)
      | inr later ↦ word_any p ps ws e later
    ]

pub hash_later : (p : Word) (ps ws : List Word) → is_hash p ≡ true → from_any (do_match (p ∷ ps)) ws ≡ true
    → from_any (do_match ps) ws ≡ true
hash_later p ps [] e h = by (is_hash p) e h
  where
    by : (t : Bool) → t ≡ true → (if t then from_any (do_match ps) [] else false) ≡ true
        → from_any (do_match ps) [] ≡ true
    by true e h = h
    by false e h = absurd (let f : false ≡ true = e in cc)
hash_later p ps (w ∷ ws) e h =
    elim (split_or (do_match (p ∷ ps) (w ∷ ws)) (from_any (do_match (p ∷ ps)) ws) h) [
      | inl now ↦ by (is_hash p) e now
      | inr later ↦ later_any (do_match ps) w ws (hash_later p ps ws e later)
    ]
  where
    by : (t : Bool) → t ≡ true
        → (if t then from_any (do_match ps) (w ∷ ws) else after_one p (do_match ps) (w ∷ ws)) ≡ true
        → from_any (do_match ps) (w ∷ ws) ≡ true
    by true e h = h
    by false e h = absurd (let f : false ≡ true = e in cc)

-- the hash to which the walk comes takes all that the walk takes, from any later place
pub comes_later : (ps ws qs vs : List Word) → walk ps ws ≡ comes qs vs → from_any (do_match ps) ws ≡ true
    → from_any (do_match qs) vs ≡ true
comes_later [] [] qs vs e h = absurd (let f : ends ≡ comes qs vs = e in cc)
comes_later [] (w ∷ ws) qs vs e h = absurd (let f : fails ≡ comes qs vs = e in cc)
comes_later (p ∷ ps) [] qs vs e h = by (is_hash p) refl e
  where
    by : (t : Bool) → is_hash p ≡ t → (if t then comes ps [] else fails) ≡ comes qs vs
        → from_any (do_match qs) vs ≡ true
    by true i e =
        let P : Reach → Type 0 = λ r. taken r ≡ true in
        subst P e (hash_later p ps [] i h)
    by false i e = absurd (let f : fails ≡ comes qs vs = e in cc)
comes_later (p ∷ ps) (w ∷ ws) qs vs e h = by (comes_later ps ws qs vs) (is_hash p) refl (takes_word p w) e
  where
    by : (walk ps ws ≡ comes qs vs → from_any (do_match ps) ws ≡ true → from_any (do_match qs) vs ≡ true) → (t : Bool)
        → is_hash p ≡ t → (u : Bool)
        → (if t then comes ps (w ∷ ws) else (if u then walk ps ws else fails)) ≡ comes qs vs
        → from_any (do_match qs) vs ≡ true
    by rest true i u e =
        let P : Reach → Type 0 = λ r. taken r ≡ true in
        subst P e (hash_later p ps (w ∷ ws) i h)
    by rest false i true e = rest e (word_later p w ps ws i h)
    by rest false i false e = absurd (let f : fails ≡ comes qs vs = e in cc)

both : (a b : Bool) → (a ≡ true → b ≡ true) → (b ≡ true → a ≡ true) → a ≡ b
both true true f g = refl
both true false f g = sym (f refl)
both false true f g = g refl
both false false f g = refl

pub at_hash : (ps ws qs vs : List Word) → walk ps ws ≡ comes qs vs
    → from_any (do_match ps) ws ≡ from_any (do_match qs) vs
at_hash ps ws qs vs e =
    both (from_any (do_match ps) ws) (from_any (do_match qs) vs) (comes_later ps ws qs vs e)
    (λ h. here_any (do_match ps) ws (walk-taken ps ws ∙ ap taken e ∙ h))

pub at_end_of_both : (ps ws : List Word) → walk ps ws ≡ ends → from_any (do_match ps) ws ≡ true
at_end_of_both ps ws e = here_any (do_match ps) ws (walk-taken ps ws ∙ ap taken e)

pub at_failure : (ps ws : List Word) → walk ps ws ≡ fails → do_match ps ws ≡ false
at_failure ps ws e = walk-taken ps ws ∙ ap taken e

abbrev size : Reach → ℕ
size fails = 0
size ends = 0
size (comes ps ws) = length ps + length ws + 1

short : (ps ws : List Word) → size (walk ps ws) < length ps + length ws + 1
short [] [] = omega arith
short [] (w ∷ ws) = omega arith
short (p ∷ ps) [] = by (is_hash p)
  where
    by : (t : Bool) → size (if t then comes ps [] else fails) < length (p ∷ ps) + length {A = Word} [] + 1
    by true = omega arith
    by false = omega arith
short (p ∷ ps) (w ∷ ws) = by (is_hash p) (takes_word p w) (short ps ws)
  where
    by : (t u : Bool) → size (walk ps ws) < length ps + length ws + 1
        → size (if t then comes ps (w ∷ ws) else (if u then walk ps ws else fails)) < length (p ∷ ps) + length
        (w ∷ ws) + 1
    by true u h = omega arith
    by false true h = omega (arith, h)
    by false false h = omega arith

pub shorter : (ps ws qs vs : List Word) → walk ps ws ≡ comes qs vs → length qs + length vs < length ps + length ws
shorter ps ws qs vs e =
    let h : size (walk ps ws) < length ps + length ws + 1 = short ps ws in
    let i : size (walk ps ws) ≡ length qs + length vs + 1 = ap size e in
    omega (arith, h, i)

-- where the walk fails, the key's first word is passed over
pub passed_over : (ps ks : List Word) (w : Word) (ws : List Word) → ks ≡ w ∷ ws → walk ps ks ≡ fails
    → from_any (do_match ps) ws ≡ from_any (do_match ps) ks
passed_over ps ks w ws e f =
    let not_here : do_match ps (w ∷ ws) ≡ false = ap (do_match ps) (sym e) ∙ at_failure ps ks f in
    ap (λ b. b || from_any (do_match ps) ws) (sym not_here) ∙ ap (from_any (do_match ps)) (sym e)

pub none_left : (ps ks : List Word) → ks ≡ [] → walk ps ks ≡ fails → false ≡ from_any (do_match ps) ks
none_left ps ks e f = sym (at_failure ps ks f) ∙ ap (do_match ps) e ∙ ap (from_any (do_match ps)) (sym e)
