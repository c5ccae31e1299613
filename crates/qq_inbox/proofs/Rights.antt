-- What each move of the views keeps of a right that one of them has.
use Rattle.std.proofs.Common.{◌≡◌, ◌≢◌, ◌⊎◌, ℕ, zero, suc, Bool, true, false, cond, ◌||◌, true≢false, List, [], ◌∷◌, ◌++◌, length, set, sym, refl, ap, ◌∙◌, inl, inr, ⊎_elim}
use Rattle.std.proofs.lemmas.Bool.{cases_Bool}
use mathlib.Core.Option.{some, some-injective, some-ne-none}
use lib.ListN.{get_elem?}
use Rattle.atomic_table.proofs.Lists.{at_set, at_snoc}
use Rattle.qq_inbox.specs.Rights.{Owned}

-- what stands in a list with an item more stood there, or is that item, at its end
pub at_new : {A : Type 0} (l : List A) (a b : A) (j : ℕ) → get_elem? (l ++ a ∷ []) j ≡ some b
    → (get_elem? l j ≡ some b) ⊎ ((j ≡ length l) × (a ≡ b))
at_new [] a b zero e = inr (refl, some-injective a b e)
at_new [] a b (suc j) e = absurd (some-ne-none b (sym e))
at_new (x ∷ xs) a b zero e = inl e
at_new (x ∷ xs) a b (suc j) e = ⊎_elim (λ old. inl old) (λ new. inr (ap suc new.0, new.1)) (at_new xs a b j e)

-- of two rights that are put together, one gives the value
pub chosen : {A : Type 0} (a b : Bool) (x y : A) → (a || b) ≡ true
    → ((a ≡ true) × (cond a x y ≡ x)) ⊎ ((b ≡ true) × (cond a x y ≡ y))
chosen true b x y e = inl (refl, refl)
chosen false b x y e = inr (e, refl)

neither : {P : Type 0} (b : Bool) → b ≡ false → b ≡ true → P
neither b out in_it = absurd (true≢false (sym in_it ∙ out))

module _ {V A : Type 0} (has : V → Bool) (value : V → A) where
  -- a view that has the right knows the value
  pub held : (views : List V) (place : ℕ) (v : V) (x : A) → Owned has value x views → get_elem? views place ≡ some v
      → has v ≡ true → value v ≡ x
  held views place v x owned at mine = (owned.1 place v at mine).1

  -- of one view alone
  pub held_alone : (v : V) → Owned has value (value v) (v ∷ [])
  held_alone v = (0, alone)
    where
      alone : (other : ℕ) (u : V) → get_elem? (v ∷ []) other ≡ some u → has u ≡ true → (other ≡ 0) × (value u ≡ value v)
      alone zero u at mine = (refl, ap value (sym (some-injective v u at)))
      alone (suc other) u at mine = absurd (some-ne-none u (sym at))

  -- the view that has the right changes the value
  pub held_changed : (views : List V) (place : ℕ) (v w : V) (x y : A) → Owned has value x views
      → get_elem? views place ≡ some v → has v ≡ true → value w ≡ y → Owned has value y (set views place w)
  held_changed views place v w x y owned at mine is =
      let here : place ≡ owned.0 = (owned.1 place v at mine).0 in (
        owned.0,
        λ j u e own. ⊎_elim (λ (t : (j ≡ place) × (w ≡ u)). (t.0 ∙ here, ap value (sym t.1) ∙ is))
            (λ (t : (j ≢ place) × (get_elem? views j ≡ some u)). absurd (t.0 ((owned.1 j u t.1 own).0 ∙ sym here)))
            (at_set views place j w u e),
      )

  -- a view changes, and has the right with the same value if at all
  pub held_kept : (views : List V) (place : ℕ) (v w : V) (x : A) → Owned has value x views
      → get_elem? views place ≡ some v → (has w ≡ true → (has v ≡ true) × (value w ≡ value v))
      → Owned has value x (set views place w)
  held_kept views place v w x owned at same = (
    owned.0,
    λ j u e own. ⊎_elim
        (λ (t : (j ≡ place) × (w ≡ u)).
        let was = same (ap has t.1 ∙ own) in
        let old = owned.1 place v at was.0 in
        (t.0 ∙ old.0, ap value (sym t.1) ∙ (was.1 ∙ old.1)))
        (λ (t : (j ≢ place) × (get_elem? views j ≡ some u)). owned.1 j u t.1 own)
        (at_set views place j w u e),
  )

  -- a new view comes without it
  pub held_beside : (views : List V) (u : V) (x : A) → Owned has value x views → has u ≡ false
      → Owned has value x (views ++ u ∷ [])
  held_beside views u x owned none = (
    owned.0,
    λ j w e own. ⊎_elim (λ old. owned.1 j w old own) (λ new. neither (has u) none (ap has new ∙ own))
        (at_snoc views u w j e),
  )

  -- a view gives what it has to a new one
  pub held_moved : (views : List V) (place : ℕ) (v l r : V) (x : A) → Owned has value x views
      → get_elem? views place ≡ some v → has l ≡ false → (has r ≡ true → (has v ≡ true) × (value r ≡ value v))
      → Owned has value x (set views place l ++ r ∷ [])
  held_moved views place v l r x owned at gone same =
      elim (cases_Bool (has r)) [
        | inl has_it ↦
            let was = same has_it in
            let old = owned.1 place v at was.0 in (
              length (set views place l),
              λ j u e own. ⊎_elim
                  (λ before. ⊎_elim (λ (t : (j ≡ place) × (l ≡ u)). neither (has l) gone (ap has t.1 ∙ own))
                  (λ (t : (j ≢ place) × (get_elem? views j ≡ some u)).
                  absurd (t.0 ((owned.1 j u t.1 own).0 ∙ sym old.0)))
                  (at_set views place j l u before))
                  (λ new. (new.0, ap value (sym new.1) ∙ (was.1 ∙ old.1)))
                  (at_new (set views place l) r u j e),
            )
        | inr hasnt ↦
            held_beside (set views place l) r x
            (held_kept views place v l x owned at (λ has_it. neither (has l) gone has_it)) hasnt
      ]

  -- two views come together, and the second is spent
  pub held_joined : (views : List V) (place other : ℕ) (v u b s : V) (x : A) → Owned has value x views
      → get_elem? views place ≡ some v → ¬ (other ≡ place) → get_elem? (set views place b) other ≡ some u
      → (has b ≡ true → ((has v ≡ true) × (value b ≡ value v)) ⊎ ((has u ≡ true) × (value b ≡ value u)))
      → has s ≡ false → Owned has value x (set (set views place b) other s)
  held_joined views place other v u b s x owned at apart at_other from spent =
      let spends = λ (both : Owned has value x (set views place b)).
      held_kept (set views place b) other u s x both at_other (λ has_it. neither (has s) spent has_it) in
      elim (cases_Bool (has b)) [
        | inl has_it ↦
            ⊎_elim
            (λ (mine : (has v ≡ true) × (value b ≡ value v)). spends (held_kept views place v b x owned at (λ _. mine)))
            (λ (theirs : (has u ≡ true) × (value b ≡ value u)).
            let was : get_elem? views other ≡ some u =
            ⊎_elim (λ (t : (other ≡ place) × (b ≡ u)). absurd (apart t.0))
            (λ (t : (other ≢ place) × (get_elem? views other ≡ some u)). t.1)
            (at_set views place other b u at_other) in
            let old = owned.1 other u was theirs.0 in (
              place,
              λ j w e own. ⊎_elim (λ (t : (j ≡ other) × (s ≡ w)). neither (has s) spent (ap has t.1 ∙ own))
                  (λ (t : (j ≢ other) × (get_elem? (set views place b) j ≡ some w)).
                  ⊎_elim
                  (λ (h : (j ≡ place) × (b ≡ w)). (h.0, ap value (sym h.1) ∙ (theirs.1 ∙ old.1)))
                  (λ (h : (j ≢ place) × (get_elem? views j ≡ some w)).
                  absurd (t.0 ((owned.1 j w h.1 own).0 ∙ sym old.0)))
                  (at_set views place j b w t.1))
                  (at_set (set views place b) other j s w e),
            ))
            (from has_it)
        | inr hasnt ↦ spends (held_kept views place v b x owned at (λ has_it. neither (has b) hasnt has_it))
      ]
