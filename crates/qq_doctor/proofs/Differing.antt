-- Two lanes at a place.
use Rattle.std.proofs.Common.{◌≡◌, ◌≢◌, ◌⊎◌, ◌∙◌, ◌<◌, ◌-◌, ℕ, Bool, true, false, Option, Some, None, ap, arith, cond, inl, inr, refl, sym}
use Rattle.std.specs.Bool.{Decides}
use Rattle.std.specs.Prelude.{nat_eq, nat_lt, not, slice_get, option_map}
use Rattle.std.proofs.lemmas.Bool.Decides.{Decides-eqb, Decides-ltb, Decides-not}
use Rattle.qq_base.specs.declared.ids.Term.{Term}
use Rattle.qq_entry.specs.declared.command.Entry.{Entry}
use Rattle.qq_log.specs.declared.lane.Lane.{Lane}
use Rattle.qq_doctor.specs.Lanes.{Differ, base, entry_at, term_at, term_of}

pub some-one : {A : Type 0} (x y : A) (o : Option A) → o ≡ Some x → o ≡ Some y → x ≡ y
some-one x y o e f = by (sym e ∙ f)
  where
    by : Some x ≡ Some y → x ≡ y
    by is = cc

some-none : {A : Type 0} (x : A) (o : Option A) → o ≡ None → o ≡ Some x → ⊥
some-none x o e f = absurd cc

term-same : (s t : Term) → s.0 ≡ t.0 → s ≡ t
term-same s t e = ap (λ n. record { 0 = n }) e

-- a lane with a term at a place, and no entry there, has its base there
at-base : (place : ℕ) (lane : Lane) (s : Term) → entry_at place lane ≡ None → term_at place lane ≡ Some s
    → place ≡ base lane
at-base place lane s empty has = by (nat_eq place (base lane)) (Decides-eqb place (base lane)) has
  where
    by : (here : Bool) → Decides here (place ≡ base lane)
        → cond here (Some lane.base.term) (option_map term_of (entry_at place lane)) ≡ Some s → place ≡ base lane
    by true decides is = decides.0 refl
    by false decides is = absurd (some-none s _ (ap (option_map term_of) empty) is)

-- and at its base it has no entry
base-empty : (place : ℕ) (lane : Lane) → place ≡ base lane → entry_at place lane ≡ None
base-empty place lane is = by (nat_lt (base lane) place) (Decides-ltb (base lane) place)
  where
    by : (above : Bool) → Decides above (base lane < place)
        → cond above (slice_get lane.entries (place - base lane - 1)) None ≡ None
    by true decides = let lt = decides.0 refl in absurd (omega (arith, lt, is))
    by false decides = refl

-- where one of two lanes has no entry, their terms are compared
pub by-term : (place : ℕ) (a b : Lane) (s t : Term) → (entry_at place a ≡ None) ⊎ (entry_at place b ≡ None)
    → term_at place a ≡ Some s → term_at place b ≡ Some t → Decides (not (nat_eq s.0 t.0)) (Differ place a b)
by-term place a b s t empty has_s has_t = (there, back)
  where
    apart : Decides (not (nat_eq s.0 t.0)) (s.0 ≢ t.0)
    apart = Decides-not (nat_eq s.0 t.0) (Decides-eqb s.0 t.0)

    at : (entry_at place a ≡ None) ⊎ (entry_at place b ≡ None) → (place ≡ base a) ⊎ (place ≡ base b)
    at (inl none) = inl (at-base place a s none has_s)
    at (inr none) = inr (at-base place b t none has_t)

    there : not (nat_eq s.0 t.0) ≡ true → Differ place a b
    there is = Differ.ByTerm s t (at empty) has_s has_t (λ e. apart.0 is (ap (λ x. x.0) e))

    no : (e f : Entry) → (entry_at place a ≡ None) ⊎ (entry_at place b ≡ None) → entry_at place a ≡ Some e
        → entry_at place b ≡ Some f → ⊥
    no e f (inl none) is_e is_f = some-none e _ none is_e
    no e f (inr none) is_e is_f = some-none f _ none is_f

    back : Differ place a b → not (nat_eq s.0 t.0) ≡ true
    back (Differ.ByEntry e f is_e is_f other) = absurd (no e f empty is_e is_f)
    back (Differ.ByTerm u v _ is_u is_v other) =
        apart.1 (λ e.
        other (some-one u s _ is_u has_s ∙ term-same s t e ∙ sym (some-one v t _ is_v has_t)))

-- and where both have one, these are
pub by-entry : (place : ℕ) (a b : Lane) (e f : Entry) (same : Bool) → entry_at place a ≡ Some e
    → entry_at place b ≡ Some f → Decides same (e ≡ f) → Decides (not same) (Differ place a b)
by-entry place a b e f same is_e is_f decides = (there, back)
  where
    apart : Decides (not same) (e ≢ f)
    apart = Decides-not same decides

    there : not same ≡ true → Differ place a b
    there is = Differ.ByEntry e f is_e is_f (apart.0 is)

    no : (place ≡ base a) ⊎ (place ≡ base b) → ⊥
    no (inl here) = some-none e _ (base-empty place a here) is_e
    no (inr here) = some-none f _ (base-empty place b here) is_f

    back : Differ place a b → not same ≡ true
    back (Differ.ByEntry u v is_u is_v other) =
        apart.1 (λ is. other (some-one u e _ is_u is_e ∙ is ∙ sym (some-one v f _ is_v is_f)))
    back (Differ.ByTerm s t here _ _ _) = absurd (no here)
