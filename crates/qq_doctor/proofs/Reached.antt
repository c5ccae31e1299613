-- Which places count.
use Rattle.std.proofs.Common.{◌≡◌, ◌⊎◌, ◌+◌, ◌^◌, ◌-◌, ◌<◌, ◌≤◌, ℕ, Bool, true, false, List, [], ◌∷◌, length, ap, arith, cond, inl, inr, refl, subst, sym}
use Rattle.std.specs.Prelude.{filter}
use Rattle.std.proofs.Math.Nat.{eq-or-lt_of_le}
use Rattle.std.proofs.lemmas.Bool.{false≢true, le-leb, leb-true}
use Rattle.qq_doctor.specs.Lanes.{Counts, Found, last, reaches}
use Rattle.qq_doctor.specs.Verdicts.{AreAlike, IsAgreed}

-- a lane that reaches a place reaches those before it
reach-less : (place early : ℕ) → early ≤ place → (found : Found) → reaches place found ≡ true → reaches early found ≡ true
reach-less place early le found is =
    let within = leb-true place (last found.1) is in
    le-leb early (last found.1) (omega (arith, within, le))

filter-more : (p q : Found → Bool) → ((f : Found) → p f ≡ true → q f ≡ true) → (lanes : List Found)
    → length (filter p lanes) ≤ length (filter q lanes)
filter-more p q more [] = omega arith
filter-more p q more (f ∷ lanes) = by (p f) (q f) (more f) (filter-more p q more lanes)
  where
    by : (x y : Bool) → (x ≡ true → y ≡ true) → length (filter p lanes) ≤ length (filter q lanes)
        → length (cond x (f ∷ filter p lanes) (filter p lanes)) ≤ length (cond y (f ∷ filter q lanes) (filter q lanes))
    by true true first le = omega (arith, le)
    by true false first le = absurd (false≢true (first refl))
    by false true first le = omega (arith, le)
    by false false first le = le

-- where a place counts, those before it do
counts-less : (members : ℕ) (lanes : List Found) (place early : ℕ) → early ≤ place → Counts members lanes place
    → Counts members lanes early
counts-less members lanes place early le counts =
    let more = filter-more (reaches place) (reaches early) (reach-less place early le) lanes in
    omega (arith, more, counts)

-- so after one that doesn't, none does
pub none-after : (members : ℕ) (lanes : List Found) (upto : ℕ) → (Counts members lanes (upto + 1) → ⊥) → (place : ℕ)
    → upto < place → Counts members lanes place → ⊥
none-after members lanes upto stops place after counts =
    stops (counts-less members lanes place (upto + 1) (omega (arith, after)) counts)

-- no lane reaches a place that 64 bits don't count
unreached : (place : ℕ) → 2 ^ 64 ≤ place → (found : Found) → reaches place found ≡ true → ⊥
unreached place past found is =
    let within = leb-true place (last found.1) is in
    absurd (omega (arith, within, past))

filter-none : (p : Found → Bool) → ((f : Found) → p f ≡ true → ⊥) → (lanes : List Found) → filter p lanes ≡ []
filter-none p none [] = refl
filter-none p none (f ∷ lanes) = by (p f) refl (filter-none p none lanes)
  where
    by : (x : Bool) → p f ≡ x → filter p lanes ≡ [] → cond x (f ∷ filter p lanes) (filter p lanes) ≡ []
    by true is rest = absurd (none f is)
    by false is rest = rest

pub none-past : (members : ℕ) (lanes : List Found) (place : ℕ) → 2 ^ 64 - 1 < place → Counts members lanes place → ⊥
none-past members lanes place past counts =
    let empty = filter-none (reaches place) (unreached place (omega (arith, past))) lanes in
    absurd (omega (arith, counts, ap length empty))

-- one place more counts, and no two lanes differ there
pub agreed-more : (members : ℕ) (lanes : List Found) (upto : ℕ) → Counts members lanes (upto + 1)
    → AreAlike (upto + 1) lanes → ((place : ℕ) → 1 ≤ place → place ≤ upto → IsAgreed members lanes place)
    → (place : ℕ) → 1 ≤ place → place ≤ upto + 1 → IsAgreed members lanes place
agreed-more members lanes upto counts alike before place first le = by (eq-or-lt_of_le le)
  where
    by : (place ≡ upto + 1) ⊎ (place < upto + 1) → IsAgreed members lanes place
    by (inr lt) = before place first (omega (arith, lt))
    by (inl e) = subst (λ (n : ℕ). IsAgreed members lanes n) (sym e) (record { counts = counts; alike = alike })
