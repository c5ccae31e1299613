-- Majorities share a member.
use Rattle.std.proofs.Common.{◌≡◌, ◌⊎◌, ℕ, ◌+◌, ◌<◌, Bool, true, false, cond, List, [], ◌∷◌, length, refl, sym, ap, subst, ◌∙◌, arith, inl, inr}
use Rattle.std.proofs.lemmas.Bool.{false≢true}
use Rattle.qq_raft_protocol.specs.Facts.{In, tally, Most}

pub record Shared (members : List ℕ) (P Q : ℕ → Type 0) : Type 0 where
  pub who : ℕ
  pub here : In who members
  pub first : P who
  pub second : Q who

-- two tests that many members pass
record Both (members : List ℕ) (p r : ℕ → Bool) : Type 0 where
  who : ℕ
  here : In who members
  first : p who ≡ true
  second : r who ≡ true

later : (m : ℕ) (ms : List ℕ) (p r : ℕ → Bool) → Both ms p r → Both (m ∷ ms) p r
later m ms p r b = record { who = b.who; here = inr b.here; first = b.first; second = b.second }

both_by : (m : ℕ) (ms : List ℕ) (p r : ℕ → Bool) (x y : Bool) → p m ≡ x → r m ≡ y
    → (length ms < tally p ms + tally r ms → Both ms p r)
    → length ms + 1 < cond x (1 + tally p ms) (tally p ms) + cond y (1 + tally r ms) (tally r ms)
    → Both (m ∷ ms) p r
both_by m ms p r true true e f rest lt = record { who = m; here = inl refl; first = e; second = f }
both_by m ms p r true false e f rest lt = later m ms p r (rest (omega (arith, lt)))
both_by m ms p r false true e f rest lt = later m ms p r (rest (omega (arith, lt)))
both_by m ms p r false false e f rest lt = later m ms p r (rest (omega (arith, lt)))

both : (ms : List ℕ) (p r : ℕ → Bool) → length ms < tally p ms + tally r ms → Both ms p r
both [] p r lt = absurd (omega (arith, lt))
both (m ∷ ms) p r lt = both_by m ms p r (p m) (r m) refl refl (both ms p r) (omega (arith, lt))

pub shared : {members : List ℕ} {P Q : ℕ → Type 0} → Most members P → Most members Q → Shared members P Q
shared {members} {P} {Q} a b =
    let x = both members a.counts b.counts (omega (arith, a.majority, b.majority)) in
    record {
      who = x.who;
      here = x.here;
      first = a.each x.who x.here x.first;
      second = b.each x.who x.here x.second;
    }

pub Most-map : {members : List ℕ} {P Q : ℕ → Type 0} → ((q : ℕ) → P q → Q q) → Most members P → Most members Q
Most-map f a =
    record { counts = a.counts; majority = a.majority; each = λ q here passes. f q (a.each q here passes) }

-- ---- a choice over all members that are counted

pick : {A : Type 0} {B : ℕ → Type 0} (m : ℕ) (ms : List ℕ) (p : ℕ → Bool) (x : Bool) → p m ≡ x
    → (p m ≡ true → A ⊎ B m) → A ⊎ ((q : ℕ) → In q ms → p q ≡ true → B q)
    → A ⊎ ((q : ℕ) → In q (m ∷ ms) → p q ≡ true → B q)
pick m ms p x e first (inl a) = inl a
pick {A} {B} m ms p true e first (inr rest) =
    elim (first e) [
      | inl a ↦ inl a
      | inr b ↦ inr (λ q here passes. elim here [
        | inl same ↦ subst B (sym same) b
        | inr later ↦ rest q later passes
      ])
    ]
pick {A} {B} m ms p false e first (inr rest) =
    inr (λ q here passes. elim here [
      | inl same ↦ absurd (false≢true (sym e ∙ ap p (sym same) ∙ passes))
      | inr later ↦ rest q later passes
    ])

pub choose : {A : Type 0} {B : ℕ → Type 0} (ms : List ℕ) (p : ℕ → Bool)
    → ((q : ℕ) → In q ms → p q ≡ true → A ⊎ B q) → A ⊎ ((q : ℕ) → In q ms → p q ≡ true → B q)
choose [] p f = inr (λ q here passes. absurd here)
choose {A} {B} (m ∷ ms) p f =
    pick {A = A} {B = B} m ms p (p m) refl (f m (inl refl)) (choose ms p (λ q here. f q (inr here)))
