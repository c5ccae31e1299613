-- A case that isn't supported: of three logs two have the audit, but not the later entries of each other.
use Rattle.std.proofs.Common.{◌≡◌, ℕ, ◌*◌, ◌<◌, not, eqb, List, [], ◌∷◌, ◌++◌, length, refl, sym, ap, subst, ◌∙◌, arith, inl, inr}
use Rattle.std.proofs.lemmas.Bool.{eq-eqb, false≢true}
use Rattle.qq_base.specs.Fronts.{IsFront}
use Rattle.qq_base.proofs.Fronts.{front-refl, front-trans, same_head, same_tail}
use Rattle.qq_entry.specs.declared.command.Entry.{Entry}
use Rattle.qq_raft_protocol.specs.Example.{three}
use Rattle.qq_raft_protocol.specs.Facts.{add, In, Most, tally}
use Rattle.qq_raft_protocol.specs.Safe.{IsSupported}
use Rattle.qq_raft_protocol.specs.World.{Lane}
use Rattle.qq_raft_protocol.proofs.Logs.{add-same}
use Rattle.qq_raft_protocol.proofs.Majorities.{shared}

-- all but one of three are a majority
others : (x : ℕ) → length three < 2 * tally (λ q. not (eqb q x)) three
    → Most three (λ q. In q three × (q ≡ x → ⊥))
others x many = record {
  counts = λ q. not (eqb q x);
  majority = many;
  each = λ q here passes. (here, λ same. false≢true (sym (ap not (eq-eqb q x same)) ∙ passes));
}

-- a front of a log of one entry begins with it
first-is : (log rest more : List Entry) (a b : Entry) → IsFront (a ∷ more) log → log ≡ b ∷ rest → a ≡ b
first-is log rest more a b front is = sym (same_head b a rest (more ++ front.rest) (sym is ∙ front.is))

-- the second entries of both are the same, where the front has one
front-cases : (x log other : List Entry) (a b c : Entry) (more rest : List Entry) → IsFront x log → IsFront x other
    → log ≡ a ∷ b ∷ more → other ≡ a ∷ c ∷ rest → (b ≡ c → ⊥) → IsFront (a ∷ []) x → x ≡ a ∷ []
front-cases [] log other a b c more rest p q is also differ front =
    absurd (omega (arith, ap length front.is))
front-cases (y ∷ []) log other a b c more rest p q is also differ front =
    ap (λ (z : Entry). z ∷ []) (first-is log (b ∷ more) [] y a p is)
front-cases (y ∷ z ∷ x) log other a b c more rest p q is also differ front =
    let first : z ∷ x ++ p.rest ≡ b ∷ more = sym (same_tail a y (b ∷ more) (z ∷ x ++ p.rest) (sym is ∙ p.is)) in
    let second : z ∷ x ++ q.rest ≡ c ∷ rest = sym (same_tail a y (c ∷ rest) (z ∷ x ++ q.rest) (sym also ∙ q.is)) in
    absurd (differ (sym (same_head z b (x ++ p.rest) more first) ∙ same_head z c (x ++ q.rest) rest second))

-- one of three that isn't one of them is another
one-of : (q x y z : ℕ) (P : ℕ → Type 0) → In q (x ∷ y ∷ z ∷ []) → (q ≡ x → P x) → (q ≡ y → P y) → (q ≡ z → P z)
    → P q
one-of q x y z P here first second third = elim here [
  | inl is ↦ subst P (sym is) (first is)
  | inr later ↦ elim later [
    | inl is ↦ subst P (sym is) (second is)
    | inr last ↦ elim last [ inl is ↦ subst P (sym is) (third is) | inr nobody ↦ absurd nobody ]
  ]
]

pub refused : (lane : ℕ → Lane) (one two three_is five six : Entry) → one.term.0 ≡ 1 → two.term.0 ≡ 2
    → three_is.term.0 ≡ 3 → five.term.0 ≡ 5 → (lane 1).log ≡ one ∷ five ∷ [] → (lane 2).log ≡ one ∷ two ∷ six ∷ []
    → (lane 3).log ≡ three_is ∷ [] → IsSupported three (λ q l. l ≡ lane q) (one ∷ []) → ⊥
refused lane one two third five six of_one of_two of_third of_five a b d s =
    let c = s.carried (one ∷ []) (front-refl (one ∷ [])) [] one refl in
    let x = add c.before c.entry in
    let away : IsFront x (lane 3).log → ⊥ =
    λ front.
    let same : one.term.0 ≡ third.term.0 =
    ap (λ (e : Entry). e.term.0) (first-is (lane 3).log [] [] one third (front-trans c.front front) d) in
    omega (arith, same, of_one, of_third) in
    let p = shared c.majority (others 2 (omega arith)) in
    let q = shared c.majority (others 1 (omega arith)) in
    let in_first : IsFront x (lane 1).log =
    one-of p.who 1 2 3 (λ i. IsFront x (lane i).log → IsFront x (lane 1).log) p.second.0 (λ is front. front)
    (λ is front. absurd (p.second.1 is)) (λ is front. absurd (away front)) (p.first (lane p.who) refl) in
    let in_second : IsFront x (lane 2).log =
    one-of q.who 1 2 3 (λ i. IsFront x (lane i).log → IsFront x (lane 2).log) q.second.0
    (λ is front. absurd (q.second.1 is)) (λ is front. front) (λ is front. absurd (away front))
    (q.first (lane q.who) refl) in
    let alone : x ≡ one ∷ [] =
    front-cases x (lane 1).log (lane 2).log one five two [] (six ∷ []) in_first in_second a b
    (λ same.
    let level : five.term.0 ≡ two.term.0 = ap (λ (e : Entry). e.term.0) same in
    omega (arith, level, of_five, of_two))
    c.front in
    let entry : c.entry ≡ one = (add-same c.before [] c.entry one alone).1 in
    let term : c.entry.term.0 ≡ one.term.0 = ap (λ (e : Entry). e.term.0) entry in
    away (c.later 3 (lane 3) refl [] third (subst (IsFront (third ∷ [])) (sym d) (front-refl (third ∷ [])))
    (omega (arith, term, of_one, of_third)))
