-- A majority of votes: the peers that gave theirs, and the server itself.
use Rattle.std.proofs.Common.{◌≡◌, ℕ, ◌+◌, ◌*◌, ◌≤◌, Bool, true, false, cond, ◌&&◌, ◌||◌, eqb, List, [], ◌∷◌, length, filter, count_by, refl, sym, ap, subst, ◌∙◌, arith, inl, inr}
use Rattle.std.proofs.lemmas.Bool.{cond_both, or_cases, or_left, or_right, and_parts, and_from, eq-eqb, eqb-true, ltb-true, false≢true}
use Rattle.std.proofs.lemmas.List.Sums.{length-filter}
use Rattle.qq_raft_protocol.specs.Facts.{In, Most}
use Rattle.qq_raft_model.specs.declared.peer.Peer.{Peer}
use Rattle.qq_raft_model.specs.Leading.{one_if, is_majority}
use Rattle.qq_raft_model.specs.Refines.{IsGroup}

-- ---- who passes

passes_any : (Peer → Bool) → ℕ → List Peer → Bool
passes_any test q [] = false
passes_any test q (p ∷ ps) = (eqb p.node.0 q && test p) || passes_any test q ps

-- the member is the server and passes, or a peer that does
chosen : Bool → (Peer → Bool) → ℕ → List Peer → ℕ → Bool
chosen own test k peers q = (eqb q k && own) || passes_any test q peers

record Passes (test : Peer → Bool) (q : ℕ) (peers : List Peer) : Type 0 where
  peer : Peer
  here : In peer peers
  node : peer.node.0 ≡ q
  passes : test peer ≡ true

who_passes : (test : Peer → Bool) (q : ℕ) (peers : List Peer) → passes_any test q peers ≡ true
    → Passes test q peers
unfolding passes_any
who_passes test q [] e = absurd (false≢true e)
who_passes test q (p ∷ ps) e =
    elim (or_cases (eqb p.node.0 q && test p) (passes_any test q ps) e) [
      | inl first ↦
          let parts = and_parts (eqb p.node.0 q) (test p) first in
          record { peer = p; here = inl refl; node = eqb-true p.node.0 q parts.0; passes = parts.1 }
      | inr later ↦
          let x = who_passes test q ps later in
          record { peer = x.peer; here = inr x.here; node = x.node; passes = x.passes }
    ]

passes_here : (test : Peer → Bool) (p : Peer) (peers : List Peer) → In p peers → test p ≡ true
    → passes_any test p.node.0 peers ≡ true
unfolding passes_any
passes_here test p [] here e = absurd here
passes_here test p (x ∷ xs) (inl same) e =
    or_left (eqb x.node.0 p.node.0 && test x) (passes_any test p.node.0 xs)
    (and_from (eqb x.node.0 p.node.0) (test x) (eq-eqb x.node.0 p.node.0 (ap (λ (y : Peer). y.node.0) (sym same)))
    (ap test (sym same) ∙ e))
passes_here test p (x ∷ xs) (inr later) e =
    or_right (eqb x.node.0 p.node.0 && test x) (passes_any test p.node.0 xs) (passes_here test p xs later e)

chosen_peer : (own : Bool) (test : Peer → Bool) (k : ℕ) (peers : List Peer) (p : Peer) → In p peers
    → test p ≡ true → chosen own test k peers p.node.0 ≡ true
unfolding chosen
chosen_peer own test k peers p here e =
    or_right (eqb p.node.0 k && own) (passes_any test p.node.0 peers) (passes_here test p peers here e)

chosen_own : (own : Bool) (test : Peer → Bool) (k : ℕ) (peers : List Peer) → own ≡ true
    → chosen own test k peers k ≡ true
unfolding chosen
chosen_own own test k peers e =
    or_left (eqb k k && own) (passes_any test k peers) (and_from (eqb k k) own (eq-eqb k k refl) e)

-- ---- counts

filter_le : (p r : Peer → Bool) (xs : List Peer) → ((x : Peer) → In x xs → p x ≡ true → r x ≡ true)
    → length (filter p xs) ≤ length (filter r xs)
filter_le p r [] each = omega arith
filter_le p r (x ∷ xs) each =
    let rest = filter_le p r xs (λ y here e. each y (inr here) e) in
    cond_both (p x) (x ∷ filter p xs) (filter p xs) (λ ys. length ys ≤ length (filter r (x ∷ xs)))
    (λ e. subst (λ b. length (x ∷ filter p xs) ≤ length (cond b (x ∷ filter r xs) (filter r xs)))
    (sym (each x (inl refl) e)) (omega (arith, rest)))
    (λ _. cond_both (r x) (x ∷ filter r xs) (filter r xs) (λ ys. length (filter p xs) ≤ length ys)
    (λ _. omega (arith, rest)) (λ _. rest))

one_le : (a b : Bool) → (a ≡ true → b ≡ true) → one_if a ≤ one_if b
one_le true b f = subst (λ c. 1 ≤ one_if c) (sym (f refl)) (omega arith)
one_le false b f = omega arith

pub majority : {members : List ℕ} {P : ℕ → Type 0} (own : Bool) (test : Peer → Bool) (k : ℕ) (peers : List Peer)
    → IsGroup members k peers → is_majority own test peers ≡ true → (own ≡ true → P k)
    → ((p : Peer) → In p peers → test p ≡ true → P p.node.0) → Most members P
unfolding chosen
majority {members} {P} own test k peers group e mine others =
    let c = chosen own test k peers in
    let r : Peer → Bool = λ (p : Peer). c p.node.0 in
    let lt = ltb-true (length peers + 1) (2 * (one_if own + count_by test peers)) e in
    let first : one_if own ≤ one_if (c k) = one_le own (c k) (chosen_own own test k peers) in
    let second : length (filter test peers) ≤ length (filter r peers) =
    filter_le test r peers (λ x here passes. chosen_peer own test k peers x here passes) in
    record {
      counts = c;
      majority = omega (
        arith,
        lt,
        first,
        second,
        length-filter test peers,
        length-filter r peers,
        group.count,
        group.each c,
      );
      each = λ q here passes. elim (or_cases (eqb q k && own) (passes_any test q peers) passes) [
        | inl me ↦
            let parts = and_parts (eqb q k) own me in
            subst P (sym (eqb-true q k parts.0)) (mine parts.1)
        | inr peer ↦
            let x = who_passes test q peers peer in
            subst P x.node (others x.peer x.here x.passes)
      ];
    }
