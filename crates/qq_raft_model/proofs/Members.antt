-- A member and the others of a group whose nodes differ are the group.
use Rattle.std.proofs.Common.{◌≡◌, ℕ, suc, ◌+◌, Bool, true, false, cond, not, eqb, List, [], ◌∷◌, length, map, filter, count_by, refl, sym, ap, ◌∙◌, arith, inl, inr}
use Rattle.std.proofs.lemmas.Bool.{cases_Bool, cond-true, cond-false, eq-eqb, ne_eqb, eqb-true, false≢true, or_cases}
use Rattle.std.proofs.lemmas.List.{length-map}
use Rattle.std.proofs.lemmas.List.Sums.{length-filter}
use Rattle.qq_base.specs.declared.ids.NodeId.{NodeId}
use Rattle.qq_raft_protocol.specs.Facts.{In, tally}
use Rattle.qq_raft_model.specs.declared.peer.Peer.{Peer}
use Rattle.qq_raft_model.specs.Handing.{peer_number}
use Rattle.qq_raft_model.specs.Leading.{one_if}
use Rattle.qq_raft_model.specs.Refines.{number, IsGroup}
use Rattle.qq_raft_model.specs.Server.{new_peer}
use Rattle.qq_raft_model.specs.Group.{has_node}
use Rattle.qq_raft_model.specs.Promises.{AreDistinct}

-- the nodes but for one
abbrev others : ℕ → List NodeId → List NodeId
others k nodes = filter (λ (q : NodeId). not (eqb q.0 k)) nodes

-- how many of these pass a test
abbrev passing : (ℕ → Bool) → List NodeId → ℕ
passing test nodes = length (filter (λ (q : NodeId). test q.0) nodes)

tally-cons : (test : ℕ → Bool) (x : ℕ) (xs : List ℕ) → tally test (x ∷ xs) ≡ one_if (test x) + tally test xs
tally-cons test x xs = by_test (test x)
  where
    by_test : (b : Bool) → cond b (1 + tally test xs) (tally test xs) ≡ one_if b + tally test xs
    by_test true = omega arith
    by_test false = omega arith

passing-cons : (test : ℕ → Bool) (q : NodeId) (qs : List NodeId)
    → passing test (q ∷ qs) ≡ one_if (test q.0) + passing test qs
passing-cons test q qs = by_test (test q.0)
  where
    by_test : (b : Bool)
        → length (cond b (q ∷ filter (λ (x : NodeId). test x.0) qs) (filter (λ (x : NodeId). test x.0) qs))
        ≡ one_if b + length (filter (λ (x : NodeId). test x.0) qs)
    by_test true = omega arith
    by_test false = omega arith

mapped-filter : {A B : Type 0} (test : B → Bool) (f : A → B) (xs : List A)
    → filter test (map f xs) ≡ map f (filter (λ (x : A). test (f x)) xs)
mapped-filter test f [] = refl
mapped-filter {A = A} {B = B} test f (x ∷ xs) = by_test (test (f x)) (mapped-filter test f xs)
  where
    by_test : (b : Bool) → filter test (map f xs) ≡ map f (filter (λ (y : A). test (f y)) xs)
        → cond b (f x ∷ filter test (map f xs)) (filter test (map f xs))
        ≡ map f (cond b (x ∷ filter (λ (y : A). test (f y)) xs) (filter (λ (y : A). test (f y)) xs))
    by_test true rest = ap (λ (l : List B). f x ∷ l) rest
    by_test false rest = rest

others-cons : (k : ℕ) (q : NodeId) (qs : List NodeId) → (q.0 ≡ k → ⊥) → others k (q ∷ qs) ≡ q ∷ others k qs
others-cons k q qs other =
    cond-true (not (eqb q.0 k)) (q ∷ others k qs) (others k qs) (ap not (ne_eqb q.0 k other))

others-own : (k : ℕ) (q : NodeId) (qs : List NodeId) → q.0 ≡ k → others k (q ∷ qs) ≡ others k qs
others-own k q qs same =
    cond-false (not (eqb q.0 k)) (q ∷ others k qs) (others k qs) (ap not (eq-eqb q.0 k same))

abbrev Absent : ℕ → List NodeId → Type 0
Absent k nodes = (m : NodeId) → In m nodes → m.0 ≡ k → ⊥

absent-tally : (test : ℕ → Bool) (k : ℕ) (nodes : List NodeId) → Absent k nodes
    → tally test (map number nodes) ≡ passing test (others k nodes)
absent-tally test k [] absent = refl
absent-tally test k (q ∷ qs) absent =
    tally-cons test q.0 (map number qs)
    ∙ ap (λ (n : ℕ). one_if (test q.0) + n) (absent-tally test k qs (λ m here. absent m (inr here)))
    ∙ sym (ap (passing test) (others-cons k q qs (absent q (inl refl))) ∙ passing-cons test q (others k qs))

swap : (a b c : ℕ) → a + (b + c) ≡ b + (a + c)
swap a b c = omega arith

member-tally : (test : ℕ → Bool) (k : ℕ) (nodes : List NodeId) → AreDistinct nodes → has_node k nodes ≡ true
    → tally test (map number nodes) ≡ one_if (test k) + passing test (others k nodes)
member-tally test k [] distinct e = absurd (false≢true e)
member-tally test k (q ∷ qs) distinct e = elim (cases_Bool (eqb q.0 k)) [
  | inl own ↦
      let same : q.0 ≡ k = eqb-true q.0 k own in
      let absent : Absent k qs = λ m here is. distinct.0 m here (is ∙ sym same) in
      tally-cons test q.0 (map number qs)
      ∙ ap (λ (i : ℕ). one_if (test i) + tally test (map number qs)) same
      ∙ ap (λ (n : ℕ). one_if (test k) + n) (absent-tally test k qs absent)
      ∙ sym (ap (λ (l : List NodeId). one_if (test k) + passing test l) (others-own k q qs same))
  | inr other ↦
      let differs : q.0 ≡ k → ⊥ = λ same. false≢true (sym other ∙ eq-eqb q.0 k same) in
      let later : has_node k qs ≡ true =
      elim (or_cases (eqb q.0 k) (has_node k qs) e) [
        | inl own ↦ absurd (false≢true (sym other ∙ own))
        | inr there ↦ there
      ] in
      let second : passing test (others k (q ∷ qs)) ≡ one_if (test q.0) + passing test (others k qs) =
      ap (passing test) (others-cons k q qs differs) ∙ passing-cons test q (others k qs) in
      tally-cons test q.0 (map number qs)
      ∙ ap (λ (n : ℕ). one_if (test q.0) + n) (member-tally test k qs distinct.1 later)
      ∙ swap (one_if (test q.0)) (one_if (test k)) (passing test (others k qs))
      ∙ ap (λ (n : ℕ). one_if (test k) + n) (sym second)
]

next : (a b : ℕ) → a ≡ b → suc a ≡ 1 + b
next a b e = omega (arith, e)

-- how many members there are
members-length : (nodes : List NodeId) → length (map number nodes) ≡ tally (λ q. true) (map number nodes)
members-length [] = refl
members-length (n ∷ nodes) =
    next (length (map number nodes)) (tally (λ q. true) (map number nodes)) (members-length nodes)

peers-count : (test : ℕ → Bool) (k : ℕ) (nodes : List NodeId)
    → count_by (λ (p : Peer). test p.node.0) (map new_peer (others k nodes)) ≡ passing test (others k nodes)
peers-count test k nodes =
    let t : Peer → Bool = λ (p : Peer). test p.node.0 in
    sym (length-filter t (map new_peer (others k nodes)))
    ∙ ap length (mapped-filter t new_peer (others k nodes))
    ∙ length-map (filter (λ (q : NodeId). test q.0) (others k nodes)) new_peer

all_pass : (nodes : List NodeId) → passing (λ q. true) nodes ≡ length nodes
all_pass [] = refl
all_pass (n ∷ nodes) = ap suc (all_pass nodes)

pub new-group : (k : ℕ) (nodes : List NodeId) → AreDistinct nodes → has_node k nodes ≡ true
    → IsGroup (map number nodes) k (map new_peer (filter (λ (q : NodeId). not (eqb q.0 k)) nodes))
new-group k nodes distinct here =
    let rest = others k nodes in
    let all : tally (λ q. true) (map number nodes) ≡ 1 + passing (λ q. true) rest =
    member-tally (λ q. true) k nodes distinct here in
    let size : length (map number nodes) ≡ 1 + length rest =
    members-length nodes ∙ all ∙ ap (λ (i : ℕ). 1 + i) (all_pass rest) in
    let peers : length (map new_peer rest) ≡ length rest = length-map rest new_peer in
    record {
      count = omega (arith, size, peers);
      each = λ test.
          member-tally test k nodes distinct here
          ∙ ap (λ (n : ℕ). one_if (test k) + n) (sym (peers-count test k nodes));
    }

-- ---- peers that are the same nodes

counts-same : (test : ℕ → Bool) (ps qs : List Peer) → map peer_number qs ≡ map peer_number ps
    → count_by (λ (p : Peer). test p.node.0) qs ≡ count_by (λ (p : Peer). test p.node.0) ps
counts-same test ps qs same =
    let t : Peer → Bool = λ (p : Peer). test p.node.0 in
    let through : (xs : List Peer) → count_by t xs ≡ length (filter test (map peer_number xs)) =
    λ xs.
    sym (length-filter t xs) ∙ sym (length-map (filter t xs) peer_number)
    ∙ sym (ap length (mapped-filter test peer_number xs)) in
    through qs ∙ ap (λ (l : List ℕ). length (filter test l)) same ∙ sym (through ps)

pub same-group : {members : List ℕ} {k : ℕ} (ps qs : List Peer) → map peer_number qs ≡ map peer_number ps
    → IsGroup members k ps → IsGroup members k qs
same-group {k = k} ps qs same group =
    let long : length qs ≡ length ps =
    sym (length-map qs peer_number) ∙ ap length same ∙ length-map ps peer_number in
    record {
      count = group.count ∙ ap (λ (n : ℕ). n + 1) (sym long);
      each = λ test. group.each test ∙ ap (λ (n : ℕ). one_if (test k) + n) (sym (counts-same test ps qs same));
    }
