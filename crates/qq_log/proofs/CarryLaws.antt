-- A carry restates exactly the state whose carry it is.
use Rattle.std.proofs.Common.{◌≡◌, ℕ, ◌+◌, ◌-◌, Bool, true, false, eqb, List, length, Option, Some, None, refl, ap, subst, arith}
use Rattle.std.specs.Prelude.{IsTrue, ◌↔◌}
use Rattle.std.specs.Bool.{beq}
use Rattle.std.specs.Cmp.Lexicographic.{pointwise, pointwise_decides}
use Rattle.std.proofs.lemmas.Bool.{and_parts, and_from, eqb-true, eq-eqb, le-leb}
use Rattle.qq_base.specs.declared.ids.NodeId.{NodeId}
use Rattle.qq_base.specs.declared.ids.QueueId.{QueueId}
use Rattle.qq_log.specs.declared.head.SnapshotHead.{SnapshotHead}
use Rattle.qq_log.specs.declared.head.Span.{Span}
use Rattle.qq_log.specs.declared.lane.Carry.{Carry}
use Rattle.qq_log.specs.Same.{same_head, same_span, same_vote, same_carry}
use Rattle.qq_log.specs.Stable.{Stable, carry_of, forget_entries, restates, take_carry}

flag_same : (a b : Bool) → beq a b ≡ true → a ≡ b
flag_same true true e = refl
flag_same true false e = absurd cc
flag_same false true e = absurd cc
flag_same false false e = refl

flag_self : (a : Bool) → beq a a ≡ true
flag_self true = refl
flag_self false = refl

self : (n : ℕ) → eqb n n ≡ true
self n = eq-eqb n n refl

vote_same : (a b : Option NodeId) → same_vote a b ≡ true → a ≡ b
vote_same None None e = refl
vote_same None (Some b) e = absurd cc
vote_same (Some a) None e = absurd cc
vote_same (Some a) (Some b) e = ap (λ (n : ℕ). Some (record { 0 = n })) (eqb-true _ _ e)

vote_self : (a : Option NodeId) → same_vote a a ≡ true
vote_self None = refl
vote_self (Some a) = self a.0

head_same : (a b : SnapshotHead) → same_head a b ≡ true → a ≡ b
head_same a b e =
    let outer = and_parts _ _ e in
    let inner = and_parts _ _ outer.0 in
    let index : a.index.0 ≡ b.index.0 = eqb-true _ _ inner.0 in
    let term : a.term.0 ≡ b.term.0 = eqb-true _ _ inner.1 in
    let through : a.through.0 ≡ b.through.0 = eqb-true _ _ outer.1 in
    λ i. record { index = record { 0 = index i }; term = record { 0 = term i }; through = record { 0 = through i } }

head_self : (a : SnapshotHead) → same_head a a ≡ true
head_self a = and_from _ _ (and_from _ _ (self a.index.0) (self a.term.0)) (self a.through.0)

span_same : (a b : Span) → same_span a b ≡ true → a ≡ b
span_same a b e =
    let third = and_parts _ _ e in
    let second = and_parts _ _ third.0 in
    let first = and_parts _ _ second.0 in
    let file : a.file ≡ b.file = eqb-true _ _ first.0 in
    let segment : a.segment ≡ b.segment = flag_same _ _ first.1 in
    let from : a.first.0 ≡ b.first.0 = eqb-true _ _ second.1 in
    let last : a.last.0 ≡ b.last.0 = eqb-true _ _ third.1 in
    λ i. record { file = file i; segment = segment i; first = record { 0 = from i }; last = record { 0 = last i } }

span_self : (a : Span) → same_span a a ≡ true
span_self a =
    and_from _ _ (and_from _ _ (and_from _ _ (self a.file) (flag_self a.segment)) (self a.first.0)) (self a.last.0)

spans : (xs ys : List Span)
    → (pointwise same_span xs ys ≡ true → xs ≡ ys) × (xs ≡ ys → pointwise same_span xs ys ≡ true)
spans = pointwise_decides (λ a b. (span_same a b, λ e. subst (λ (x : Span). same_span a x ≡ true) e (span_self a)))

carry_same : (a b : Carry) → same_carry a b ≡ true → a ≡ b
carry_same a b e =
    let p7 = and_parts _ _ e in
    let p6 = and_parts _ _ p7.0 in
    let p5 = and_parts _ _ p6.0 in
    let p4 = and_parts _ _ p5.0 in
    let p3 = and_parts _ _ p4.0 in
    let p2 = and_parts _ _ p3.0 in
    let p1 = and_parts _ _ p2.0 in
    let queue : a.queue.0 ≡ b.queue.0 = eqb-true _ _ p1.0 in
    let op : a.op ≡ b.op = eqb-true _ _ p1.1 in
    let term : a.term.0 ≡ b.term.0 = eqb-true _ _ p2.1 in
    let vote : a.vote ≡ b.vote = vote_same _ _ p3.1 in
    let base : a.base ≡ b.base = head_same _ _ p4.1 in
    let snapshot : a.snapshot ≡ b.snapshot = eqb-true _ _ p5.1 in
    let segments : a.segments ≡ b.segments = (spans _ _).0 p6.1 in
    let last : a.last.0 ≡ b.last.0 = eqb-true _ _ p7.1 in
    λ i. record {
      queue = record { 0 = queue i };
      op = op i;
      term = record { 0 = term i };
      vote = vote i;
      base = base i;
      snapshot = snapshot i;
      segments = segments i;
      last = record { 0 = last i };
    }

carry_self : (a : Carry) → same_carry a a ≡ true
carry_self a =
    and_from _ _ (and_from _ _
    (and_from _ _ (and_from _ _
    (and_from _ _ (and_from _ _ (and_from _ _ (self a.queue.0) (self a.op)) (self a.term.0)) (vote_self a.vote))
    (head_self a.base)) (self a.snapshot))
    ((spans a.segments a.segments).1 refl)) (self a.last.0)

pub restates_exactly : (c : Carry) (s : Stable) → IsTrue (restates c s) ↔ (c ≡ carry_of c.queue s)
restates_exactly c s = (
  λ h. carry_same c (carry_of c.queue s) h,
  λ e. subst (λ (x : Carry). same_carry c x ≡ true) e (carry_self c),
)

pub restated : (queue : QueueId) (s : Stable) → take_carry (Some s) (carry_of queue s) ≡ Some s
unfolding take_carry
restated queue s = rw (carry_self (carry_of queue s)) refl

pub begun : (queue : QueueId) (s : Stable) → take_carry None (carry_of queue s) ≡ Some (forget_entries s)
unfolding take_carry
begun queue s =
    let base = s.base.index.0 in
    let n = length s.log in
    let count : base + n - base ≡ n = omega arith in
    rw (le-leb base (base + n) (omega arith), count) refl
