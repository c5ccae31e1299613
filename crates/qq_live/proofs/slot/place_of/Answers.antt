use Rattle.std.proofs.Common.{arith, rules, ◌≡◌, ℕ, ◌-◌, deque_len, get_or, subst, sym}
use Rattle.std.specs.Prelude.{nat_lt}
use Rattle.std.proofs.lemmas.List.Sorted.{IsPartitionPoint-from_clause, IsPartitionedBy-ltb}
use Rattle.qq_live.specs.declared.slot.Slot.{Slot}
use Rattle.qq_live.proofs.Places.{rises-nondecreasing, place-behind, place-is}
use Rattle.qq_live.proofs.slot.place_of.Goals as goal

pub returns : goal.returns
returns c =
    let slots = c.args.slots.now.items in
    let parts =
    IsPartitionPoint-from_clause (λ (slot : Slot). nat_lt slot.index.0 c.args.index.0) slots c.partition_point.result
    c.partition_point.ensures.partitioned
    (IsPartitionedBy-ltb (λ (slot : Slot). slot.index.0) slots c.args.index.0 (rises-nondecreasing slots c.requires))
    (λ a r f' call. search rules) in
    place-is c.args.index slots c.partition_point.result (omega (arith, c.partition_point.ensures.bound))
    (λ k d lt. parts.0 k d (omega arith) lt) parts.1

pub returns-then-last-index : goal.returns-then-last-index
returns-then-last-index c =
    let slots = c.args.slots.now in
    let long : c.len.result ≡ deque_len slots = c.len.ensures in
    let is : c.in-Some.last.now ≡ get_or slots.items (c.len.result - 1) c.in-Some.last.now =
    subst (λ (n : ℕ). c.in-Some.last.now ≡ get_or slots.items (n - 1) c.in-Some.last.now) (sym long)
    c.in-Some.ensures.lookup in
    place-behind c.args.index slots.items c.len.result c.in-Some.last.now c.requires (omega (arith, long))
    (search rules) is c.if-last-index.true
