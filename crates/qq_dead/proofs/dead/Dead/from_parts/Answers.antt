use Rattle.std.proofs.Common.{List, sym, subst, arith, rules}
use Rattle.std.specs.Prelude.{nat_le}
use Rattle.std.specs.List.Sorted.{IsNonDecreasingBy}
use Rattle.std.proofs.lemmas.List.Sorted.{IsPartitionPoint-from_clause, IsPartitionedBy-leb}
use Rattle.qq_dead.specs.declared.row.DeadRow.{DeadRow}
use Rattle.qq_dead.specs.Letters.{letters_of, SplitsAt}
use Rattle.qq_dead.proofs.Places.{IsKept, kept-rows, rises-nondecreasing, splits-at}
use Rattle.qq_dead.proofs.dead.Dead.from_parts.Goals as goal

pub invariant_of-result : goal.invariant_of-result
invariant_of-result c =
    let rows : List DeadRow = c.args.rows.items in
    let n = c.partition_point-under_way.result in
    let seen = c.as_slice.ensures.value in
    let parts =
    IsPartitionPoint-from_clause (λ (one : DeadRow). nat_le one.number c.args.given) c.as_slice.result.now n
    c.partition_point-under_way.ensures.partitioned
    (IsPartitionedBy-leb (λ (one : DeadRow). one.number) c.as_slice.result.now c.args.given
    (subst (λ (xs : List DeadRow). IsNonDecreasingBy (λ (one : DeadRow). one.number) xs)
    (sym seen) (rises-nondecreasing rows c.requires.rising)))
    (λ a r f' call. search rules) in
    let kept : IsKept n (letters_of rows c.args.deads c.args.given c.args.attached.0) = (
      c.requires,
      subst (λ (xs : List DeadRow). SplitsAt c.args.given n xs) seen
          (splits-at c.args.given c.as_slice.result.now n c.partition_point-under_way.ensures.bound
          (λ k d lt. parts.0 k d (omega arith) lt) parts.1),
    ) in (
      kept-rows n rows c.from_vec.result.items c.args.deads c.args.given c.args.attached.0 c.from_vec.ensures.items kept,
      kept-rows n rows c.from_vec.result.base c.args.deads c.args.given c.args.attached.0 c.from_vec.ensures.base kept,
    )
