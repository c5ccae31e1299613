use Rattle.std.proofs.Common.{◌≡◌, ℕ, None, is_some, ◌||◌, drop}
use Rattle.qq_base.specs.declared.ids.QueueId.{QueueId}
use Rattle.std.specs.Ordering.{nat_cmp}
use Rattle.std.specs.BTreeMap.{get}
use Rattle.qq_log.specs.Carries.{is_listed}
use Rattle.qq_recover.specs.Table.{state_in}
use Rattle.qq_recover.proofs.table.Table.new.Given as goal

-- the rows so far and the queues that are left are all
abbrev pub invariant-loop-i : goal.invariant-loop-i
invariant-loop-i l = record {
  lists :
      (id : QueueId) → (is_some (get nat_cmp l.rows id.0) || is_listed (drop l.i l.queues) id)
      ≡ is_listed l.queues id;
  empty : (k : ℕ) → state_in (get nat_cmp l.rows k) ≡ None;
}
