-- There are logs that are what was read.
use Rattle.std.proofs.Common.{◌≡◌, ◌+◌, ℕ, zero, suc, Bool, true, false, cond, List, [], ◌∷◌, Option, Some, None, length, refl, sym, ap, ◌∙◌, subst, arith}
use Rattle.std.specs.Prelude.{slice_get}
use Rattle.std.specs.List.{AllByRecursion}
use Rattle.qq_base.specs.declared.ids.QueueId.{QueueId}
use Rattle.qq_log.specs.Stable.{new_state, stable}
use Rattle.qq_log.specs.declared.op.Op.{Op}
use Rattle.qq_lots.proofs.Counts.{state-count}
use Rattle.qq_lots.specs.Left.{state_in}
use Rattle.qq_raft_protocol.specs.Facts.{In}
use Rattle.qq_route.specs.declared.queue_row.QueueRow.{QueueRow}
use Rattle.qq_wal_chain.specs.Lanes.{Lanes}
use Rattle.qq_cluster_laws.specs.Waiting.{IsChangeOf}
use Rattle.qq_cluster.specs.Setting.{ids_on, is_among}
use Rattle.qq_opening.specs.Opened.{IsOfOpsState}
use Rattle.qq_opening.specs.Opening.{AreLogsOf, AreReadLogs, Logs, state_read}
use Rattle.qq_opening.proofs.Canonical.{state-come, state-own, state_ops}

-- ---- a log

abbrev pub row_at : List QueueRow → ℕ → Option QueueRow
row_at rows zero = None
row_at rows (suc at) = slice_get rows at

pub row-next : (rows : List QueueRow) (at : ℕ) → row_at rows (at + 1) ≡ slice_get rows at
row-next rows at = ap (row_at rows) (let e : at + 1 ≡ suc at = omega arith in e)

abbrev pub ops_by : Option Lanes → QueueId → List Op
ops_by None id = []
ops_by (Some lanes) id = state_ops id (state_in lanes id)

abbrev pub logs_by : Option QueueRow → Option Lanes → ℕ → List Op
logs_by None lanes k = []
logs_by (Some row) lanes k = cond (is_among k row.members) (ops_by lanes row.args.queue) []

abbrev pub logs_read : List QueueRow → (ℕ → Option Lanes) → Logs
logs_read rows lanes place k = logs_by (row_at rows place) (lanes k) k

logs-at : (rows : List QueueRow) (lanes : ℕ → Option Lanes) (at k : ℕ) (row : QueueRow) → slice_get rows at ≡ Some row
    → logs_read rows lanes (at + 1) k ≡ cond (is_among k row.members) (ops_by (lanes k) row.args.queue) []
logs-at rows lanes at k row here = ap (λ (o : Option QueueRow). logs_by o (lanes k) k) (row-next rows at ∙ here)

ops-own : (lanes : Option Lanes) (id : QueueId) → AllByRecursion (IsChangeOf id) (ops_by lanes id)
ops-own None id = tt
ops-own (Some lanes) id = state-own id (state_in lanes id)

own-if : (b : Bool) (lanes : Option Lanes) (id : QueueId) → AllByRecursion (IsChangeOf id) (cond b (ops_by lanes id) [])
own-if true lanes id = ops-own lanes id
own-if false lanes id = tt

none-if : (b : Bool) (ops : List Op) → (b ≡ true → ⊥) → cond b ops [] ≡ []
none-if true ops other = absurd (other refl)
none-if false ops other = refl

pub read-logs : (rows : List QueueRow) (lanes : ℕ → Option Lanes) → AreLogsOf rows (logs_read rows lanes)
read-logs rows lanes = record {
  own = λ at k row here. subst (AllByRecursion (IsChangeOf row.args.queue)) (sym (logs-at rows lanes at k row here))
      (own-if (is_among k row.members) (lanes k) row.args.queue);
  others = others;
}
  where
    others : (place k : ℕ)
        → ((at : ℕ) (row : QueueRow) → place ≡ at + 1 → slice_get rows at ≡ Some row
        → is_among k row.members ≡ true → ⊥)
        → logs_read rows lanes place k ≡ []
    others zero k none = refl
    others (suc at) k none = by (slice_get rows at) refl
      where
        by : (o : Option QueueRow) → slice_get rows at ≡ o → logs_by o (lanes k) k ≡ []
        by None is = refl
        by (Some row) is =
            none-if (is_among k row.members) (ops_by (lanes k) row.args.queue)
            (λ member. none at row (let e : suc at ≡ at + 1 = omega arith in e) is member)

-- ---- they come to what was read

ops-come : (lanes : Option Lanes) (id : QueueId)
    → ((l : Lanes) → lanes ≡ Some l → IsOfOpsState (state_in l id))
    → stable (ops_by lanes id) ≡ Some (state_read lanes id)
ops-come None id of_ops = refl
ops-come (Some l) id of_ops = state-come id (state_in l id) (of_ops l refl)

pub logs-come : (rows : List QueueRow) (first : List ℕ) (lanes : ℕ → Option Lanes)
    → ((k : ℕ) (l : Lanes) (id : QueueId) → In k first → lanes k ≡ Some l → In id (ids_on rows k)
    → IsOfOpsState (state_in l id))
    → ((k at : ℕ) (row : QueueRow) → slice_get rows at ≡ Some row → is_among k row.members ≡ true
    → In row.args.queue (ids_on rows k))
    → AreReadLogs rows first lanes (logs_read rows lanes)
logs-come rows first lanes of_ops has k at row among here member =
    ap stable (logs-at rows lanes at k row here
    ∙ ap (λ (b : Bool). cond b (ops_by (lanes k) row.args.queue) []) member)
    ∙ ops-come (lanes k) row.args.queue (λ l is. of_ops k l row.args.queue among is (has k at row here member))

-- ---- ops that come to a new state are none

pub none-come : (ops : List Op) → stable ops ≡ Some new_state → ops ≡ []
none-come ops is = by ops (sym (state-count ops new_state is))
  where
    by : (l : List Op) → length l ≡ 0 → l ≡ []
    by [] none = refl
    by (op ∷ l) none = absurd (omega (arith, none))
