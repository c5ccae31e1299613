-- Where recovered queues go on.
use Rattle.std.proofs.Common.{◌≡◌, ◌≤◌, ◌+◌, ◌&&◌, ℕ, true, eqb, leb, List, Option, Some, None, refl, sym, ap, ◌∙◌, unwrap_or}
use Rattle.std.proofs.lemmas.Bool.{and_from, eq-eqb, le-leb}
use Rattle.qq_base.specs.Fronts.{IsFront}
use Rattle.qq_base.specs.declared.ids.Index.{Index}
use Rattle.qq_base.specs.declared.ids.NodeId.{NodeId}
use Rattle.qq_base.specs.declared.ids.QueueId.{QueueId}
use Rattle.qq_base.specs.declared.ids.Term.{Term}
use Rattle.qq_entry.specs.declared.command.Entry.{Entry}
use Rattle.qq_disk.specs.Disk.{Disk}
use Rattle.qq_log.specs.Carries.{GoesOn, carry_or_new, follows_carry, is_listed}
use Rattle.qq_log.specs.declared.lane.Carry.{Carry}
use Rattle.qq_log.specs.declared.op.Op.{Op}
use Rattle.qq_log.specs.declared.op.Op.TheVariants.{Change}
use Rattle.qq_log.specs.Stable.{Stable, last_index, new_state, stable}
use Rattle.qq_wal_chain.specs.Lanes.{Lanes, of_queue}
use Rattle.qq_wal_chain.specs.Laws.{HoldsOps, KeepsPromise}
use Rattle.qq_wal_chain.proofs.Gives.{state-given}
use Rattle.qq_wal.specs.Notices.{synced_in}
use Rattle.qq_wal.specs.Running.{top}
use Rattle.qq_wal.specs.Wal.{carries_ahead}
use Rattle.qq_wal.proofs.Agreeing.{or-new}
use Rattle.qq_recover.specs.declared.recovered.Recovered.{Recovered}
use Rattle.qq_recover.specs.Recovered.{KnowsLanes, lanes_left, last_op, wal_of}
use Rattle.qq_recover.specs.Recovery.{SettlesLanes}

pub settled-on : (queues : List QueueId) (noticed given : List Op) (lanes : Lanes) (d : Disk)
    → SettlesLanes queues noticed given lanes d → (ops : List Op) × IsFront noticed ops × IsFront ops given
    × HoldsOps queues top ops d × KeepsPromise queues top ops ops d
    × ((id : ℕ) → stable (of_queue id ops) ≡ Some (unwrap_or (lanes id) new_state))
settled-on queues noticed given lanes d s = (
  s.ops,
  s.held,
  s.front,
  s.holds,
  s.promise,
  λ id. sym (state-given (of_queue id s.ops) (lanes id) (s.each id)),
)

pub next-goes_on : {D : Type 0} (queues : List QueueId) (r : Recovered D) (id : QueueId) (n : ℕ) (term : Term)
    (vote : Option NodeId) (keep : Index) (entries : List Entry) → KnowsLanes queues r
    → is_listed queues id ≡ true → n ≡ (unwrap_or (lanes_left r id.0) new_state).op + 1
    → (unwrap_or (lanes_left r id.0) new_state).base.index.0 ≤ keep.0
    → keep.0 ≤ last_index (unwrap_or (lanes_left r id.0) new_state)
    → GoesOn queues (carries_ahead (wal_of r)) (Change id n term vote keep entries)
next-goes_on queues r id n term vote keep entries k listed number base last =
    let s = unwrap_or (lanes_left r id.0) new_state in
    let op = Change id n term vote keep entries in
    record {
      listed = listed;
      follows =
          ap (λ (o : Option Carry). follows_carry (carry_or_new o id) op) (k.ahead id listed)
          ∙ ap (λ (c : Carry). follows_carry c op) (or-new id (lanes_left r id.0))
          ∙ and_from (eqb n (s.op + 1)) (leb s.base.index.0 keep.0 && leb keep.0 (last_index s))
          (eq-eqb n (s.op + 1) number)
          (and_from (leb s.base.index.0 keep.0) (leb keep.0 (last_index s)) (le-leb s.base.index.0 keep.0 base)
          (le-leb keep.0 (last_index s) last));
    }

last-op : (o : Option Stable) → last_op o ≡ (unwrap_or o new_state).op
last-op None = refl
last-op (Some s) = refl

pub synced-lane : {D : Type 0} (queues : List QueueId) (r : Recovered D) (id : QueueId) → KnowsLanes queues r
    → is_listed queues id ≡ true → synced_in (wal_of r).marks id ≡ (unwrap_or (lanes_left r id.0) new_state).op
synced-lane queues r id k listed = k.synced id listed ∙ last-op (lanes_left r id.0)
