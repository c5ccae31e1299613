-- A lane that ops may come to is what was read of its queue.
use Rattle.std.proofs.Common.{◌≡◌, ℕ, List, [], ◌∷◌, Option, Some, None, map, unwrap_or, refl, sym, ap, ◌∙◌, subst, inl, inr}
use Rattle.std.specs.Prelude.{filter}
use Rattle.qq_base.proofs.Lists.{In as InList}
use Rattle.qq_base.specs.declared.ids.QueueId.{QueueId}
use Rattle.qq_entry.specs.declared.command.Entry.{Entry}
use Rattle.qq_log.specs.Stable.{Stable, known_entries, new_state, no_snapshot}
use Rattle.qq_log.specs.declared.head.Span.{Span}
use Rattle.qq_log.specs.declared.lane.Lane.{Lane}
use Rattle.qq_lots.specs.Left.{state_in}
use Rattle.qq_raft_model.specs.Handing.{plain_state}
use Rattle.qq_raft_model.proofs.Handing.{known-all}
use Rattle.qq_raft_protocol.specs.Facts.{In}
use Rattle.qq_recover.specs.Recovered.{IsLaneFor}
use Rattle.qq_recover.specs.State.{IsPlainLaneOf}
use Rattle.qq_wal_chain.specs.Lanes.{Lanes}
use Rattle.qq_queue.specs.declared.cluster_queue.ClusterQueue.{ClusterQueue}
use Rattle.qq_opening.specs.Opened.{IsOfOpsState}
use Rattle.qq_opening.specs.Opening.{told_of}
use Rattle.qq_opening.specs.Taking.{AllChange, IsOfOps, TakesUpOne, lane_base, lane_state, pair_index}
use Rattle.qq_opening.specs.declared.taking.Handed.{Handed}

told-lane : (s : Stable) (lane : Lane) → IsPlainLaneOf s lane → lane.base ≡ no_snapshot
    → plain_state lane.op lane.term lane.vote lane.entries ≡ told_of s
told-lane s lane is none =
    let segments : [] ≡ s.segments =
    ap (filter (λ (span : Span). span.segment)) (sym is.places) ∙ is.state.segments in
    let base : no_snapshot ≡ s.base = sym none ∙ is.state.base in
    λ i. record {
      op = is.state.op i;
      term = is.state.term i;
      vote = is.state.vote i;
      base = base i;
      snapshot = 0;
      log = is.state.entries i;
      segments = segments i;
    }

-- a lane tells its state, but for the number of a snapshot's file
pub lane-read : (id : QueueId) (lanes : Lanes) (lane : Option Lane) → IsLaneFor id (lanes id.0) lane
    → lane_base lane ≡ no_snapshot → lane_state lane ≡ told_of (state_in lanes id)
lane-read id lanes lane is none = by (lanes id.0) lane is none
  where
    by : (o : Option Stable) (l : Option Lane) → IsLaneFor id o l → lane_base l ≡ no_snapshot
        → lane_state l ≡ told_of (unwrap_or o new_state)
    by None None is none = refl
    by (Some s) (Some l) is none = told-lane s l is.1 none
    by None (Some l) is none = absurd is
    by (Some s) None is none = absurd is

-- what was read is what ops may come to, where the lane is
pub lane-of_ops : (id : QueueId) (lanes : Lanes) (lane : Option Lane) → IsLaneFor id (lanes id.0) lane
    → IsOfOps lane → IsOfOpsState (state_in lanes id)
lane-of_ops id lanes lane is of_ops = by (lanes id.0) lane is of_ops
  where
    by : (o : Option Stable) (l : Option Lane) → IsLaneFor id o l → IsOfOps l → IsOfOpsState (unwrap_or o new_state)
    by None None is of = record { base = refl; segments = refl; known = refl; unused = λ none. refl }
    by (Some s) (Some l) is of =
        let same : plain_state l.op l.term l.vote l.entries ≡ told_of s = told-lane s l is.1 of.base in
        record {
          base = sym is.1.state.base ∙ of.base;
          segments = sym (ap (filter (λ (span : Span). span.segment)) (sym is.1.places) ∙ is.1.state.segments);
          known = sym is.1.state.entries
              ∙ ap (λ (l : List Entry). map Some l)
              (sym (ap known_entries (sym is.1.state.entries) ∙ known-all l.entries));
          unused = λ none. sym same ∙ of.unused (is.1.state.op ∙ none);
        }
    by None (Some l) is of = absurd is
    by (Some s) None is of = absurd is

-- and the other way round
pub lane-from : (id : QueueId) (lanes : Lanes) (lane : Option Lane) → IsLaneFor id (lanes id.0) lane
    → (state_in lanes id).base ≡ no_snapshot
    → ((state_in lanes id).op ≡ 0 → told_of (state_in lanes id) ≡ new_state) → IsOfOps lane
lane-from id lanes lane is base unused = by (lanes id.0) lane is base unused
  where
    by : (o : Option Stable) (l : Option Lane) → IsLaneFor id o l → (unwrap_or o new_state).base ≡ no_snapshot
        → ((unwrap_or o new_state).op ≡ 0 → told_of (unwrap_or o new_state) ≡ new_state) → IsOfOps l
    by None None is base unused = record { base = refl; unused = λ none. refl }
    by (Some s) (Some l) is base unused =
        let none : l.base ≡ no_snapshot = is.1.state.base ∙ base in
        record {
          base = none;
          unused = λ op. told-lane s l is.1 none ∙ unused (sym is.1.state.op ∙ op);
        }
    by None (Some l) is base unused = absurd is
    by (Some s) None is base unused = absurd is

-- ---- of all lanes that were taken up

-- each of the pairs was
pub all-taken : (k : ℕ) (handed : Handed) (xs : List (QueueId × Option Lane)) (olds news : List ClusterQueue)
    → AllChange pair_index (TakesUpOne k handed) xs olds news → (y : QueueId × Option Lane) → In y xs
    → (a : ClusterQueue) × (b : ClusterQueue) × TakesUpOne k handed y a b
all-taken k handed [] olds news all y here = absurd here
all-taken k handed (x ∷ xs) olds news (mid, first, rest) y (inl same) = (
  first.old,
  first.new,
  subst (λ (z : QueueId × Option Lane). TakesUpOne k handed z first.old first.new) (sym same)
      first.does,
)
all-taken k handed (x ∷ xs) olds news (mid, first, rest) y (inr later) = all-taken k handed xs mid news rest y later

pub to-in : {A : Type 0} (x : A) (xs : List A) → In x xs → InList x xs
to-in x [] here = here
to-in x (y ∷ ys) (inl same) = inl same
to-in x (y ∷ ys) (inr later) = inr (to-in x ys later)

pub from-in : {A : Type 0} (x : A) (xs : List A) → InList x xs → In x xs
from-in x [] here = here
from-in x (y ∷ ys) (inl same) = inl same
from-in x (y ∷ ys) (inr later) = inr (from-in x ys later)
