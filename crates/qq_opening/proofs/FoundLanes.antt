-- What was found of a queue is a state, and each queue of a log has its lane.
use Rattle.std.proofs.Common.{◌≡◌, ◌≢◌, ◌<◌, ◌-◌, ℕ, Bool, true, false, cond, List, [], ◌∷◌, Option, Some, None, length, map, take, unwrap_or, refl, sym, ap, ◌∙◌, subst, inl, inr, arith}
use Rattle.std.specs.Prelude.{filter, fold}
use Rattle.std.specs.List.{AllByRecursion}
use Rattle.std.proofs.lemmas.Bool.{cond_both}
use Rattle.qq_base.proofs.Fronts.{all-front, front-take}
use Rattle.qq_base.proofs.Lists.{AllByRecursion-filter, AllByRecursion-in, AllByRecursion-map, In as InList}
use Rattle.qq_base.specs.declared.ids.QueueId.{QueueId}
use Rattle.qq_log.specs.Above.{last_above}
use Rattle.qq_log.specs.Op.{number}
use Rattle.qq_log.specs.Stable.{Stable, act, apply_op, apply_ops, change, follows, may_keep, new_state, no_snapshot, stable, then_apply}
use Rattle.qq_log.specs.declared.head.Span.{Span}
use Rattle.qq_log.specs.declared.lane.Lane.{Lane}
use Rattle.qq_log.specs.declared.op.Op.{Op}
use Rattle.qq_log.specs.declared.op.Op.TheVariants.{Change, SegmentMade, SnapshotMade}
use Rattle.qq_lots.specs.Left.{state_in}
use Rattle.qq_node_log.specs.Ends.{end_of}
use Rattle.qq_node_log.specs.Found.{AreDistinct, AreLanes}
use Rattle.qq_raft_model.specs.Handing.{plain_state}
use Rattle.qq_raft_protocol.specs.Facts.{In}
use Rattle.qq_recover.specs.Recovered.{IsLaneFor}
use Rattle.qq_recover.specs.State.{IsPlainLaneOf}
use Rattle.qq_wal_chain.specs.Lanes.{Lanes}
use Rattle.qq_cluster_model.specs.Cluster.{Setup}
use Rattle.qq_cluster_laws.specs.Waiting.{AreApart as PlacesApart, IsChangeOf}
use Rattle.qq_opening.specs.Taking.{lane_base, lane_state, pair_index, pairs}
use Rattle.qq_opening.proofs.Changing.{AreApart}

-- ---- changes make no snapshot

-- a state has the same snapshot
record KeepsBase (s u : Stable) : Type 0 where
  base : u.base ≡ s.base
  snapshot : u.snapshot ≡ s.snapshot

chosen : (b : Bool) (x u : Stable) → cond b (Some x) None ≡ Some u → x ≡ u
chosen true x u is = cc
chosen false x u is = absurd cc

act-base : (id : QueueId) (s u : Stable) (op : Op) → IsChangeOf id op → act s op ≡ Some u → KeepsBase s u
unfolding change
act-base id s u (Change own op term vote keep entries) mine is =
    let same = chosen (may_keep s keep.0) (change s term vote keep.0 entries) u is in
    record {
      base = ap (λ (t : Stable). t.base) (sym same);
      snapshot = ap (λ (t : Stable). t.snapshot) (sym same);
    }
act-base id s u (SnapshotMade own op head file) mine is = absurd mine
act-base id s u (SegmentMade own op file first last) mine is = absurd mine

apply_op-base : (id : QueueId) (s u : Stable) (op : Op) → IsChangeOf id op → apply_op s op ≡ Some u → KeepsBase s u
unfolding apply_op
apply_op-base id s u op mine is = by (follows s (number op)) is
  where
    by : (b : Bool) → cond b (act (record s { op = number op }) op) None ≡ Some u → KeepsBase s u
    by true made =
        let k = act-base id (record s { op = number op }) u op mine made in
        record { base = k.base; snapshot = k.snapshot }
    by false made = absurd cc

apply_ops-none : (ops : List Op) → fold then_apply None ops ≡ None
apply_ops-none [] = refl
apply_ops-none (op ∷ ops) = apply_ops-none ops

apply_ops-base : (id : QueueId) (ops : List Op) (s u : Stable) → AllByRecursion (IsChangeOf id) ops
    → apply_ops s ops ≡ Some u → KeepsBase s u
apply_ops-base id [] s u mine is =
    let same : s ≡ u = cc in
    record {
      base = ap (λ (t : Stable). t.base) (sym same);
      snapshot = ap (λ (t : Stable). t.snapshot) (sym same);
    }
apply_ops-base id (op ∷ ops) s u mine is =
    by (apply_op s op) refl (λ t rest. apply_ops-base id ops t u mine.1 rest) is
  where
    by : (o : Option Stable) → apply_op s op ≡ o → ((t : Stable) → apply_ops t ops ≡ Some u → KeepsBase t u)
        → fold then_apply o ops ≡ Some u → KeepsBase s u
    by None first more rest = absurd (cc (sym (apply_ops-none ops) ∙ rest))
    by (Some t) first more rest =
        let one = apply_op-base id s t op mine.0 first in
        let all = more t rest in
        record { base = all.base ∙ one.base; snapshot = all.snapshot ∙ one.snapshot }

-- first ops of a queue come to a state without a snapshot
pub record HasNone (s : Stable) : Type 0 where
  pub base : s.base ≡ no_snapshot
  pub snapshot : s.snapshot ≡ 0

pub come-to_none : (id : QueueId) (ops : List Op) (n : ℕ) (s : Stable) → AllByRecursion (IsChangeOf id) ops
    → stable (take n ops) ≡ Some s → HasNone s
come-to_none id ops n s mine is =
    let front = front-take n ops in
    let k = apply_ops-base id (take n ops) new_state s
    (all-front (IsChangeOf id) (take n ops) front.rest (subst (AllByRecursion (IsChangeOf id)) front.is mine)) is in
    record { base = k.base; snapshot = k.snapshot }

-- ---- a lane

plain-is : (s : Stable) (lane : Lane) → IsPlainLaneOf s lane → HasNone s
    → plain_state lane.op lane.term lane.vote lane.entries ≡ s
plain-is s lane is none =
    let segments : [] ≡ s.segments =
    ap (filter (λ (span : Span). span.segment)) (sym is.places) ∙ is.state.segments in
    λ i. record {
      op = is.state.op i;
      term = is.state.term i;
      vote = is.state.vote i;
      base = sym none.base i;
      snapshot = sym none.snapshot i;
      log = is.state.entries i;
      segments = segments i;
    }

-- a lane tells its state, where that has no snapshot
pub lane-told : (id : QueueId) (lanes : Lanes) (lane : Option Lane) → IsLaneFor id (lanes id.0) lane
    → HasNone (state_in lanes id) → lane_state lane ≡ state_in lanes id
lane-told id lanes lane is none = by (lanes id.0) lane is none
  where
    by : (o : Option Stable) (lane : Option Lane) → IsLaneFor id o lane → HasNone (unwrap_or o new_state)
        → lane_state lane ≡ unwrap_or o new_state
    by None None is none = refl
    by (Some s) (Some lane) is none = plain-is s lane is.1 none
    by None (Some lane) is none = absurd is
    by (Some s) None is none = absurd is

-- and its number at any rate
pub lane-op : (id : QueueId) (lanes : Lanes) (lane : Option Lane) → IsLaneFor id (lanes id.0) lane
    → (lane_state lane).op ≡ (state_in lanes id).op
lane-op id lanes lane is = by (lanes id.0) lane is
  where
    by : (o : Option Stable) (lane : Option Lane) → IsLaneFor id o lane
        → (lane_state lane).op ≡ (unwrap_or o new_state).op
    by None None is = refl
    by (Some s) (Some lane) is = is.1.state.op
    by None (Some lane) is = absurd is
    by (Some s) None is = absurd is

-- and where it ends, where it stands on no snapshot
pub lane-end : (id : QueueId) (lanes : Lanes) (lane : Option Lane) → IsLaneFor id (lanes id.0) lane
    → lane_base lane ≡ no_snapshot → end_of (lane_state lane) ≡ end_of (state_in lanes id)
lane-end id lanes lane is none = by (lanes id.0) lane is none
  where
    by : (o : Option Stable) (lane : Option Lane) → IsLaneFor id o lane → lane_base lane ≡ no_snapshot
        → end_of (lane_state lane) ≡ end_of (unwrap_or o new_state)
    by None None is none = refl
    by (Some s) (Some lane) is none =
        let base : no_snapshot ≡ s.base = sym none ∙ is.1.state.base in
        λ i. record {
          op = is.1.state.op i;
          base = (base i).index.0;
          last = last_above (base i).index.0 (is.1.state.entries i);
        }
    by None (Some lane) is none = absurd is
    by (Some s) None is none = absurd is

-- a state without a snapshot is of a lane without one
pub lane-none : (id : QueueId) (lanes : Lanes) (lane : Option Lane) → IsLaneFor id (lanes id.0) lane
    → HasNone (state_in lanes id) → lane_base lane ≡ no_snapshot
lane-none id lanes lane is none = by (lanes id.0) lane is none
  where
    by : (o : Option Stable) (lane : Option Lane) → IsLaneFor id o lane → HasNone (unwrap_or o new_state)
        → lane_base lane ≡ no_snapshot
    by None None is none = refl
    by (Some s) (Some lane) is none = is.1.state.base ∙ none.base
    by None (Some lane) is none = absurd is
    by (Some s) None is none = absurd is

-- ---- the queues and their lanes

pub lanes-long : (ids : List QueueId) (lanes : Lanes) (found : List (Option Lane)) → AreLanes ids lanes found
    → length found ≡ length ids
lanes-long [] lanes [] zip = refl
lanes-long (id ∷ ids) lanes (lane ∷ found) zip = let rest = lanes-long ids lanes found zip.1 in omega (arith, rest)
lanes-long [] lanes (lane ∷ found) zip = absurd zip
lanes-long (id ∷ ids) lanes [] zip = absurd zip

-- a queue that has a lane is one of them, and the lane is its own
pub record HasLane (ids : List QueueId) (lanes : Lanes) (pair : QueueId × Option Lane) : Type 0 where
  pub among : InList pair.0 ids
  pub is : IsLaneFor pair.0 (lanes pair.0.0) pair.1

pub pair-has : (pair : QueueId × Option Lane) (ids : List QueueId) (lanes : Lanes) (found : List (Option Lane))
    → AreLanes ids lanes found → In pair (pairs ids found) → HasLane ids lanes pair
pair-has pair [] lanes [] zip here = absurd here
pair-has pair [] lanes (lane ∷ found) zip here = absurd zip
pair-has pair (id ∷ ids) lanes [] zip here = absurd zip
pair-has pair (id ∷ ids) lanes (lane ∷ found) zip (inl same) =
    subst (HasLane (id ∷ ids) lanes) (sym same) (record { among = inl refl; is = zip.0 })
pair-has pair (id ∷ ids) lanes (lane ∷ found) zip (inr later) =
    let rest = pair-has pair ids lanes found zip.1 later in
    record { among = inr rest.among; is = rest.is }

-- each of the queues has one
pub pair-of : (id : QueueId) (ids : List QueueId) (lanes : Lanes) (found : List (Option Lane))
    → AreLanes ids lanes found → InList id ids → (lane : Option Lane) × In (id, lane) (pairs ids found)
pair-of id [] lanes [] zip here = absurd here
pair-of id [] lanes (lane ∷ found) zip here = absurd zip
pair-of id (other ∷ ids) lanes [] zip here = absurd zip
pair-of id (other ∷ ids) lanes (lane ∷ found) zip (inl same) =
    (lane, inl (ap (λ (q : QueueId). (q, lane)) same))
pair-of id (other ∷ ids) lanes (lane ∷ found) zip (inr later) =
    let rest = pair-of id ids lanes found zip.1 later in (rest.0, inr rest.1)

-- no two of them have one index
pub pairs-apart : (ids : List QueueId) (lanes : Lanes) (found : List (Option Lane)) → AreLanes ids lanes found
    → AreDistinct ids → AllByRecursion (λ (id : QueueId). 0 < id.0) ids → AreApart pair_index (pairs ids found)
pairs-apart [] lanes [] zip apart low = tt
pairs-apart [] lanes (lane ∷ found) zip apart low = absurd zip
pairs-apart (id ∷ ids) lanes [] zip apart low = absurd zip
pairs-apart (id ∷ ids) lanes (lane ∷ found) zip apart low = (
  λ y here same. (let among = (pair-has y ids lanes found zip.1 here).among in
      let other = AllByRecursion-in (λ (q : QueueId). q.0 ≢ id.0) y.0 ids apart.0 among in
      let above = AllByRecursion-in (λ (q : QueueId). 0 < q.0) y.0 ids low.1 among in
      let own = low.0 in
      let index : y.0.0 - 1 ≡ id.0 - 1 = same in
      other (let e : y.0.0 ≡ id.0 = omega (arith, above, own, index) in e)),
  pairs-apart ids lanes found zip.1 apart.1 low.1,
)

-- ---- the queues of a log

-- no two of the queues of some of the places have one number
pub distinct-ids : (setup : Setup) (passes : ℕ → Bool) (places : List ℕ) → PlacesApart setup places
    → AreDistinct (map (λ (place : ℕ). (setup.args place).queue) (filter passes places))
distinct-ids setup passes [] apart = tt
distinct-ids setup passes (place ∷ places) apart =
    let id : ℕ → QueueId = λ p. (setup.args p).queue in
    cond_both (passes place) (place ∷ filter passes places) (filter passes places)
    (λ (l : List ℕ). AreDistinct (map id l))
    (λ _. (
      AllByRecursion-map (λ (p : ℕ). (id p).0 ≢ (id place).0) (λ (other : QueueId). other.0 ≢ (id place).0) id
          (filter passes places) (λ p is. is)
          (AllByRecursion-filter (λ (p : ℕ). (id p).0 ≢ (id place).0) passes places apart.0),
      distinct-ids setup passes places apart.1,
    ))
    (λ _. distinct-ids setup passes places apart.1)
