-- The members on a node that is down go on with what was found of their queues.
use Rattle.std.proofs.Common.{◌≡◌, ◌⊎◌, ◌<◌, ◌≤◌, ◌+◌, ◌-◌, ℕ, Bool, true, false, List, [], ◌∷◌, Option, Some, None, length, map, take, unwrap_or, refl, sym, ap, ◌∙◌, subst, inl, inr, get_or, arith}
use Rattle.std.specs.Prelude.{option_map, slice_get}
use Rattle.std.specs.List.{AllByRecursion}
use Rattle.std.proofs.lemmas.Bool.{cases_Bool, false≢true}
use Rattle.std.proofs.lemmas.Option.{slice_get_cases}
use Rattle.qq_base.proofs.Fronts.{all-front}
use Rattle.qq_base.proofs.Lists.{In as InList, In-filter, In-filter_passes, In-map}
use Rattle.qq_base.proofs.Puts.{put-same}
use Rattle.qq_base.specs.declared.ids.QueueId.{QueueId}
use Rattle.qq_disk.specs.Facts.{DiskFacts}
use Rattle.qq_log.specs.Stable.{new_state, no_snapshot, stable}
use Rattle.qq_log.specs.declared.lane.Lane.{Lane}
use Rattle.qq_lots.specs.Left.{ops_found, state_in}
use Rattle.qq_lots.specs.Lots.{Parts, find_each, ids_of, new_part}
use Rattle.qq_raft_model.specs.Group.{has_node, may_restart}
use Rattle.qq_raft_protocol.specs.Facts.{In}
use Rattle.qq_recover.specs.Recovered.{IsLaneFor}
use Rattle.qq_wal_chain.specs.Lanes.{Lanes}
use Rattle.qq_cluster_model.specs.Cluster.{Cluster, FindsEach, Setup, cluster_happens, members}
use Rattle.qq_cluster_model.specs.Queue.{Finds, Queue, happens}
use Rattle.qq_cluster_model.specs.Rules.{IsFound, IsNothing, IsRestart, is_quiet, is_settled}
use Rattle.qq_cluster_laws.specs.Linked.{IsReached, lot_of, parts_at}
use Rattle.qq_cluster_laws.specs.Waiting.{IsChangeOf}
use Rattle.qq_cluster_laws.proofs.Links.{TakesUp as TakesUpAt, all-may_find, found-follow}
use Rattle.qq_cluster_laws.proofs.Reached.{counts-at}
use Rattle.qq_cluster_laws.proofs.Waiting.{owns-ops}
use Rattle.qq_queue.specs.ClusterQueue.{Stands as IsQueue}
use Rattle.qq_queue.specs.Sessions.{standings}
use Rattle.qq_queue.specs.declared.cluster_queue.ClusterQueue.{ClusterQueue}
use Rattle.qq_node_log.specs.Ends.{End, end_of, ends}
use Rattle.qq_node_log.specs.Found.{AllEnd, AreDistinct, AreLanes}
use Rattle.qq_node_log.specs.Log.{IsRunning, IsWhole}
use Rattle.qq_node_log.specs.declared.node_log.NodeLog.TheVariants.{Open}
use Rattle.qq_node_log.proofs.Running.{running-same}
use Rattle.qq_wal.specs.declared.wal.Wal.{Wal}
use Rattle.qq_cluster.specs.Nodes.{IsNodeOf, IsQueueOf, Stands}
use Rattle.qq_opening.specs.Restarting.{MayTakeUp}
use Rattle.qq_opening.specs.declared.taking.Handed.{Handed}
use Rattle.qq_opening.specs.Taking.{AllChange, IsHanded, IsNewSeat, TakesUpOne, handed_of, index_of, lane_base, lane_state, pair_index, pairs}
use Rattle.qq_cluster.specs.declared.node.Node.{Node}
use Rattle.qq_cluster.specs.declared.nodes.Nodes.{Nodes as Held}
use Rattle.qq_opening.proofs.Changing.{AreApart, Became, all-became, all-long}
use Rattle.qq_opening.proofs.FoundLanes.{HasLane, distinct-ids, lane-end, lane-op, pair-has, pair-of, pairs-apart}
use Rattle.qq_opening.proofs.FoundQueues.{found-ops, found-settled, not-found, quiet-found}
use Rattle.qq_cluster.proofs.Membership.{out-settled, outside, to-list}
use Rattle.qq_cluster.proofs.OwnStands.{QueuesOf}
use Rattle.qq_cluster.proofs.Pumping.{rule-else}
use Rattle.qq_cluster.proofs.Synced.{from-list, in-filter}
use Rattle.qq_cluster.proofs.Taken.{apart-places}
use Rattle.qq_cluster.proofs.WaitsThere.{place-here}
use Rattle.qq_cluster.proofs.Turned.{within-length}
use Rattle.qq_cluster.proofs.Walks.{from-range}

-- ---- lists

all-of : {A : Type 0} (P : A → Type 0) (xs : List A) → ((x : A) → InList x xs → P x) → AllByRecursion P xs
all-of P [] each = tt
all-of P (x ∷ xs) each = (each x (inl refl), all-of P xs (λ y later. each y (inr later)))

in-map : {A B : Type 0} (f : A → B) (y : B) (xs : List A) → InList y (map f xs) → (x : A) × InList x xs × (y ≡ f x)
in-map f y [] here = absurd here
in-map f y (x ∷ xs) (inl same) = (x, inl refl, same)
in-map f y (x ∷ xs) (inr later) = let rest = in-map f y xs later in (rest.0, inr rest.1, rest.2)

-- ---- the queues of a node's log

-- a queue of a node's log stands at its place, and the node is of its group
pub record IsAtPlace (setup : Setup) (k : ℕ) (id : QueueId) (place : ℕ) : Type 0 where
  pub here : In place setup.places
  pub low : 1 ≤ place
  pub member : has_node k (members setup place) ≡ true
  pub id_is : id ≡ (setup.args place).queue
  pub number : id.0 ≡ place

module _ {D : Type 0} {facts : DiskFacts D} (setup : Setup) (c : Cluster) (k : ℕ) (held : Held D)
    (st : Stands facts setup held c) where
  abbrev own_id : ℕ → QueueId
  own_id place = (setup.args place).queue

  in-lot : (place : ℕ) → InList place (lot_of setup k).places → IsAtPlace setup k (own_id place) place
  in-lot place here =
      let among : In place setup.places =
      from-list place setup.places (in-filter (λ (p : ℕ). has_node k (members setup p)) place setup.places here) in
      record {
        here = among;
        low = (from-range (length held.queues.items) place (subst (In place) st.set_up.places among)).0;
        member = In-filter_passes (λ (p : ℕ). has_node k (members setup p)) place setup.places here;
        id_is = refl;
        number = st.set_up.ids place among;
      }

  pub at-place : (id : QueueId) → InList id (ids_of (lot_of setup k)) → (place : ℕ) × IsAtPlace setup k id place
  at-place id here =
      let from = in-map own_id id (lot_of setup k).places here in
      (from.0, subst (λ (q : QueueId). IsAtPlace setup k q from.0) (sym from.2) (in-lot from.0 from.1))

  pub to-lot : (place : ℕ) → In place setup.places → has_node k (members setup place) ≡ true
      → InList place (lot_of setup k).places
  to-lot place here member =
      In-filter (λ (p : ℕ). has_node k (members setup p)) place setup.places (to-list place setup.places here) member

  -- no two of them have one number
  pub own-distinct : AreDistinct (ids_of (lot_of setup k))
  own-distinct =
      distinct-ids setup (λ (p : ℕ). has_node k (members setup p)) setup.places (apart-places setup c held st)

  pub own-low : AllByRecursion (λ (id : QueueId). 0 < id.0) (ids_of (lot_of setup k))
  own-low =
      all-of (λ (id : QueueId). 0 < id.0) (ids_of (lot_of setup k))
      (λ id here. (let at = (at-place id here).1 in let low = at.low in let number = at.number in
      omega (arith, low, number)))

  pub own-apart : (lanes : Lanes) (found : List (Option Lane)) → AreLanes (ids_of (lot_of setup k)) lanes found
      → AreApart pair_index (pairs (ids_of (lot_of setup k)) found)
  own-apart lanes found zip = pairs-apart (ids_of (lot_of setup k)) lanes found zip own-distinct own-low

  -- what is known of the members of a node that isn't opened now
  pub known-seat : (x : Node D) → IsReached setup c → IsNodeOf facts setup c k x → (place : ℕ) (lane : Option Lane)
      → IsHanded (handed_of false x.empty) lane ((c.queue place).group.seat k)
  known-seat x r was place lane = by x.empty was.fresh
    where
      new-seat : (parts_at c k ≡ (λ (p : ℕ). new_part)) → IsNewSeat ((c.queue place).group.seat k)
      new-seat parts =
          let ops : ((c.queue place).group.seat k).ops ≡ [] = ap (λ (all : Parts). (all place).ops) parts in
          let rise = counts-at setup c r place st.set_up.groups k in
          record {
            ops = ops;
            noticed = (let low = rise.noticed in let most = rise.synced in let none = ap length ops in
                omega (arith, low, most, none));
          }

      by : (empty : Bool) → (empty ≡ true → (x.up ≡ false) × (parts_at c k ≡ (λ (p : ℕ). new_part)))
          → IsHanded (handed_of false empty) lane ((c.queue place).group.seat k)
      by true fresh = new-seat (fresh refl).1
      by false fresh = tt

  -- its log has changes of the queue alone
  pub own-changes : IsReached setup c → (place : ℕ)
      → AllByRecursion (IsChangeOf (own_id place)) ((c.queue place).group.seat k).ops
  own-changes r place =
      all-front (IsChangeOf (own_id place)) ((c.queue place).group.seat k).ops _
      (owns-ops setup c place k st.set_up.groups st.set_up.own r)

  -- the queue of a number
  pub queue-of : (id : QueueId) (place : ℕ) (d : ClusterQueue) → IsAtPlace setup k id place
      → slice_get held.queues.items (index_of id) ≡ Some d → IsQueueOf setup (standings held.sessions) c place d
  queue-of id place d at here =
      subst (λ (p : ℕ). IsQueueOf setup (standings held.sessions) c p d)
      (let low = at.low in let number = at.number in let e : (id.0 - 1) + 1 ≡ place = omega (arith, low, number) in e)
      (st.queues (id.0 - 1) d here)

-- ---- each goes on

-- a member has gone on with its lane
pub record GoesOnAt (setup : Setup) (c : Cluster) (k : ℕ) (lanes : Lanes) (place : ℕ) : Type 0 where
  pub lane : Option Lane
  pub is : IsLaneFor (setup.args place).queue (lanes (setup.args place).queue.0) lane
  pub base : lane_base lane ≡ no_snapshot
  pub may : MayTakeUp k (c.queue place) (lane_state lane)

module _ {D : Type 0} {facts : DiskFacts D} (setup : Setup) (c : Cluster) (k : ℕ) (held : Held D)
    (news : List ClusterQueue) (x : Node D) (handed : Handed) (lanes : Lanes) (found : List (Option Lane))
    (r : IsReached setup c)
    (st : Stands facts setup held c) (was : IsNodeOf facts setup c k x) (down : c.up k ≡ false)
    (zip : AreLanes (ids_of (lot_of setup k)) lanes found)
    (take_up : AllChange pair_index (TakesUpOne k handed) (pairs (ids_of (lot_of setup k)) found) held.queues.items
    news)
    (fits : (y : QueueId × Option Lane) → In y (pairs (ids_of (lot_of setup k)) found) → (place : ℕ) → y.0.0 ≡ place
    → IsHanded handed y.1 ((c.queue place).group.seat k))
  where
    abbrev all_pairs : List (QueueId × Option Lane)
    all_pairs = pairs (ids_of (lot_of setup k)) found

    abbrev ops : ℕ → ℕ
    ops = ops_found (lot_of setup k) lanes

    abbrev after_it : Cluster
    after_it = cluster_happens c (FindsEach k ops)

    became : (i : ℕ) (d : ClusterQueue) → slice_get news i ≡ Some d
        → Became pair_index (TakesUpOne k handed) all_pairs held.queues.items i d
    became i d there =
        all-became pair_index (TakesUpOne k handed) all_pairs held.queues.items news i d
        (own-apart setup c k held st lanes found zip) take_up there

    long : length news ≡ length held.queues.items
    long = all-long pair_index (TakesUpOne k handed) all_pairs held.queues.items news take_up

    -- the place of a pair
    own-pair : (i : ℕ) (y : QueueId × Option Lane) → In y all_pairs → pair_index y ≡ i
        → IsAtPlace setup k y.0 (i + 1) × IsLaneFor y.0 (lanes y.0.0) y.1
    own-pair i y here is =
        let has : HasLane (ids_of (lot_of setup k)) lanes y =
        pair-has y (ids_of (lot_of setup k)) lanes found zip here in
        let at = at-place setup c k held st y.0 has.among in
        let low = at.1.low in
        let number = at.1.number in
        let index : y.0.0 - 1 ≡ i = is in
        let same : at.0 ≡ i + 1 = omega (arith, low, number, index) in
        (subst (IsAtPlace setup k y.0) same at.1, has.is)

    lane-at : (i : ℕ) (y : QueueId × Option Lane) (old new : ClusterQueue) → In y all_pairs → pair_index y ≡ i
        → slice_get held.queues.items i ≡ Some old → TakesUpOne k handed y old new → GoesOnAt setup c k lanes (i + 1)
    lane-at i y old new here is there takes =
        let own = own-pair i y here is in
        record {
          lane = y.1;
          is = subst (λ (q : QueueId). IsLaneFor q (lanes q.0) y.1) own.0.id_is own.1;
          base = takes.base;
          may = takes.may (standings held.sessions) (c.queue (i + 1)) (st.queues i old there).stands
              (fits y here (i + 1) own.0.number);
        }

    -- a pair for each of the log's queues
    has-pair : (i : ℕ) → InList (i + 1) (lot_of setup k).places
        → ((y : QueueId × Option Lane) → In y all_pairs → pair_index y ≡ i → ⊥) → ⊥
    has-pair i here none =
        let id : QueueId = (setup.args (i + 1)).queue in
        let pair =
        pair-of id (ids_of (lot_of setup k)) lanes found zip
        (In-map (lot_of setup k).id (i + 1) (lot_of setup k).places here) in
        let number = (in-lot setup c k held st (i + 1) here).number in
        none (id, pair.0) pair.1 (let e : id.0 - 1 ≡ i = omega (arith, number) in e)

    goes-on_index : (i : ℕ) → InList (i + 1) (lot_of setup k).places → GoesOnAt setup c k lanes (i + 1)
    goes-on_index i here = by (slice_get_cases news i).1
      where
        by : ((d : ClusterQueue) × (i < length news) × (slice_get news i ≡ Some d) × (get_or news i d ≡ d))
            ⊎ ((length news ≤ i) × (slice_get news i ≡ None)) → GoesOnAt setup c k lanes (i + 1)
        by (inl there) = ways (became i there.0 there.2)
          where
            ways : Became pair_index (TakesUpOne k handed) all_pairs held.queues.items i there.0
                → GoesOnAt setup c k lanes (i + 1)
            ways b = elim b.how [
              | inl own ↦ lane-at i own.0 b.old there.0 own.1 own.2 b.was own.3
              | inr none ↦ absurd (has-pair i here none.0)
            ]
        by (inr past_end) =
            let at = in-lot setup c k held st (i + 1) here in
            let high =
            (from-range (length held.queues.items) (i + 1) (subst (In (i + 1)) st.set_up.places at.here)).1 in
            let le = past_end.0 in
            absurd (omega (arith, high, le, long))

    pub goes-on_at : (place : ℕ) → InList place (lot_of setup k).places → GoesOnAt setup c k lanes place
    goes-on_at place here =
        let low = (in-lot setup c k held st place here).low in
        let same : (place - 1) + 1 ≡ place = omega (arith, low) in
        subst (GoesOnAt setup c k lanes) same
        (goes-on_index (place - 1) (subst (λ (p : ℕ). InList p (lot_of setup k).places) (sym same) here))

    -- so many ops were found of it
    takes-at : (place : ℕ) → GoesOnAt setup c k lanes place → TakesUpAt k (ops place) (c.queue place)
    takes-at place goes =
        let same : (lane_state goes.lane).op ≡ ops place = lane-op (setup.args place).queue lanes goes.lane goes.is in
        record {
          may = subst (λ (n : ℕ). may_restart k n (c.queue place).group ≡ true) same goes.may.0;
          state = lane_state goes.lane;
          is = subst (λ (n : ℕ). stable (take n ((c.queue place).group.seat k).ops) ≡ Some (lane_state goes.lane)) same
              goes.may.1;
        }

    pub each-takes : AllByRecursion (λ (place : ℕ). TakesUpAt k (ops place) (c.queue place)) (lot_of setup k).places
    each-takes =
        all-of (λ (place : ℕ). TakesUpAt k (ops place) (c.queue place)) (lot_of setup k).places
        (λ place here. takes-at place (goes-on_at place here))

    all-end : AllEnd (lot_of setup k) (parts_at c k) lanes
    unfolding takes-at
    all-end =
        all-of (λ (place : ℕ). ends (take (ops place) ((c.queue place).group.seat k).ops)
        ≡ Some (end_of (state_in lanes ((lot_of setup k).id place)))) (lot_of setup k).places
        (λ place here. (let goes = goes-on_at place here in
        ap (option_map end_of) (takes-at place goes).is
        ∙ ap (λ (e : End). Some e) (lane-end (setup.args place).queue lanes goes.lane goes.is goes.base)))

    -- ---- what stands then

    pub found-rule : IsRestart setup k c (FindsEach k ops ∷ [])
    found-rule =
        rule-else (c.up k) IsNothing (IsFound setup k) c (FindsEach k ops ∷ []) down
        (inl (record {
          ops = ops;
          may = all-may_find setup c k st.set_up.groups r ops each-takes;
          is = refl;
        }))

    -- a queue of another node's group is as it was
    no-member : (i : ℕ) (d : ClusterQueue) → slice_get held.queues.items i ≡ Some d
        → ((y : QueueId × Option Lane) → In y all_pairs → pair_index y ≡ i → ⊥)
        → has_node k (members setup (i + 1)) ≡ false
    no-member i d there none =
        elim (cases_Bool (has_node k (members setup (i + 1)))) [
          | inl member ↦ absurd (has-pair i (to-lot setup c k held st (i + 1)
              (place-here setup c held i st (within-length held.queues.items i d there)) member) none)
          | inr other ↦ other
        ]

    pub queues-after : QueuesOf setup (standings held.sessions) after_it news
    queues-after i e there = by (became i e there)
      where
        by : Became pair_index (TakesUpOne k handed) all_pairs held.queues.items i e
            → IsQueueOf setup (standings held.sessions) after_it (i + 1) e
        by b = ways b.how
          where
            old : IsQueueOf setup (standings held.sessions) c (i + 1) b.old
            old = st.queues i b.old b.was

            ways : ((y : QueueId × Option Lane) × In y all_pairs × (pair_index y ≡ i)
                × TakesUpOne k handed y b.old e)
                ⊎ (((y : QueueId × Option Lane) → In y all_pairs → pair_index y ≡ i → ⊥) × (e ≡ b.old))
                → IsQueueOf setup (standings held.sessions) after_it (i + 1) e
            ways (inl (y, here, is, takes)) =
                let own = own-pair i y here is in
                let many : (lane_state y.1).op ≡ ops (i + 1) =
                lane-op y.0 lanes y.1 own.1
                ∙ ap (λ (q : QueueId). (unwrap_or (lanes q.0) new_state).op) own.0.id_is in
                record {
                  stands = subst
                      (λ (n : ℕ). IsQueue (standings held.sessions) e (happens (c.queue (i + 1)) (Finds k n)))
                      many (takes.does (standings held.sessions) (c.queue (i + 1)) old.stands
                      (fits y here (i + 1) own.0.number));
                  sound = takes.sound;
                  name_is = takes.same.name_is ∙ old.name_is;
                  place_is = ap (λ a. a.queue.0) takes.same.args_is ∙ old.place_is;
                }
            ways (inr (none, same)) =
                let out = outside setup c k (i + 1) st.set_up.groups r (no-member i b.old b.was none) in
                subst (IsQueueOf setup (standings held.sessions) after_it (i + 1)) (sym same) (record {
                  stands = subst (IsQueue (standings held.sessions) b.old)
                      (sym (not-found k (ops (i + 1)) (c.queue (i + 1)) out.not_member)) old.stands;
                  sound = old.sound;
                  name_is = old.name_is;
                  place_is = old.place_is;
                })

    settled-after : (place : ℕ) → In place setup.places
        → is_settled k (happens (c.queue place) (Finds k (ops place))) ≡ true
    settled-after place here =
        elim (cases_Bool (has_node k (members setup place))) [
          | inl member ↦
              let takes = takes-at place (goes-on_at place (to-lot setup c k held st place here member)) in
              found-settled k (ops place) (c.queue place) takes.state takes.may takes.is
          | inr other ↦
              let out = outside setup c k place st.set_up.groups r other in
              subst (λ (q : Queue). is_settled k q ≡ true)
              (sym (not-found k (ops place) (c.queue place) out.not_member))
              (out-settled setup c k place st.set_up.groups r out)
        ]

    pub quiet-after : (at : ℕ) → at < length held.queues.items → is_quiet setup c.up (c.queue (at + 1)) ≡ true
        → is_quiet setup after_it.up (after_it.queue (at + 1)) ≡ true
    quiet-after at lt quiet =
        quiet-found setup c.up (c.queue (at + 1)) k (ops (at + 1))
        (settled-after (at + 1) (place-here setup c held at st lt)) quiet

    -- the node is up, and its log goes on with what was found
    pub node-after : (wal : Wal D) (y : Node D)
        → y ≡ record x { log = Some (Open wal); up = true; empty = false }
        → ((AllEnd (lot_of setup k) (parts_at c k) lanes)
        → IsRunning facts (lot_of setup k) (find_each ops (parts_at c k)) wal)
        → IsWhole facts (ids_of (lot_of setup k)) wal.disk → IsNodeOf facts setup after_it k y
    node-after wal y is goes whole =
        subst (IsNodeOf facts setup after_it k) (sym is) (record {
          id_is = was.id_is;
          few = was.few;
          up_is = sym (put-same k true c.up);
          fresh = λ never. absurd (false≢true never);
          queues_are = was.queues_are;
          members = found-follow setup c k ops each-takes;
          own = Open wal;
          log_is = refl;
          log = record {
            running = λ _. running-same facts (lot_of setup k) (find_each ops (parts_at c k)) (parts_at after_it k)
                (Open wal) (all-of (λ (place : ℕ). (parts_at after_it k place).ops
                ≡ (find_each ops (parts_at c k) place).ops) (lot_of setup k).places
                (λ place here. (let takes = takes-at place (goes-on_at place here) in
                found-ops k (ops place) (c.queue place) takes.state takes.may takes.is))) (goes all-end);
            whole = whole;
          };
        })
