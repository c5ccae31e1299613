-- The members on a node that is down may go on, and so the node does.
use Rattle.std.proofs.Common.{◌≡◌, ◌≢◌, ◌<◌, ◌+◌, ◌-◌, ℕ, Bool, true, false, List, [], ◌∷◌, Option, Some, None, length, map, refl, sym, ap, ◌∙◌, subst, inl, inr, arith}
use Rattle.std.specs.Prelude.{IfSome, filter, is_some, slice_get, slice_set}
use Rattle.std.specs.List.{AllByRecursion}
use Rattle.std.proofs.lemmas.Bool.{cond_both, false≢true}
use Rattle.qq_base.proofs.Lists.{AllByRecursion-filter, AllByRecursion-map}
use Rattle.qq_base.specs.declared.ids.NodeId.{NodeId}
use Rattle.qq_base.specs.declared.ids.QueueId.{QueueId}
use Rattle.qq_disk.specs.Facts.{DiskFacts}
use Rattle.qq_log.specs.Log.{LogState}
use Rattle.qq_log.specs.declared.lane.Lane.{Lane}
use Rattle.qq_raft_model.specs.Group.{Group as GroupState, Seat as SeatState, has_node}
use Rattle.qq_raft_protocol.specs.Facts.{In}
use Rattle.qq_queue.specs.declared.machine_queue.MachineQueue.{MachineQueue}
use Rattle.qq_group.specs.Group.{IsSeat, IsSeatBy, Represents, server_at, server_by}
use Rattle.qq_group.specs.declared.seat.Seat.{Seat}
use Rattle.qq_cluster_model.specs.Cluster.{Cluster, Setup, members}
use Rattle.qq_cluster_laws.specs.Linked.{IsReached}
use Rattle.qq_cluster_laws.specs.Waiting.{AreApart}
use Rattle.qq_cluster_laws.proofs.Reached.{group-made, made}
use Rattle.qq_cluster_laws.proofs.Seats.{nodes-same}
use Rattle.qq_queue.specs.Members.{Member, Members, own_log}
use Rattle.qq_queue.specs.Sessions.{standings}
use Rattle.qq_queue.specs.declared.cluster_queue.ClusterQueue.{ClusterQueue}
use Rattle.qq_node_log.specs.Found.{AreDistinct}
use Rattle.qq_node_log.specs.Log.{IsWhole, disk_in}
use Rattle.qq_recover.specs.State.{IsWithinEnds}
use Rattle.qq_cluster.specs.Logs.{NodeTurns}
use Rattle.qq_cluster.specs.Nodes.{CanServe, IsNodeAt, IsNodeOf, IsQueueOf, Stands}
use Rattle.qq_opening.specs.Taking.{AllChange, AreLanesAt, FindsLanes, GoesOn, IsTakeEachCaused, MayGoOn, MayStep, MayTakeAt, MayTakeEach, StaysDown, TakesUpOne, handed_of, index_of, pair_index, pairs}
use Rattle.qq_opening.specs.declared.taking.Handed.{Handed}
use Rattle.qq_cluster.specs.declared.node.Node.{Node}
use Rattle.qq_cluster.specs.declared.nodes.Nodes.{Nodes as Held}
use Rattle.qq_opening.specs.declared.restarting.RestartFault.{RestartFault}
use Rattle.qq_cluster.proofs.Items.{queues-sound}
use Rattle.qq_cluster.proofs.OneQueue.{set-long}
use Rattle.qq_cluster.proofs.OwnStands.{node-was, set-here}
use Rattle.qq_cluster.proofs.Taken.{apart-places}
use Rattle.qq_cluster.proofs.WaitsThere.{own-node}
use Rattle.qq_cluster.proofs.Walks.{from-range}
use Rattle.qq_opening.proofs.FoundLanes.{lanes-long}

-- ---- a member is down where the definition has it so

server-none : (state : SeatState) (seat : Seat MachineQueue LogState) (o : Option Member)
    → IsSeatBy own_log state seat o → is_some state.server ≡ false → o ≡ None
server-none state seat None is none = refl
server-none state seat (Some s) is none = absurd (false≢true (sym none ∙ ap is_some is.0))

seat-none : (state : SeatState) (o : Option (Seat MachineQueue LogState)) → IsSeat own_log state o
    → is_some state.server ≡ false → server_by o ≡ None
seat-none state None is none = refl
seat-none state (Some seat) is none = server-none state seat seat.server is none

member-down : (g : GroupState) (group : Members) (k : ℕ) → Represents own_log g group
    → is_some (g.seat k).server ≡ false → server_at k group ≡ None
member-down g group k r none = seat-none (g.seat k) (slice_get group.seats.items k) (r.seats k) none

-- ---- the queues of a node

abbrev id_at : Setup → ℕ → QueueId
id_at setup place = (setup.args place).queue

abbrev has_member : Setup → ℕ → ℕ → Bool
has_member setup k place = has_node k (members setup place)

distinct-by : (setup : Setup) (k : ℕ) (places : List ℕ) → AreApart setup places
    → AreDistinct (map (id_at setup) (filter (has_member setup k) places))
distinct-by setup k [] apart = tt
distinct-by setup k (place ∷ places) apart =
    let rest = distinct-by setup k places apart.1 in
    cond_both (has_member setup k place) (place ∷ filter (has_member setup k) places)
    (filter (has_member setup k) places) (λ (l : List ℕ). AreDistinct (map (id_at setup) l))
    (λ has. (
      AllByRecursion-map (λ (other : ℕ). (id_at setup other).0 ≢ (id_at setup place).0)
          (λ (other : QueueId). other.0 ≢ (id_at setup place).0) (id_at setup) (filter (has_member setup k) places)
          (λ other is. is)
          (AllByRecursion-filter (λ (other : ℕ). (id_at setup other).0 ≢ (id_at setup place).0) (has_member setup k)
          places apart.0),
      rest,
    ))
    (λ _. rest)

module _ {D : Type 0} {facts : DiskFacts D} (setup : Setup) (c : Cluster) (held : Held D) (k : ℕ) (x : Node D)
    (st : Stands facts setup held c) (low : 0 < k) (here : slice_get held.nodes.items (k - 1) ≡ Some x) where
  is-node : IsNodeOf facts setup c k x
  is-node = node-was setup c held k x st low here

  -- no two of them have one number
  pub queues-apart : AreDistinct x.queues.items
  queues-apart =
      subst AreDistinct (sym is-node.queues_are) (distinct-by setup k setup.places (apart-places setup c held st))

  module _ (r : IsReached setup c) (down : c.up k ≡ false) where
    queue-at : (place : ℕ) (d : ClusterQueue) → 0 < place → slice_get held.queues.items (place - 1) ≡ Some d
        → IsQueueOf setup (standings held.sessions) c place d
    queue-at place d some at =
        subst (λ (p : ℕ). IsQueueOf setup (standings held.sessions) c p d)
        (let e : (place - 1) + 1 ≡ place = omega (arith, some) in e) (st.queues (place - 1) d at)

    may-place : (place : ℕ) → In place setup.places → has_member setup k place ≡ true
        → is_some ((c.queue place).group.seat k).server ≡ c.up k
        → MayTakeAt k held.queues.items (id_at setup place)
    may-place place among has follows =
        let id : (id_at setup place).0 ≡ place = st.set_up.ids place among in
        let within = from-range (length held.queues.items) place (subst (In place) st.set_up.places among) in
        let first = within.0 in
        let last = within.1 in
        let index : index_of (id_at setup place) ≡ place - 1 = ap (λ (n : ℕ). n - 1) id in
        record {
          some = omega (arith, id, first);
          place = omega (arith, index, first, last);
          member = λ d at.
              (let q = queue-at place d (omega (arith, first))
              (sym (ap (slice_get held.queues.items) index) ∙ at) in
              ap (has_node k) (sym q.stands.group.represents.nodes
              ∙ ap (λ (g : GroupState). g.nodes) (group-made setup c r place)
              ∙ nodes-same (made setup c r place) (setup.group place)) ∙ has);
          down = λ d at.
              (let q = queue-at place d (omega (arith, first))
              (sym (ap (slice_get held.queues.items) index) ∙ at) in
              member-down (c.queue place).group d.group k q.stands.group.represents (follows ∙ down));
        }

    may-each : (places : List ℕ) → ((place : ℕ) → In place places → In place setup.places)
        → AllByRecursion (λ (place : ℕ). is_some ((c.queue place).group.seat k).server ≡ c.up k)
        (filter (has_member setup k) places)
        → MayTakeEach k held.queues.items (map (id_at setup) (filter (has_member setup k) places))
    may-each [] among follow = tt
    may-each (place ∷ places) among follow =
        let rest = may-each places (λ p later. among p (inr later)) in
        cond_both (has_member setup k place) (place ∷ filter (has_member setup k) places)
        (filter (has_member setup k) places)
        (λ (l : List ℕ). AllByRecursion (λ (p : ℕ). is_some ((c.queue p).group.seat k).server ≡ c.up k) l
        → MayTakeEach k held.queues.items (map (id_at setup) l))
        (λ has both. (may-place place (among place (inl refl)) has both.0, rest both.1)) (λ _ both. rest both) follow

    pub may-take-each : MayTakeEach k held.queues.items x.queues.items
    may-take-each =
        subst (MayTakeEach k held.queues.items) (sym is-node.queues_are)
        (may-each setup.places (λ place among. among) is-node.members)

-- ---- a node that is down may be recovered

module _ {D : Type 0} {facts : DiskFacts D} (node : NodeId) (held : Held D) (can : CanServe facts held)
    (is : IsNodeAt node held)
    (down : (setup : Setup) (c : Cluster) → Stands facts setup held c → c.up node.0 ≡ false) where
  own-is : (x : Node D) → slice_get held.nodes.items (node.0 - 1) ≡ Some x
      → IsNodeOf facts can.0 can.1 node.0 x
  own-is x here = node-was can.0 can.1 held node.0 x can.3 is.0 here

  pub may-go_on : MayGoOn node held
  may-go_on = record {
    place = is;
    within = (let few = (own-is (here-node.0) here-node.1).few in (is.0, omega (arith, few)));
    sound = queues-sound can;
    apart = λ x here. queues-apart can.0 can.1 held node.0 x can.3 is.0 here;
    take = λ x here. may-take-each can.0 can.1 held node.0 x can.3 is.0 here can.2 (down can.0 can.1 can.3);
  }
    where
      here-node : (x : Node D) × (slice_get held.nodes.items (node.0 - 1) ≡ Some x)
      here-node = let own = own-node can.0 can.1 held node can.3 is in (own.node, own.here)

  pub may-step : MayStep facts node held
  may-step = record {
    go_on = may-go_on;
    recover = λ x here. (let was = own-is x here in (
      was.own,
      was.log_is,
      subst (λ (ids : List QueueId). IsWhole facts ids (disk_in was.own)) (sym was.queues_are) was.log.whole,
    ));
  }

-- ---- the node is up

some-node : {D : Type 0} (x y : Node D) → Some x ≡ Some y → x ≡ y
some-node x y e = cc

pub rose-is : {D : Type 0} (at : ℕ) (olds news : List (Node D)) (x : Node D) → slice_get olds at ≡ Some x
    → NodeTurns (λ (was now : Node D). now ≡ record was { up = true; empty = false }) at olds news
    → news ≡ slice_set olds at (record x { up = true; empty = false })
rose-is {D = D} at olds news x here turn =
    turn.is ∙ ap (slice_set olds at) (turn.turns
    ∙ ap (λ (n : Node D). record n { up = true; empty = false }) (some-node turn.old x (sym turn.here ∙ here)))

module _ {D : Type 0} (node : NodeId) (opens : Bool) (lanes : List (Option Lane)) (old : Held D) (x : Node D)
    (here : slice_get old.nodes.items (node.0 - 1) ≡ Some x) (ids : List QueueId) (are : ids ≡ x.queues.items)
    (handed : Handed) (handed_is : handed ≡ handed_of opens x.empty) where
  pub goes-on : (new : Held D)
      → AllChange pair_index (TakesUpOne node.0 handed) (pairs ids lanes) old.queues.items new.queues.items
      → new ≡ record old { queues = new.queues; nodes = new.nodes }
      → NodeTurns (λ (was now : Node D). now ≡ record was { up = true; empty = false }) (node.0 - 1) old.nodes.items
      new.nodes.items → GoesOn node opens lanes old new
  goes-on new queues is turn = record {
    own = x;
    here = here;
    queues = subst (λ (l : List QueueId). AllChange pair_index (TakesUpOne node.0 (handed_of opens x.empty))
        (pairs l lanes) old.queues.items new.queues.items) are
        (subst (λ (h : Handed). AllChange pair_index (TakesUpOne node.0 h) (pairs ids lanes)
        old.queues.items new.queues.items) handed_is queues);
    is = is;
    nodes_are = rose-is (node.0 - 1) old.nodes.items new.nodes.items x here turn;
  }

  pub stays-down : (fault : RestartFault)
      → IsTakeEachCaused node.0 handed (pairs ids lanes) old.queues.items fault
      → StaysDown node opens lanes old fault
  stays-down fault caused = record {
    own = x;
    here = here;
    cause = subst (λ (l : List QueueId). IsTakeEachCaused node.0 (handed_of opens x.empty) (pairs l lanes)
        old.queues.items fault) are
        (subst (λ (h : Handed). IsTakeEachCaused node.0 h (pairs ids lanes) old.queues.items fault) handed_is caused);
  }

-- ---- a node whose log was recovered

module _ {D : Type 0} {facts : DiskFacts D} (node : NodeId) (old : Held D) (found : FindsLanes facts node old)
    (may : MayGoOn node old) where
  abbrev mid : Held D
  mid = record old { nodes = found.nodes }

  there : slice_get found.nodes.items (node.0 - 1) ≡ Some found.turn.new
  there =
      ap (λ (l : List (Node D)). slice_get l (node.0 - 1)) found.turn.is
      ∙ set-here node.0 old.nodes.items found.turn.old found.turn.new found.turn.here

  -- its queues are as they were
  ids-same : found.turn.new.queues.items ≡ found.turn.old.queues.items
  ids-same = ap (λ (y : Node D). y.queues.items) found.turn.turns.is

  own-new : (x : Node D) → slice_get found.nodes.items (node.0 - 1) ≡ Some x
      → x.queues.items ≡ found.turn.old.queues.items
  own-new x here =
      ap (λ (y : Node D). y.queues.items) (some-node x found.turn.new (sym here ∙ there)) ∙ ids-same

  pub mid-may : MayGoOn node mid
  mid-may = record {
    place = (
      may.place.0,
      (let high = may.place.1 in
          let same : length found.nodes.items ≡ length old.nodes.items =
          ap length found.turn.is ∙ set-long old.nodes.items (node.0 - 1) found.turn.new in
          omega (arith, high, same)),
    );
    within = may.within;
    sound = may.sound;
    apart = λ x here. subst AreDistinct (sym (own-new x here)) (may.apart found.turn.old found.turn.here);
    take = λ x here. subst (MayTakeEach node.0 old.queues.items) (sym (own-new x here))
        (may.take found.turn.old found.turn.here);
  }

  pub mid-lanes : AreLanesAt node mid found.lanes
  mid-lanes = let rec = found.turn.turns in record {
    count = λ x here. ap length rec.lanes_are
        ∙ lanes-long found.turn.old.queues.items rec.has.lanes rec.found.lanes.items rec.has.each
        ∙ sym (ap length (own-new x here));
    ends = subst (AllByRecursion (λ (lane : Option Lane). IfSome lane IsWithinEnds)) (sym rec.lanes_are)
        rec.has.within;
  }
