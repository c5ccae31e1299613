-- A member goes on with what was found of it, or it may not.
use Rattle.std.proofs.Common.{◌≡◌, ℕ, Bool, true, false, ◌&&◌, List, [], ◌∷◌, Option, Some, None, map, take, length, refl, sym, ap, ◌∙◌, subst, inl, inr, arith}
use Rattle.std.proofs.Math.Seq.{take-length}
use Rattle.std.specs.Prelude.{IfSome, is_some, nat_le, slice_get}
use Rattle.std.proofs.lemmas.Bool.{and_from, and_parts, cases_Bool, false≢true, le-leb, leb-true}
use Rattle.std.proofs.lemmas.List.Elements.{All-from_recursion, All-weaker}
use Rattle.qq_base.specs.declared.ids.QueueId.{QueueId}
use Rattle.qq_entry.specs.declared.command.Entry.{Entry}
use Rattle.qq_log.specs.Log.{LogState}
use Rattle.qq_log.specs.Stable.{Stable, new_state, stable}
use Rattle.qq_log.specs.declared.lane.Lane.{Lane}
use Rattle.qq_log.specs.declared.op.Op.{Op}
use Rattle.qq_lots.proofs.Counts.{state-count}
use Rattle.qq_raft_core.specs.Raft.{IsInLog, IsWithinEnds}
use Rattle.qq_raft_core.specs.declared.lanes.Lanes.{Lanes}
use Rattle.qq_raft_model.specs.Group.{Group as GroupState, Seat as SeatState, has_node, is_down, may_restart}
use Rattle.qq_raft_model.specs.Handing.{plain_state}
use Rattle.qq_queue.specs.declared.machine_queue.MachineQueue.{MachineQueue}
use Rattle.qq_recover.specs.State.{IsSoundEntry, IsWithinEnds as IsLaneWithin}
use Rattle.qq_group.specs.Follows.{OthersStay}
use Rattle.qq_group.specs.Group.{IsSeat, IsSeatBy, KnowsLeft, Represents, server_at, server_by}
use Rattle.qq_group.specs.Restarts.{Finds as FindsLog, IsFound, IsRestartCaused, is_known, noticed_at}
use Rattle.qq_group.specs.declared.restart.RestartFault.{RestartFault}
use Rattle.qq_group.specs.declared.restart.RestartFault.TheVariants.{Lost, Memory}
use Rattle.qq_group.specs.declared.seat.Seat.{Seat}
use Rattle.qq_cluster_model.specs.Queue.{Finds, Queue, happens}
use Rattle.qq_queue.specs.Agreeing.{BeginsWith}
use Rattle.qq_queue.specs.ClusterQueue.{IsSameQueue, Stands as IsQueue}
use Rattle.qq_queue.specs.Members.{AreSound, Member, Members, own_log}
use Rattle.qq_queue.specs.Sessions.{Standings}
use Rattle.qq_queue.specs.declared.cluster_queue.ClusterQueue.{ClusterQueue}
use Rattle.qq_opening.specs.Restarting.{MayTakeUp}
use Rattle.qq_opening.specs.Taking.{IsFindCaused, IsHanded, IsLostTo, IsNewSeat, IsNoLog, IsOfOps, IsTakeCaused, IsUnused, MayBeHanded, MayFind, MayNotFind, TakesUp, lane_base, lane_state, log_found}
use Rattle.qq_opening.specs.declared.taking.Handed.{Handed}
use Rattle.qq_opening.specs.declared.taking.Handed.TheVariants.{AsFound, Nothing, Known}

-- ---- the log of a lane

pub log-state : (id : QueueId) (lane : Option Lane) (room : ℕ) (log : LogState) → log ≡ log_found id lane room
    → plain_state log.op log.term log.vote log.entries ≡ lane_state lane
log-state id None room log is = ap (λ (l : LogState). plain_state l.op l.term l.vote l.entries) is
log-state id (Some lane) room log is = ap (λ (l : LogState). plain_state l.op l.term l.vote l.entries) is

pub log-base : (id : QueueId) (lane : Option Lane) (room : ℕ) (log : LogState) → log ≡ log_found id lane room
    → log.base ≡ lane_base lane
log-base id None room log is = ap (λ (l : LogState). l.base) is
log-base id (Some lane) room log is = ap (λ (l : LogState). l.base) is

pub log-within : (id : QueueId) (lane : Option Lane) (room : ℕ) (log : LogState) → log ≡ log_found id lane room
    → IfSome lane IsLaneWithin → IsWithinEnds log
log-within id None room log is within = subst IsWithinEnds (sym is) (record {
  op = omega arith;
  term = omega arith;
  vote = tt;
  last = omega arith;
  entries = All-from_recursion IsInLog [] tt;
})
log-within id (Some lane) room log is within = subst IsWithinEnds (sym is) (record {
  op = within.op;
  term = within.term;
  vote = within.vote;
  last = omega (arith, within.last);
  entries = All-weaker IsSoundEntry IsInLog (λ (e : Entry) f. (f.entry, f.term)) lane.entries within.entries;
})

-- ---- a member that is down

module _ (g : GroupState) (group : Members) (k : ℕ) (r : Represents own_log g group) (down : server_at k group ≡ None)
  where
    abbrev here : Option (Seat MachineQueue LogState)
    here = slice_get group.seats.items k

    -- its seat, as that of a member that is down
    seat-by : (state : SeatState) (seat : Seat MachineQueue LogState) → IsSeatBy own_log state seat seat.server
        → seat.server ≡ None → IsSeatBy own_log state seat None
    seat-by state seat is none = subst (λ (o : Option Member). IsSeatBy own_log state seat o) none is

    pub seat-down : (g.seat k).server ≡ None
    seat-down = by here (r.seats k) down
      where
        by : (o : Option (Seat MachineQueue LogState)) → IsSeat own_log (g.seat k) o → server_by o ≡ None
            → (g.seat k).server ≡ None
        by None is none = is
        by (Some seat) is none = (seat-by (g.seat k) seat is none).0

    -- where it is known what its log was handed, so is how much of that was noticed
    pub seat-noticed : is_known here ≡ true → (g.seat k).noticed ≡ noticed_at here
    seat-noticed known = by here (r.seats k) down known
      where
        left : (seat : Seat MachineQueue LogState) (o : Option (Lanes LogState)) → KnowsLeft own_log (g.seat k) seat o
            → (g.seat k).noticed ≡ seat.noticed
        left seat None knows = absurd knows
        left seat (Some lanes) knows = knows.noticed

        by : (o : Option (Seat MachineQueue LogState)) → IsSeat own_log (g.seat k) o → server_by o ≡ None
            → is_known o ≡ true → (g.seat k).noticed ≡ noticed_at o
        by None is none known' = absurd (false≢true known')
        by (Some seat) is none known' = left seat seat.left ((seat-by (g.seat k) seat is none).1 known')

-- ---- a log without ops

some-state : (a b : Stable) → Some a ≡ Some b → a ≡ b
some-state a b e = cc

no-entries : (entries : List Entry) → map Some entries ≡ [] → entries ≡ []
no-entries [] is = refl
no-entries (e ∷ entries) is = absurd cc

-- a log whose state is a new one has no ops
pub state-unused : (l : LogState) → plain_state l.op l.term l.vote l.entries ≡ new_state → IsUnused l
state-unused l same = record {
  op = ap (λ (s : Stable). s.op) same;
  term = ap (λ (s : Stable). s.term) same;
  vote = ap (λ (s : Stable). s.vote) same;
  entries = no-entries l.entries (ap (λ (s : Stable). s.log) same);
}

pub unused-state : (l : LogState) → IsUnused l → plain_state l.op l.term l.vote l.entries ≡ new_state
unused-state l u = λ i. plain_state (u.op i) (u.term i) (u.vote i) (u.entries i)

-- ---- what may be found

module _ (k : ℕ) (g : GroupState) (l : LogState) where
  -- a member that is down may restart with it
  pub may-found : (g.seat k).server ≡ None → has_node k g.nodes ≡ true → IsFound g k l
      → may_restart k l.op g ≡ true
  may-found down member f =
      and_from (is_down (g.seat k).server)
      (has_node k g.nodes && (nat_le (g.seat k).noticed l.op && nat_le l.op (length (g.seat k).ops)))
      (ap is_down down)
      (and_from (has_node k g.nodes) (nat_le (g.seat k).noticed l.op && nat_le l.op (length (g.seat k).ops)) member
      (and_from (nat_le (g.seat k).noticed l.op) (nat_le l.op (length (g.seat k).ops))
      (le-leb (g.seat k).noticed l.op f.noticed) (le-leb l.op (length (g.seat k).ops) f.handed)))

  -- what it may restart with was found
  pub found-of : may_restart k l.op g ≡ true
      → stable (take l.op (g.seat k).ops) ≡ Some (plain_state l.op l.term l.vote l.entries) → IsFound g k l
  found-of may is =
      let within = and_parts (nat_le (g.seat k).noticed l.op) (nat_le l.op (length (g.seat k).ops))
      (and_parts (has_node k g.nodes) (nat_le (g.seat k).noticed l.op && nat_le l.op (length (g.seat k).ops))
      (and_parts (is_down (g.seat k).server)
      (has_node k g.nodes && (nat_le (g.seat k).noticed l.op && nat_le l.op (length (g.seat k).ops))) may).1).1 in
      record {
        noticed = leb-true (g.seat k).noticed l.op within.0;
        handed = leb-true l.op (length (g.seat k).ops) within.1;
        is = is;
      }

  -- of a log that was handed nothing
  none-found : (g.seat k).ops ≡ [] → l.op ≡ 0 → stable (take l.op (g.seat k).ops) ≡ Some new_state
  none-found ops op = λ i. stable (take (op i) (ops i))

  pub new-found : IsNewSeat (g.seat k) → IsUnused l → IsFound g k l
  new-found seat l-unused = record {
    noticed = omega (arith, seat.noticed);
    handed = omega (arith, l-unused.op);
    is = none-found seat.ops l-unused.op
        ∙ sym (λ i. Some (plain_state (l-unused.op i) (l-unused.term i) (l-unused.vote i) (l-unused.entries i)));
  }

  -- what is found where nothing was handed has no ops
  pub none-unused : l.op ≡ 0 → IsFound g k l → IsUnused l
  none-unused none f =
      state-unused l (some-state (plain_state l.op l.term l.vote l.entries) new_state
      (sym f.is ∙ ap (λ (n : ℕ). stable (take n (g.seat k).ops)) none))

  pub new-unused : IsNewSeat (g.seat k) → IsFound g k l → IsUnused l
  new-unused seat f =
      none-unused (let most = f.handed in let long = ap length seat.ops in omega (arith, most, long)) f

  -- what is found is all that was handed
  pub all-found : (state : Stable) → plain_state l.op l.term l.vote l.entries ≡ state
      → stable (g.seat k).ops ≡ Some state → (g.seat k).noticed ≡ length (g.seat k).ops → IsFound g k l
  all-found state same is noticed =
      let op : l.op ≡ length (g.seat k).ops =
      ap (λ (s : Stable). s.op) same ∙ state-count (g.seat k).ops state is in
      record {
        noticed = omega (arith, noticed, op);
        handed = omega (arith, op);
        is = ap stable (all-of (g.seat k).ops l.op op) ∙ is ∙ ap (λ (s : Stable). Some s) (sym same);
      }
    where
      all-of : {A : Type 0} (xs : List A) (n : ℕ) → n ≡ length xs → take n xs ≡ xs
      all-of xs n e = ap (λ (m : ℕ). take m xs) e ∙ take-length xs

-- ---- the queue after that

module _ (k : ℕ) (handed : Handed) (id : QueueId) (lane : Option Lane) (room : ℕ) (log : LogState) (old : ClusterQueue)
    (is : log ≡ log_found id lane room) (down : server_at k old.group ≡ None) where
  state-is : plain_state log.op log.term log.vote log.entries ≡ lane_state lane
  state-is = log-state id lane room log is

  op-is : log.op ≡ (lane_state lane).op
  op-is = ap (λ (s : Stable). s.op) state-is

  abbrev known : Bool
  known = is_known (slice_get old.group.seats.items k)

  -- what isn't known to the member
  found-unknown : (h : Handed) (q : Queue) → MayBeHanded h log → IsHanded h lane (q.group.seat k)
      → IsFound q.group k log
  found-unknown AsFound q may fits = all-found k q.group log (lane_state lane) state-is fits.is fits.noticed
  found-unknown Nothing q may fits = new-found k q.group log fits may
  found-unknown Known q may fits = absurd may

  -- Where it is known what the log was handed, it was found in that; else it is what is taken to be handed.
  found-now : (sessions : Standings) (q : Queue) → IsQueue sessions old q → IsHanded handed lane (q.group.seat k)
      → MayFind k handed log old → FindsLog own_log k log old.group → IsFound q.group k log
  found-now sessions q st fits may found = elim (cases_Bool known) [
    | inl own ↦ found q.group st.group.represents own
    | inr none ↦ found-unknown handed q (may.unknown none) fits
  ]

  -- a node that is opened has a log of ops
  of-ops : MayFind k handed log old → handed ≡ AsFound → IsOfOps lane
  of-ops may opens = record {
    base = sym (log-base id lane room log is) ∙ may.base;
    unused = λ none. (let unknown : known ≡ false = not-known may opens in
        sym state-is
        ∙ unused-state log (subst (λ (h : Handed). MayBeHanded h log) opens (may.unknown unknown) (op-is ∙ none)));
  }
    where
      not-known : MayFind k handed log old → handed ≡ AsFound → known ≡ false
      not-known m o = elim (cases_Bool known) [
        | inl own ↦ absurd (m.known own o)
        | inr none ↦ none
      ]

  pub found-stands : (new : ClusterQueue) → has_node k old.group.nodes.items ≡ true → MayFind k handed log old
      → FindsLog own_log k log old.group
      → ((sessions : Standings) (q : Queue) → IsQueue sessions old q → (known ≡ false → IsFound q.group k log)
      → IsQueue sessions new (happens q (Finds k log.op)))
      → AreSound new.group → IsSameQueue old new
      → ((logs : ℕ → List Op) → BeginsWith logs old
      → stable (logs k) ≡ Some (plain_state log.op log.term log.vote log.entries) → BeginsWith logs new)
      → is_some (server_at k new.group) ≡ true → OthersStay k old.group new.group → TakesUp k handed lane old new
  found-stands new member may found does sound same begins up others = record {
    sound = sound;
    same = same;
    base = sym (log-base id lane room log is) ∙ may.base;
    of_ops = of-ops may;
    may = λ sessions q st fits.
        (let f : IsFound q.group k log = found-now sessions q st fits may found in
        subst (MayTakeUp k q) state-is (
          may-found k q.group log (seat-down q.group old.group k st.group.represents down)
              (ap (has_node k) st.group.represents.nodes ∙ member) f,
          f.is,
        ));
    does = λ sessions q st fits.
        subst (λ (op : ℕ). IsQueue sessions new (happens q (Finds k op))) op-is
        (does sessions q st (λ none. found-now sessions q st fits may found));
    begins = λ logs begun own. begins logs begun (own ∙ ap (λ (s : Stable). Some s) (sym state-is));
    up = up;
    others = others;
  }

  -- ---- or it may not

  -- with what it may go on, that was found
  may-found_by : (q : Queue) → MayTakeUp k q (lane_state lane) → IsFound q.group k log
  may-found_by q may =
      let own : MayTakeUp k q (plain_state log.op log.term log.vote log.entries) =
      subst (MayTakeUp k q) (sym state-is) may in
      found-of k q.group log own.0 own.1

  not-handed : (h : Handed) (q : Queue) → (MayBeHanded h log → ⊥) → (h ≡ Known → ⊥)
      → IsHanded h lane (q.group.seat k) → IsFound q.group k log → ⊥
  not-handed AsFound q none other fits f = none (λ op. none-unused k q.group log op f)
  not-handed Nothing q none other fits f = none (new-unused k q.group log fits f)
  not-handed Known q none other fits f = other refl

  none-noticed : (h : Handed) (q : Queue) → (h ≡ AsFound → ⊥) → (h ≡ Known → ⊥) → IsHanded h lane (q.group.seat k)
      → (q.group.seat k).noticed ≡ 0
  none-noticed AsFound q first other fits = absurd (first refl)
  none-noticed Nothing q first other fits = fits.noticed
  none-noticed Known q first other fits = absurd (other refl)

  lost-before : (noticed found : ℕ) → (handed ≡ AsFound → ⊥) → MayNotFind k handed log old noticed found
      → IsLostTo k handed lane old noticed found
  lost-before noticed found first m = record {
    refused = λ sessions q st fits base may. elim (cases_Bool known) [
      | inl own ↦ (m.known own).2 (log-base id lane room log is ∙ base)
      | inr none ↦
          not-handed handed q ((m.unknown none).2 (log-base id lane room log is ∙ base)) (m.unknown none).0 fits
          (may-found_by q may)
    ];
    noticed_is = λ sessions q st fits. elim (cases_Bool known) [
      | inl own ↦ (m.known own).1 ∙ sym (seat-noticed q.group old.group k st.group.represents down own)
      | inr none ↦ (m.unknown none).1 ∙ sym (none-noticed handed q first (m.unknown none).0 fits)
    ];
    found_is = m.found_is ∙ op-is;
  }

  lost-then : (noticed found : ℕ) → IsRestartCaused own_log k log old.group (Lost noticed found)
      → IsLostTo k handed lane old noticed found
  lost-then noticed found lost = record {
    refused = λ sessions q st fits base may. lost.0.other q.group st.group.represents (may-found_by q may);
    noticed_is = λ sessions q st fits.
        lost.1 ∙ sym (seat-noticed q.group old.group k st.group.represents down lost.0.known);
    found_is = lost.2 ∙ op-is;
  }

  -- what a node has that is opened is no log
  no-log : (noticed found : ℕ) → handed ≡ AsFound → MayNotFind k handed log old noticed found
      → IsNoLog lane noticed found
  no-log noticed found opens m =
      let unknown : known ≡ false = elim (cases_Bool known) [
        | inl own ↦ absurd ((m.known own).0 opens)
        | inr none ↦ none
      ] in
      record {
        refused = λ of_ops. (m.unknown unknown).2 (log-base id lane room log is ∙ of_ops.base)
            (subst (λ (h : Handed). MayBeHanded h log) (sym opens)
            (λ none. state-unused log (state-is ∙ of_ops.unused (sym op-is ∙ none))));
        noticed_is = (m.unknown unknown).1;
        found_is = m.found_is ∙ op-is;
      }

pub check-caused : (k : ℕ) (handed : Handed) (id : QueueId) (lane : Option Lane) (room : ℕ) (log : LogState)
    (old : ClusterQueue) → log ≡ log_found id lane room → server_at k old.group ≡ None → (fault : RestartFault)
    → IsFindCaused k handed log old fault → IsTakeCaused k handed lane old fault
check-caused k AsFound id lane room log old is down (Lost noticed found) caused =
    no-log k AsFound id lane room log old is down noticed found refl caused
check-caused k Nothing id lane room log old is down (Lost noticed found) caused =
    lost-before k Nothing id lane room log old is down noticed found (λ e. absurd cc) caused
check-caused k Known id lane room log old is down (Lost noticed found) caused =
    lost-before k Known id lane room log old is down noticed found (λ e. absurd cc) caused
check-caused k handed id lane room log old is down (Memory memory) caused = caused

-- where the member doesn't know, it isn't lost to it
never-lost : (k : ℕ) (log : LogState) (old : ClusterQueue) (noticed found : ℕ) → MayFind k AsFound log old
    → IsRestartCaused own_log k log old.group (Lost noticed found) → ⊥
never-lost k log old noticed found may lost = may.known lost.0.known refl

pub find-caused : (k : ℕ) (handed : Handed) (id : QueueId) (lane : Option Lane) (room : ℕ) (log : LogState)
    (old : ClusterQueue) → log ≡ log_found id lane room → server_at k old.group ≡ None
    → MayFind k handed log old → (fault : RestartFault) → IsRestartCaused own_log k log old.group fault
    → IsTakeCaused k handed lane old fault
find-caused k AsFound id lane room log old is down may (Lost noticed found) caused =
    absurd (never-lost k log old noticed found may caused)
find-caused k Nothing id lane room log old is down may (Lost noticed found) caused =
    lost-then k Nothing id lane room log old is down noticed found caused
find-caused k Known id lane room log old is down may (Lost noticed found) caused =
    lost-then k Known id lane room log old is down noticed found caused
find-caused k handed id lane room log old is down may (Memory memory) caused = caused
