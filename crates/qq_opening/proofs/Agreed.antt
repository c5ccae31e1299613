-- Whether the logs that were read of a queue support an audit, by what its members went on with.
use Rattle.std.proofs.Common.{◌≡◌, ◌<◌, ◌≤◌, ◌+◌, ◌-◌, ℕ, zero, suc, Bool, true, false, ◌||◌, List, [], ◌∷◌, Option, Some, None, get_or, length, refl, sym, ap, ◌∙◌, subst, inl, inr, arith}
use Rattle.std.specs.Prelude.{All, is_some, nat_eq, slice_get}
use Rattle.std.specs.List.{AllByRecursion, range_with_len}
use Rattle.std.proofs.lemmas.Bool.{cases_Bool, cases_eq, eq-eqb, eqb-true, false≢true, or_right}
use Rattle.std.proofs.lemmas.List.Elements.{All-from_all_within}
use Rattle.std.proofs.lemmas.Option.{get_or_from_slice_get, slice_get-get_or, slice_get_within}
use Rattle.qq_base.specs.declared.ids.NodeId.{NodeId}
use Rattle.qq_entry.specs.declared.queue.QueueArgs.{QueueArgs}
use Rattle.qq_group.specs.Group.{server_at}
use Rattle.qq_group.specs.Opening.{IsAllDown}
use Rattle.qq_log.specs.Stable.{stable}
use Rattle.qq_log.specs.declared.op.Op.{Op}
use Rattle.qq_raft_model.specs.Group.{Group, Seat}
use Rattle.qq_raft_model.specs.Promises.{AreDistinct, members_of}
use Rattle.qq_raft_protocol.specs.Facts.{In}
use Rattle.qq_raft_protocol.proofs.Lists.{In-cases}
use Rattle.qq_route.specs.declared.queue_row.QueueRow.{QueueRow}
use Rattle.qq_wal_chain.specs.Lanes.{Lanes}
use Rattle.qq_cluster_model.specs.Cluster.{Setup}
use Rattle.qq_cluster_model.specs.ClusterLaws.{HasGroups}
use Rattle.qq_cluster_model.specs.Laws.{IsBegun}
use Rattle.qq_queue.specs.Agreeing.{BeginsWith, HasItsLogs}
use Rattle.qq_queue.specs.Members.{Member}
use Rattle.qq_queue.specs.declared.cluster_queue.ClusterQueue.{ClusterQueue}
use Rattle.qq_cluster.specs.Setting.{is_among}
use Rattle.qq_opening.specs.Opened.{Agrees, Disagrees, IsOpenedQueue, IsUpWith}
use Rattle.qq_opening.specs.Opening.{AreLogsOf, AreReadLogs, IsSetupWith, Logs, seat_over, state_read}
use Rattle.qq_opening.proofs.ReadLogs.{none-come}
use Rattle.qq_opening.proofs.RowsOf.{row-members, row-place, same-row}
use Rattle.qq_opening.proofs.Untouched.{in-first, range-below}

-- one of the members
in-members : (k : ℕ) (nodes : List NodeId) → is_among k nodes ≡ true → In k (members_of nodes)
in-members k [] is = absurd (false≢true is)
in-members k (n ∷ nodes) is = by (nat_eq n.0 k) refl (λ whole. in-members k nodes whole) is
  where
    by : (b : Bool) → nat_eq n.0 k ≡ b → (is_among k nodes ≡ true → In k (members_of nodes))
        → (b || is_among k nodes) ≡ true → In k (members_of (n ∷ nodes))
    by true same rest whole = inl (sym (eqb-true n.0 k same))
    by false other rest whole = inr (rest whole)

-- and its number is that of one of the nodes
among-nodes : (k : ℕ) (nodes : List NodeId) (list : List ℕ) → AllByRecursion (λ (n : NodeId). In n.0 list) nodes
    → is_among k nodes ≡ true → In k list
among-nodes k [] list all is = absurd (false≢true is)
among-nodes k (n ∷ nodes) list all is =
    by (nat_eq n.0 k) refl (λ whole. among-nodes k nodes list all.1 whole) is
  where
    by : (b : Bool) → nat_eq n.0 k ≡ b → (is_among k nodes ≡ true → In k list)
        → (b || is_among k nodes) ≡ true → In k list
    by true same rest whole = subst (λ (j : ℕ). In j list) (eqb-true n.0 k same) all.0
    by false other rest whole = rest whole

module _ (rows : List QueueRow) (count : ℕ) (lanes : ℕ → Option Lanes) (logs : Logs) (setup : Setup)
    (sw : IsSetupWith setup rows count logs) (i : ℕ) (row : QueueRow) (here : slice_get rows i ≡ Some row)
    (fits : (k : ℕ) → 0 < k → k ≤ count → is_among k row.members ≡ true
    → stable (logs (i + 1) k) ≡ Some (state_read (lanes k) row.args.queue)) (d : ClusterQueue)
    (q : IsOpenedQueue row lanes count d)
    (none : (k : ℕ) → is_among k row.members ≡ false → logs (i + 1) k ≡ []) where
  abbrev g : Group
  g = setup.group (i + 1)

  seat : (k : ℕ) → g.seat k ≡ seat_over (logs (i + 1) k)
  seat k = sw.seats (i + 1) k

  within : (k : ℕ) → is_among k row.members ≡ true → (0 < k) × (k ≤ count)
  within k member =
      let there : In k setup.nodes =
      among-nodes k row.members setup.nodes
      (subst (AllByRecursion (λ (n : NodeId). In n.0 setup.nodes))
      (row-members rows setup sw.places sw.ids sw.each i row here)
      (sw.among (i + 1) (row-place rows setup sw.places sw.ids sw.each i row here))) member in
      let bounds = range-below 1 count k (subst (In k) sw.nodes there) in
      let low = bounds.0 in
      let high = bounds.1 in
      (omega (arith, low), omega (arith, high))

  -- a member that is down has no ops
  empty-log : (k : ℕ) → server_at k d.group ≡ None → logs (i + 1) k ≡ []
  empty-log k down = elim (cases_Bool (is_among k row.members)) [
    | inl member ↦ by (lanes k) refl member
    | inr other ↦ none k other
  ]
    where
      by : (o : Option Lanes) → lanes k ≡ o → is_among k row.members ≡ true → logs (i + 1) k ≡ []
      by None is member =
          let bounds = within k member in
          none-come (logs (i + 1) k)
          (fits k bounds.0 bounds.1 member ∙ ap (λ (l : Option Lanes). Some (state_read l row.args.queue)) is)
      by (Some l) is member =
          let bounds = within k member in
          let up : is_some (server_at k d.group) ≡ true =
          subst (λ (x : Option Lanes). IsUpWith x (server_at k d.group)) is (q.up k bounds.0 bounds.1 member) in
          absurd (false≢true (sym (ap (λ (o : Option Member). is_some o) down) ∙ up))

  pub its-logs : HasItsLogs d g
  its-logs = record {
    down = all-down;
    noticed = λ k. ap (λ (x : Seat). x.noticed) (seat k) ∙ sym (ap (λ (x : Seat). length x.ops) (seat k));
    begins = subst (λ (l : ℕ → List Op). BeginsWith l d) (λ j. λ (k : ℕ). ap (λ (x : Seat). x.ops) (sym (seat k)) j)
        (q.begins (logs (i + 1)) fits);
    empty = λ k down. ap (λ (x : Seat). x.ops) (seat k) ∙ empty-log k down;
    others = λ k away. ap (λ (x : Seat). x.ops) (seat k)
        ∙ none k (not-among k (λ member. away (subst (λ (l : List NodeId). In k (members_of l))
        (sym (sw.each i row here).down.nodes_is) (in-members k row.members member))));
  }
    where
      all-down : IsAllDown d.args.queue d.group.nodes.items [] g
      all-down =
          subst (λ (a : QueueArgs). IsAllDown a.queue d.group.nodes.items [] g) (sym q.args_is)
          (subst (λ (l : List NodeId). IsAllDown row.args.queue l [] g) (sym q.nodes_is) (sw.each i row here).down)

      not-among : (k : ℕ) → (is_among k row.members ≡ true → ⊥) → is_among k row.members ≡ false
      not-among k away = elim (cases_Bool (is_among k row.members)) [
        | inl member ↦ absurd (away member)
        | inr other ↦ other
      ]

  -- no audit is supported
  pub lost-logs : Disagrees d → IsBegun g → ⊥
  lost-logs other begun = other g begun.whole its-logs begun.opened

-- whoever isn't a member has no log in a queue that may begin
pub begun-none : (row : QueueRow) (g : Group) (k : ℕ) (ops : List Op) → IsBegun g → g.nodes ≡ row.members
    → g.seat k ≡ seat_over ops → is_among k row.members ≡ false → ops ≡ []
begun-none row g k ops begun nodes seat other =
    sym (ap (λ (x : Seat). x.ops) seat) ∙ begun.opened.down.others k (λ here. false≢true (sym other
    ∙ from-members k row.members (subst (λ (l : List NodeId). In k (members_of l)) nodes here)))
  where
    from-members : (j : ℕ) (nodes' : List NodeId) → In j (members_of nodes') → is_among j nodes' ≡ true
    from-members j [] here = absurd here
    from-members j (n ∷ nodes') (inl same) =
        ap (λ (b : Bool). b || is_among j nodes') (eq-eqb n.0 j (sym same))
    from-members j (n ∷ nodes') (inr later) =
        or_right (nat_eq n.0 j) (is_among j nodes') (from-members j nodes' later)

-- logs of rows are those of members
pub logs-none : (rows : List QueueRow) (logs : Logs) → AreLogsOf rows logs → (i : ℕ) (row : QueueRow)
    → slice_get rows i ≡ Some row → (k : ℕ) → is_among k row.members ≡ false → logs (i + 1) k ≡ []
logs-none rows logs own i row here k other =
    own.others (i + 1) k
    (λ j r e there member. false≢true (sym other ∙ ap (λ (x : QueueRow). is_among k x.members)
    (same-row rows i row r here (ap (slice_get rows) (let f : i ≡ j = omega (arith, e) in f) ∙ there)) ∙ member))

-- an item of a list
pub item-of : {A : Type 0} (xs : List A) (n : ℕ) → n < length xs → (x : A) × (slice_get xs n ≡ Some x)
item-of [] n less = absurd (omega (arith, less))
item-of (x ∷ xs) zero less = (x, refl)
item-of (x ∷ xs) (suc n) less = item-of xs n (omega (arith, less))

-- where all queues agree, each may begin with these logs
module _ (rows : List QueueRow) (count : ℕ) (lanes : ℕ → Option Lanes) (logs : Logs) (own : AreLogsOf rows logs)
    (are : AreReadLogs rows (range_with_len 1 count) lanes logs) (queues : List ClusterQueue)
    (many : length queues ≡ length rows) (agree : All Agrees queues)
    (opened : (i : ℕ) (row : QueueRow) (d : ClusterQueue) → slice_get rows i ≡ Some row → slice_get queues i ≡ Some d
    → IsOpenedQueue row lanes count d)
    (distinct : (i : ℕ) (row : QueueRow) → slice_get rows i ≡ Some row → AreDistinct row.members) (setup : Setup)
    (sw : IsSetupWith setup rows count logs) where
  row-begun : (i : ℕ) → i < length rows → IsBegun (setup.group (i + 1))
  row-begun i lt =
      let row = item-of rows i lt in
      let d = item-of queues i (omega (arith, lt, many)) in
      let q = opened i row.0 d.0 row.1 d.1 in
      let agrees : Agrees d.0 =
      subst Agrees (get_or_from_slice_get queues i d.0 d.0 d.1) (agree i d.0 (slice_get_within queues i d.0 d.1)) in
      record {
        distinct = subst AreDistinct (sym (sw.each i row.0 row.1).down.nodes_is) (distinct i row.0 row.1);
        whole = [];
        opened = agrees (setup.group (i + 1))
            (its-logs rows count lanes logs setup sw i row.0 row.1
            (λ k low high member. are k i row.0 (in-first count k low high) row.1 member) d.0 q
            (logs-none rows logs own i row.0 row.1));
      }

  pub all-begun : HasGroups setup
  all-begun place = elim (In-cases place setup.places) [
    | inl here ↦ (let bounds = range-below 1 (length rows) place (subst (In place) sw.places here) in
        let low = bounds.0 in
        let high = bounds.1 in
        subst (λ (p : ℕ). IsBegun (setup.group p)) (let e : (place - 1) + 1 ≡ place = omega (arith, low) in e)
        (row-begun (place - 1) (omega (arith, low, high))))
    | inr away ↦ sw.others place away
  ]

-- ---- the queues, one after the other

some-queue : (a b : ClusterQueue) → Some a ≡ Some b → a ≡ b
some-queue a b e = cc

-- the first so many agree
abbrev pub AgreeBelow : ℕ → List ClusterQueue → Type 0
AgreeBelow at queues = (i : ℕ) (d : ClusterQueue) → i < at → slice_get queues i ≡ Some d → Agrees d

pub agree-none : (queues : List ClusterQueue) → AgreeBelow 0 queues
agree-none queues i d lt here = absurd (omega (arith, lt))

pub agree-next : (at : ℕ) (queues : List ClusterQueue) (own : ClusterQueue) → slice_get queues at ≡ Some own
    → Agrees own → AgreeBelow at queues → AgreeBelow (at + 1) queues
agree-next at queues own here agrees below i d lt there = elim (cases_eq i at) [
  | inl same ↦ subst Agrees (some-queue own d (sym here ∙ ap (slice_get queues) (sym same) ∙ there)) agrees
  | inr other ↦ below i d (omega (arith, lt, other)) there
]

pub agree-all : (at : ℕ) (queues : List ClusterQueue) → length queues ≤ at → AgreeBelow at queues → All Agrees queues
agree-all at queues le below =
    All-from_all_within Agrees queues
    (λ i d low high. below i (get_or queues i d) (omega (arith, high, le)) (slice_get-get_or queues i d high))

pub disagree-at : (at : ℕ) (queues : List ClusterQueue) (own : ClusterQueue) → slice_get queues at ≡ Some own
    → Disagrees own → (d : ClusterQueue) → slice_get queues at ≡ Some d → Disagrees d
disagree-at at queues own here disagrees d there = subst Disagrees (some-queue own d (sym here ∙ there)) disagrees
