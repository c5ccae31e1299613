-- The nodes of a run begin over the disks that are given for them.
use Rattle.std.proofs.Common.{◌≡◌, ◌⊎◌, ◌<◌, ◌≤◌, ◌+◌, ◌-◌, ◌^◌, ◌%◌, ℕ, zero, suc, Bool, true, List, [], ◌∷◌, ◌++◌, length, map, get_or, Option, Some, None, refl, sym, ap, subst, ◌∙◌, inl, inr, arith}
use Rattle.std.specs.Prelude.{All, IfNone, IsTrue, min, nat_eq, option_map, slice_get}
use Rattle.std.specs.List.{AllByRecursion, list_all, range_with_len}
use Rattle.std.proofs.Math.Path.{fun_ext}
use Rattle.std.proofs.Math.Nat.{min-le_right}
use Rattle.std.proofs.lemmas.Bool.{and_from, and_parts, cond_both, eq-eqb, eqb-true, false≢true}
use Rattle.std.proofs.lemmas.List.Elements.{All-from_recursion, All-push}
use Rattle.std.proofs.lemmas.List.{length_push}
use Rattle.std.proofs.lemmas.List.FromFn.{length-map-range_with_len}
use Rattle.std.proofs.lemmas.Option.{slice_get_cases, slice_get_within}
use Rattle.qq_base.proofs.Lists.{find-in}
use Rattle.qq_base.specs.declared.ids.NodeId.{NodeId}
use Rattle.qq_base.specs.declared.ids.QueueId.{QueueId}
use Rattle.qq_defs.specs.Runnable.{AreQueuesAfter}
use Rattle.qq_disk.specs.Crash.{Remains, reopen}
use Rattle.qq_disk.specs.Disk.{Disk, now}
use Rattle.qq_disk.specs.Facts.{DiskFacts}
use Rattle.qq_log.specs.declared.op.Op.{Op}
use Rattle.qq_log.specs.declared.op.Op.TheVariants.{Change, SnapshotMade, SegmentMade}
use Rattle.qq_ports.specs.Yard.{IsNew, IsOpened}
use Rattle.qq_raft_msg.specs.Rpc.{IsNode}
use Rattle.qq_raft_protocol.specs.Facts.{In}
use Rattle.qq_route.specs.declared.queue_row.QueueRow.{QueueRow}
use Rattle.qq_route.specs.declared.setup.Setup.{Setup}
use Rattle.qq_route.specs.Members.{member, members}
use Rattle.qq_cluster_model.specs.Cluster.{new_cluster}
use Rattle.qq_cluster_model.specs.ClusterLaws.{HasGroups}
use Rattle.qq_cluster_model.specs.Laws.{IsBegun}
use Rattle.qq_cluster_laws.specs.Waiting.{HasOwnGroups, IsChangeOf}
use Rattle.qq_cluster_run.specs.Setup.{Logs, args_by, cluster_over, cluster_setup, group_over, is_change_of, members_by, name_by, new_logs, place_of, row_at}
use Rattle.qq_cluster_run.proofs.QueueRows.{at-index, first-after, found-index, places-after}
use Rattle.qq_cluster.specs.Nodes.{Stands}
use Rattle.qq_cluster.specs.Setting.{AreNew, HaveDisks, IsRow, IsRowOf, IsSetupOver, IsWhole}
use Rattle.qq_cluster.specs.declared.nodes.Nodes.{Nodes}
use Rattle.qq_opening.specs.Opening.{AreLogsOf, IsSetupWith}
use Rattle.qq_wal.specs.Running.{MayRecover}
use Rattle.qq_broker.specs.Lives.{Giving, IsGiven, under}
use Rattle.qq_broker.specs.Nodes.{IsDiskOf, MayRun}
use Rattle.qq_broker.specs.Serving.{AreGiven, AreUnopened, HaveGiven}
use Rattle.qq_broker.proofs.GoingOn.{in-range, range-in}

-- ---- queues

abbrev id_of : ℕ → QueueId
id_of place = record { 0 = place }

-- the queue at a place has the place's number
pub queue-own : (rows : List QueueRow) (place : ℕ) → (args_by (row_at rows place) place).queue ≡ id_of place
queue-own rows place = by (row_at rows place) refl
  where
    by : (o : Option QueueRow) → row_at rows place ≡ o → (args_by o place).queue ≡ id_of place
    by None is = refl
    by (Some row) is =
        let found = find-in (λ (r : QueueRow). nat_eq (place_of r) place) rows row is in
        ap id_of (eqb-true (place_of row) place found.1)

-- ---- members

-- each member of a group is a node
module _ (nodes : ℕ) (some : 0 < nodes) where
  among : (before a n : ℕ)
      → AllByRecursion (λ (m : NodeId). In m.0 (range_with_len 1 nodes))
      (map (member nodes before) (range_with_len a n))
  among before a zero = tt
  among before a (suc n) =
      (range-in ((before + a) % nodes + 1) 1 nodes (omega arith) (omega (arith, some)), among before (a + 1) n)

  pub rows-among : (before place : ℕ) (rows : List QueueRow) → AreQueuesAfter nodes before rows
      → AllByRecursion (λ (m : NodeId). In m.0 (range_with_len 1 nodes)) (members_by (row_at rows place))
  rows-among before place [] are = tt
  rows-among before place (row ∷ rows) are =
      cond_both (nat_eq (place_of row) place) (Some row) (row_at rows place)
      (λ (o : Option QueueRow). AllByRecursion (λ (m : NodeId). In m.0 (range_with_len 1 nodes)) (members_by o))
      (λ is.
      subst (AllByRecursion (λ (m : NodeId). In m.0 (range_with_len 1 nodes))) (sym are.0.members_are)
      (among before 0 (min row.args.group nodes)))
      (λ isnt. rows-among (before + 1) place rows are.1)

  module _ (few : nodes ≤ 7) where
    are-nodes : (before a n : ℕ) → AllByRecursion IsNode (map (member nodes before) (range_with_len a n))
    are-nodes before a zero = tt
    are-nodes before a (suc n) = ((omega arith, omega (arith, some, few)), are-nodes before (a + 1) n)

    members-in-range : (group before : ℕ) → All IsNode (members nodes group before) × (length (members nodes group before) < 2 ^ 32)
    members-in-range group before = (
      All-from_recursion IsNode (members nodes group before) (are-nodes before 0 (min group nodes)),
      omega (arith, few, min-le_right group nodes, length-map-range_with_len (member nodes before) 0 (min group nodes)),
    )

    in-range-rows : (before : ℕ) (rows : List QueueRow) → AreQueuesAfter nodes before rows → AllByRecursion IsRow rows
    in-range-rows before [] are = tt
    in-range-rows before (row ∷ rows) are = (
      subst (λ (l : List NodeId). All IsNode l × (length l < 2 ^ 32)) (sym are.0.members_are)
          (members-in-range row.args.group before),
      in-range-rows (before + 1) rows are.1,
    )

-- ---- changes of a queue

all-changes : (id : QueueId) (ops : List Op) → AllByRecursion (IsChangeOf id) ops → list_all (is_change_of id) ops ≡ true
all-changes id [] each = refl
all-changes id (op ∷ ops) each =
    and_from (is_change_of id op) (list_all (is_change_of id) ops) (one op each.0) (all-changes id ops each.1)
  where
    one : (o : Op) → IsChangeOf id o → is_change_of id o ≡ true
    one (Change own n term vote keep entries) is = eq-eqb own.0 id.0 (ap (λ (q : QueueId). q.0) is)
    one (SnapshotMade own n snapshot file) none = absurd none
    one (SegmentMade own n file first last) none = absurd none

pub changes-all : (id : QueueId) (ops : List Op) → list_all (is_change_of id) ops ≡ true
    → AllByRecursion (IsChangeOf id) ops
changes-all id [] each = tt
changes-all id (op ∷ ops) each =
    let parts = and_parts (is_change_of id op) (list_all (is_change_of id) ops) each in
    (one op parts.0, changes-all id ops parts.1)
  where
    one : (o : Op) → is_change_of id o ≡ true → IsChangeOf id o
    one (Change own n term vote keep entries) is = ap id_of (eqb-true own.0 id.0 is)
    one (SnapshotMade own n snapshot file) none = absurd (false≢true none)
    one (SegmentMade own n file first last) none = absurd (false≢true none)

-- each log holds changes of its queue alone, and there are none behind the last place
pub record AreApart (count : ℕ) (logs : Logs) : Type 0 where
  pub own : (place k : ℕ) → AllByRecursion (IsChangeOf (id_of place)) (logs place k)
  pub others : (place : ℕ) → (In place (range_with_len 1 count) → ⊥) → (k : ℕ) → logs place k ≡ []

-- ---- the setup

module _ (s : Setup) (may : MayRun s) where
  pub some-node : 0 < s.nodes
  some-node = may.some

  pub rows-range : All IsRow s.queues
  rows-range =
      All-from_recursion IsRow s.queues (in-range-rows s.nodes may.some may.few 0 s.queues may.queues_are)

  places-are : map place_of s.queues ≡ range_with_len 1 (length s.queues)
  places-are = places-after s.nodes 0 s.queues may.queues_are

  own-groups : (logs : Logs) → ((place k : ℕ) → AllByRecursion (IsChangeOf (id_of place)) (logs place k))
      → HasOwnGroups (cluster_over s logs)
  own-groups logs own = λ place. record {
    queue = sym (queue-own s.queues place);
    ops = λ k. subst (λ (id : QueueId). AllByRecursion (IsChangeOf id) (logs place k)) (sym (queue-own s.queues place))
        (own place k);
  }

  row-of : (logs : Logs) (at : ℕ) (row : QueueRow) → slice_get s.queues at ≡ Some row
      → IsRowOf (cluster_over s logs) (at + 1) row
  row-of logs at row here =
      let same : Some row ≡ row_at s.queues (at + 1) = sym (found-index s.nodes s.queues at row may.queues_are here) in
      record {
        name_is = ap name_by same;
        args_is = ap (λ (o : Option QueueRow). args_by o (at + 1)) same;
        down = record {
          queue_is = sym (ap (λ (o : Option QueueRow). (args_by o (at + 1)).queue) same ∙ queue-own s.queues (at + 1));
          nodes_is = sym (ap members_by same);
          seats = λ k. refl;
          bag = refl;
          audit_is = refl;
        };
      }

  -- over new logs
  pub is-set : HasGroups (cluster_setup s) → (count : ℕ) → count ≡ s.nodes
      → IsSetupOver (cluster_setup s) s.queues count
  is-set groups count is =
      subst (IsSetupOver (cluster_setup s) s.queues) (sym is)
      (record {
        set_up = record {
          groups = groups;
          own = own-groups new_logs (λ place k. tt);
          first = first-after s.nodes s.queues may.queues_are;
          places = places-are;
          nodes = refl;
          ids = λ place there. ap (λ (q : QueueId). q.0) (queue-own s.queues place);
          among = λ place there. rows-among s.nodes may.some 0 place s.queues may.queues_are;
        };
        each = row-of new_logs;
      })

  -- over these
  pub is-with : (logs : Logs) → HasGroups (cluster_setup s) → AreApart (length s.queues) logs → (count : ℕ)
      → count ≡ s.nodes → IsSetupWith (cluster_over s logs) s.queues count logs
  is-with logs new apart count is =
      subst (λ (n : ℕ). IsSetupWith (cluster_over s logs) s.queues n logs) (sym is)
      (record {
        places = places-are;
        nodes = refl;
        first = first-after s.nodes s.queues may.queues_are;
        ids = λ place there. ap (λ (q : QueueId). q.0) (queue-own s.queues place);
        among = λ place there. rows-among s.nodes may.some 0 place s.queues may.queues_are;
        own = own-groups logs apart.own;
        each = row-of logs;
        seats = λ place k. refl;
        others = others;
      })
    where
      others : (place : ℕ) → (In place (map place_of s.queues) → ⊥) → IsBegun ((cluster_over s logs).group place)
      others place none =
          let empty : logs place ≡ new_logs place =
          fun_ext (λ k. apart.others place (λ there. none (subst (In place) (sym places-are) there)) k) in
          subst (λ (l : ℕ → List Op). IsBegun (group_over (id_of place) (members_by (row_at s.queues place)) l)) (sym empty)
          (new place)

  -- logs of the rows
  pub is-apart : (logs : Logs) → AreLogsOf s.queues logs → AreApart (length s.queues) logs
  is-apart logs so = record { own = own; others = others }
    where
      -- a row's index, and its queue
      within : (at : ℕ) (row : QueueRow) → slice_get s.queues at ≡ Some row
          → In (at + 1) (range_with_len 1 (length s.queues))
      within at row here =
          let lt = slice_get_within s.queues at row here in
          range-in (at + 1) 1 (length s.queues) (omega arith) (omega (arith, lt))

      queue-is : (at : ℕ) (row : QueueRow) → slice_get s.queues at ≡ Some row → row.args.queue ≡ id_of (at + 1)
      queue-is at row here =
          let number = (at-index s.nodes 0 s.queues at row may.queues_are here).number in
          let same : row.args.queue.0 ≡ at + 1 = omega (arith, number) in ap id_of same

      others : (place : ℕ) → (In place (range_with_len 1 (length s.queues)) → ⊥) → (k : ℕ) → logs place k ≡ []
      others place none k =
          so.others place k
          (λ at row is here among. none (subst (λ (p : ℕ). In p (range_with_len 1 (length s.queues))) (sym is)
          (within at row here)))

      here-or-none : (at k : ℕ) → ((x : QueueRow) × (at < length s.queues) × (slice_get s.queues at ≡ Some x)
          × (get_or s.queues at x ≡ x)) ⊎ ((length s.queues ≤ at) × (slice_get s.queues at ≡ None))
          → AllByRecursion (IsChangeOf (id_of (at + 1))) (logs (at + 1) k)
      here-or-none at k (inl (row, lt, here, is)) =
          subst (λ (id : QueueId). AllByRecursion (IsChangeOf id) (logs (at + 1) k)) (queue-is at row here)
          (so.own at k row here)
      here-or-none at k (inr (past_end, none)) =
          subst (λ (ops : List Op). AllByRecursion (IsChangeOf (id_of (at + 1))) ops)
          (sym (others (at + 1)
          (λ there. (let ends = in-range (at + 1) 1 (length s.queues) there in absurd (omega (arith, ends.1, past_end)))) k))
          tt

      own : (place k : ℕ) → AllByRecursion (IsChangeOf (id_of place)) (logs place k)
      own zero k =
          subst (λ (ops : List Op). AllByRecursion (IsChangeOf (id_of 0)) ops)
          (sym (others 0 (λ there. (let ends = in-range 0 1 (length s.queues) there in absurd (omega (arith, ends.0)))) k)) tt
      own (suc at) k =
          let one : at + 1 ≡ suc at = omega arith in
          subst (λ (p : ℕ). AllByRecursion (IsChangeOf (id_of p)) (logs p k)) one
          (here-or-none at k (slice_get_cases s.queues at).1)

-- they are changes of their queues alone
pub own-changes : (count : ℕ) (logs : Logs) → AreApart count logs → (place k : ℕ)
    → list_all (is_change_of (record { 0 = place })) (logs place k) ≡ true
own-changes count logs apart place k = all-changes (id_of place) (logs place k) (apart.own place k)

-- ---- one more disk

last-at : {A : Type 0} (xs : List A) (x y : A) (at : ℕ) → slice_get (xs ++ x ∷ []) at ≡ Some y
    → (slice_get xs at ≡ Some y) ⊎ ((at ≡ length xs) × (y ≡ x))
last-at [] x y zero is = inr (refl, (let e : y ≡ x = cc in e))
last-at [] x y (suc at) is = absurd cc
last-at (z ∷ xs) x y zero is = inl is
last-at (z ∷ xs) x y (suc at) is =
    elim (last-at xs x y at is) [
      | inl there ↦ inl there
      | inr last ↦ inr (ap suc last.0, last.1)
    ]

module _ {D : Type 0} (is_given : Option (List ℕ) → ℕ → D → Bool) (facts : DiskFacts D) {A : Type 0} (text : A → List ℕ)
    (root : Option A) where
  new-by : (P : Type 0) → IfNone root P → IfNone (option_map text root) P
  new-by P so = by root so
    where
      by : (o : Option A) → IfNone o P → IfNone (option_map text o) P
      by None so = so
      by (Some a) so = tt

  pub given-more : (disks : List D) (d : D) → AreGiven (under is_given (option_map text root)) facts disks
      → is_given (option_map text root) (length disks + 1) d ≡ true → (IsTrue (facts.tells d) → IsOpened (facts.past d))
      → IfNone root (IsTrue (facts.tells d) → IsNew (facts.past d))
      → (more : List D) → more ≡ disks ++ d ∷ [] → AreGiven (under is_given (option_map text root)) facts more
  given-more disks d each asked opened new more are = λ i disk here.
      by i disk (last-at disks d disk i (subst (λ (l : List D). slice_get l i ≡ Some disk) are here))
    where
      own : IsGiven (under is_given (option_map text root)) facts (length disks + 1) d
      own = record { asked = asked; opened = opened; new = new-by (IsTrue (facts.tells d) → IsNew (facts.past d)) new }

      by : (i : ℕ) (disk : D) → (slice_get disks i ≡ Some disk) ⊎ ((i ≡ length disks) × (disk ≡ d))
          → IsGiven (under is_given (option_map text root)) facts (i + 1) disk
      by i disk (inl there) = each i disk there
      by i disk (inr last) =
          subst (λ (x : D). IsGiven (under is_given (option_map text root)) facts (i + 1) x) (sym last.1)
          (subst (λ (n : ℕ). IsGiven (under is_given (option_map text root)) facts (n + 1) d) (sym last.0) own)

-- ---- the disks

module _ {D : Type 0} (given : Giving D) (facts : DiskFacts D) (s : Setup) (disks : List D) (held : Nodes D)
    (many : length disks ≡ s.nodes) (each : AreGiven given facts disks) (have : HaveDisks facts disks held) where
  have-given : HaveGiven given facts s held
  have-given k there =
      let within = in-range k 1 s.nodes there in
      at (slice_get_cases disks (k - 1)).1 (omega (arith, within.0)) (omega (arith, many, within.0, within.1))
    where
      at : ((x : D) × (k - 1 < length disks) × (slice_get disks (k - 1) ≡ Some x) × (get_or disks (k - 1) x ≡ x))
          ⊎ ((length disks ≤ k - 1) × (slice_get disks (k - 1) ≡ None)) → k - 1 + 1 ≡ k → k - 1 < length disks
          → (d : D) × IsDiskOf facts held k d × IsGiven given facts k d
      at (inl (d, lt, here, is)) same within = (
        d,
        subst (λ (n : ℕ). IsDiskOf facts held n d) same (have (k - 1) d here),
        subst (λ (n : ℕ). IsGiven given facts n d) same (each (k - 1) d here),
      )
      at (inr (out, none)) same within = absurd (omega (arith, out, within))

  pub unopened : Stands facts (cluster_setup s) held (new_cluster (cluster_setup s)) → AreNew facts s.queues held
      → AreUnopened given facts s held
  unopened stands new = record { stands = stands; new = new; disks = have-given }

-- as many and one more
pub whole-more : {D : Type 0} (P : D → Type 0) (disks : List D) (d : D) → All P disks → P d → (more : List D)
    → more ≡ disks ++ d ∷ [] → All P more × (length more ≡ length disks + 1)
whole-more {D} P disks d each own more are = (
  subst (λ (l : List D). All P l) (sym are) (All-push P disks d each own),
  ap length are ∙ length_push disks d,
)

-- a disk that was just opened may be recovered
pub opened-whole : ((queues : List QueueId) (i : Remains) → MayRecover queues (reopen i)) → {D : Type 0}
    (facts : DiskFacts D) (d : D) → (IsTrue (facts.tells d) → IsOpened (facts.past d)) → IsWhole facts d
opened-whole may facts d opened queues tell =
    let so = opened tell in subst (λ (l : List Disk). MayRecover queues (now l)) (sym so.is) (may queues so.held)
