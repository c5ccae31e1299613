-- The first lines of a run have restarted each of its nodes, and members of queues are nodes.
use Rattle.std.proofs.Common.{◌≡◌, ◌≢◌, ℕ, Bool, true, false, List, [], ◌∷◌, ◌++◌, Option, Some, None, refl, sym, ap, subst, ◌∙◌, inl, inr}
use Rattle.std.specs.Prelude.{is_some, nat_eq, ◌||◌}
use Rattle.std.specs.List.{AllByRecursion}
use Rattle.std.proofs.lemmas.Bool.{eq-eqb, eqb-true, false≢true}
use Rattle.std.proofs.lemmas.Bool.Decides.{eqb_tells}
use Rattle.qq_base.proofs.Lists.{In-filter, In-map, find-in}
use Rattle.qq_base.specs.declared.ids.NodeId.{NodeId}
use Rattle.qq_defs.specs.Runnable.{IsRunnable}
use Rattle.qq_raft_model.specs.Group.{has_node}
use Rattle.qq_raft_model.specs.Promises.{members_of}
use Rattle.qq_raft_protocol.specs.Facts.{In}
use Rattle.qq_route.specs.declared.queue_row.QueueRow.{QueueRow}
use Rattle.qq_route.specs.declared.setup.Setup.{Setup}
use Rattle.qq_route.specs.Setup.{state_of}
use Rattle.qq_cluster_model.specs.Cluster.{Cluster, ClusterEvent, Setup as ClusterSetup, cluster_after, members, new_cluster}
use Rattle.qq_cluster_model.specs.Rules.{ForEach, IsRestart}
use Rattle.qq_cluster_laws.specs.Linked.{lot_of}
use Rattle.qq_cluster_laws.specs.Restarts.{first_of, first_restart}
use Rattle.qq_cluster_laws.proofs.Restarts.{first-both}
use Rattle.qq_cluster_run.specs.Inputs.{Input}
use Rattle.qq_cluster_run.specs.Serving.{Behind, Histories, setup_behind}
use Rattle.qq_cluster_run.specs.Setup.{members_by, place_of, row_at}
use Rattle.qq_opening.proofs.Untouched.{restart-first}
use Rattle.qq_broker.proofs.Beginning.{rows-among}
use Rattle.qq_broker.proofs.Failing.{restart-apart}
use Rattle.qq_broker.proofs.Living.{restarted-stays}
use Rattle.qq_broker.proofs.Untouched.{no-restart, restart-unseen}

-- ---- an opening restarts each node

restarted-each : (setup : ClusterSetup) (k : ℕ) (list : List ℕ) (c : Cluster) (events : List ClusterEvent)
    → c.up k ≡ false → In k list → ForEach list (IsRestart setup) c events
    → is_some (first_restart k events) ≡ true
restarted-each setup k [] c events down there so = absurd there
restarted-each setup k (j ∷ list) c events down there so = elim (eqb_tells j k) [
  | inl (is, same) ↦
      subst (λ (l : List ClusterEvent). is_some (first_restart k l) ≡ true) (sym so.is)
      (restarted-stays k so.early so.late
      (ap is_some (restart-first setup k c so.early (subst (λ (i : ℕ). IsRestart setup i c so.early) same so.first)
      down)))
  | inr (isnt, other) ↦
      let none : first_restart k so.early ≡ None =
      no-restart k so.early (restart-unseen setup j k c so.early other so.first) in
      let rest = restarted-each setup k list (cluster_after c so.early) so.late
      (restart-apart k setup j other c so.early so.first ∙ down) (later there other) so.second in
      subst (λ (l : List ClusterEvent). is_some (first_restart k l) ≡ true) (sym so.is)
      (ap is_some (first-both k so.early so.late
      ∙ ap (λ (o : Option Bool). first_of o (first_restart k so.late)) none) ∙ rest)
]
  where
    later : In k (j ∷ list) → j ≢ k → In k list
    later (inl same) other = absurd (other (sym same))
    later (inr rest) other = rest

-- ---- a group's members

node-in : (k : ℕ) (all : List ℕ) (nodes : List NodeId) → has_node k nodes ≡ true
    → AllByRecursion (λ (m : NodeId). In m.0 all) nodes → In k all
node-in k all [] has each = absurd (false≢true has)
node-in k all (n ∷ nodes) has each = by (nat_eq n.0 k) refl has (λ so. node-in k all nodes so each.1)
  where
    by : (o : Bool) → nat_eq n.0 k ≡ o → o || has_node k nodes ≡ true → (has_node k nodes ≡ true → In k all) → In k all
    by true is so rest = subst (λ (i : ℕ). In i all) (eqb-true n.0 k is) each.0
    by false isnt so rest = rest so

pub node-has : (k : ℕ) (nodes : List NodeId) → In k (members_of nodes) → has_node k nodes ≡ true
node-has k [] there = absurd there
node-has k (n ∷ nodes) there = by (nat_eq n.0 k) refl there (node-has k nodes)
  where
    by : (o : Bool) → nat_eq n.0 k ≡ o → In k (members_of (n ∷ nodes))
        → (In k (members_of nodes) → has_node k nodes ≡ true)
        → o || has_node k nodes ≡ true
    by true is so rest = refl
    by false isnt (inl same) rest = absurd (false≢true (sym isnt ∙ eq-eqb n.0 k (sym same)))
    by false isnt (inr later) rest = rest later

-- ---- behind the first lines

module _ {had : Histories} (s : Setup) (all left : List Input) (b : Behind had s all left) where
  abbrev S : ClusterSetup
  S = setup_behind b

  pub restarted : (k : ℕ) → In k S.nodes → is_some (first_restart k b.events) ≡ true
  restarted k there =
      subst (λ (l : List ClusterEvent). is_some (first_restart k l) ≡ true)
      (ap (λ (l : List ClusterEvent). l ++ b.allowed.late) (sym b.allowed.first.is) ∙ sym b.allowed.is)
      (restarted-stays k (b.allowed.first.early ++ b.allowed.first.late) b.allowed.late
      (restarted-stays k b.allowed.first.early b.allowed.first.late
      (restarted-each S k S.nodes (new_cluster S) b.allowed.first.early refl there b.allowed.first.first)))

  -- a group's members are among the nodes, and only a queue's place has members
  pub member-there : IsRunnable (state_of s) → (k place : ℕ) → has_node k (members S place) ≡ true
      → In k S.nodes × In place (lot_of S k).places
  member-there runs k place has = (
    node-in k S.nodes (members S place) has among,
    In-filter (λ (p : ℕ). has_node k (members S p)) place S.places (place-in (row_at s.queues place) refl has) has,
  )
    where
      among : AllByRecursion (λ (m : NodeId). In m.0 S.nodes) (members S place)
      among = rows-among s.nodes runs.some 0 place s.queues runs.queues_are

      place-in : (o : Option QueueRow) → row_at s.queues place ≡ o → has_node k (members_by o) ≡ true
          → In place S.places
      place-in None is has' = absurd (false≢true has')
      place-in (Some row) is has' =
          let found = find-in (λ (r : QueueRow). nat_eq (place_of r) place) s.queues row is in
          subst (λ (p : ℕ). In p S.places) (eqb-true (place_of row) place found.1)
          (In-map place_of row s.queues found.0)
