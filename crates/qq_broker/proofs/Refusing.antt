-- A node isn't restarted, and the run ends.
use Rattle.std.proofs.Common.{◌≡◌, ◌≤◌, ◌⊎◌, ℕ, true, List, [], ◌∷◌, ◌++◌, Ok, Err, refl, sym, ap, subst, ◌∙◌, inl, inr, append-nil, length}
use Rattle.std.specs.Prelude.{Contains, IsTrue, Some, is_some}
use Rattle.std.specs.List.{range_with_len}
use Rattle.qq_base.specs.declared.ids.NodeId.{NodeId}
use Rattle.qq_base.specs.declared.ids.QueueId.{QueueId}
use Rattle.qq_base.specs.declared.memory.Memory.{Memory}
use Rattle.qq_base.specs.declared.memory.Memory.TheVariants.{Spent, Want}
use Rattle.qq_disk.specs.Disk.{Disk, now}
use Rattle.qq_disk.specs.Facts.{DiskFacts}
use Rattle.qq_model.proofs.Soundness.{in_contains}
use Rattle.qq_lots.specs.Left.{state_in}
use Rattle.qq_lots.specs.Lots.{ids_of}
use Rattle.qq_raft_protocol.specs.Facts.{In}
use Rattle.qq_recover.specs.Answer.{Answer}
use Rattle.qq_recover.specs.Reading.{lanes_read, shown}
use Rattle.qq_recover.specs.declared.fault.RecoverFault.{RecoverFault}
use Rattle.qq_recover.specs.declared.fault.RecoverFault.TheVariants as recover_faults
use Rattle.qq_script_lines.specs.declared.line.Nodes.{Nodes as Which}
use Rattle.qq_script_lines.specs.declared.line.Nodes.TheVariants.{All, One}
use Rattle.qq_script_lines.specs.declared.line.ScriptLine.{ScriptLine}
use Rattle.qq_script_lines.specs.declared.line.ScriptLine.TheVariants.{Restart}
use Rattle.qq_route.specs.declared.setup.Setup.{Setup}
use Rattle.qq_wal_chain.specs.Lanes.{Lanes}
use Rattle.qq_cluster_model.specs.Outcome.{Outcome}
use Rattle.qq_cluster_model.specs.Cluster.{Cluster, ClusterEvent, Setup as ClusterSetup, cluster_after, new_cluster}
use Rattle.qq_cluster_model.specs.Lines.{IsLine}
use Rattle.qq_cluster_model.specs.Rules.{ForEach, IsOpening, IsRestart}
use Rattle.qq_cluster_laws.specs.Linked.{lot_of}
use Rattle.qq_cluster_laws.specs.Restarts.{first_restart}
use Rattle.qq_cluster_laws.specs.Serves.{Seen}
use Rattle.qq_cluster_laws.proofs.Reached.{after-both}
use Rattle.qq_cluster_run.specs.declared.stop.AskStop.{AskStop}
use Rattle.qq_cluster_run.specs.declared.stop.AskStop.TheVariants.{Ended, NoMemory}
use Rattle.qq_cluster_run.specs.Endings.{Ending, damaged, lost, other_version, spent}
use Rattle.qq_cluster_run.specs.Service.{HasServeCause}
use Rattle.qq_cluster_run.specs.Serving.{EndsDamaged, EndsLost, MayTakeUp, RestartsTo, Run, after_all, cluster_in, setup_in}
use Rattle.qq_cluster_run.specs.Setup.{name_by, row_at}
use Rattle.qq_cluster_run.specs.Troubles.{AtPlace, Damage, OfVersion, Trouble, damage_ending}
use Rattle.qq_cluster.specs.Nodes.{Served, Stands, seen}
use Rattle.qq_opening.specs.Restarting.{IsLostAt, IsRefused, Refuses, RestartsTo as RestartedTo, all_nodes, lanes_at, this_node}
use Rattle.qq_cluster.specs.declared.nodes.Nodes.{Nodes}
use Rattle.qq_opening.specs.declared.restarting.RestartFault.{RestartFault}
use Rattle.qq_opening.specs.declared.restarting.RestartFault.TheVariants as faults_of
use Rattle.qq_broker.specs.Broker.{MayNotReopen}
use Rattle.qq_broker.specs.Faults.{stop_for}
use Rattle.qq_broker.specs.Lives.{Became, Giving, failures}
use Rattle.qq_broker.specs.Nodes.{Holds, IsDiskOf, Meets, damage_of}
use Rattle.qq_broker.specs.Serving.{IsGivenUp, IsServed, IsStopOf, memory_stop}
use Rattle.qq_broker.proofs.Beginning.{queue-own}
use Rattle.qq_broker.proofs.Failing.{line-once, opening-once, restarts-few}
use Rattle.qq_broker.proofs.GoingOn.{became-served, disk-there, ends-spent, reached, served}
use Rattle.qq_broker.proofs.Living.{not-first, restarted-stays}
use Rattle.qq_broker.proofs.Stops.{own-stop}

-- they count up
record CountsUp (list : List ℕ) : Type 0 where
  first : ℕ
  count : ℕ
  is : list ≡ range_with_len first count

module _ {D : Type 0} (given : Giving D) (facts : DiskFacts D) (before after : ℕ) (s : Setup) (run : Run)
    (old : Nodes D) (h : Holds given facts s old run) (list : List ℕ) (up : CountsUp list)
    (there : (k : ℕ) → In k list → In k (setup_in s run).nodes) (said : Outcome) where
  -- the one that isn't restarted
  abbrev To : ℕ → Type 0
  To node = RestartedTo facts (setup_in s run) (cluster_in s run) list old said node

  abbrev early_of : (node : ℕ) → To node → List ClusterEvent
  early_of node to = to.serves.did.events

  moved : (node : ℕ) (to : To node)
      → after_all (setup_in s run) (run.events ++ early_of node to) ≡ cluster_after (cluster_in s run)
      (early_of node to)
  moved node to = after-both (new_cluster (setup_in s run)) run.events (early_of node to)

  at-node : (node : ℕ) → To node → RestartsTo (setup_in s run) list run.events
  at-node node to = record {
    before = to.first;
    node = node;
    later = to.later;
    are = to.are;
    early = early_of node to;
    restarted = to.serves.did.means;
    down = ap (λ (c : Cluster). c.up node) (moved node to) ∙ to.down;
  }

  -- its disk
  in-list : (node : ℕ) (first later : List ℕ) → In node (first ++ node ∷ later)
  in-list node [] later = inl refl
  in-list node (k ∷ first) later = inr (in-list node first later)

  here-at : (node : ℕ) (to : To node) → In node (setup_in s run).nodes
  here-at node to = there node (subst (In node) (sym to.are) (in-list node to.first to.later))

  -- each node was restarted before
  restarted-at : (node : ℕ) (to : To node) → is_some (first_restart node (run.events ++ early_of node to)) ≡ true
  restarted-at node to = restarted-stays node run.events (early_of node to) (h.restarted node (here-at node to))

  disk-at : (node : ℕ) (to : To node)
      → (last : D) × IsDiskOf facts to.mid node last
      × Became given facts (setup_in s run) (run.events ++ early_of node to) node last
  disk-at node to =
      let here : In node (setup_in s run).nodes =
      there node (subst (In node) (sym to.are) (in-list node to.first to.later)) in
      let was = h.disks node here in
      let is = disk-there given facts (setup_in s run) to.mid (cluster_after (cluster_in s run) (early_of node to))
      to.serves.did.stands node here in (
        is.0,
        is.1,
        became-served given facts (setup_in s run) run.events
            (ForEach to.first (IsRestart (setup_in s run)) (cluster_in s run))
            (Stands facts (setup_in s run) to.mid) old to.mid said to.said to.serves node here
            (restarts-few node (setup_in s run) up.first up.count to.first (node ∷ to.later) (sym up.is ∙ to.are)
            (cluster_in s run)
            (early_of node to) to.serves.did.means) was.0 is.0 was.1 is.1 (h.restarted node here) was.2,
      )

  -- what recovery reads of it
  abbrev reads : ℕ → List Disk → Answer Lanes
  reads node l = lanes_read (ids_of (lot_of (setup_in s run) node)) (shown (now l))

  as-read : (P : Answer Lanes → Type 0) (held : Nodes D) (node : ℕ) (last : D)
      → IsDiskOf facts held node last
      → (IsTrue (seen facts held node).tells → P (lanes_at facts (setup_in s run) held node))
      → IsTrue (facts.tells last) → P (reads node (facts.past last))
  as-read P held node last is so tell =
      subst (λ (v : Seen). P (reads node v.past)) is (so (subst IsTrue (sym (ap (λ (v : Seen). v.tells) is)) tell))

  abbrev Damaged : Ending → Type 0
  Damaged ending = EndsDamaged (Meets given facts before after) (setup_in s run) list run.events ending

  damaged-at : (node : ℕ) (to : To node) (fault : RecoverFault) (damage : Damage) → damage_of fault ≡ Some damage
      → (IsTrue (seen facts to.mid node).tells → lanes_at facts (setup_in s run) to.mid node ≡ Err fault)
      → Damaged (damage_ending node damage)
  unfolding at-node
  damaged-at node to fault damage is read =
      let own = disk-at node to in
      record {
        at = at-node node to;
        damage = damage;
        broken = record {
          last = own.0;
          became = own.2;
          as_given = not-first node (run.events ++ early_of node to) (restarted-at node to);
          fault = fault;
          is = is;
          read = as-read (λ (a : Answer Lanes). a ≡ Err fault) to.mid node own.0 own.1 read;
        };
        is = refl;
      }

  lost-at : (node : NodeId) (to : To node.0) (queue : QueueId) (noticed found : ℕ)
      → IsLostAt facts (setup_in s run) to.mid (cluster_after (cluster_in s run) (early_of node.0 to)) node queue
      noticed found
      → EndsLost (Meets given facts before after) (setup_in s run) list run.events
      (lost node.0 (name_by (row_at s.queues queue.0)) noticed found)
  unfolding at-node
  lost-at node to queue noticed found so =
      let own = disk-at node.0 to in
      record {
        at = at-node node.0 to;
        place = queue.0;
        among = so.among;
        member = so.member;
        lane = so.state;
        found = record {
          last = own.0;
          became = own.2;
          as_given = not-first node.0 (run.events ++ early_of node.0 to) (restarted-at node.0 to);
          read = λ tell.
              (let r = as-read (λ (a : Answer Lanes). (lanes : Lanes) × (a ≡ Ok lanes) ×
              (so.state ≡ state_in lanes queue))
              to.mid node.0 own.0 own.1 so.read tell in (
                r.0,
                r.1,
                r.2 ∙ ap (state_in r.0) (sym (queue-own s.queues queue.0)),
              ));
        };
        refused = subst (λ (c : Cluster). MayTakeUp node.0 (c.queue queue.0) so.state → ⊥) (sym (moved node.0 to))
            so.refused;
        is = ap (λ (n : ℕ). lost node.0 (name_by (row_at s.queues queue.0)) n found)
            (so.noticed_is ∙ ap (λ (c : Cluster). ((c.queue queue.0).group.seat node.0).noticed)
            (sym (moved node.0 to)))
            ∙ ap (lost node.0 (name_by (row_at s.queues queue.0))
            (((after_all (setup_in s run) (run.events ++ early_of node.0 to)).queue queue.0).group.seat node.0).noticed)
            so.found_is;
      }

  -- why the run ends
  abbrev Refused : Ending → Type 0
  Refused ending =
      Damaged ending ⊎ EndsLost (Meets given facts before after) (setup_in s run) list run.events ending

  refused-so : (P : AskStop → Type 0) (fault : RestartFault) (stop : AskStop)
      → ((ending : Ending) → Refused ending → P (Ended ending)) → P NoMemory
      → ((number : ℕ) → fault ≡ faults_of.Memory (Spent number) → P (Ended (spent number)))
      → IsRefused facts (setup_in s run) (cluster_in s run) list old said fault → IsStopOf s fault stop → P stop
  refused-so P (faults_of.Damaged node file place) stop ends want number_ends so is =
      subst P (sym is)
      (ends (damaged node.0 file.number place)
      (inl (damaged-at node.0 so.0 (recover_faults.Damaged file place) (AtPlace file.number place) refl so.1)))
  refused-so P (faults_of.Version node file byte) stop ends want number_ends so is =
      subst P (sym is)
      (ends (other_version node.0 file.number byte)
      (inl (damaged-at node.0 so.0 (recover_faults.Version file byte) (OfVersion file.number byte) refl so.1)))
  refused-so P (faults_of.Lost node queue noticed found) stop ends want number_ends so (inl is) = subst P (sym is) want
  refused-so P (faults_of.Lost node queue noticed found) stop ends want number_ends so (inr is) =
      subst P (sym is)
      (ends (lost node.0 (name_by (row_at s.queues queue.0)) noticed found)
      (inr (lost-at node so.0 queue noticed found so.1)))
  refused-so P (faults_of.Memory Want) stop ends want number_ends so is = subst P (sym is) want
  refused-so P (faults_of.Memory (Spent number)) stop ends want number_ends so is =
      subst P (sym is) (number_ends number refl)

-- ---- a line

one-line : (setup : ClusterSetup) (node : NodeId) (c : Cluster) (events : List ClusterEvent)
    → IsRestart setup node.0 c events → IsLine setup (Restart (One node)) c events
unfolding IsLine
one-line setup node c events so =
    record { early = events; late = []; is = sym (append-nil events); first = so; second = refl }

all-lines : (setup : ClusterSetup) (c : Cluster) (events : List ClusterEvent)
    → ForEach setup.nodes (IsRestart setup) c events → IsLine setup (Restart All) c events
unfolding IsLine
all-lines setup c events so = so

module _ {D : Type 0} (given : Giving D) (facts : DiskFacts D) (s : Setup) (run : Run) (old new : Nodes D)
    (before later : Outcome) (h : Holds given facts s old run) where
  pub restarted-one : (node : NodeId)
      → Served facts (λ (setup : ClusterSetup). IsRestart setup node.0) old new before later
      → IsServed given facts s run (Restart (One node)) new before later
  restarted-one node so =
      served given facts s run (Restart (One node)) (λ (setup : ClusterSetup). IsRestart setup node.0) old new before
      later h (λ events is. one-line (setup_in s run) node (cluster_in s run) events is) so

  pub restarted-all : Served facts (λ (setup : ClusterSetup). ForEach setup.nodes (IsRestart setup)) old new
      before later → IsServed given facts s run (Restart All) new before later
  restarted-all so =
      served given facts s run (Restart All) (λ (setup : ClusterSetup). ForEach setup.nodes (IsRestart setup)) old new
      before later h (λ events is. all-lines (setup_in s run) (cluster_in s run) events is) so

module _ {D : Type 0} (given : Giving D) (facts : DiskFacts D) (before after : ℕ) (s : Setup) (run : Run)
    (old new : Nodes D) (h : Holds given facts s old run) (said : Outcome) (fault : RestartFault) (stop : AskStop)
    (stops : IsStopOf s fault stop) (number : ℕ) where
  abbrev Cause : Which → AskStop → Type 0
  Cause which =
      HasServeCause (Meets given facts before after) (setup_in s run) run.events number (Restart which)

  -- no node fails twice
  once : (which : Which) (k : ℕ) (events : List ClusterEvent)
      → IsLine (setup_in s run) (Restart which) (cluster_in s run) events → failures k events ≤ 1
  once which k events =
      line-once k (setup_in s run) (length old.nodes.items) h.stands.set_up.nodes (Restart which) (cluster_in s run) events

  pub refused-one : (node : NodeId) → Contains (setup_in s run).nodes node.0
      → Refuses facts (this_node node.0) (λ (setup : ClusterSetup). IsRestart setup node.0) old new said fault
      → Cause (One node) stop
  refused-one node there so =
      refused-so given facts before after s run old h (node.0 ∷ []) (record { first = node.0; count = 1; is = refl })
      (λ k here. only k here) said (Cause (One node)) fault stop (λ ending refused. inr refused) tt
      (λ number is. inl (ends-spent given facts s run (IsRestart (setup_in s run) node.0)
      (IsLine (setup_in s run) (Restart (One node))) old before after number h (one-line (setup_in s run) node)
      (once (One node))
      (so.spent number is (setup_in s run) (cluster_in s run) (reached given facts s run) h.stands)))
      (so.refused (setup_in s run) (cluster_in s run) (reached given facts s run) h.stands) stops
    where
      only : (k : ℕ) → In k (node.0 ∷ []) → In k (setup_in s run).nodes
      only k (inl same) =
          in_contains (setup_in s run).nodes k (subst (Contains (setup_in s run).nodes) (sym same) there)
      only k (inr none) = absurd none

  pub refused-all : Refuses facts all_nodes (λ (setup : ClusterSetup). ForEach setup.nodes (IsRestart setup))
      old new said fault → Cause All stop
  refused-all so =
      refused-so given facts before after s run old h (setup_in s run).nodes
      (record { first = 1; count = s.nodes; is = refl }) (λ k there. there) said (Cause All) fault stop
      (λ ending refused. inr refused) tt
      (λ number is. inl (ends-spent given facts s run (ForEach (setup_in s run).nodes (IsRestart (setup_in s run)))
      (IsLine (setup_in s run) (Restart All)) old before after number h (all-lines (setup_in s run)) (once All)
      (so.spent number is (setup_in s run) (cluster_in s run) (reached given facts s run) h.stands)))
      (so.refused (setup_in s run) (cluster_in s run) (reached given facts s run) h.stands) stops

-- ---- nodes that are opened again

module _ {D : Type 0} (given : Giving D) (facts : DiskFacts D) (before after : ℕ) (s : Setup) (run : Run)
    (old new : Nodes D) (h : Holds given facts s old run) (said : Outcome) (fault : RestartFault) where
  pub refused-reopening : Refuses facts all_nodes IsOpening old new said fault
      → MayNotReopen (Meets given facts before after) (setup_in s run) run.events (stop_for s fault)
  refused-reopening so =
      refused-so given facts before after s run old h (setup_in s run).nodes
      (record { first = 1; count = s.nodes; is = refl }) (λ k there. there) said
      (MayNotReopen (Meets given facts before after) (setup_in s run) run.events) fault (stop_for s fault)
      (λ ending refused. inr refused) tt
      (λ number is. inl (ends-spent given facts s run (IsOpening (setup_in s run)) (IsOpening (setup_in s run)) old
      before after number h (λ c events allowed. allowed)
      (λ k events allowed. opening-once k (setup_in s run) s.nodes refl (cluster_in s run) events allowed)
      (so.spent number is (setup_in s run) (cluster_in s run) (reached given facts s run) h.stands)))
      (so.refused (setup_in s run) (cluster_in s run) (reached given facts s run) h.stands) (own-stop s fault)

-- ---- a line that is given up

pub given-stop : (met : Trouble → Type 0) (setup : ClusterSetup) (events : List ClusterEvent) (at : ℕ)
    (line : ScriptLine) (memory : Memory) (stop : AskStop) → stop ≡ memory_stop memory
    → IsGivenUp met setup events line memory → HasServeCause met setup events at line stop
given-stop met setup events at line Want stop is so = subst (HasServeCause met setup events at line) (sym is) tt
given-stop met setup events at line (Spent number) stop is so =
    subst (HasServeCause met setup events at line) (sym is) (inl so)
