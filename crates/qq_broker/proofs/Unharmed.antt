-- A run without a root whose lines name images without junk meets no damage, and loses nothing.
use Rattle.std.proofs.Common.{◌≡◌, ◌≤◌, ◌+◌, ℕ, zero, suc, true, List, [], ◌∷◌, ◌++◌, Option, Some, None, refl, sym, ap, inl, inr, arith}
use Rattle.std.specs.Prelude.{IsTrue, is_some}
use Rattle.std.specs.List.{range_with_len}
use Rattle.qq_base.proofs.Lists.{In-map}
use Rattle.qq_base.specs.declared.ids.NodeId.{NodeId}
use Rattle.qq_defs.specs.Runnable.{IsRunnable}
use Rattle.qq_disk.specs.declared.image.Image.{Image}
use Rattle.qq_disk.specs.Facts.{DiskFacts}
use Rattle.qq_log.specs.Stable.{Stable, new_state}
use Rattle.qq_model.proofs.Soundness.{in_contains}
use Rattle.qq_raft_model.specs.Group.{has_node}
use Rattle.qq_raft_model.specs.Refines.{number}
use Rattle.qq_raft_protocol.specs.Facts.{In}
use Rattle.qq_script_lines.specs.declared.line.Nodes.{Nodes}
use Rattle.qq_script_lines.specs.declared.line.ScriptLine.TheVariants as lines
use Rattle.qq_route.specs.declared.setup.Setup.{Setup}
use Rattle.qq_route.specs.Setup.{state_of}
use Rattle.qq_wal_chain.specs.Image.{HasNoJunk}
use Rattle.qq_cluster_model.specs.Cluster.{ClusterEvent, Setup as ClusterSetup, members, new_cluster}
use Rattle.qq_cluster_model.specs.ClusterLaws.{HasGroups}
use Rattle.qq_cluster_model.specs.Rules.{ForEach, IsRestart}
use Rattle.qq_cluster_laws.specs.Linked.{MembersFollow}
use Rattle.qq_cluster_laws.specs.Restarts.{first_restart}
use Rattle.qq_cluster_laws.proofs.Links.{new-follow}
use Rattle.qq_cluster_run.specs.Endings.{Ending}
use Rattle.qq_cluster_run.specs.Inputs.{Input}
use Rattle.qq_cluster_run.specs.Serving.{Behind, EndsDamaged, EndsLost, EndsUnsupported, IsReadOf, after_all, setup_behind, state_read}
use Rattle.qq_cluster_run.specs.Setup.{Logs, cluster_over, cluster_setup, new_logs}
use Rattle.qq_cluster_run.specs.Troubles.{Trouble}
use Rattle.qq_broker.specs.Lives.{Giving}
use Rattle.qq_broker.specs.Takers.{RunHad, RunMeets}
use Rattle.qq_taker.specs.Takers.{Takers}
use Rattle.qq_broker.proofs.Fair.{AnyTaker, AreFair, fair-both, fair-images, fair-restarts, fair-run}
use Rattle.qq_broker.proofs.Following.{Comes, follow-all}
use Rattle.qq_broker.proofs.Keeping.{AreNew, IsEmptyPromised, IsHonestWithoutJunk, IsReadWherePromised}
use Rattle.qq_broker.proofs.Living.{restarted-stays}
use Rattle.qq_broker.proofs.Restarted.{member-there, node-has, restarted}
use Rattle.qq_broker.proofs.Undamaged.{first-whole, not-broken, nothing-found, takes-found}
use Rattle.qq_broker.proofs.Untouched.{no-restart, restarts-unseen}

-- a number of a range isn't among those before it
range-apart : (a n : ℕ) (before : List ℕ) (node : ℕ) (later : List ℕ) → range_with_len a n ≡ before ++ node ∷ later
    → (a ≤ node) × (In node before → ⊥)
range-apart a zero [] node later are = absurd cc
range-apart a (suc n) [] node later are = (let same : a ≡ node = cc in omega (arith, same), λ there. there)
range-apart a zero (x ∷ before) node later are = absurd cc
range-apart a (suc n) (x ∷ before) node later are =
    let same : a ≡ x = cc in
    let rest = range-apart (a + 1) n before node later
    (let more : range_with_len (a + 1) n ≡ before ++ node ∷ later = cc in more) in
    (let least = rest.0 in omega (arith, least), apart same rest.0 rest.1)
  where
    apart : a ≡ x → a + 1 ≤ node → (In node before → ⊥) → In node (x ∷ before) → ⊥
    apart same least none (inl here) = omega (arith, same, least, here)
    apart same least none (inr there) = none there

-- ---- what laws say

-- of logs, and of the setup
pub record Known : Type 0 where
  pub readable : IsReadWherePromised
  pub empty : IsEmptyPromised
  pub honest : IsHonestWithoutJunk
  pub comes : Comes
  pub begins : (s : Setup) → IsRunnable (state_of s) → HasGroups (cluster_setup s)

module _ (law : Known) {D : Type 0} (given : Giving D) (facts : DiskFacts D) (first : Takers) (before after : ℕ)
    (s : Setup) (runs : IsRunnable (state_of s)) (all_new : (k : ℕ) → AreNew given facts k)
    (shows : (disk : D) → IsTrue (facts.tells disk)) where
  abbrev Met : Trouble → Type 0
  Met trouble = RunMeets given facts first before after trouble

  -- ---- the opening

  pub opens-whole : (logs : Logs) (ending : Ending)
      → EndsDamaged Met (cluster_over s logs) (cluster_over s logs).nodes [] ending → ⊥
  opens-whole logs ending so =
      let S : ClusterSetup = cluster_over s logs in
      let apart = range-apart 1 s.nodes so.at.before so.at.node so.at.later so.at.are in
      first-whole law.readable law.empty law.honest given facts S so.at.early so.at.node
      (all_new so.at.node) shows so.damage
      (no-restart so.at.node so.at.early
      (restarts-unseen S so.at.node so.at.before (new_cluster S) so.at.early apart.1 so.at.restarted)) so.broken

  -- what is read of a new disk are new logs
  pub opens-supported : (ending : Ending) → EndsUnsupported Met s ending → ⊥
  opens-supported ending so =
      so.refused new_logs (λ k. refl) (λ n member there. by n.0 (so.lanes n.0) (so.read n member there))
      (law.begins s runs so.place)
    where
      by : (k : ℕ) (o : Option Stable) → IsReadOf Met (cluster_setup s) k so.place o
          → Some new_state ≡ Some (state_read o)
      by k None failed = refl
      by k (Some lane) found =
          ap (λ (state : Stable). Some (record state { snapshot = 0 }))
          (sym (nothing-found law.readable law.empty law.honest given facts (cluster_setup s) [] k
          (all_new k) shows so.place
          lane refl found))

  -- ---- after some lines

  module _ (all left : List Input) (b : Behind (RunHad given facts first) s all left)
      (clean : (nodes : Nodes) (image : Image) → In (lines.Crash nodes image) b.lines → HasNoJunk image) where
    abbrev S : ClusterSetup
    S = setup_behind b

    fair-early : (nodes : List ℕ) (early : List ClusterEvent)
        → ForEach nodes (IsRestart S) (after_all S b.events) early
        → AreFair S HasNoJunk AnyTaker (new_cluster S) (b.events ++ early)
    fair-early nodes early so =
        fair-both S HasNoJunk AnyTaker (new_cluster S) b.events early
        (fair-run S HasNoJunk AnyTaker b.lines clean (λ n. tt) (new_cluster S) b.events b.allowed)
        (fair-restarts S HasNoJunk AnyTaker nodes (after_all S b.events) early so)

    pub stays-whole : (nodes : List ℕ) (ending : Ending) → EndsDamaged Met S nodes b.events ending → ⊥
    stays-whole nodes ending so =
        let events : List ClusterEvent = b.events ++ so.at.early in
        not-broken law.readable law.empty law.honest given facts S events so.at.node (all_new so.at.node) shows
        so.damage
        b.begins.groups
        (λ image there. fair-images S HasNoJunk AnyTaker so.at.node image (new_cluster S) events
        (fair-early so.at.before so.at.early so.at.restarted) there) so.broken

    pub loses-nothing : (nodes : List ℕ) (ending : Ending) → EndsLost Met S nodes b.events ending → ⊥
    loses-nothing nodes ending so =
        let k : ℕ = so.at.node in
        let events : List ClusterEvent = b.events ++ so.at.early in
        let fair : AreFair S HasNoJunk AnyTaker (new_cluster S) events = fair-early so.at.before so.at.early so.at.restarted in
        let id : NodeId = record { 0 = k } in
        let has : has_node k (members S so.place) ≡ true =
        node-has k (members S so.place)
        (In-map number id (members S so.place) (in_contains (members S so.place) id so.member)) in
        let there = member-there s all left b runs k so.place has in
        let some : is_some (first_restart k events) ≡ true =
        restarted-stays k b.events so.at.early
        (restarted s all left b k there.0) in
        let follow : MembersFollow S (after_all S events) k =
        follow-all law.comes S b.begins.groups k HasNoJunk AnyTaker (new_cluster S) events ([], refl) fair
        (new-follow S k b.begins.groups) in
        so.refused
        (takes-found law.readable law.empty law.honest given facts S events k (all_new k) shows so.place so.lane
        b.begins.groups some (λ image here. fair-images S HasNoJunk AnyTaker k image (new_cluster S) events fair here)
        so.at.down follow
        there.1 so.found)
