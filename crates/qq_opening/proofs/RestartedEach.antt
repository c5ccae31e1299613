-- Nodes are restarted, one after the other.
use Rattle.qq_cluster_model.specs.Outcome.{Outcome}
use Rattle.std.proofs.Common.{◌≡◌, ◌<◌, ◌≤◌, ◌+◌, ℕ, List, [], ◌∷◌, ◌++◌, drop, length, take, refl, sym, ap, ◌∙◌, append_assoc}
use Rattle.std.proofs.lemmas.List.{take-append-drop}
use Rattle.qq_base.specs.declared.ids.NodeId.{NodeId}
use Rattle.qq_disk.specs.Facts.{DiskFacts}
use Rattle.qq_cluster_model.specs.Cluster.{Cluster, ClusterEvent, Setup, cluster_after}
use Rattle.qq_cluster_model.specs.Rules.{ForEach, IsRestart}
use Rattle.qq_cluster_laws.specs.Serves.{Serves}
use Rattle.qq_cluster_laws.proofs.Reached.{after-both, reached-after}
use Rattle.qq_cluster_laws.proofs.Serves.{serves-both}
use Rattle.qq_cluster.specs.Nodes.{Served, Stands, seen}
use Rattle.qq_cluster.specs.declared.nodes.Nodes.{Nodes as Held}
use Rattle.qq_cluster.proofs.Stands.{served-nothing, served-weaker}
use Rattle.qq_opening.specs.Restarting.{RestartsTo}
use Rattle.qq_opening.specs.Opened.{FirstTo}
use Rattle.qq_opening.proofs.RestartRules.{each-both, first-more, first-whole}

module _ {D : Type 0} {facts : DiskFacts D} where
  pub first-none : (held : Held D) (outcome : Outcome) → Served facts (FirstTo 0) held held outcome outcome
  first-none held outcome = served-nothing held outcome (λ setup c r st. refl)

  -- one more
  pub first-next : (at : ℕ) (node : NodeId) {old mid new : Held D} {before middle later : Outcome}
      → ((setup : Setup) (c : Cluster) → Stands facts setup mid c → node.0 ≡ at + 1) → at < length mid.nodes.items
      → Served facts (FirstTo at) old mid before middle
      → Served facts (λ setup. IsRestart setup node.0) mid new middle later
      → Served facts (FirstTo (at + 1)) old new before later
  first-next at node {old = old} {mid = mid} {new = new} {before = before} {middle = middle}
      {later = later} is lt first second = record {
        serves = λ setup c r st. (let s = first.serves setup c r st in
            let d : Cluster = cluster_after c s.did.events in
            let t = second.serves setup d (reached-after setup c s.did.events r) s.did.stands in
            serves-both setup c (FirstTo at setup c) (IsRestart setup node.0 d) (FirstTo (at + 1) setup c)
            (Stands facts setup mid) (Stands facts setup new) (seen facts old) (seen facts mid) (seen facts new)
            before middle later s t
            (first-more setup at node.0 (length mid.nodes.items) c s.did.events t.did.events
            s.did.stands.set_up.nodes lt (is setup d s.did.stands) s.did.means t.did.means));
      }

  -- all of them
  pub first-all : (at : ℕ) {old new : Held D} {before later : Outcome} → length old.nodes.items ≤ at
      → Served facts (FirstTo at) old new before later
      → Served facts (λ (setup : Setup). ForEach setup.nodes (IsRestart setup)) old new before later
  first-all at {old = old} le served =
      served-weaker served
      (λ setup c events r st allowed.
      first-whole setup at (length old.nodes.items) c events st.set_up.nodes le allowed)

  -- ---- one of them isn't restarted

  -- a node that isn't, after others were
  pub record IsBehind (setup : Setup) (c : Cluster) (old : Held D) (before : Outcome) (d : Cluster) (list : List ℕ)
      (mid : Held D) (middle : Outcome) (node : ℕ) (to : RestartsTo facts setup d list mid middle node) : Type 0 where
    pub whole : RestartsTo facts setup c setup.nodes old before node
    pub same : whole.mid ≡ to.mid
    pub after : cluster_after c whole.serves.did.events ≡ cluster_after d to.serves.did.events

  pub behind : (setup : Setup) (c : Cluster) (at k node : ℕ) (old mid : Held D)
      (before middle : Outcome) → drop at setup.nodes ≡ k ∷ drop (at + 1) setup.nodes
      → (s : Serves setup c (FirstTo at setup c) (Stands facts setup mid) (seen facts old)
      (seen facts mid) before middle)
      → (to : RestartsTo facts setup (cluster_after c s.did.events) (k ∷ []) mid middle node)
      → IsBehind setup c old before (cluster_after c s.did.events) (k ∷ []) mid middle node to
  behind setup c at k node old mid before middle here s to = record {
    whole = record {
      first = first;
      later = later;
      are = are;
      mid = to.mid;
      said = to.said;
      serves = record {
        did = record {
          events = q.did.events;
          means = q.did.means.0;
          stands = q.did.stands;
          says = q.did.says;
          sees = q.did.sees;
          told = q.did.told;
          moments = q.did.moments;
        };
        no_crash = q.no_crash;
        rises = q.rises;
        cause = q.cause;
      };
      down = ap (λ (x : Cluster). x.up node) after ∙ to.down;
    };
    same = refl;
    after = after;
  }
    where
      d : Cluster
      d = cluster_after c s.did.events

      first : List ℕ
      first = take at setup.nodes ++ to.first

      later : List ℕ
      later = to.later ++ drop (at + 1) setup.nodes

      are : setup.nodes ≡ first ++ node ∷ later
      are =
          sym (take-append-drop at setup.nodes)
          ∙ ap (λ (l : List ℕ). take at setup.nodes ++ l)
          (here ∙ ap (λ (l : List ℕ). l ++ drop (at + 1) setup.nodes) to.are
          ∙ append_assoc to.first (node ∷ to.later) (drop (at + 1) setup.nodes))
          ∙ sym (append_assoc (take at setup.nodes) to.first (node ∷ later))

      Both : List ClusterEvent → Type 0
      Both events = ForEach first (IsRestart setup) c events × (events ≡ s.did.events ++ to.serves.did.events)

      q : Serves setup c Both (Stands facts setup to.mid) (seen facts old) (seen facts to.mid) before to.said
      q =
          serves-both setup c (FirstTo at setup c) (ForEach to.first (IsRestart setup) d) Both
          (Stands facts setup mid) (Stands facts setup to.mid) (seen facts old) (seen facts mid) (seen facts to.mid)
          before middle to.said s to.serves (
            each-both (IsRestart setup) (take at setup.nodes) to.first c s.did.events to.serves.did.events s.did.means
                to.serves.did.means,
            refl,
          )

      after : cluster_after c q.did.events ≡ cluster_after d to.serves.did.events
      after = ap (cluster_after c) q.did.means.1 ∙ after-both c s.did.events to.serves.did.events
