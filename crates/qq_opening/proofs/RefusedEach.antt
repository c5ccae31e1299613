-- Nodes are restarted in order, and one of them isn't.
use Rattle.qq_cluster_model.specs.Outcome.{Outcome}
use Rattle.std.proofs.Common.{◌≡◌, ◌<◌, ◌+◌, ℕ, List, [], ◌∷◌, drop, get_or, length, refl, sym, ap, ◌∙◌, subst, inr, arith}
use Rattle.std.specs.Prelude.{Err, IsTrue}
use Rattle.std.specs.List.{range_with_len}
use Rattle.std.proofs.lemmas.List.FromFn.{get_or-range_with_len, length-range_with_len}
use Rattle.qq_base.specs.declared.ids.NodeId.{NodeId}
use Rattle.qq_base.specs.declared.memory.Memory.{Memory}
use Rattle.qq_base.specs.declared.memory.Memory.TheVariants.{Spent}
use Rattle.qq_disk.specs.Disk.{now}
use Rattle.qq_disk.specs.Facts.{DiskFacts}
use Rattle.qq_raft_protocol.specs.Facts.{In}
use Rattle.qq_recover.specs.declared.fault.RecoverFault.TheVariants as recover_faults
use Rattle.qq_cluster_model.specs.Cluster.{Cluster, ClusterEvent, Fails, Setup, cluster_after}
use Rattle.qq_cluster_model.specs.Rules.{ForEach, IsFound, IsNothing, IsRestart}
use Rattle.qq_cluster_laws.specs.Linked.{IsLinked}
use Rattle.qq_cluster_laws.specs.Serves.{Seen, Serves}
use Rattle.qq_cluster_laws.proofs.Reached.{reached-after}
use Rattle.qq_cluster_laws.proofs.Serves.{gives_up-behind}
use Rattle.qq_cluster_laws.proofs.Traces.{trace-end}
use Rattle.qq_cluster.specs.Nodes.{GaveUp, Served, Stands, seen}
use Rattle.qq_opening.specs.Restarting.{AreLinked, IsLostAt, IsRefused, Refuses, all_nodes, lanes_at, this_node}
use Rattle.qq_cluster.specs.declared.nodes.Nodes.{Nodes as Held}
use Rattle.qq_opening.specs.declared.restarting.RestartFault.{RestartFault}
use Rattle.qq_opening.specs.declared.restarting.RestartFault.TheVariants.{Damaged, Version, Lost, Memory as OfMemory}
use Rattle.qq_cluster.proofs.Pumping.{nodes-gave_up}
use Rattle.qq_opening.specs.Opened.{FirstTo}
use Rattle.qq_opening.proofs.RestartRules.{restarted-leads}
use Rattle.qq_opening.proofs.RestartedEach.{behind}
use Rattle.qq_cluster.proofs.Stands.{Ruling, served-weaker}
use Rattle.qq_cluster.proofs.Total.{Total, total-if, total-nothing}
use Rattle.qq_cluster.proofs.Walks.{all-get, in-range, place-at}

pub total-restart : (setup : Setup) (k : ℕ) → Total (IsRestart setup k)
total-restart setup k c =
    total-if (c.up k) IsNothing (IsFound setup k) c (total-nothing c) (Fails k ∷ [], inr refl)

-- ---- the first so many were restarted

-- a log that was linked is still
still-linked : (setup : Setup) (c : Cluster) (k : ℕ) (Allowed : List ClusterEvent → Type 0) (Holds : Cluster → Type 0)
    (a b : ℕ → Seen) (before later : Outcome) (s : Serves setup c Allowed Holds a b before later) → In k setup.nodes
    → IsTrue (a k).tells × IsLinked setup c k (now (a k).past)
    → IsTrue (b k).tells × IsLinked setup (cluster_after c s.did.events) k (now (b k).past)
still-linked setup c k Allowed Holds a b before later s node linked = (
  subst IsTrue (sym (s.did.told k)) linked.0,
  trace-end IsLinked setup k c s.did.events (a k).past (b k).past (s.no_crash k)
      (s.did.moments k node linked.0 linked.1),
)

node-in : (setup : Setup) (at k n : ℕ) → setup.nodes ≡ range_with_len 1 n → at < n → k ≡ at + 1 → In k setup.nodes
node-in setup at k n are lt is =
    subst (In k) (sym are) (subst (λ (j : ℕ). In j (range_with_len 1 n)) (sym is) (in-range n at lt))

module _ {D : Type 0} (facts : DiskFacts D) where
  one-linked : (setup : Setup) (c : Cluster) (held : Held D) (at k n : ℕ) → setup.nodes ≡ range_with_len 1 n → at < n
      → k ≡ at + 1 → AreLinked facts setup held c setup.nodes
      → IsTrue (seen facts held k).tells × IsLinked setup c k (now (seen facts held k).past)
  one-linked setup c held at k n are lt is linked =
      subst (λ (j : ℕ). IsTrue (seen facts held j).tells × IsLinked setup c j (now (seen facts held j).past)) own
      (all-get (λ (j : ℕ). IsTrue (seen facts held j).tells
      × IsLinked setup c j (now (seen facts held j).past)) setup.nodes at 0 linked
      (let e = ap length are in let long = length-range_with_len 1 n in omega (arith, e, long, lt)))
    where
      own : get_or setup.nodes at 0 ≡ k
      own =
          ap (λ (l : List ℕ). get_or l at 0) are ∙ get_or-range_with_len 1 n at 0 lt
          ∙ (let e : 1 + at ≡ k = omega (arith, is) in e)

  -- why the next isn't
  refused-behind : (setup : Setup) (c : Cluster) (at k : ℕ) (old mid : Held D)
      (before middle : Outcome) (fault : RestartFault) → drop at setup.nodes ≡ k ∷ drop (at + 1) setup.nodes
      → (s : Serves setup c (FirstTo at setup c) (Stands facts setup mid) (seen facts old)
      (seen facts mid) before middle) → IsRefused facts setup (cluster_after c s.did.events) (k ∷ []) mid middle fault
      → IsRefused facts setup c setup.nodes old before fault
  refused-behind setup c at k old mid before middle (Damaged node file place) here s why =
      let b = behind setup c at k node.0 old mid before middle here s why.0 in (
        b.whole,
        subst (λ (h : Held D). IsTrue (seen facts h node.0).tells
            → lanes_at facts setup h node.0 ≡ Err (recover_faults.Damaged file place)) (sym b.same) why.1,
      )
  refused-behind setup c at k old mid before middle (Version node file byte) here s why =
      let b = behind setup c at k node.0 old mid before middle here s why.0 in (
        b.whole,
        subst (λ (h : Held D). IsTrue (seen facts h node.0).tells
            → lanes_at facts setup h node.0 ≡ Err (recover_faults.Version file byte)) (sym b.same) why.1,
      )
  refused-behind setup c at k old mid before middle (Lost node queue noticed found) here s why =
      let b = behind setup c at k node.0 old mid before middle here s why.0 in (
        b.whole,
        subst (λ (h : Held D). IsLostAt facts setup h (cluster_after c b.whole.serves.did.events) node queue
            noticed found) (sym b.same)
            (subst (λ (x : Cluster). IsLostAt facts setup why.0.mid x node queue noticed found) (sym b.after) why.1),
      )
  refused-behind setup c at k old mid before middle (OfMemory memory) here s why = tt

module _ {D : Type 0} {facts : DiskFacts D} where
  -- ---- for want of memory or numbers

  pub refuses-memory : {list : Setup → List ℕ} {Rule : Ruling} {old new : Held D} {before : Outcome} {memory : Memory}
      → GaveUp facts Rule old new memory → Refuses facts list Rule old new before (OfMemory memory)
  refuses-memory {memory = memory} given = record {
    gives_up = given.gives_up;
    logs = given.logs;
    refused = λ setup c r st. tt;
    spent = λ number is. given.spent number (let e : memory ≡ Spent number = cc in e);
    never = λ setup c r st linked. tt;
  }

  pub gave-spent : {list : Setup → List ℕ} {Rule : Ruling} {old new : Held D} {before : Outcome} {fault : RestartFault}
      (number : ℕ) → Refuses facts list Rule old new before fault → fault ≡ OfMemory (Spent number)
      → GaveUp facts Rule old new (Spent number)
  gave-spent number refuses is = record {
    gives_up = refuses.gives_up;
    logs = refuses.logs;
    spent = λ n same. refuses.spent n (is ∙ ap OfMemory same);
  }

  pub refuses-each : (at : ℕ) (node : NodeId) {old mid new : Held D} {before middle : Outcome}
      {fault : RestartFault}
      → ((setup : Setup) (c : Cluster) → Stands facts setup mid c → node.0 ≡ at + 1) → at < length mid.nodes.items
      → Served facts (FirstTo at) old mid before middle
      → Refuses facts (this_node node.0) (λ setup. IsRestart setup node.0) mid new middle fault
      → Refuses facts all_nodes (λ setup. ForEach setup.nodes (IsRestart setup)) old new before fault
  refuses-each at node {old = old} {mid = mid} {new = new} {before = before} {middle = middle}
      {fault = fault} is lt first second = record {
        gives_up = λ setup c r st. (let s = first.serves setup c r st in
            gives_up-behind setup c (FirstTo at setup c) (Stands facts setup mid) (seen facts old) (seen facts mid)
            (seen facts new) before middle s
            (second.gives_up setup (cluster_after c s.did.events) (reached-after setup c s.did.events r) s.did.stands));
        logs = λ setup c r st. (let s = first.serves setup c r st in
            second.logs setup (cluster_after c s.did.events) (reached-after setup c s.did.events r) s.did.stands);
        refused = λ setup c r st. (let s = first.serves setup c r st in
            let d : Cluster = cluster_after c s.did.events in
            refused-behind facts setup c at node.0 old mid before middle fault
            (subst (λ (k : ℕ). drop at setup.nodes ≡ k ∷ drop (at + 1) setup.nodes) (sym (is setup d s.did.stands))
            (place-at setup.nodes (length mid.nodes.items) at s.did.stands.set_up.nodes lt)) s
            (second.refused setup d (reached-after setup c s.did.events r) s.did.stands));
        spent = λ number spent.
            (nodes-gave_up IsRestart at node total-restart is lt
            (served-weaker first (λ setup c events r st allowed. restarted-leads at setup c events allowed))
            (gave-spent number second spent)).spent number refl;
        never = λ setup c r st linked. (let s = first.serves setup c r st in
            let d : Cluster = cluster_after c s.did.events in
            let own = is setup d s.did.stands in
            let are = s.did.stands.set_up.nodes in
            second.never setup d (reached-after setup c s.did.events r) s.did.stands (
              still-linked setup c node.0 (FirstTo at setup c) (Stands facts setup mid) (seen facts old)
                  (seen facts mid) before middle s (node-in setup at node.0 (length mid.nodes.items) are lt own)
                  (one-linked facts setup c old at node.0 (length mid.nodes.items) are lt own linked),
              tt,
            ));
      }
