-- Nodes are crashed, one after the other.
use Rattle.std.proofs.Common.{◌≡◌, ◌<◌, ◌≤◌, ◌+◌, ℕ, List, [], ◌∷◌, ◌++◌, Ok, Err, length, drop, refl, sym, ap, ◌∙◌, subst, inl, inr, arith, append-nil}
use Rattle.std.proofs.lemmas.List.FromFn.{length-range_with_len}
use Rattle.qq_base.specs.Causes.{HasCause}
use Rattle.qq_base.specs.declared.ids.NodeId.{NodeId}
use Rattle.qq_disk.specs.declared.image.Image.{Image}
use Rattle.qq_disk.specs.Facts.{DiskFacts}
use Rattle.qq_ports.specs.Yard.{IsYardCaused}
use Rattle.qq_ports.specs.declared.yard_fault.YardFault.{YardFault}
use Rattle.qq_ports.specs.declared.yard_fault.YardFault.TheVariants.{Failed, Memory as OfMemory}
use Rattle.qq_cluster_model.specs.Cluster.{Cluster, ClusterEvent, Crashes, Setup, cluster_after}
use Rattle.qq_cluster_model.specs.Rules.{ForEach, Is}
use Rattle.qq_cluster_laws.proofs.Reached.{reached-after}
use Rattle.qq_cluster_laws.proofs.Serves.{happened-both, leads-more, leads-start, serves-nothing}
use Rattle.qq_cluster_model.specs.Outcome.{Outcome}
use Rattle.qq_cluster.specs.Nodes.{CanServe, LeadsIn, Stands, nodes_in, seen}
use Rattle.qq_cluster.specs.Crashing.{HasHappened}
use Rattle.qq_cluster.specs.declared.nodes.Nodes.{Nodes as Held}
use Rattle.qq_cluster.proofs.Outcomes.{no_outcome}
use Rattle.qq_cluster.proofs.Walks.{drop-past, place-at}

-- ---- why a node isn't crashed

-- a yard's count of faults rose since it was less
cause-since : (a m b : ℕ) (fault : YardFault) → a ≤ m → IsYardCaused m b fault → IsYardCaused a b fault
cause-since a m b Failed more (inl less) = inl (omega (arith, less, more))
cause-since a m b Failed more (inr end) = inr end
cause-since a m b (OfMemory memory) more want = want

pub cause-later : (a m b : ℕ) (fault : YardFault) → a ≤ m
    → HasCause {T = Unit {0}} IsYardCaused m b (Err fault) → HasCause {T = Unit {0}} IsYardCaused a b (Err fault)
cause-later a m b fault more cause = record {
  later = (let rest = cause.later in omega (arith, more, rest));
  cause = cause-since a m b fault more cause.cause;
}

pub cause-none : (a b : ℕ) → a ≤ b → HasCause {T = Unit {0}} {E = YardFault} IsYardCaused a b (Ok tt)
cause-none a b more = record { later = more; cause = tt }

-- ---- one after the other

abbrev pub Crash : Image → Setup → ℕ → Cluster → List ClusterEvent → Type 0
Crash image setup k = Is (Crashes k image)

-- the first nodes were crashed
abbrev pub CrashedTo : {D : Type 0} → DiskFacts D → Image → ℕ → Held D → Held D → Type 0
CrashedTo facts image at old new =
    (outcome : Outcome) → HasHappened facts (LeadsIn nodes_in at (Crash image)) old new outcome outcome

module _ {D : Type 0} {facts : DiskFacts D} where
  pub crashed-none : (image : Image) (held : Held D) → CrashedTo facts image 0 held held
  crashed-none image held outcome = record {
    happened = λ setup c r st.
        (serves-nothing setup c (LeadsIn nodes_in 0 (Crash image) setup c) (Stands facts setup held) (seen facts held)
        outcome (leads-start (ForEach setup.nodes (Crash image setup)) c) st).did;
  }

  pub crashed-can : (image : Image) (at : ℕ) (old new : Held D) → CanServe facts old → CrashedTo facts image at old new
      → CanServe facts new × (length new.nodes.items ≡ length old.nodes.items)
  crashed-can image at old new can crashed =
      let s = (crashed no_outcome).happened can.0 can.1 can.2 can.3 in
      let first = ap length can.3.set_up.nodes in
      let last = ap length s.stands.set_up.nodes in
      let long = length-range_with_len 1 (length old.nodes.items) in
      let wide = length-range_with_len 1 (length new.nodes.items) in (
        (can.0, cluster_after can.1 s.events, reached-after can.0 can.1 s.events can.2, s.stands),
        omega (arith, first, last, long, wide),
      )

  pub crashed-more : (image : Image) (at : ℕ) (node : NodeId) (old mid new : Held D) → at < length mid.nodes.items
      → ((setup : Setup) (c : Cluster) → Stands facts setup mid c → node.0 ≡ at + 1) → CrashedTo facts image at old mid
      → ((outcome : Outcome) → HasHappened facts (λ setup. Crash image setup node.0) mid new outcome outcome)
      → CrashedTo facts image (at + 1) old new
  crashed-more image at node old mid new lt is first second outcome = record {
    happened = λ setup c r st. (let s = (first outcome).happened setup c r st in
        let d : Cluster = cluster_after c s.events in
        let t = (second outcome).happened setup d (reached-after setup c s.events r) s.stands in
        happened-both setup c (LeadsIn nodes_in at (Crash image) setup c) (Crash image setup node.0 d)
        (LeadsIn nodes_in (at + 1) (Crash image) setup c) (Stands facts setup mid) (Stands facts setup new)
        (seen facts old) (seen facts mid) (seen facts new) outcome outcome outcome s t
        (leads-more (ForEach (drop at setup.nodes) (Crash image setup))
        (ForEach (drop (at + 1) setup.nodes) (Crash image setup)) (ForEach setup.nodes (Crash image setup)) c s.events
        t.events s.means
        (λ late allowed. subst (λ (l : List ℕ). ForEach l (Crash image setup) d (t.events ++ late))
        (sym (place-at setup.nodes (length mid.nodes.items) at s.stands.set_up.nodes lt
        ∙ ap (λ (k : ℕ). k ∷ drop (at + 1) setup.nodes) (sym (is setup d s.stands))))
        (record { early = t.events; late = late; is = refl; first = t.means; second = allowed }))));
  }

  pub crashed-all : (image : Image) (at : ℕ) (old new : Held D) → length new.nodes.items ≤ at
      → CrashedTo facts image at old new → (outcome : Outcome)
      → HasHappened facts (λ (setup : Setup). ForEach setup.nodes (Crash image setup)) old new outcome outcome
  crashed-all image at old new le crashed outcome = record {
    happened = λ setup c r st. (let s = (crashed outcome).happened setup c r st in
        let d : Cluster = cluster_after c s.events in
        record {
          events = s.events;
          means = subst (ForEach setup.nodes (Crash image setup) c) (append-nil s.events)
              (s.means [] (subst (λ (l : List ℕ). ForEach l (Crash image setup) d [])
              (sym (drop-past setup.nodes at
              (let e = ap length s.stands.set_up.nodes in let long = length-range_with_len 1 (length new.nodes.items) in
              omega (arith, e, long, le)))) refl));
          stands = s.stands;
          says = s.says;
          sees = s.sees;
          told = s.told;
          moments = s.moments;
        });
  }
