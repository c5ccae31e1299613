-- Nodes are opened, one after the other.
use Rattle.qq_cluster_model.specs.Outcome.{Outcome}
use Rattle.std.proofs.Common.{◌≡◌, ◌<◌, ◌+◌, ◌-◌, ℕ, Bool, true, false, ◌||◌, List, Option, Some, None, length, refl, sym, ap, ◌∙◌, subst, inl, inr, arith}
use Rattle.std.specs.Prelude.{slice_get}
use Rattle.std.specs.List.{range_with_len}
use Rattle.std.proofs.lemmas.Bool.{false≢true, true≢false}
use Rattle.qq_base.proofs.Puts.{put-other}
use Rattle.qq_base.specs.Fronts.{put}
use Rattle.qq_base.specs.declared.ids.NodeId.{NodeId}
use Rattle.qq_disk.specs.Facts.{DiskFacts}
use Rattle.qq_recover.specs.declared.fault.RecoverFault.TheVariants as recover_faults
use Rattle.qq_route.specs.declared.queue_row.QueueRow.{QueueRow}
use Rattle.qq_wal_chain.specs.Lanes.{Lanes}
use Rattle.qq_cluster_model.specs.Cluster.{Setup, new_cluster}
use Rattle.qq_cluster_model.specs.ClusterLaws.{HasGroups}
use Rattle.qq_cluster_laws.proofs.Serves.{serves-nothing}
use Rattle.qq_cluster.specs.Nodes.{Stands, seen}
use Rattle.qq_cluster.specs.Setting.{AreNew}
use Rattle.qq_cluster.specs.declared.node.Node.{Node}
use Rattle.qq_cluster.specs.declared.nodes.Nodes.{Nodes as Held}
use Rattle.qq_cluster.proofs.Begun.{new-stands}
use Rattle.qq_cluster.proofs.OwnStands.{set-here}
use Rattle.qq_opening.specs.Opened.{AreOpened, IsMarked, OpenedServes, OpenedTo, RestartedTo}
use Rattle.qq_opening.specs.Opening.{AreLogsOf, AreReadLogs, IsSetupWith, Logs, state_read}
use Rattle.qq_opening.specs.Taking.{FindsNone, MayStep, Steps, StepsUp}
use Rattle.qq_opening.proofs.Changing.{set-long}
use Rattle.qq_opening.proofs.NewNodes.{next-may, next-still, opened-none}
use Rattle.qq_opening.proofs.OpenedNone.{setup-over}
use Rattle.qq_opening.proofs.OpenedRules.{serves-down, serves-up}
use Rattle.qq_opening.proofs.OpenedStep.{left-nodes, opened-empty, opened-up, own_lanes}
use Rattle.qq_opening.proofs.Untouched.{in-first, range-below}

module _ {D : Type 0} {facts : DiskFacts D} (rows : List QueueRow) (old : Held D) (new : AreNew facts rows old) where
  pub loop-none : (outcome : Outcome) → OpenedTo facts rows 0 false old old outcome outcome
  loop-none outcome = record {
    opened = opened-none rows old new;
    serves = λ logs setup sw groups own are. record {
      serves = serves-nothing setup (new_cluster setup) (RestartedTo 0 false setup (new_cluster setup))
          (Stands facts setup old) (seen facts old) outcome (refl, λ k here. absurd here)
          (new-stands rows old new setup (setup-over setup rows (length old.nodes.items) logs sw groups));
      came = λ k here. absurd here;
    };
  }

  module _ (at : ℕ) (some : Bool) (held : Held D) (before middle : Outcome)
      (to : OpenedTo facts rows at some old held before middle) (node : NodeId) (is : node.0 ≡ at + 1)
      (lt : at < length old.nodes.items) where
    pub loop-may : MayStep facts node held
    loop-may = next-may rows old new at held to.opened node is lt

    index : node.0 - 1 ≡ at
    index = omega (arith, is)

    -- what was read of all of them was read of those before
    earlier : (x : Option Lanes) (logs : Logs)
        → AreReadLogs rows (range_with_len 1 (at + 1)) (put (at + 1) x to.opened.lanes) logs
        → AreReadLogs rows (range_with_len 1 at) to.opened.lanes logs
    earlier x logs are k i row here there member =
        let bounds = range-below 1 at k here in
        let low = bounds.0 in
        let high = bounds.1 in
        are k i row (in-first (at + 1) k (omega (arith, low)) (omega (arith, high))) there member
        ∙ ap (λ (l : Option Lanes). Some (state_read l row.args.queue))
        (put-other (at + 1) x to.opened.lanes k (λ e. absurd (omega (arith, e, high))))

    went-up : (left : Held D) (step : StepsUp facts node true held left)
        → slice_get left.nodes.items at ≡ Some (record step.found.turn.new { up = true; empty = false })
    went-up left step =
        ap (slice_get left.nodes.items) (sym index)
        ∙ ap (λ (l : List (Node D)). slice_get l (node.0 - 1))
        (left-nodes rows old new at held to.opened node is lt left step)
        ∙ set-here node.0 held.nodes.items step.found.turn.old
        (record step.found.turn.new { up = true; empty = false }) step.found.turn.here

    stayed-down : (left : Held D) (none : FindsNone facts node held left recover_faults.Disk)
        → (slice_get left.nodes.items at ≡ Some none.turn.new) × (none.turn.new.up ≡ false)
    stayed-down left none = (
      ap (slice_get left.nodes.items) (sym index)
          ∙ ap (λ (l : List (Node D)). slice_get l (node.0 - 1)) none.turn.is
          ∙ set-here node.0 held.nodes.items none.turn.old none.turn.new none.turn.here,
      ap (λ (y : Node D). y.up) none.turn.turns.is
          ∙ (next-still rows old new at held to.opened node is lt none.turn.old none.turn.here).is.up_is,
    )

    -- what follows of logs that are what was read, with these lanes
    more-opened : (last : Held D) (x : Option Lanes) (more : Bool) (later : Outcome)
        → ((o : AreOpened facts rows (at + 1) old last) × (o.lanes ≡ put (at + 1) x to.opened.lanes))
        → ((logs : Logs) (setup : Setup) → IsSetupWith setup rows (length old.nodes.items) logs → HasGroups setup
        → AreLogsOf rows logs → AreReadLogs rows (range_with_len 1 (at + 1)) (put (at + 1) x to.opened.lanes) logs
        → OpenedServes facts setup (at + 1) (put (at + 1) x to.opened.lanes) more old last before later)
        → OpenedTo facts rows (at + 1) more old last before later
    more-opened last x more later o serves = record {
      opened = o.0;
      serves = λ logs setup sw groups own.
          subst (λ (l : ℕ → Option Lanes). AreReadLogs rows (range_with_len 1 (at + 1)) l logs
          → OpenedServes facts setup (at + 1) l more old last before later) (sym o.1) (serves logs setup sw groups own);
    }

    pub loop-more : (left last : Held D) (up more : Bool) (later : Outcome)
        → Steps facts node true held left middle later → IsMarked at up left last → more ≡ (some || up)
        → OpenedTo facts rows (at + 1) more old last before later
    loop-more left last true more later (inl (step, says)) (same, up) more_is =
        subst (λ (h : Held D). OpenedTo facts rows (at + 1) more old h before later) (sym same)
        (subst (OpenedTo facts rows (at + 1) more old left before) (sym says)
        (more-opened left (Some (own_lanes rows old new at held to.opened node is lt step.found)) more middle
        (opened-up rows old new at held to.opened node is lt left step)
        (λ logs setup sw groups own are.
        serves-up rows old new at held to.opened node is lt logs setup sw groups some before middle
        (to.serves logs setup sw groups own
        (earlier (Some (own_lanes rows old new at held to.opened node is lt step.found)) logs are))
        left step are more more_is)))
    loop-more left last false more later (inl (step, says)) (marked, same, down) more_is =
        absurd (true≢false (down (record step.found.turn.new { up = true; empty = false }) (went-up left step)))
    loop-more left last true more later (inr (none, says)) (same, up) more_is =
        let there = stayed-down left none in
        absurd (false≢true (sym there.1 ∙ up none.turn.new there.0))
    loop-more left last false more later (inr (none, says)) (marked, same, down) more_is =
        more-opened last None more later
        (opened-empty rows old new at held to.opened node is lt left none last marked same)
        (λ logs setup sw groups own are.
        serves-down rows old new at held to.opened node is lt logs setup sw groups some before middle
        (to.serves logs setup sw groups own (earlier None logs are)) left none last marked same own are later says
        more more_is)

    -- the node is there afterwards
    pub loop-here : (left : Held D) (later : Outcome) → Steps facts node true held left middle later
        → at < length left.nodes.items
    loop-here left later steps =
        let long = by steps in
        let many = to.opened.node_count in
        omega (arith, lt, long, many)
      where
        by : Steps facts node true held left middle later → length left.nodes.items ≡ length held.nodes.items
        by (inl (step, says)) =
            ap length (left-nodes rows old new at held to.opened node is lt left step)
            ∙ set-long held.nodes.items (node.0 - 1) (record step.found.turn.new { up = true; empty = false })
        by (inr (none, says)) =
            ap length none.turn.is ∙ set-long held.nodes.items (node.0 - 1) none.turn.new

  -- all of them
  pub loop-all : (at : ℕ) (some : Bool) (held : Held D) (before later : Outcome) → at ≡ length old.nodes.items
      → OpenedTo facts rows at some old held before later
      → OpenedTo facts rows (length old.nodes.items) some old held before later
  loop-all at some held before later is to =
      subst (λ (n : ℕ). OpenedTo facts rows n some old held before later) is to
