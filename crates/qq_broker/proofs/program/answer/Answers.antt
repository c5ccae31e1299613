use Rattle.std.proofs.Common.{◌≡◌, ◌+◌, ℕ, Some, refl, sym, subst}
use Rattle.qq_base.proofs.Exits.{at_exit}
use Rattle.qq_cluster_run.specs.Asking.{HasAskCause}
use Rattle.qq_cluster_run.specs.Reading.{Asks, says}
use Rattle.qq_cluster_run.specs.Service.{HasServeCause}
use Rattle.qq_cluster_run.specs.Serving.{setup_in}
use Rattle.qq_cluster_run.proofs.Answering.{answers_from, asks_from, stops_from}
use Rattle.qq_cluster_run.proofs.Naming.{asked-named}
use Rattle.qq_cluster_run.proofs.QueueRows.{rows-are}
use Rattle.qq_cluster_run.specs.declared.stop.AskStop.{AskStop}
use Rattle.qq_broker.specs.Takers.{HoldsAll, IsRefusedBy, RunHad, RunMeets}
use Rattle.qq_broker.specs.declared.faults.StepFault.TheVariants.{NoSuch}
use Rattle.qq_broker.proofs.GivenFree.{served-all}
use Rattle.qq_broker.proofs.Stops.{refused-gone, told-stop}
use Rattle.qq_broker.proofs.program.answer.Goals as goal

pub serve-requires-clause-holds : goal.serve-requires-clause-holds
serve-requires-clause-holds g c = λ lifetimes outlive. (
  c.requires.holds.0,
  (
    c.requires.holds.1.0,
    c.requires.holds.1.1,
    asked-named c.args.setup.now c.requires.holds.1.0.logs c.args.before c.args.line.now c.in_ok-said.said
        (rows-are c.args.setup.now c.requires.may) c.in_ok-said.ensures.ok,
  ),
)

pub returns-in-Ok-clause-ok : goal.returns-in-Ok-clause-ok
returns-in-Ok-clause-ok g c =
    let s = c.args.setup.now in
    let disk = g.Y.Disk.NodeDisk in
    λ given first run lines h.
    answers_from (RunHad given disk.facts first) s run c.in_ok-said.said c.args.line.now
    (HoldsAll given disk.facts s first c.serve.new.nodes c.serve.new.told.takers) c.args.told.now c.serve.new.told
    (subst (λ (n : ℕ). says s n (Some c.args.line.now) ≡ Asks c.in_ok-said.said) (sym lines) c.in_ok-said.ensures.ok)
    (served-all given disk.facts s first run c.in_ok-said.said c.args.nodes.now c.serve.new.nodes
    c.args.told.now c.serve.new.told h c.in-Ok.ensures.free (c.in-Ok.ensures.ok given run h.holds))

pub returns-in-Err-clause-cause : goal.returns-in-Err-clause-cause
returns-in-Err-clause-cause g c =
    let s = c.args.setup.now in
    let disk = g.Y.Disk.NodeDisk in
    let before = g.Y.Yard.faults c.args.yard.now in
    let after = g.Y.Yard.faults c.serve.new.yard in
    λ given first run lines h.
    (let met = RunMeets given disk.facts first before after in
    stops_from met s run c.in_ok-said.said c.args.line.now c.step_stop.result
    (subst (λ (n : ℕ). says s n (Some c.args.line.now) ≡ Asks c.in_ok-said.said) (sym lines) c.in_ok-said.ensures.ok)
    (subst (λ (n : ℕ). HasServeCause met (setup_in s run) run.events (n + 1) c.in_ok-said.said c.step_stop.result)
    (sym lines)
    (told-stop (HasServeCause met (setup_in s run) run.events (c.args.before + 1) c.in_ok-said.said) s (c.args.before + 1)
    c.in-Err.fault c.step_stop.result tt c.step_stop.ensures
    (c.in-Err.ensures.cause given first run (c.args.before + 1) h.holds h.seen))))

pub returns-in-Err-clause-same : goal.returns-in-Err-clause-same
returns-in-Err-clause-same g c = λ refused.
    c.in-Err.ensures.same
    (told-stop (λ (stop : AskStop). IsRefusedBy stop → c.in-Err.fault ≡ NoSuch) c.args.setup.now
    (c.args.before + 1) c.in-Err.fault c.step_stop.result (λ none. absurd none) c.step_stop.ensures
    (refused-gone c.args.setup.now (c.args.before + 1) c.in-Err.fault) refused)

pub returns-in_err-said-clause-cause : goal.returns-in_err-said-clause-cause
returns-in_err-said-clause-cause g c =
    let s = c.args.setup.now in
    λ given first run lines h. at_exit _ _ c.from_residual.ensures.1
    (asks_from _ s run c.args.line.now c.in_err-said.field-0.0
    (subst (λ (n : ℕ). HasAskCause c.in_err-said.field-0.0 (says s n (Some c.args.line.now))) (sym lines)
    c.in_err-said.ensures.cause))

pub returns-in_err-said-clause-same : goal.returns-in_err-said-clause-same
returns-in_err-said-clause-same g c =
    at_exit _ _ c.from_residual.ensures.1 (λ refused. refl)
