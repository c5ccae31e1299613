use Rattle.std.proofs.Common.{◌+◌, List, drop, take, subst, arith}
use Rattle.std.proofs.lemmas.List.{take_all, take_more}
use Rattle.qq_base.proofs.Exits.{at_exit}
use Rattle.qq_cluster_run.specs.declared.drilling.Part.{Part}
use Rattle.qq_broker.specs.Drilling.{PartsDone, run_with}
use Rattle.qq_broker.proofs.DrillLoops.{parts-go, parts-split}
use Rattle.qq_broker.proofs.DrillStops.{parts-stop}
use Rattle.qq_broker.proofs.drilling.play_parts.Goals as goal

pub play_part-requires-clause-plays : goal.play_part-requires-clause-plays
play_part-requires-clause-plays g c = λ lifetimes bounds.
    (let p = c.requires.plays in
    let on = c.parts.invariant.go p.0 p.1.0 p.1.1.0 p.1.1.1 in (
      p.0,
      (run_with p.1.0 on.more, (on.later, on.plays)),
    ))

pub returns-in_err-play_part-clause-cause : goal.returns-in_err-play_part-clause-cause
returns-in_err-play_part-clause-cause g c =
    λ given run k so. at_exit _ _ c.from_residual.ensures.1
    (let disk = g.Y.Disk.NodeDisk in
    let yards = g.Y.Yard.faults in
    let list = c.args.parts.now in
    let i = c.parts.part-index in
    let on = c.parts.invariant.go given run k so in
    parts-stop given disk.facts c.args.setup.now (yards c.args.yard.now) (yards c.parts.yard)
    (yards c.play_part.new.yard) c.parts.invariant.later run list (take i list) _ (drop (i + 1) list) k
    c.parts.nodes c.parts.told c.parts.play c.in_err-play_part.field-0.0 (parts-split list i _ (omega (arith, c.parts-test.true))) on
    (c.in_err-play_part.ensures.cause given (run_with run on.more) on.later on.plays))

pub parts-preserved : goal.parts-preserved
parts-preserved g c =
    let disk = g.Y.Disk.NodeDisk in
    let list = c.args.parts.now in
    let i = c.parts.part-index in
    record {
      go = parts-go disk.facts c.args.setup.now (take i list) (take (i + 1) list) _ c.args.nodes.now c.parts.nodes
          c.play_part.new.nodes c.args.told.now c.parts.told
          c.play_part.new.told c.args.play.now c.parts.play c.play_part.new.play
          (take_more list i _ (omega (arith, c.parts-test.true)))
          c.parts.invariant.go c.in_ok-play_part.ensures.ok;
      later = omega (arith, c.parts.invariant.later, c.play_part.ensures.later);
    }

pub returns-clause-ok : goal.returns-clause-ok
returns-clause-ok g c = λ given run k so.
    (let disk = g.Y.Disk.NodeDisk in
    let list = c.args.parts.now in
    subst
    (λ (l : List Part). PartsDone given disk.facts c.args.setup.now run l k c.parts.nodes c.parts.told c.parts.play)
    (take_all c.parts.part-index list (omega (arith, c.parts-test.false)))
    (c.parts.invariant.go given run k so))
