use Rattle.std.proofs.Common.{◌∙◌, ap, ◌++◌, ◌∷◌, ◌≡◌, List, arith}
use Rattle.std.proofs.lemmas.List.{nil_from_length}
use Rattle.qq_base.proofs.Exits.{at_exit}
use Rattle.qq_script_lines.specs.declared.line.ScriptLine.{ScriptLine}
use Rattle.qq_cluster_run.specs.Drilling.{know}
use Rattle.qq_cluster_run.specs.Serving.{cluster_in, setup_in}
use Rattle.qq_broker.specs.Drilling.{run_with}
use Rattle.qq_broker.proofs.DrillLoops.{lines-begin, lines-end, lines-go}
use Rattle.qq_broker.proofs.DrillStops.{lines-stop}
use Rattle.qq_broker.proofs.drilling.play_lines.Goals as goal

pub lines-init : goal.lines-init
lines-init g c =
    let disk = g.Y.Disk.NodeDisk in
    record {
      go = lines-begin disk.facts c.args.setup.now c.args.lines.items c.into_iter-line-iterator.result.rest.items
          c.args.nodes.now c.args.told.now c.args.play.now
          c.into_iter-line-iterator.ensures.into_iter_gives.0;
      later = omega arith;
    }

pub play_line-requires-clause-plays : goal.play_line-requires-clause-plays
play_line-requires-clause-plays g c = λ lifetimes bounds.
    (let p = c.requires.plays in
    let s = c.args.setup.now in
    let run = p.1.0 in
    let on = c.lines.invariant.go p.0 run p.1.1.0 p.1.1.1 in (
      p.0,
      (run_with run on.so.more, (know (setup_in s run) (cluster_in s run) on.so.more p.1.1.0, on.so.plays)),
    ))

pub returns-in_err-play_line-clause-cause : goal.returns-in_err-play_line-clause-cause
returns-in_err-play_line-clause-cause g c =
    λ given run k so. at_exit _ _ c.from_residual.ensures.1
    (let disk = g.Y.Disk.NodeDisk in
    let yards = g.Y.Yard.faults in
    let s = c.args.setup.now in
    let on = c.lines.invariant.go given run k so in
    let rest = c.next.new.self.rest.items in
    let all : c.args.lines.items ≡ on.done ++ c.in-Some.line ∷ rest =
    on.are ∙ ap (λ (l : List ScriptLine). on.done ++ l) c.in-Some.ensures.steps.0 in
    lines-stop given disk.facts s (yards c.args.yard.now) (yards c.lines.yard) (yards c.play_line.new.yard)
    c.lines.invariant.later run c.args.lines.items on.done c.in-Some.line rest k c.lines.nodes
    c.lines.told c.lines.play c.in_err-play_line.field-0.0 all on.so
    (c.in_err-play_line.ensures.cause given (run_with run on.so.more) (know (setup_in s run) (cluster_in s run) on.so.more k)
    on.so.plays))

pub lines-preserved : goal.lines-preserved
lines-preserved g c =
    let disk = g.Y.Disk.NodeDisk in
    record {
      go = lines-go disk.facts c.args.setup.now c.args.lines.items c.lines.line-iterator.rest.items
          c.next.new.self.rest.items c.in-Some.line c.args.nodes.now c.lines.nodes c.play_line.new.nodes c.args.told.now
          c.lines.told c.play_line.new.told c.args.play.now c.lines.play c.play_line.new.play c.in-Some.ensures.steps.0
          c.lines.invariant.go c.in_ok-play_line.ensures.ok;
      later = omega (arith, c.lines.invariant.later, c.play_line.ensures.later);
    }

pub returns-clause-ok : goal.returns-clause-ok
returns-clause-ok g c =
    let disk = g.Y.Disk.NodeDisk in
    lines-end disk.facts c.args.setup.now c.args.lines.items c.lines.line-iterator.rest.items
    c.args.nodes.now c.lines.nodes c.args.told.now c.lines.told c.args.play.now c.lines.play
    (nil_from_length c.lines.line-iterator.rest.items
    (omega (arith, c.lines.line-iterator.rest.ok.0, c.in-None.ensures.steps.0))) c.lines.invariant.go
