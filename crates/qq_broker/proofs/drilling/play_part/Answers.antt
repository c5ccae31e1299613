use Rattle.qq_cluster_run.specs.Drilling.{begin_part}
use Rattle.qq_broker.proofs.Drilled.{part-done}
use Rattle.qq_broker.proofs.DrillStops.{lines-want, part-stops}
use Rattle.qq_broker.proofs.drilling.play_part.Goals as goal

pub returns-in_default-clause-cause : goal.returns-in_default-clause-cause
returns-in_default-clause-cause g c = λ given run k so.
    (let disk = g.Y.Disk.NodeDisk in
    let yards = g.Y.Yard.faults in
    lines-want given disk.facts c.args.setup.now (yards c.args.yard.now) (yards c.args.yard.now) run _ k
    c.args.nodes.now c.args.told.now c.args.play.now so)

pub returns-in-Err-clause-cause : goal.returns-in-Err-clause-cause
returns-in-Err-clause-cause g c = λ given run k so.
    (let disk = g.Y.Disk.NodeDisk in
    let yards = g.Y.Yard.faults in
    lines-want given disk.facts c.args.setup.now (yards c.args.yard.now) (yards c.args.yard.now) run _ k
    c.args.nodes.now c.args.told.now c.args.play.now so)

pub play_lines-requires-clause-plays : goal.play_lines-requires-clause-plays
play_lines-requires-clause-plays g c = λ lifetimes bounds.
    (let p = c.requires.plays in
    let so = p.1.1.1 in (
      p.0,
      (
        p.1.0,
        (
          begin_part c.args.part p.1.1.0,
          record { holds = so.holds; silent = so.silent; knows = c.in-Ok.ensures.ok p.1.1.0 so.knows },
        ),
      ),
    ))

pub returns-in-Ok-play_lines-clause-ok : goal.returns-in-Ok-play_lines-clause-ok
returns-in-Ok-play_lines-clause-ok g c = λ given run k so.
    (let disk = g.Y.Disk.NodeDisk in
    part-done given disk.facts c.args.setup.now run c.args.part c.in-Some.led c.in-Ok.lines.items k
    c.play_lines.new.nodes c.play_lines.new.told c.play_lines.new.play (c.in-Some.ensures given run so.holds)
    (c.in-Ok.ensures.lines k so.knows)
    (c.in-Ok-play_lines.ensures.ok given run (begin_part c.args.part k)
    (record { holds = so.holds; silent = so.silent; knows = c.in-Ok.ensures.ok k so.knows })))

pub returns-in-Err-play_lines-clause-cause : goal.returns-in-Err-play_lines-clause-cause
returns-in-Err-play_lines-clause-cause g c = λ given run k so.
    (let disk = g.Y.Disk.NodeDisk in
    let yards = g.Y.Yard.faults in
    part-stops given disk.facts c.args.setup.now (yards c.args.yard.now) (yards c.play_lines.new.yard) run c.args.part
    c.in-Some.led c.in-Ok.lines.items k c.in-Err-play_lines.stop
    (c.in-Some.ensures given run so.holds) (c.in-Ok.ensures.lines k so.knows)
    (c.in-Err-play_lines.ensures.cause given run (begin_part c.args.part k)
    (record { holds = so.holds; silent = so.silent; knows = c.in-Ok.ensures.ok k so.knows })))
