use Rattle.qq_drill.specs.Drill.{hold}
use Rattle.qq_drill.proofs.Sides.{sides-set_err, sides-set_ok}
use Rattle.qq_drill.proofs.side.hold_at.Goals as goal

pub returns-then-place-sides-clause-ok : goal.returns-then-place-sides-clause-ok
returns-then-place-sides-clause-ok c =
    sides-set_ok c.hold.result (hold c.args.consumer c.args.id) c.args.sides.now c.args.queue c.place_of-place.result
    c.index-sides-place.result c.hold.new.self c.place_of-place.ensures c.if-place-sides.true c.hold.ensures.ok

pub returns-then-place-sides-clause-err : goal.returns-then-place-sides-clause-err
returns-then-place-sides-clause-err c =
    sides-set_err c.hold.result c.args.sides.now c.place_of-place.result c.index-sides-place.result c.hold.new.self
    c.hold.ensures.err
