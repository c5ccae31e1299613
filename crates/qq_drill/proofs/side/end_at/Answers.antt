use Rattle.qq_drill.specs.Drill.{ended}
use Rattle.qq_drill.proofs.Sides.{sides-set}
use Rattle.qq_drill.proofs.side.end_at.Goals as goal

pub returns-then-place-sides : goal.returns-then-place-sides
returns-then-place-sides c =
    sides-set ended _ _ _ c.index-sides-place.result _ c.place_of-place.ensures c.if-place-sides.true c.end.ensures
