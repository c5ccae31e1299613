use Rattle.std.proofs.Common.{◌≡◌, Option, Bool, drop, fold}
use Rattle.qq_model.specs.Choice.{lesser, least_by}
use Rattle.qq_serial.specs.Choice.{Computes, Compares}
use Rattle.qq_serial.proofs.choice.least_by.Given as goal

-- the best so far goes on to the one of least key
abbrev pub invariant-loop-item : goal.invariant-loop-item
invariant-loop-item g l =
    (key : g.row.T.Denot → Option g.row.K.Denot) (less : g.row.K.Denot → g.row.K.Denot → Bool) → Computes
    (goal.F-post g l.key) key → Compares (goal.L-post g l.less) less
    → fold (lesser less key) l.best (drop l.item-index l.items) ≡ least_by less key l.items
