use Rattle.std.proofs.Common.{◌≡◌, take}
use Rattle.qq_base.proofs.items.copied.Given as goal

-- the copies so far
abbrev pub invariant-loop-item : goal.invariant-loop-item
invariant-loop-item g l = l.list.items ≡ take l.item-index l.items
