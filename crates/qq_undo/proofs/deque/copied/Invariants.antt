use Rattle.std.proofs.Common.{◌≡◌, take}
use Rattle.qq_undo.proofs.deque.copied.Given as goal

-- the items so far are copied
abbrev pub invariant-items : goal.invariant-items
invariant-items g l = l.twin.items ≡ take l.place l.items.items
