use Rattle.std.proofs.Common.{◌≡◌, take}
use Rattle.qq_live.proofs.slot.copy_slots.Given as goal

-- the slots so far are copied
abbrev pub invariant-slots : goal.invariant-slots
invariant-slots l = l.twin.items ≡ take l.place l.slots.items
