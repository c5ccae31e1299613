use Rattle.std.proofs.Common.{◌≡◌, length, take}
use Rattle.qq_group.proofs.group.cut_bag.Given as goal

abbrev pub invariant-messages : goal.invariant-messages
invariant-messages l = take l.count l.bag ≡ take l.count l.fn.bag

abbrev pub decreases-messages : goal.decreases-messages
decreases-messages l = length l.bag
