use Rattle.std.proofs.Common.{◌≡◌, ◌++◌, take}
use Rattle.std.specs.List.{flat_map}
use Rattle.qq_fields.proofs.items.put_each.Given as goal

-- what was put so far
abbrev pub invariant-items : goal.invariant-items
invariant-items g l = l.out.items ≡ l.initial.out.items ++ flat_map g.T.Item.write (take l.item-index l.items)
