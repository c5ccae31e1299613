use Rattle.std.proofs.Common.{◌≡◌, ◌-◌}
use Rattle.qq_fields.specs.Reading.{many}
use Rattle.qq_fields.proofs.Loop.{with_prefix}
use Rattle.qq_fields.proofs.items.many.Given as goal

-- what was read, and what is still read
abbrev pub invariant-items : goal.invariant-items
invariant-items g l =
    with_prefix l.items.items (many g.T.Item.read (l.count - l.counter) l.rest) ≡ many g.T.Item.read l.count l.bytes
