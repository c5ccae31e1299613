use Rattle.std.proofs.Common.{ap, sym, ◌∙◌}
use Rattle.qq_wal.specs.Marks.{is_rising, numbers_in}
use Rattle.qq_wal.proofs.Rising.{synced-numbers}
use Rattle.qq_wal.proofs.Noting.{synced-within}
use Rattle.qq_wal.proofs.table.Marks.sync.Goals as goal

pub invariant_of-self : goal.invariant_of-self
invariant_of-self c = (
  c.self.invariant.0
      ∙ ap is_rising (sym (ap numbers_in c.sync_items.ensures ∙ synced-numbers c.self.inside.marks.items)),
  synced-within 18446744073709551615 0 c.self.inside.marks.items _ c.sync_items.ensures,
)
