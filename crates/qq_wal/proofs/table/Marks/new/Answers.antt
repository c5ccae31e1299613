use Rattle.std.proofs.Common.{List, ap, sym, ◌∙◌}
use Rattle.qq_wal.specs.declared.marks.Mark.{Mark}
use Rattle.qq_wal.specs.Marks.{is_rising, numbers_in}
use Rattle.qq_wal.proofs.Rising.{begun-numbers}
use Rattle.qq_wal.proofs.Noting.{begun-within}
use Rattle.qq_wal.proofs.table.Marks.new.Goals as goal

pub invariant_of-result : goal.invariant_of-result
invariant_of-result c = (
  c.is_rising-rising.ensures
      ∙ ap is_rising (sym (ap (λ (l : List Mark). numbers_in l) c.in_ok-marks.ensures.ok
      ∙ begun-numbers c.args.carries.now c.args.queues.now)),
  begun-within 18446744073709551615 0 c.args.carries.now c.args.queues.now _ c.in_ok-marks.ensures.ok,
)
