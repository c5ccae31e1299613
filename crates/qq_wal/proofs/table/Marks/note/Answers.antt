use Rattle.std.proofs.Common.{ap, sym, ◌∙◌, arith}
use Rattle.qq_wal.specs.Marks.{is_rising, numbers_in}
use Rattle.qq_wal.proofs.Rising.{noted-numbers}
use Rattle.qq_wal.proofs.Noting.{noted-within}
use Rattle.qq_wal.proofs.table.Marks.note.Goals as goal

pub invariant_of-self : goal.invariant_of-self
invariant_of-self c =
    let old = c.self.inside.marks.items in
    let made = c.note_item-from.ensures in
    let low = c.min-self-inside.ensures in
    let high = c.max-self-inside.ensures in (
      c.self.invariant.0 ∙ ap is_rising (sym (ap numbers_in made.marks ∙ noted-numbers c.args.op.now old)),
      noted-within c.self.inside.first c.self.inside.end c.note_item-from.result.0 c.note_item-from.result.1
          c.min-self-inside.result c.max-self-inside.result old c.note_item-from.new.marks.items c.self.invariant.1
          made.before made.behind (omega (arith, low)) (omega (arith, low)) (omega (arith, high)) (omega (arith, high)),
    )
