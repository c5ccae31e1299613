use Rattle.qq_machine.proofs.Totals.{keeps-copy}
use Rattle.qq_machine.proofs.counted.Counted.copy.Goals as goal

pub invariant_of-result : goal.invariant_of-result
invariant_of-result c =
    keeps-copy c.self.inside.consumers c.in_ok-copy.field-0 _ _ c.self.inside.ledger.came.items
    c.self.inside.ledger.gone.items c.new.result.came.items c.new.result.gone.items c.self.invariant
    c.in_ok-copy.ensures.ok c.in_ok-copy.ensures.base c.new.ensures.came c.new.ensures.gone
