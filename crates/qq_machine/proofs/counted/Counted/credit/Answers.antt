use Rattle.std.proofs.Common.{◌≡◌, ◌+◌, ap, subst, ◌∙◌}
use Rattle.qq_consumer.specs.Roster.{Roster, StaysUncredited}
use Rattle.qq_consumer.specs.declared.fault.CreditFault.{CreditFault}
use Rattle.qq_machine.proofs.Totals.{total_by, total-credit, keeps-same, keeps-back}
use Rattle.qq_machine.proofs.counted.Counted.credit.Goals as goal

pub invariant_of-self : goal.invariant_of-self
invariant_of-self c =
    keeps-same c.self.inside.consumers c.credit.new.self _ _ c.self.inside.ledger.came.items c.self.inside.ledger.gone.items c.self.invariant
    (λ g. ap (λ (r : Roster). total_by g r.served) c.in-Ok.ensures.ok
    ∙ total-credit g c.args.id (c.args.count + c.args.credit) c.self.inside.consumers.roster)
    c.credit.ensures.base

pub invariant_of-self-in-Err-Memory : goal.invariant_of-self-in-Err-Memory
invariant_of-self-in-Err-Memory c =
    keeps-back c.self.inside.consumers c.credit.new.self c.take_back.new.consumers _ _ c.self.inside.ledger.came.items c.self.inside.ledger.gone.items
    c.take_back.new.ledger.came.items c.take_back.new.ledger.gone.items c.self.invariant c.credit.ensures.base c.take_back.ensures.roster c.take_back.ensures.base c.take_back.ensures.came
    c.take_back.ensures.gone

pub invariant_of-self-in-Err-Refused : goal.invariant_of-self-in-Err-Refused
invariant_of-self-in-Err-Refused c =
    let still : c.credit.new.self.roster ≡ c.self.inside.consumers.roster =
    subst (λ (fault : CreditFault). StaysUncredited fault c.self.inside.consumers c.credit.new.self)
    c.in-Err-Refused.field-0-is c.in-Err-Refused.ensures.err in
    keeps-same c.self.inside.consumers c.credit.new.self _ _ c.self.inside.ledger.came.items
    c.self.inside.ledger.gone.items c.self.invariant (λ g. ap (λ (r : Roster). total_by g r.served) still)
    c.credit.ensures.base
