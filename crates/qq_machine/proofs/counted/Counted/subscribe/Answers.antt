use Rattle.std.proofs.Common.{ap, ◌∙◌}
use Rattle.qq_consumer.specs.Roster.{Roster}
use Rattle.qq_machine.proofs.Totals.{total_by, total-subscribe, keeps-same, keeps-back}
use Rattle.qq_machine.proofs.counted.Counted.subscribe.Goals as goal

pub invariant_of-self : goal.invariant_of-self
invariant_of-self c =
    keeps-same c.self.inside.consumers c.subscribe.new.self _ _ c.self.inside.ledger.came.items c.self.inside.ledger.gone.items c.self.invariant
    (λ g. ap (λ (r : Roster). total_by g r.served) c.in-Ok.ensures.ok
    ∙ total-subscribe g c.args.id c.args.mode c.self.inside.consumers.roster)
    c.subscribe.ensures.base

pub invariant_of-self-in-Err : goal.invariant_of-self-in-Err
invariant_of-self-in-Err c =
    keeps-back c.self.inside.consumers c.subscribe.new.self c.take_back.new.consumers _ _ c.self.inside.ledger.came.items c.self.inside.ledger.gone.items
    c.take_back.new.ledger.came.items c.take_back.new.ledger.gone.items c.self.invariant c.subscribe.ensures.base c.take_back.ensures.roster c.take_back.ensures.base c.take_back.ensures.came
    c.take_back.ensures.gone
