use Rattle.std.proofs.Common.{◌+◌, refl, ap, sym, ◌∙◌}
use Rattle.qq_consumer.specs.Roster.{Roster}
use Rattle.qq_machine.specs.Counted.{total}
use Rattle.qq_live.specs.Indices.{occurrences}
use Rattle.qq_ledger.specs.Ledger.{out_indices}
use Rattle.qq_machine.specs.Counted.{ended_indices}
use Rattle.qq_machine.proofs.Totals.{left-by, named-ended, keeps-less, keeps-back}
use Rattle.qq_machine.proofs.counted.Counted.end.Goals as goal

pub invariant_of-self : goal.invariant_of-self
invariant_of-self c =
    keeps-less c.self.inside.consumers c.end_one.new.consumers _ _ _ c.self.inside.ledger.came.items c.self.inside.ledger.gone.items
    c.self.inside.ledger.came.items c.end_one.new.gone.items (ended_indices c.in-Ok.ended) c.self.invariant
    (left-by c.args.session c.in-Ok.ended c.self.inside.consumers.roster _ _ c.len.ensures.apart
    c.in-Ok.ensures.value c.self.invariant.counted.now_out c.left_by-self-inside.ensures
    ∙ sym (ap (λ (r : Roster). total r.served) c.in-Ok.ensures.ok))
    (λ i. named-ended c.args.session c.in-Ok.ended c.self.inside.consumers.roster c.len.ensures.apart
    c.in-Ok.ensures.value i
    ∙ ap (λ (r : Roster). occurrences i (out_indices r.served) + occurrences i (ended_indices c.in-Ok.ended))
    (sym c.in-Ok.ensures.ok))
    c.end_one.ensures.base refl c.in-Ok.ensures.gone

pub invariant_of-self-in-Err : goal.invariant_of-self-in-Err
invariant_of-self-in-Err c =
    keeps-back c.self.inside.consumers c.end_one.new.consumers c.take_back.new.consumers _ _ c.self.inside.ledger.came.items c.self.inside.ledger.gone.items
    c.take_back.new.ledger.came.items c.take_back.new.ledger.gone.items c.self.invariant c.end_one.ensures.base c.take_back.ensures.roster c.take_back.ensures.base c.take_back.ensures.came
    c.take_back.ensures.gone
