use Rattle.std.proofs.Common.{◌+◌, [], refl, ap, sym, ◌∙◌}
use Rattle.qq_consumer.specs.Roster.{Roster}
use Rattle.qq_machine.specs.Counted.{total}
use Rattle.std.specs.Option.{option_map_or}
use Rattle.std.specs.Prelude.{map}
use Rattle.qq_live.specs.Indices.{occurrences}
use Rattle.qq_ledger.specs.Ledger.{message_index, out_indices}
use Rattle.qq_machine.proofs.Totals.{left-without, named-taken, keeps-less, keeps-back}
use Rattle.qq_machine.proofs.counted.Counted.take_out.Goals as goal

pub invariant_of-self : goal.invariant_of-self
invariant_of-self c =
    keeps-less c.self.inside.consumers c.take_out.new.consumers _ _ _ c.self.inside.ledger.came.items c.self.inside.ledger.gone.items
    c.self.inside.ledger.came.items c.take_out.new.gone.items
    (option_map_or (λ rows. map message_index rows.items) c.in-Ok.taken []) c.self.invariant
    (left-without (λ rows. rows.items) c.args.ids.now c.args.id c.in-Ok.taken c.self.inside.consumers.roster _ _
    c.len.ensures.apart c.in-Ok.ensures.rows c.self.invariant.counted.now_out c.left_without-self-inside.ensures
    ∙ sym (ap (λ (r : Roster). total r.served) c.in-Ok.ensures.roster))
    (λ i. named-taken (λ rows. rows.items) c.args.ids.now c.args.id c.in-Ok.taken c.self.inside.consumers.roster
    c.len.ensures.apart c.in-Ok.ensures.rows i
    ∙ ap (λ (r : Roster). occurrences i (out_indices r.served)
    + occurrences i (option_map_or (λ rows. map message_index rows.items) c.in-Ok.taken []))
    (sym c.in-Ok.ensures.roster))
    c.take_out.ensures.base refl c.in-Ok.ensures.gone

pub invariant_of-self-in-Err : goal.invariant_of-self-in-Err
invariant_of-self-in-Err c =
    keeps-back c.self.inside.consumers c.take_out.new.consumers c.take_back.new.consumers _ _ c.self.inside.ledger.came.items c.self.inside.ledger.gone.items
    c.take_back.new.ledger.came.items c.take_back.new.ledger.gone.items c.self.invariant c.take_out.ensures.base c.take_back.ensures.roster c.take_back.ensures.base c.take_back.ensures.came
    c.take_back.ensures.gone
