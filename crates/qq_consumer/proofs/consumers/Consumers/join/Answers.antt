use Rattle.std.proofs.Common.{◌+◌, ◌++◌, ◌∷◌, [], ℕ, Option, List, sym, ap, ◌∙◌, subst, refl}
use Rattle.qq_parts.specs.Parts.{Served}
use Rattle.qq_consumer.specs.declared.row.ConsumerRow.{ConsumerRow}
use Rattle.qq_consumer.specs.Roster.{ConsumersState, served_of, is_there, roster_of}
use Rattle.qq_consumer.specs.Turns.{Waiting, IsKept, enter}
use Rattle.qq_consumer.proofs.Back.{still-kept, taken-back}
use Rattle.qq_consumer.proofs.Keeping.{new-kept}
use Rattle.qq_consumer.proofs.consumers.Consumers.join.Goals as goal

pub invariant_of-self-2 : goal.invariant_of-self-2
invariant_of-self-2 c =
    let row : ConsumerRow = record { consumer = c.new_consumer-consumer.result; out = c.new.result } in
    record {
      now_kept =
          subst (λ (s : List Served). IsKept c.enter.new.waiting.items (roster_of s (c.self.inside.turns + 1)))
          (sym c.in_ok-push.ensures.ok)
          (subst
          (λ (ws : Waiting). IsKept ws
          (roster_of (c.self.inside.joined.served ++ served_of row ∷ []) (c.self.inside.turns + 1)))
          (sym (c.in_default.ensures.items
          ∙ ap (λ (o : Option ℕ). enter c.args.id o c.self.inside.waiting.items) c.turn_of-waits.ensures))
          (new-kept c.args.id c.args.mode row c.self.inside.joined.served c.self.inside.turns (c.self.inside.turns + 1)
          c.self.inside.waiting.items c.new_consumer-consumer.ensures c.self.invariant.now_kept
          (ap (λ (s : ConsumersState). is_there c.args.id s.roster.served) c.self.view_is ∙ c.requires.free) refl));
      before_kept =
          still-kept c.self.inside.waiting.base c.enter.new.waiting.base c.self.inside.joined.base c.push.new.self.base
          c.self.inside.base_turns c.enter.ensures.base c.push.ensures.base c.self.invariant.before_kept;
    }

pub invariant_of-self-in-Err : goal.invariant_of-self-in-Err
invariant_of-self-in-Err c =
    taken-back c.self.inside.waiting.base c.self.inside.joined.base c.self.inside.base_turns
    c.take_back.new.waiting c.take_back.new.joined.served c.take_back.new.joined.base
    c.self.invariant.before_kept (c.take_back.ensures.items ∙ c.enter.ensures.base)
    (c.take_back.ensures.served ∙ c.push.ensures.base)
    (c.take_back.ensures.waiting ∙ c.enter.ensures.base)
    (c.take_back.ensures.base ∙ c.push.ensures.base)
