use Rattle.std.proofs.Common.{List, Some, sym, ap, ◌∙◌, subst}
use Rattle.qq_parts.specs.Parts.{Served}
use Rattle.qq_consumer.specs.Roster.{ConsumersState, roster_of, first_of, remove_one}
use Rattle.qq_consumer.specs.Turns.{Waiting, IsKept}
use Rattle.qq_consumer.proofs.Back.{still-kept, taken-back}
use Rattle.qq_consumer.proofs.Changing.{removed-kept}
use Rattle.qq_consumer.proofs.Calls.{left-by, first-one}
use Rattle.qq_consumer.proofs.consumers.Consumers.end.Goals as goal

pub invariant_of-self-in_default-leave : goal.invariant_of-self-in_default-leave
invariant_of-self-in_default-leave c =
    let ones : List Served = c.self.inside.joined.served in
    record {
      now_kept =
          subst (λ (s : List Served). IsKept c.leave.new.waiting.items (roster_of s c.self.inside.turns))
          (sym c.in_default-leave.ensures.served)
          (subst (λ (ws : Waiting). IsKept ws (roster_of (remove_one c.in-Some.id ones) c.self.inside.turns))
          (left-by c.in-Some.id ones c.turn_of.result c.self.inside.waiting.items c.leave.new.waiting.items
          c.turn_of.ensures c.in_ok-leave.ensures.items)
          (removed-kept c.in-Some.id ones c.self.inside.turns c.self.inside.waiting.items c.self.invariant.now_kept));
      before_kept =
          still-kept c.self.inside.waiting.base c.leave.new.waiting.base c.self.inside.joined.base
          c.leave-2.new.self.base c.self.inside.base_turns c.leave.ensures.base c.leave-2.ensures.base
          c.self.invariant.before_kept;
    }

pub returns-clause-value : goal.returns-clause-value
returns-clause-value c =
    ap (λ (one : Served). Some one) c.in_ok-twin.ensures.ok
    ∙ c.in-Some-row_of.ensures.value
    ∙ first-one c.args.session c.self.inside.joined.served c.in-Some.id c.first_of.ensures.apart c.in-Some.ensures.value
    ∙ ap (λ (s : ConsumersState). first_of c.args.session s.roster.served) c.self.view_is

pub invariant_of-self-in-Err : goal.invariant_of-self-in-Err
invariant_of-self-in-Err c =
    taken-back c.self.inside.waiting.base c.self.inside.joined.base c.self.inside.base_turns
    c.take_back.new.waiting c.take_back.new.joined.served c.take_back.new.joined.base
    c.self.invariant.before_kept (c.take_back.ensures.items ∙ c.leave.ensures.base)
    (c.take_back.ensures.served ∙ c.leave-2.ensures.base)
    (c.take_back.ensures.waiting ∙ c.leave.ensures.base)
    (c.take_back.ensures.base ∙ c.leave-2.ensures.base)
