use Rattle.std.proofs.Common.{◌≡◌, ◌+◌, ℕ, List, Option, IfSome, sym, ap, ◌∙◌, subst, refl}
use Rattle.qq_model.specs.declared.consumer.Consumer.{Consumer}
use Rattle.qq_parts.specs.Parts.{Served}
use Rattle.qq_consumer.specs.declared.next.Next.TheVariants as next
use Rattle.qq_consumer.specs.Numbers.{AreBelow}
use Rattle.qq_consumer.specs.Roster.{ConsumersState, roster_of, served_of, put_one, take_out}
use Rattle.qq_consumer.specs.Turns.{Waiting, IsKept, enter}
use Rattle.qq_consumer.proofs.Back.{still-kept, taken-back}
use Rattle.qq_consumer.proofs.Calls.{next-id}
use Rattle.qq_consumer.proofs.Taking.{with_rest, next-own, mid-there, leaves-is, leaves-keeps, stays-takes, stays-keeps, draws-takes, draws-keeps, draws-below}
use Rattle.qq_consumer.proofs.consumers.Consumers.take_out.Goals as goal

pub invariant_of-self-in-Stays : goal.invariant_of-self-in-Stays
invariant_of-self-in-Stays c =
    let ones : List Served = c.self.inside.joined.served in
    let one : Served = served_of c.in-Some.row.now in
    let turns : ℕ = c.self.inside.turns in
    let ws : Waiting = c.self.inside.waiting.items in
    let kept : IsKept ws (roster_of ones turns) = c.self.invariant.now_kept in
    let is = next-own c.args.id c.args.ids.now one ones c.take_ids.new.self.served c.credit_of_one-before.result
    next.Stays c.in-Some.ensures.value c.in_default-take_ids.ensures.served c.credit_of_one-before.ensures c.in-Stays.ensures in
    record {
      now_kept =
          stays-keeps c.args.id c.args.ids.now one ones c.take_ids.new.self.served turns ws c.row_of.ensures.apart kept
          c.in-Some.ensures.value c.in_default-take_ids.ensures.served is.0 is.1;
      before_kept =
          still-kept c.self.inside.waiting.base c.self.inside.waiting.base c.self.inside.joined.base
          c.take_ids.new.self.base c.self.inside.base_turns refl c.take_ids.ensures.base c.self.invariant.before_kept;
    }

pub returns-in-Stays-clause-roster : goal.returns-in-Stays-clause-roster
returns-in-Stays-clause-roster c =
    let ones : List Served = c.self.inside.joined.served in
    let one : Served = served_of c.in-Some.row.now in
    let turns : ℕ = c.self.inside.turns in
    let ws : Waiting = c.self.inside.waiting.items in
    let kept : IsKept ws (roster_of ones turns) = c.self.invariant.now_kept in
    let is = next-own c.args.id c.args.ids.now one ones c.take_ids.new.self.served c.credit_of_one-before.result
    next.Stays c.in-Some.ensures.value c.in_default-take_ids.ensures.served c.credit_of_one-before.ensures c.in-Stays.ensures in
    stays-takes c.args.id c.args.ids.now one ones c.take_ids.new.self.served turns ws c.row_of.ensures.apart kept
    c.in-Some.ensures.value c.in_default-take_ids.ensures.served is.0 is.1
    ∙ ap (λ (s : ConsumersState). take_out c.args.id c.args.ids.now s.roster) c.self.view_is

pub invariant_of-self-in_default-leave : goal.invariant_of-self-in_default-leave
invariant_of-self-in_default-leave c =
    let ones : List Served = c.self.inside.joined.served in
    let one : Served = served_of c.in-Some.row.now in
    let turns : ℕ = c.self.inside.turns in
    let ws : Waiting = c.self.inside.waiting.items in
    let kept : IsKept ws (roster_of ones turns) = c.self.invariant.now_kept in
    let is = next-own c.args.id c.args.ids.now one ones c.take_ids.new.self.served c.credit_of_one-before.result
    next.Leaves c.in-Some.ensures.value c.in_default-take_ids.ensures.served c.credit_of_one-before.ensures c.in-Leaves.ensures in
    record {
      now_kept =
          leaves-keeps c.args.id c.args.ids.now one ones c.take_ids.new.self.served turns ws c.row_of.ensures.apart kept
          c.in-Some.ensures.value c.in_default-take_ids.ensures.served c.leave.new.self.served
          c.in_default-leave.ensures.served is;
      before_kept =
          still-kept c.self.inside.waiting.base c.self.inside.waiting.base c.self.inside.joined.base
          c.leave.new.self.base c.self.inside.base_turns refl (c.leave.ensures.base ∙ c.take_ids.ensures.base)
          c.self.invariant.before_kept;
    }

pub returns-in_default-leave-clause-roster : goal.returns-in_default-leave-clause-roster
returns-in_default-leave-clause-roster c =
    let ones : List Served = c.self.inside.joined.served in
    let one : Served = served_of c.in-Some.row.now in
    let turns : ℕ = c.self.inside.turns in
    let ws : Waiting = c.self.inside.waiting.items in
    let kept : IsKept ws (roster_of ones turns) = c.self.invariant.now_kept in
    let is = next-own c.args.id c.args.ids.now one ones c.take_ids.new.self.served c.credit_of_one-before.result
    next.Leaves c.in-Some.ensures.value c.in_default-take_ids.ensures.served c.credit_of_one-before.ensures c.in-Leaves.ensures in
    leaves-is c.args.id c.args.ids.now one ones c.take_ids.new.self.served turns ws c.row_of.ensures.apart kept
    c.in-Some.ensures.value c.in_default-take_ids.ensures.served c.leave.new.self.served
    c.in_default-leave.ensures.served is
    ∙ ap (λ (s : ConsumersState). take_out c.args.id c.args.ids.now s.roster) c.self.view_is

pub put-requires : goal.put-requires
put-requires c =
    let ones : List Served = c.self.inside.joined.served in
    let one : Served = served_of c.in-Some.row.now in
    let turns : ℕ = c.self.inside.turns in
    let ws : Waiting = c.self.inside.waiting.items in
    let kept : IsKept ws (roster_of ones turns) = c.self.invariant.now_kept in
    let is = next-own c.args.id c.args.ids.now one ones c.take_ids.new.self.served c.credit_of_one-before.result
    (next.Draws c.in-Draws.consumer) c.in-Some.ensures.value c.in_default-take_ids.ensures.served c.credit_of_one-before.ensures c.in-Draws.ensures in
    next-id (with_rest c.args.ids.now one) c.in-Draws.consumer c.take_ids.new.self.served
    (mid-there c.args.id c.args.ids.now one ones c.take_ids.new.self.served turns ws c.row_of.ensures.apart kept
    c.in-Some.ensures.value c.in_default-take_ids.ensures.served)
    (ap (λ (k : Consumer). k.id) is.2) (ap (λ (k : Consumer). k.next_id) is.2)

pub enter-requires : goal.enter-requires
enter-requires c =
    let ones : List Served = c.self.inside.joined.served in
    let one : Served = served_of c.in-Some.row.now in
    let turns : ℕ = c.self.inside.turns in
    let ws : Waiting = c.self.inside.waiting.items in
    let kept : IsKept ws (roster_of ones turns) = c.self.invariant.now_kept in
    let is = next-own c.args.id c.args.ids.now one ones c.take_ids.new.self.served c.credit_of_one-before.result
    (next.Draws c.in-Draws.consumer) c.in-Some.ensures.value c.in_default-take_ids.ensures.served c.credit_of_one-before.ensures c.in-Draws.ensures in
    let put : c.put.new.self.served
    ≡ put_one (record (one.consumer) { turn = turns + 1 }) c.take_ids.new.self.served =
    c.in_default-put.ensures.served
    ∙ ap (λ (k : Consumer). put_one (record k { turn = turns + 1 }) c.take_ids.new.self.served) is.2 in
    record {
      below =
          subst (λ (o : Option ℕ). IfSome o (λ n. AreBelow n ws)) (sym c.turn_of.ensures)
          (draws-below c.args.id c.args.ids.now one ones c.take_ids.new.self.served turns ws c.row_of.ensures.apart kept
          c.in-Some.ensures.value c.in_default-take_ids.ensures.served c.put.new.self.served put);
    }

pub invariant_of-self-in-Draws : goal.invariant_of-self-in-Draws
invariant_of-self-in-Draws c =
    let ones : List Served = c.self.inside.joined.served in
    let one : Served = served_of c.in-Some.row.now in
    let turns : ℕ = c.self.inside.turns in
    let ws : Waiting = c.self.inside.waiting.items in
    let kept : IsKept ws (roster_of ones turns) = c.self.invariant.now_kept in
    let is = next-own c.args.id c.args.ids.now one ones c.take_ids.new.self.served c.credit_of_one-before.result
    (next.Draws c.in-Draws.consumer) c.in-Some.ensures.value c.in_default-take_ids.ensures.served c.credit_of_one-before.ensures c.in-Draws.ensures in
    let put : c.put.new.self.served
    ≡ put_one (record (one.consumer) { turn = turns + 1 }) c.take_ids.new.self.served =
    c.in_default-put.ensures.served
    ∙ ap (λ (k : Consumer). put_one (record k { turn = turns + 1 }) c.take_ids.new.self.served) is.2 in
    record {
      now_kept =
          subst (λ (us : Waiting). IsKept us (roster_of c.put.new.self.served (turns + 1)))
          (sym (c.in_default-enter.ensures.items ∙ ap (λ (o : Option ℕ). enter c.args.id o ws) c.turn_of.ensures))
          (draws-keeps c.args.id c.args.ids.now one ones c.take_ids.new.self.served turns ws c.row_of.ensures.apart kept
          c.in-Some.ensures.value c.in_default-take_ids.ensures.served c.put.new.self.served put is.0
          is.1);
      before_kept =
          still-kept c.self.inside.waiting.base c.enter.new.waiting.base c.self.inside.joined.base c.put.new.self.base
          c.self.inside.base_turns c.enter.ensures.base (c.put.ensures.base ∙ c.take_ids.ensures.base)
          c.self.invariant.before_kept;
    }

pub returns-in_default-enter-clause-roster : goal.returns-in_default-enter-clause-roster
returns-in_default-enter-clause-roster c =
    let ones : List Served = c.self.inside.joined.served in
    let one : Served = served_of c.in-Some.row.now in
    let turns : ℕ = c.self.inside.turns in
    let ws : Waiting = c.self.inside.waiting.items in
    let kept : IsKept ws (roster_of ones turns) = c.self.invariant.now_kept in
    let is = next-own c.args.id c.args.ids.now one ones c.take_ids.new.self.served c.credit_of_one-before.result
    (next.Draws c.in-Draws.consumer) c.in-Some.ensures.value c.in_default-take_ids.ensures.served c.credit_of_one-before.ensures c.in-Draws.ensures in
    let put : c.put.new.self.served
    ≡ put_one (record (one.consumer) { turn = turns + 1 }) c.take_ids.new.self.served =
    c.in_default-put.ensures.served
    ∙ ap (λ (k : Consumer). put_one (record k { turn = turns + 1 }) c.take_ids.new.self.served) is.2 in
    draws-takes c.args.id c.args.ids.now one ones c.take_ids.new.self.served turns ws c.row_of.ensures.apart kept
    c.in-Some.ensures.value c.in_default-take_ids.ensures.served c.put.new.self.served put is.0
    is.1
    ∙ ap (λ (s : ConsumersState). take_out c.args.id c.args.ids.now s.roster) c.self.view_is

pub invariant_of-self : goal.invariant_of-self
invariant_of-self c =
    taken-back c.self.inside.waiting.base c.self.inside.joined.base c.self.inside.base_turns
    c.take_back.new.waiting c.take_back.new.joined.served c.take_back.new.joined.base
    c.self.invariant.before_kept (c.take_back.ensures.items)
    (c.take_back.ensures.served ∙ c.take_ids.ensures.base)
    (c.take_back.ensures.waiting)
    (c.take_back.ensures.base ∙ c.take_ids.ensures.base)

pub invariant_of-self-in-Err-leave : goal.invariant_of-self-in-Err-leave
invariant_of-self-in-Err-leave c =
    taken-back c.self.inside.waiting.base c.self.inside.joined.base c.self.inside.base_turns
    c.take_back-in-Err-leave.new.waiting c.take_back-in-Err-leave.new.joined.served c.take_back-in-Err-leave.new.joined.base
    c.self.invariant.before_kept (c.take_back-in-Err-leave.ensures.items)
    (c.take_back-in-Err-leave.ensures.served ∙ c.leave.ensures.base ∙ c.take_ids.ensures.base)
    (c.take_back-in-Err-leave.ensures.waiting)
    (c.take_back-in-Err-leave.ensures.base ∙ c.leave.ensures.base ∙ c.take_ids.ensures.base)

pub invariant_of-self-in-Err-put : goal.invariant_of-self-in-Err-put
invariant_of-self-in-Err-put c =
    taken-back c.self.inside.waiting.base c.self.inside.joined.base c.self.inside.base_turns
    c.take_back-in-Err-put.new.waiting c.take_back-in-Err-put.new.joined.served c.take_back-in-Err-put.new.joined.base
    c.self.invariant.before_kept (c.take_back-in-Err-put.ensures.items)
    (c.take_back-in-Err-put.ensures.served ∙ c.put.ensures.base ∙ c.take_ids.ensures.base)
    (c.take_back-in-Err-put.ensures.waiting)
    (c.take_back-in-Err-put.ensures.base ∙ c.put.ensures.base ∙ c.take_ids.ensures.base)

pub invariant_of-self-in-Err-enter : goal.invariant_of-self-in-Err-enter
invariant_of-self-in-Err-enter c =
    taken-back c.self.inside.waiting.base c.self.inside.joined.base c.self.inside.base_turns
    c.take_back-in-Err-enter.new.waiting c.take_back-in-Err-enter.new.joined.served c.take_back-in-Err-enter.new.joined.base
    c.self.invariant.before_kept (c.take_back-in-Err-enter.ensures.items ∙ c.enter.ensures.base)
    (c.take_back-in-Err-enter.ensures.served ∙ c.put.ensures.base ∙ c.take_ids.ensures.base)
    (c.take_back-in-Err-enter.ensures.waiting ∙ c.enter.ensures.base)
    (c.take_back-in-Err-enter.ensures.base ∙ c.put.ensures.base ∙ c.take_ids.ensures.base)
