use Rattle.std.proofs.Common.{List, sym, ap, ◌∙◌, subst, refl}
use Rattle.qq_parts.specs.Parts.{Served}
use Rattle.qq_consumer.specs.Roster.{ConsumersState, roster_of, served_of, cancel, remove_one, put_one}
use Rattle.qq_consumer.specs.Turns.{Waiting, IsKept}
use Rattle.qq_consumer.proofs.Back.{still-kept, taken-back}
use Rattle.qq_consumer.proofs.Changing.{removed-kept}
use Rattle.qq_consumer.proofs.Calls.{over, is-there, out-empty, cancel-idle, cancel-busy, left-by, busy-kept, next-id}
use Rattle.qq_consumer.proofs.consumers.Consumers.cancel.Goals as goal

pub invariant_of-self-in_default-leave : goal.invariant_of-self-in_default-leave
invariant_of-self-in_default-leave c =
    let ones : List Served = c.self.inside.joined.served in
    record {
      now_kept =
          subst (λ (s : List Served). IsKept c.leave.new.waiting.items (roster_of s c.self.inside.turns))
          (sym c.in_default-leave.ensures.served)
          (subst (λ (ws : Waiting). IsKept ws (roster_of (remove_one c.args.id ones) c.self.inside.turns))
          (left-by c.args.id ones c.turn_of.result c.self.inside.waiting.items c.leave.new.waiting.items
          c.turn_of.ensures c.in_ok-leave.ensures.items)
          (removed-kept c.args.id ones c.self.inside.turns c.self.inside.waiting.items c.self.invariant.now_kept));
      before_kept =
          still-kept c.self.inside.waiting.base c.leave.new.waiting.base c.self.inside.joined.base
          c.leave-then-is_idle.new.self.base c.self.inside.base_turns c.leave.ensures.base
          c.leave-then-is_idle.ensures.base c.self.invariant.before_kept;
    }

pub returns-then-is_idle-clause-ok : goal.returns-then-is_idle-clause-ok
returns-then-is_idle-clause-ok c =
    ap (λ (s : List Served). roster_of s c.self.inside.turns) c.in_default-leave.ensures.served
    ∙ cancel-idle c.args.id (served_of c.in-Some.row.now) c.self.inside.joined.served c.self.inside.turns
    c.row_of.ensures.apart c.in-Some.ensures.value c.self.invariant.now_kept.needed c.if-consumer.false
    (out-empty c.in-Some.row.now c.is_empty-is_idle.result c.is_empty-is_idle.ensures ∙ c.if-is_idle.true)
    ∙ ap (λ (s : ConsumersState). cancel c.args.id s.roster) c.self.view_is

pub put-requires : goal.put-requires
put-requires c =
    next-id (served_of c.in-Some.row.now) c.in-Some.row.now.consumer c.self.inside.joined.served
    (is-there c.args.id c.self.inside.joined.served (served_of c.in-Some.row.now) c.in-Some.ensures.value) refl refl

pub invariant_of-self-in_default-put : goal.invariant_of-self-in_default-put
invariant_of-self-in_default-put c =
    let ones : List Served = c.self.inside.joined.served in
    record {
      now_kept =
          subst (λ (s : List Served). IsKept c.leave.new.waiting.items (roster_of s c.self.inside.turns))
          (sym c.in_default-put.ensures.served)
          (subst (λ (ws : Waiting). IsKept ws
          (roster_of (put_one (over c.in-Some.row.now.consumer) ones) c.self.inside.turns))
          (left-by c.args.id ones c.turn_of.result c.self.inside.waiting.items c.leave.new.waiting.items
          c.turn_of.ensures c.in_ok-leave.ensures.items)
          (busy-kept c.args.id (served_of c.in-Some.row.now) ones c.self.inside.turns c.self.inside.waiting.items
          c.row_of.ensures.apart c.self.invariant.now_kept c.in-Some.ensures.value
          (out-empty c.in-Some.row.now c.is_empty-is_idle.result c.is_empty-is_idle.ensures ∙ c.if-is_idle.false)));
      before_kept =
          still-kept c.self.inside.waiting.base c.leave.new.waiting.base c.self.inside.joined.base c.put.new.self.base
          c.self.inside.base_turns c.leave.ensures.base c.put.ensures.base c.self.invariant.before_kept;
    }

pub returns-clause-ok : goal.returns-clause-ok
returns-clause-ok c =
    ap (λ (s : List Served). roster_of s c.self.inside.turns) c.in_default-put.ensures.served
    ∙ cancel-busy c.args.id (served_of c.in-Some.row.now) c.self.inside.joined.served c.self.inside.turns
    c.row_of.ensures.apart c.in-Some.ensures.value c.self.invariant.now_kept.needed c.if-consumer.false
    (out-empty c.in-Some.row.now c.is_empty-is_idle.result c.is_empty-is_idle.ensures ∙ c.if-is_idle.false)
    ∙ ap (λ (s : ConsumersState). cancel c.args.id s.roster) c.self.view_is

pub invariant_of-self-in-Err : goal.invariant_of-self-in-Err
invariant_of-self-in-Err c =
    taken-back c.self.inside.waiting.base c.self.inside.joined.base c.self.inside.base_turns c.take_back.new.waiting
    c.take_back.new.joined.served c.take_back.new.joined.base c.self.invariant.before_kept
    (c.take_back.ensures.items ∙ c.leave.ensures.base)
    (c.take_back.ensures.served ∙ c.leave-then-is_idle.ensures.base)
    (c.take_back.ensures.waiting ∙ c.leave.ensures.base)
    (c.take_back.ensures.base ∙ c.leave-then-is_idle.ensures.base)

pub invariant_of-self-in-Err-put : goal.invariant_of-self-in-Err-put
invariant_of-self-in-Err-put c =
    taken-back c.self.inside.waiting.base c.self.inside.joined.base c.self.inside.base_turns
    c.take_back-in-Err-put.new.waiting c.take_back-in-Err-put.new.joined.served c.take_back-in-Err-put.new.joined.base
    c.self.invariant.before_kept (c.take_back-in-Err-put.ensures.items ∙ c.leave.ensures.base)
    (c.take_back-in-Err-put.ensures.served ∙ c.put.ensures.base)
    (c.take_back-in-Err-put.ensures.waiting ∙ c.leave.ensures.base)
    (c.take_back-in-Err-put.ensures.base ∙ c.put.ensures.base)
