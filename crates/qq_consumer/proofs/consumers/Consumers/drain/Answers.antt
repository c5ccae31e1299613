use Rattle.std.proofs.Common.{List, sym, ap, subst, ◌∙◌}
use Rattle.qq_model.specs.declared.consumer.Consumer.{Consumer}
use Rattle.qq_parts.specs.Parts.{Served}
use Rattle.qq_consumer.specs.Roster.{roster_of, served_of, put_one}
use Rattle.qq_consumer.specs.Turns.{Waiting, IsKept}
use Rattle.qq_consumer.proofs.Back.{still-kept, taken-back}
use Rattle.qq_consumer.proofs.Calls.{is-there, left-by, drain-kept, next-id}
use Rattle.qq_consumer.proofs.consumers.Consumers.drain.Goals as goal

pub put-requires : goal.put-requires
put-requires c =
    next-id (served_of c.in-Some.row.now) c.drained.result c.self.inside.joined.served
    (is-there c.args.id c.self.inside.joined.served (served_of c.in-Some.row.now) c.in-Some.ensures.value)
    (ap (λ (k : Consumer). k.id) c.drained.ensures) (ap (λ (k : Consumer). k.next_id) c.drained.ensures)

pub invariant_of-self-in_default-put : goal.invariant_of-self-in_default-put
invariant_of-self-in_default-put c =
    let ones : List Served = c.self.inside.joined.served in
    record {
      now_kept =
          subst (λ (s : List Served). IsKept c.leave.new.waiting.items (roster_of s c.self.inside.turns))
          (sym c.in_default-put.ensures.served)
          (subst (λ (ws : Waiting). IsKept ws (roster_of (put_one c.drained.result ones) c.self.inside.turns))
          (left-by c.args.id ones c.turn_of.result c.self.inside.waiting.items c.leave.new.waiting.items
          c.turn_of.ensures c.in_ok-leave.ensures.items)
          (drain-kept c.args.id (served_of c.in-Some.row.now) c.drained.result ones c.self.inside.turns
          c.self.inside.waiting.items c.row_of.ensures.apart c.self.invariant.now_kept c.in-Some.ensures.value
          c.in-Link.is c.drained.ensures));
      before_kept =
          still-kept c.self.inside.waiting.base c.leave.new.waiting.base c.self.inside.joined.base c.put.new.self.base
          c.self.inside.base_turns c.leave.ensures.base c.put.ensures.base c.self.invariant.before_kept;
    }

pub invariant_of-self-in-Err : goal.invariant_of-self-in-Err
invariant_of-self-in-Err c =
    taken-back c.self.inside.waiting.base c.self.inside.joined.base c.self.inside.base_turns
    c.take_back.new.waiting c.take_back.new.joined.served c.take_back.new.joined.base
    c.self.invariant.before_kept (c.take_back.ensures.items ∙ c.leave.ensures.base)
    (c.take_back.ensures.served ∙ c.put.ensures.base)
    (c.take_back.ensures.waiting ∙ c.leave.ensures.base)
    (c.take_back.ensures.base ∙ c.put.ensures.base)
