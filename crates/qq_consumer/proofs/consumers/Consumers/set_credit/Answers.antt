use Rattle.std.proofs.Common.{◌+◌, List, sym, ap, ◌∙◌, subst}
use Rattle.std.specs.Option.{option_map}
use Rattle.qq_parts.specs.Parts.{Served, AreApart, consumer_at}
use Rattle.qq_consumer.specs.Roster.{ConsumersState, roster_of, one_of, put_one, credited, set_credit}
use Rattle.qq_consumer.specs.Turns.{Waiting, IsKept}
use Rattle.qq_consumer.proofs.Back.{still-kept, taken-back}
use Rattle.qq_consumer.proofs.Calls.{left-by, set-draws, draws-is, stays-is, set-ends, set-keeps}
use Rattle.qq_consumer.proofs.consumers.Consumers.set_credit.Goals as goal

pub invariant_of-self-then-begins_to_wait : goal.invariant_of-self-then-begins_to_wait
invariant_of-self-then-begins_to_wait c =
    let there = ap (λ (s : ConsumersState). option_map consumer_at (one_of c.args.consumer.id s.roster.served))
    c.self.view_is ∙ c.requires.there in
    let apart : AreApart c.self.inside.joined.served =
    subst (λ (s : ConsumersState). AreApart s.roster.served) (sym c.self.view_is) c.requires.apart in
    record {
      now_kept =
          subst (λ (s : List Served). IsKept c.enter.new.waiting.items (roster_of s (c.self.inside.turns + 1)))
          (sym c.in_ok-put.ensures.served)
          (subst (λ (ws : Waiting). IsKept ws (roster_of (put_one
          (record (c.args.consumer) { credit = c.args.credit; turn = c.self.inside.turns + 1 })
          c.self.inside.joined.served) (c.self.inside.turns + 1))) (sym c.in_default.ensures.items)
          (set-draws c.args.consumer c.self.inside.joined.served c.args.credit c.self.inside.turns
          c.self.inside.waiting.items apart there c.self.invariant.now_kept c.requires.link c.requires.current
          (sym c.begins_to_wait.ensures ∙ c.if-begins_to_wait.true)));
      before_kept =
          still-kept c.self.inside.waiting.base c.enter.new.waiting.base c.self.inside.joined.base c.put.new.self.base
          c.self.inside.base_turns c.enter.ensures.base c.put.ensures.base c.self.invariant.before_kept;
    }

pub returns-then-begins_to_wait-clause-ok : goal.returns-then-begins_to_wait-clause-ok
returns-then-begins_to_wait-clause-ok c =
    let there = ap (λ (s : ConsumersState). option_map consumer_at (one_of c.args.consumer.id s.roster.served))
    c.self.view_is ∙ c.requires.there in
    ap (λ (s : List Served). roster_of s (c.self.inside.turns + 1)) c.in_ok-put.ensures.served
    ∙ draws-is c.args.consumer c.self.inside.joined.served c.args.credit c.self.inside.turns there c.requires.link
    (sym c.begins_to_wait.ensures ∙ c.if-begins_to_wait.true)
    ∙ ap (λ (s : ConsumersState). set_credit c.args.credit c.args.consumer s.roster) c.self.view_is

pub invariant_of-self-in_default-put : goal.invariant_of-self-in_default-put
invariant_of-self-in_default-put c =
    let there = ap (λ (s : ConsumersState). option_map consumer_at (one_of c.args.consumer.id s.roster.served))
    c.self.view_is ∙ c.requires.there in
    let apart : AreApart c.self.inside.joined.served =
    subst (λ (s : ConsumersState). AreApart s.roster.served) (sym c.self.view_is) c.requires.apart in
    let ones : List Served = c.self.inside.joined.served in
    record {
      now_kept =
          subst (λ (s : List Served). IsKept c.leave.new.waiting.items (roster_of s c.self.inside.turns))
          (sym c.in_default-put.ensures.served)
          (subst (λ (ws : Waiting). IsKept ws
          (roster_of (put_one (credited c.args.credit c.args.consumer) ones) c.self.inside.turns))
          (left-by c.args.consumer.id ones c.turn_of.result c.self.inside.waiting.items c.leave.new.waiting.items
          c.turn_of.ensures c.in_ok-leave.ensures.items)
          (set-ends c.args.consumer ones c.args.credit c.self.inside.turns c.self.inside.waiting.items apart there
          c.self.invariant.now_kept c.requires.link c.requires.current (sym c.is_zero.ensures ∙ c.if-is_zero.true)));
      before_kept =
          still-kept c.self.inside.waiting.base c.leave.new.waiting.base c.self.inside.joined.base
          c.put-then-is_zero.new.self.base c.self.inside.base_turns c.leave.ensures.base c.put-then-is_zero.ensures.base
          c.self.invariant.before_kept;
    }

pub returns-then-is_zero-clause-ok : goal.returns-then-is_zero-clause-ok
returns-then-is_zero-clause-ok c =
    let there = ap (λ (s : ConsumersState). option_map consumer_at (one_of c.args.consumer.id s.roster.served))
    c.self.view_is ∙ c.requires.there in
    ap (λ (s : List Served). roster_of s c.self.inside.turns) c.in_default-put.ensures.served
    ∙ stays-is c.args.consumer c.self.inside.joined.served c.args.credit c.self.inside.turns there c.requires.link
    (sym c.begins_to_wait.ensures ∙ c.if-begins_to_wait.false)
    ∙ ap (λ (s : ConsumersState). set_credit c.args.credit c.args.consumer s.roster) c.self.view_is

pub invariant_of-self-2 : goal.invariant_of-self-2
invariant_of-self-2 c =
    let there = ap (λ (s : ConsumersState). option_map consumer_at (one_of c.args.consumer.id s.roster.served))
    c.self.view_is ∙ c.requires.there in
    let apart : AreApart c.self.inside.joined.served =
    subst (λ (s : ConsumersState). AreApart s.roster.served) (sym c.self.view_is) c.requires.apart in
    record {
      now_kept =
          subst (λ (s : List Served). IsKept c.self.inside.waiting.items (roster_of s c.self.inside.turns))
          (sym c.in_ok-put-2.ensures.served)
          (set-keeps c.args.consumer c.self.inside.joined.served c.args.credit c.self.inside.turns
          c.self.inside.waiting.items apart there c.self.invariant.now_kept c.requires.link c.requires.current
          (sym c.begins_to_wait.ensures ∙ c.if-begins_to_wait.false) (sym c.is_zero.ensures ∙ c.if-is_zero.false));
      before_kept =
          subst (λ (s : List Served). IsKept c.self.inside.waiting.base (roster_of s c.self.inside.base_turns))
          (sym c.put-2.ensures.base) c.self.invariant.before_kept;
    }

pub invariant_of-self-in-Err : goal.invariant_of-self-in-Err
invariant_of-self-in-Err c =
    taken-back c.self.inside.waiting.base c.self.inside.joined.base c.self.inside.base_turns
    c.take_back.new.waiting c.take_back.new.joined.served c.take_back.new.joined.base
    c.self.invariant.before_kept (c.take_back.ensures.items ∙ c.enter.ensures.base)
    (c.take_back.ensures.served ∙ c.put.ensures.base)
    (c.take_back.ensures.waiting ∙ c.enter.ensures.base)
    (c.take_back.ensures.base ∙ c.put.ensures.base)

pub invariant_of-self-in-Err-put : goal.invariant_of-self-in-Err-put
invariant_of-self-in-Err-put c =
    taken-back c.self.inside.waiting.base c.self.inside.joined.base c.self.inside.base_turns
    c.take_back-in-Err-put.new.waiting c.take_back-in-Err-put.new.joined.served c.take_back-in-Err-put.new.joined.base
    c.self.invariant.before_kept (c.take_back-in-Err-put.ensures.items ∙ c.leave.ensures.base)
    (c.take_back-in-Err-put.ensures.served ∙ c.put-then-is_zero.ensures.base)
    (c.take_back-in-Err-put.ensures.waiting ∙ c.leave.ensures.base)
    (c.take_back-in-Err-put.ensures.base ∙ c.put-then-is_zero.ensures.base)
