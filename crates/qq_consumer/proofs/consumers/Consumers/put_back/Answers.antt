use Rattle.std.proofs.Common.{◌++◌, ◌∷◌, [], ℕ, Option, IfSome, List, sym, ap, ◌∙◌, subst}
use Rattle.std.specs.List.{AllByRecursion}
use Rattle.qq_parts.specs.Parts.{Served}
use Rattle.qq_consumer.specs.Numbers.{IsFree}
use Rattle.qq_consumer.specs.Roster.{ConsumersState, served_of, is_there, roster_of}
use Rattle.qq_consumer.specs.Turns.{Waiting, IsKept, place_in, HasDrawn, HaveTwoTurns}
use Rattle.qq_consumer.proofs.Back.{still-kept, taken-back}
use Rattle.qq_consumer.proofs.Copying.{given-row}
use Rattle.qq_consumer.proofs.Restoring.{free-turn, put-kept}
use Rattle.qq_consumer.proofs.consumers.Consumers.put_back.Goals as goal

pub push-requires-clause-given : goal.push-requires-clause-given
push-requires-clause-given c = given-row c.args.row c.requires.out

pub place_in-requires : goal.place_in-requires
place_in-requires c = record {
  free =
      subst (λ (o : Option ℕ). IfSome o (λ n. IsFree n c.self.inside.waiting.items)) (sym c.turn_of-turn.ensures)
      (free-turn (served_of c.args.row) c.self.inside.joined.served c.self.inside.turns c.self.inside.waiting.items
      c.self.invariant.now_kept.queue
      (subst (λ (s : ConsumersState). AllByRecursion (λ (one : Served). HaveTwoTurns one (served_of c.args.row))
      s.roster.served) (sym c.self.view_is) c.requires.turns));
}

pub invariant_of-self-in_default : goal.invariant_of-self-in_default
invariant_of-self-in_default c =
    let row = c.args.row in
    record {
      now_kept =
          subst (λ (s : List Served). IsKept c.place_in.new.waiting.items (roster_of s c.self.inside.turns))
          (sym c.in_ok-push.ensures.ok)
          (subst
          (λ (ws : Waiting). IsKept ws (roster_of (c.self.inside.joined.served ++ served_of row ∷ []) c.self.inside.turns))
          (sym (c.in_default.ensures.items
          ∙ ap (λ (o : Option ℕ). place_in row.consumer.id o c.self.inside.waiting.items) c.turn_of-turn.ensures))
          (put-kept (served_of row) c.self.inside.joined.served c.self.inside.turns c.self.inside.waiting.items
          c.self.invariant.now_kept
          (ap (λ (s : ConsumersState). is_there row.consumer.id s.roster.served) c.self.view_is ∙ c.requires.free)
          (subst (λ (s : ConsumersState). HasDrawn s.roster.turns (served_of row)) (sym c.self.view_is) c.requires.drawn)
          (subst (λ (s : ConsumersState). AllByRecursion (λ (one : Served). HaveTwoTurns one (served_of row))
          s.roster.served) (sym c.self.view_is) c.requires.turns)
          c.requires.needed));
      before_kept =
          still-kept c.self.inside.waiting.base c.place_in.new.waiting.base c.self.inside.joined.base
          c.push.new.self.base c.self.inside.base_turns c.place_in.ensures.base c.push.ensures.base
          c.self.invariant.before_kept;
    }

pub invariant_of-self-in-Err : goal.invariant_of-self-in-Err
invariant_of-self-in-Err c =
    taken-back c.self.inside.waiting.base c.self.inside.joined.base c.self.inside.base_turns
    c.take_back.new.waiting c.take_back.new.joined.served c.take_back.new.joined.base
    c.self.invariant.before_kept (c.take_back.ensures.items ∙ c.place_in.ensures.base)
    (c.take_back.ensures.served ∙ c.push.ensures.base)
    (c.take_back.ensures.waiting ∙ c.place_in.ensures.base)
    (c.take_back.ensures.base ∙ c.push.ensures.base)
