use Rattle.std.proofs.Common.{◌≡◌, ◌⊎◌, ◌+◌, ◌<◌, ℕ, true, Option, Some, None, IfSome, is_some, List, sym, ap, ◌∙◌, subst, refl, arith}
use Rattle.qq_model.specs.declared.place.Key.TheVariants.{Back}
use Rattle.qq_model.specs.declared.place.Place.TheVariants.{Ready}
use Rattle.qq_parts.specs.Reduced.{Item}
use Rattle.qq_parts.specs.Parts.{Served}
use Rattle.qq_consumer.specs.Numbers.{AreBelow}
use Rattle.qq_consumer.specs.Roster.{ConsumersState, item_at}
use Rattle.qq_consumer.specs.Turns.{waiting_turn, Waiting, leave, enter}
use Rattle.qq_consumer.proofs.Back.{still-kept, taken-back}
use Rattle.qq_consumer.proofs.Keeping.{entered-below, handed-turn, delivered-kept}
use Rattle.qq_consumer.proofs.consumers.Consumers.check_out.Goals as goal

pub enter-requires : goal.enter-requires
enter-requires c =
    let may : is_some (waiting_turn c.self.inside.joined.served c.args.id) ≡ true =
    ap (λ (s : ConsumersState). is_some (waiting_turn s.roster.served c.args.id)) c.self.view_is ∙ c.requires.may in
    let x : Item = item_at (Ready (Back 0)) c.args.row in
    let turn : ℕ = c.self.inside.turns + 1 in
    let less : c.self.inside.turns < turn = omega arith in
    record {
      below =
          subst (λ (o : Option ℕ). IfSome o (λ n. AreBelow n c.leave.new.waiting.items)) (sym c.turn_of-2.ensures)
          (subst (λ (ws : Waiting). IfSome (waiting_turn c.hand_to.new.self.served c.args.id) (λ n. AreBelow n ws))
          (sym (c.in_default.ensures.items
          ∙ ap (λ (o : Option ℕ). leave o c.self.inside.waiting.items) c.turn_of.ensures))
          (entered-below c.args.id c.self.inside.joined.served c.hand_to.new.self.served c.self.inside.turns turn
          c.self.inside.waiting.items c.self.invariant.now_kept.queue less
          (subst (λ (s : List Served). (waiting_turn s c.args.id ≡ None) ⊎ (waiting_turn s c.args.id ≡ Some turn))
          (sym (c.in_default-hand_to.ensures.served (Ready (Back 0))))
          (handed-turn turn x c.args.id c.self.inside.joined.served may))));
    }

pub invariant_of-self-2 : goal.invariant_of-self-2
invariant_of-self-2 c =
    let may : is_some (waiting_turn c.self.inside.joined.served c.args.id) ≡ true =
    ap (λ (s : ConsumersState). is_some (waiting_turn s.roster.served c.args.id)) c.self.view_is ∙ c.requires.may in
    let x : Item = item_at (Ready (Back 0)) c.args.row in
    record {
      now_kept =
          delivered-kept (c.self.inside.turns + 1) x c.args.id c.self.inside.joined.served c.hand_to.new.self.served
          c.self.inside.turns c.self.inside.waiting.items c.enter.new.waiting.items c.self.invariant.now_kept may refl
          (c.in_default-hand_to.ensures.served (Ready (Back 0)))
          (c.in_default-enter.ensures.items
          ∙ ap (λ (o : Option ℕ). enter c.args.id o c.leave.new.waiting.items) c.turn_of-2.ensures
          ∙ ap (enter c.args.id (waiting_turn c.hand_to.new.self.served c.args.id))
          (c.in_default.ensures.items
          ∙ ap (λ (o : Option ℕ). leave o c.self.inside.waiting.items) c.turn_of.ensures));
      before_kept =
          still-kept c.self.inside.waiting.base c.enter.new.waiting.base c.self.inside.joined.base
          c.hand_to.new.self.base c.self.inside.base_turns (c.enter.ensures.base ∙ c.leave.ensures.base)
          c.hand_to.ensures.base c.self.invariant.before_kept;
    }

pub invariant_of-self-in-Err-hand_to : goal.invariant_of-self-in-Err-hand_to
invariant_of-self-in-Err-hand_to c =
    taken-back c.self.inside.waiting.base c.self.inside.joined.base c.self.inside.base_turns
    c.take_back.new.waiting c.take_back.new.joined.served c.take_back.new.joined.base
    c.self.invariant.before_kept (c.take_back.ensures.items ∙ c.leave.ensures.base)
    (c.take_back.ensures.served ∙ c.hand_to.ensures.base)
    (c.take_back.ensures.waiting ∙ c.leave.ensures.base)
    (c.take_back.ensures.base ∙ c.hand_to.ensures.base)

pub invariant_of-self-in-Err-enter : goal.invariant_of-self-in-Err-enter
invariant_of-self-in-Err-enter c =
    taken-back c.self.inside.waiting.base c.self.inside.joined.base c.self.inside.base_turns
    c.take_back-in-Err-enter.new.waiting c.take_back-in-Err-enter.new.joined.served c.take_back-in-Err-enter.new.joined.base
    c.self.invariant.before_kept (c.take_back-in-Err-enter.ensures.items ∙ c.enter.ensures.base ∙ c.leave.ensures.base)
    (c.take_back-in-Err-enter.ensures.served ∙ c.hand_to.ensures.base)
    (c.take_back-in-Err-enter.ensures.waiting ∙ c.enter.ensures.base ∙ c.leave.ensures.base)
    (c.take_back-in-Err-enter.ensures.base ∙ c.hand_to.ensures.base)
