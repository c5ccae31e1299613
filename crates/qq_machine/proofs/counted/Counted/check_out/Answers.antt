use Rattle.std.proofs.Common.{ℕ, ◌+◌, List, ◌∷◌, ◌++◌, [], ap, sym, ◌∙◌}
use Rattle.qq_base.specs.declared.ids.Index.{Index}
use Rattle.qq_consumer.specs.Roster.{Roster}
use Rattle.qq_machine.specs.Counted.{total}
use Rattle.std.specs.Prelude.{is_some}
use Rattle.qq_model.specs.declared.place.Key.TheVariants.{Back}
use Rattle.qq_model.specs.declared.place.Place.{Place}
use Rattle.qq_model.specs.declared.place.Place.TheVariants.{Ready}
use Rattle.qq_live.specs.Indices.{occurrences}
use Rattle.qq_ledger.specs.Ledger.{out_indices}
use Rattle.qq_consumer.specs.Roster.{item_at}
use Rattle.qq_consumer.specs.Turns.{waiting_turn}
use Rattle.qq_machine.specs.Counted.{RosterTracked}
use Rattle.qq_machine.proofs.Totals.{count-served, named-served, keeps-named, keeps-more, keeps-back}
use Rattle.qq_machine.proofs.counted.Counted.check_out.Goals as goal

pub invariant_of-self-in-Ok-check_out : goal.invariant_of-self-in-Ok-check_out
invariant_of-self-in-Ok-check_out c =
    let place : Place = Ready (Back 0) in
    let may =
    ap (λ (s : RosterTracked). is_some (waiting_turn s.roster.served c.args.id)) c.self.view_is ∙ c.requires.may in
    let turn = c.self.inside.consumers.roster.turns + 1 in
    keeps-more c.self.inside.consumers c.check_out.new.self _ _ _ c.self.inside.ledger.came.items c.self.inside.ledger.gone.items
    c.take_in.new.self.came.items c.take_in.new.self.gone.items c.args.row.index c.self.invariant
    (c.in-Ok.ensures.ok ∙ ap (λ (n : ℕ). n + 1) c.self.invariant.counted.now_out
    ∙ sym (ap (λ (r : Roster). total r.served) (c.in-Ok-check_out.ensures.ok place)
    ∙ count-served turn (item_at place c.args.row) c.args.id c.self.inside.consumers.roster.served may))
    (λ i. ap (λ (r : Roster). occurrences i (out_indices r.served)) (c.in-Ok-check_out.ensures.ok place)
    ∙ named-served turn (item_at place c.args.row) c.args.id c.self.inside.consumers.roster.served may i)
    c.check_out.ensures.base
    (c.take_in.ensures.came ∙ ap (λ (xs : List Index). xs ++ c.args.row.index ∷ []) c.reserve.ensures.came)
    (c.take_in.ensures.gone ∙ c.reserve.ensures.gone)

pub invariant_of-self-in-Err-check_out : goal.invariant_of-self-in-Err-check_out
invariant_of-self-in-Err-check_out c =
    keeps-back c.self.inside.consumers c.check_out.new.self c.take_back.new.consumers _ _ c.self.inside.ledger.came.items
    c.self.inside.ledger.gone.items c.take_back.new.ledger.came.items c.take_back.new.ledger.gone.items c.self.invariant
    c.check_out.ensures.base c.take_back.ensures.roster c.take_back.ensures.base c.take_back.ensures.came c.take_back.ensures.gone

pub invariant_of-self : goal.invariant_of-self
invariant_of-self c =
    keeps-named c.self.inside.consumers _ _ c.self.inside.ledger.came.items c.self.inside.ledger.gone.items
    c.reserve.new.self.came.items c.reserve.new.self.gone.items c.self.invariant c.reserve.ensures.came
    c.reserve.ensures.gone
