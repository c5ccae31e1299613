-- Deliveries end in the parts as in the queue.
use Rattle.std.proofs.Common.{◌≡◌, ℕ, List, [], ◌∷◌, Option, Some, None, refl, sym, ap, subst}
use Rattle.std.specs.Option.{option_map}
use Rattle.qq_base.specs.declared.ids.ConsumerId.{ConsumerId}
use Rattle.qq_entry.specs.declared.message.Reason.{Reason}
use Rattle.qq_entry.specs.declared.message.Reason.TheVariants as reason
use Rattle.qq_entry.specs.declared.audit.Effect.{Effect}
use Rattle.qq_model.specs.declared.consumer.Outcome.{Outcome}
use Rattle.qq_model.specs.declared.consumer.Outcome.TheVariants.{Settled, Returned, Discarded}
use Rattle.qq_model.specs.declared.place.GoneReason.TheVariants as gone
use Rattle.qq_model.specs.declared.place.Row.{Row}
use Rattle.qq_model.specs.State.{State}
use Rattle.qq_model.specs.Changes.{Progress, die, return_row}
use Rattle.qq_model.specs.Commands.{delivered_row, end_delivery, end_delivery_by, end_deliveries}
use Rattle.qq_parts.specs.Parts.{Parts, Stands, StandsWith, IsWhole}
use Rattle.qq_parts.specs.Reduced.{Item}
use Rattle.qq_parts.specs.Changes.{Taken, give_back, back_letter, bury, dead_letter}
use Rattle.qq_parts.specs.Outs.{take_out, taken_row}
use Rattle.qq_parts.proofs.Moving.{goes, dies, returns}
use Rattle.qq_parts.proofs.Ending.{may_end}
use Rattle.qq_parts.specs.Work.{Work, StandsFor}
use Rattle.qq_parts.specs.Ends.{parts_die, parts_return, parts_end, parts_end_by, parts_end_deliveries}
use Rattle.qq_parts.proofs.Works.{following}

-- A message that was taken out ------------------------------------------------------------------------

pub died : (reason : Reason) (x : Item) (m : Parts) (s : State) (effects : List Effect) → StandsWith x m s → IsWhole m
    → StandsFor (parts_die reason x (record { parts = m; effects = effects }))
    (die reason x.row (record { state = s; effects = effects }))
died reason x m s effects with whole =
    following (bury m.rest.args.strategy reason x m) s (dead_letter m.rest.args.strategy reason x) effects
    (die reason x.row (record { state = s; effects = effects })) (dies x m s with whole reason effects)

pub returned : (x : Item) (m : Parts) (s : State) (effects : List Effect) → StandsWith x m s → IsWhole m
    → StandsFor (parts_return x (record { parts = m; effects = effects }))
    (return_row x.row (record { state = s; effects = effects }))
returned x m s effects with whole =
    following (give_back x m) s (back_letter x m) effects
    (return_row x.row (record { state = s; effects = effects })) (returns x m s with whole effects)

pub ended : (outcome : Outcome) (x : Item) (m : Parts) (s : State) (effects : List Effect) → StandsWith x m s
    → IsWhole m
    → StandsFor (parts_end outcome x (record { parts = m; effects = effects }))
    (end_delivery outcome x.row (record { state = s; effects = effects }))
ended Settled x m s effects with whole =
    let it = goes x m s with whole gone.Settled in
    record { stands = it.stands; whole = it.whole; effects = refl }
ended Returned x m s effects with whole = returned x m s effects with whole
ended Discarded x m s effects with whole = died reason.Rejected x m s effects with whole

-- The ids of a command --------------------------------------------------------------------------------

ended-by : (outcome : Outcome) (consumer : ConsumerId) (id : ℕ) (m : Parts) (s : State) (effects : List Effect)
    (o : Option Taken) → Stands m s → IsWhole m → take_out consumer id m ≡ o
    → StandsFor (parts_end_by outcome o (record { parts = m; effects = effects }))
    (end_delivery_by outcome (option_map taken_row o) (record { state = s; effects = effects }))
ended-by outcome consumer id m s effects None stands whole is =
    record { stands = stands; whole = whole; effects = refl }
ended-by outcome consumer id m s effects (Some taken) stands whole is =
    let it = (may_end consumer id m s stands whole).taken taken is in
    ended outcome taken.item taken.left s effects it.stands it.whole

pub ends-one : (outcome : Outcome) (consumer : ConsumerId) (id : ℕ) (t : Work) (p : Progress) → StandsFor t p
    → StandsFor (parts_end_by outcome (take_out consumer id t.parts) t)
    (end_delivery_by outcome (delivered_row consumer id p.state.rows) p)
ends-one outcome consumer id t p it =
    let m : Parts = t.parts in
    let same : p ≡ record { state = p.state; effects = t.effects } =
    ap (λ (effects : List Effect). record { state = p.state; effects = effects }) it.effects in
    subst (λ (q : Progress). StandsFor (parts_end_by outcome (take_out consumer id m) t)
    (end_delivery_by outcome (delivered_row consumer id q.state.rows) q)) (sym same)
    (subst (λ (o : Option Row). StandsFor (parts_end_by outcome (take_out consumer id m) t)
    (end_delivery_by outcome o (record { state = p.state; effects = t.effects })))
    (sym (may_end consumer id m p.state it.stands it.whole).found)
    (ended-by outcome consumer id m p.state t.effects (take_out consumer id m) it.stands it.whole refl))

pub ends-all : (outcome : Outcome) (consumer : ConsumerId) (ids : List ℕ) (t : Work) (p : Progress) → StandsFor t p
    → StandsFor (parts_end_deliveries outcome consumer ids t) (end_deliveries outcome consumer ids p)
ends-all outcome consumer [] t p it = it
ends-all outcome consumer (id ∷ ids) t p it =
    ends-all outcome consumer ids (parts_end_by outcome (take_out consumer id t.parts) t)
    (end_delivery_by outcome (delivered_row consumer id p.state.rows) p) (ends-one outcome consumer id t p it)
