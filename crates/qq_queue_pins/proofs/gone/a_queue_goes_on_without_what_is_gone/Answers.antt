use Rattle.std.proofs.Common.{◌≡◌, true, List, [], ◌∷◌, map}
use Rattle.std.specs.Prelude.{filter}
use Rattle.std.specs.List.{AllByRecursion}
use Rattle.std.proofs.lemmas.Bool.{cond_both}
use Rattle.qq_parts.specs.Reduced.{Item, item_row, items, is_live_item}
use Rattle.qq_model.specs.declared.place.Row.{Row}
use Rattle.qq_model.specs.Limits.{is_live}
use Rattle.qq_queue_pins.proofs.gone.a_queue_goes_on_without_what_is_gone.Goals as goal

all-live : (xs : List Item)
    → AllByRecursion (λ (row : Row). is_live row.place ≡ true) (map item_row (filter is_live_item xs))
all-live [] = tt
all-live (x ∷ xs) =
    let rest = all-live xs in
    let more : List Item = filter is_live_item xs in
    cond_both (is_live x.row.place) (x ∷ more) more
    (λ (ys : List Item). AllByRecursion (λ (row : Row). is_live row.place ≡ true) (map item_row ys))
    (λ lives. (lives, rest)) (λ _. rest)

pub returns-clause-live : goal.returns-clause-live
returns-clause-live c = λ s. all-live (items s.rows s.messages)

pub returns-clause-fresh : goal.returns-clause-fresh
returns-clause-fresh c = λ args entries entry. (c.gone_messages_play_no_part.ensures.step args entries entry).fresh

pub returns-clause-answer : goal.returns-clause-answer
returns-clause-answer c = λ args entries entry. (c.gone_messages_play_no_part.ensures.step args entries entry).answer

pub returns-clause-effects : goal.returns-clause-effects
returns-clause-effects c = λ args entries entry. (c.gone_messages_play_no_part.ensures.step args entries entry).effects

pub returns-clause-left : goal.returns-clause-left
returns-clause-left c = λ args entries entry. (c.gone_messages_play_no_part.ensures.step args entries entry).state

pub returns-clause-audit : goal.returns-clause-audit
returns-clause-audit c = λ args entries later. (c.gone_messages_play_no_part.ensures.later args entries later).audit

pub returns-clause-all_effects : goal.returns-clause-all_effects
returns-clause-all_effects c = λ args entries later.
    (c.gone_messages_play_no_part.ensures.later args entries later).effects
