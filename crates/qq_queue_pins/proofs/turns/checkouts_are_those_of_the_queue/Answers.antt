use Rattle.qq_queue_pins.proofs.turns.checkouts_are_those_of_the_queue.Goals as goal

pub returns-clause-stands : goal.returns-clause-stands
returns-clause-stands c = λ t p serving.
    let after = c.all_checkouts_are_made.ensures t p serving in (after.stands, after.whole)

pub returns-clause-effects : goal.returns-clause-effects
returns-clause-effects c = λ t p serving. (c.all_checkouts_are_made.ensures t p serving).effects

pub returns-clause-waiting : goal.returns-clause-waiting
returns-clause-waiting c = λ t p serving. (c.all_checkouts_are_made.ensures t p serving).waiting

pub returns-clause-shared : goal.returns-clause-shared
returns-clause-shared c = λ t p serving. (c.all_checkouts_are_made.ensures t p serving).shared
