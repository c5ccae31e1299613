use Rattle.qq_queue_pins.proofs.changes.consumers_change_in_the_parts.Goals as goal

pub returns-clause-changes : goal.returns-clause-changes
returns-clause-changes c = λ m s old new stands whole there id next.
    let after = (c.consumers_change_and_leave.ensures m s stands whole).change old new there id next in
    (after.stands, after.whole)

pub returns-clause-finishes : goal.returns-clause-finishes
returns-clause-finishes c = λ m s stands whole.
    let after = (c.consumers_change_and_leave.ensures m s stands whole).finish in
    (after.stands, after.whole)

pub returns-clause-goes : goal.returns-clause-goes
returns-clause-goes c = λ m s session stands whole none.
    let after = (c.consumers_change_and_leave.ensures m s stands whole).go session none in
    (after.stands, after.whole)
