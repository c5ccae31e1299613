use Rattle.qq_queue_pins.proofs.reads.dead_letters_are_found.Goals as goal

pub returns-clause-next : goal.returns-clause-next
returns-clause-next c = λ m s given stands whole. (c.parts_tell_dead_letters.ensures m s stands whole).next given

pub returns-clause-count : goal.returns-clause-count
returns-clause-count c = λ m s given stands whole. (c.parts_tell_dead_letters.ensures m s stands whole).count given

pub returns-clause-found : goal.returns-clause-found
returns-clause-found c = λ m s number stands whole. (c.parts_tell_dead_letters.ensures m s stands whole).found number

pub returns-clause-taken : goal.returns-clause-taken
returns-clause-taken c = λ m s number taken stands whole is.
    let out = (c.parts_tell_dead_letters.ensures m s stands whole).taken number taken is in
    (out.stands, out.whole)
