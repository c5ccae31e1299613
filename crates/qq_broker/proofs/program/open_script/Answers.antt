use Rattle.qq_broker.proofs.program.open_script.Goals as goal

pub returns-clause-ends : goal.returns-clause-ends
returns-clause-ends g c =
    rw c.give_back.ensures.takers (rw c.lend-told.ensures at c.open_told-status.ensures.ends)
