use Rattle.qq_machine.proofs.queue.Draft.end_taken.Goals as goal

pub returns-in_ok-end_rows-in-Some-clause-ok : goal.returns-in_ok-end_rows-in-Some-clause-ok
returns-in_ok-end_rows-in-Some-clause-ok c place = rw c.in-Some.is (c.in_ok-end_rows-in-Some.ensures.ok place)
