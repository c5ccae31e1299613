use Rattle.qq_script.proofs.audit.push_ids.Goals as goal

pub returns-in-DeadSettle-clause-ok : goal.returns-in-DeadSettle-clause-ok
returns-in-DeadSettle-clause-ok c =
    rw (c.in-DeadSettle.is, ← c.as_slice-in-DeadSettle.ensures) c.push_dead_numbers.ensures.ok
