use Rattle.qq_wal_record.proofs.Places.{at_end}
use Rattle.qq_wal_record.proofs.ahead.bodies_at.Goals as goal

pub returns-in_default-clause-ok : goal.returns-in_default-clause-ok
returns-in_default-clause-ok c = λ file.
    at_end file c.args.bytes.now c.bodies.found.items c.bodies.rest.now (c.bodies.invariant file)

pub returns-clause-ok : goal.returns-clause-ok
returns-clause-ok c = λ file.
    at_end file c.args.bytes.now c.bodies.found.items c.bodies.rest.now (c.bodies.invariant file)
