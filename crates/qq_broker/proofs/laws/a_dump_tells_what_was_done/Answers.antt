use Rattle.qq_broker.proofs.Dumped.{dump-done, dump-failed, dump-status}
use Rattle.qq_broker.proofs.laws.a_dump_tells_what_was_done.Goals as goal

pub returns-clause-statuses : goal.returns-clause-statuses
returns-clause-statuses g c = λ given status node before later yard yard'.
    dump-status given g.D.NodeDisk.facts node before later yard yard' status

pub returns-clause-done : goal.returns-clause-done
returns-clause-done g c = λ given node before later yard yard'.
    dump-done given g.D.NodeDisk.facts node before later yard yard'

pub returns-clause-failed : goal.returns-clause-failed
returns-clause-failed g c = λ given node before later yard yard'.
    dump-failed given g.D.NodeDisk.facts node before later yard yard'
