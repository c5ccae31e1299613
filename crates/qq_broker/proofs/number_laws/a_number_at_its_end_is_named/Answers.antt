use Rattle.qq_broker.specs.Takers.{RunClaims, RunMeets}
use Rattle.qq_broker.proofs.NodeEnds.{counted, numbered}
use Rattle.qq_broker.proofs.SpentRuns.{spent-run}
use Rattle.qq_broker.proofs.number_laws.a_number_at_its_end_is_named.Goals as goal

pub returns-clause-numbers : goal.returns-clause-numbers
returns-clause-numbers g c = λ given before after setup events n end met.
    numbered given g.D.NodeDisk.facts setup events n met end

pub returns-clause-messages : goal.returns-clause-messages
returns-clause-messages g c = λ given before after setup events n shows below met.
    counted given g.D.NodeDisk.facts setup events n met shows below

pub returns-clause-run : goal.returns-clause-run
returns-clause-run g c = λ given first last s begun ended bytes before after known run.
    spent-run (RunMeets given g.D.NodeDisk.facts first before after) (RunClaims given g.D.NodeDisk.facts first last) s
    begun ended bytes known run
