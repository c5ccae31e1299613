use Rattle.qq_broker.proofs.Histories.{counts-each, failure-counted, never-fails, stopped-counted}
use Rattle.qq_broker.proofs.disk_laws.a_node_fails_only_where_its_disk_did.Goals as goal

pub returns-clause-rose : goal.returns-clause-rose
returns-clause-rose g c = λ given setup events k.
    failure-counted given g.D.NodeDisk.facts setup k events

pub returns-clause-often : goal.returns-clause-often
returns-clause-often g c = λ given setup events k.
    counts-each given g.D.NodeDisk.facts setup k events

pub returns-clause-yard : goal.returns-clause-yard
returns-clause-yard g c = λ given before after met. met

pub returns-clause-met : goal.returns-clause-met
returns-clause-met g c = λ given before after k met. (met.first, (met.last, met.given_is, met.told, met.rose))

pub returns-clause-printed : goal.returns-clause-printed
returns-clause-printed g c = λ given setup events k.
    stopped-counted given g.D.NodeDisk.facts setup k events

pub returns-clause-never : goal.returns-clause-never
returns-clause-never g c = λ given setup events k.
    never-fails given g.D.NodeDisk.facts setup k events
