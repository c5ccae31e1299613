use Rattle.qq_broker.specs.Nodes.{Had, Meets}
use Rattle.qq_broker.proofs.DrillTold.{drill-broken, drill-cut, drill-done, drill-failed, drill-lost, drill-spent, drill-starved, drill-statuses, drill-unread}
use Rattle.qq_broker.proofs.drill_laws.a_drill_tells_what_was_done.Goals as goal

pub returns-clause-statuses : goal.returns-clause-statuses
returns-clause-statuses g c = λ given status number nodes before later yard yard' so.
    (let disk = g.D.NodeDisk in
    drill-statuses given disk.facts number nodes before later yard yard' status so)

pub returns-clause-unread : goal.returns-clause-unread
returns-clause-unread g c = λ given status number nodes before later yard yard' so.
    (let disk = g.D.NodeDisk in
    drill-unread (Meets given disk.facts yard yard') (Had given disk.facts) status number nodes before later so)

pub returns-clause-done : goal.returns-clause-done
returns-clause-done g c = λ given number nodes before later yard yard' so.
    (let disk = g.D.NodeDisk in
    drill-done given disk.facts number nodes before later yard yard' so)

pub returns-clause-cut : goal.returns-clause-cut
returns-clause-cut g c = λ given number nodes before later yard yard' so.
    (let disk = g.D.NodeDisk in
    drill-cut given disk.facts number nodes before later yard yard' so)

pub returns-clause-failed : goal.returns-clause-failed
returns-clause-failed g c = λ given number nodes before later yard yard' so.
    (let disk = g.D.NodeDisk in
    drill-failed given disk.facts number nodes before later yard yard' so)

pub returns-clause-broken : goal.returns-clause-broken
returns-clause-broken g c = λ given number nodes before later yard yard' so.
    (let disk = g.D.NodeDisk in
    drill-broken given disk.facts number nodes before later yard yard' so)

pub returns-clause-lost : goal.returns-clause-lost
returns-clause-lost g c = λ given number nodes before later yard yard' so.
    (let disk = g.D.NodeDisk in
    drill-lost given disk.facts number nodes before later yard yard' so)

pub returns-clause-starved : goal.returns-clause-starved
returns-clause-starved g c = λ given number nodes before later yard yard' so.
    (let disk = g.D.NodeDisk in
    drill-starved given disk.facts number nodes before later yard yard' so)

pub returns-clause-spent : goal.returns-clause-spent
returns-clause-spent g c = λ given number nodes before later yard yard' so.
    (let disk = g.D.NodeDisk in
    drill-spent given disk.facts number nodes before later yard yard' so)
