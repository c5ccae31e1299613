use Rattle.qq_cluster_pins.proofs.lines.a_node_that_is_down_does_nothing.Goals as goal

pub returns-clause-write : goal.returns-clause-write
returns-clause-write c = λ setup node d events down.
    (c.a_node_that_is_down_says_so.ensures setup node d).write down events

pub returns-clause-sync : goal.returns-clause-sync
returns-clause-sync c = λ setup node d events down.
    (c.a_node_that_is_down_says_so.ensures setup node d).sync down events

pub returns-clause-notice : goal.returns-clause-notice
returns-clause-notice c = λ setup node queue d events down.
    (c.a_node_that_is_down_says_so.ensures setup node d).notice queue down events

pub returns-clause-tick : goal.returns-clause-tick
returns-clause-tick c = λ setup node queue d events down.
    (c.a_node_that_is_down_says_so.ensures setup node d).tick queue down events
