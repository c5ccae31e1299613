use Rattle.std.proofs.Common.{refl}
use Rattle.qq_cluster_pins.proofs.Fresh.{are-new, are-nodes, nodes-once, places-once}
use Rattle.qq_cluster_pins.proofs.openings.a_line_gives_one_command.Goals as goal

pub returns-clause-publish : goal.returns-clause-publish
returns-clause-publish c = λ setup place body routed. (refl, routed, refl)

pub returns-clause-send : goal.returns-clause-send
returns-clause-send c = λ setup place by exchange key body routed. (refl, routed, refl)

pub returns-clause-client : goal.returns-clause-client
returns-clause-client c = λ setup by at body. (refl, refl, refl)

pub returns-clause-new : goal.returns-clause-new
returns-clause-new c = (places-once, nodes-once, are-nodes, are-new)
