use Rattle.std.proofs.Common.{refl}
use Rattle.clap.proofs.OnLiterals.{clap_on_literals}
use Rattle.qq_doctor.specs.Words.{read_request}
use Rattle.qq_doctor.proofs.laws.other_requests_are_refused.Goals as goal

pub returns-clause-no_words : goal.returns-clause-no_words
unfolding read_request clap_on_literals
returns-clause-no_words c = refl

pub returns-clause-script : goal.returns-clause-script
unfolding read_request clap_on_literals
returns-clause-script c = refl

pub returns-clause-no_root : goal.returns-clause-no_root
unfolding read_request clap_on_literals
returns-clause-no_root c = refl

pub returns-clause-no_nodes : goal.returns-clause-no_nodes
unfolding read_request clap_on_literals
returns-clause-no_nodes c = refl

pub returns-clause-no_queues : goal.returns-clause-no_queues
unfolding read_request clap_on_literals
returns-clause-no_queues c = refl

pub returns-clause-many_nodes : goal.returns-clause-many_nodes
unfolding read_request clap_on_literals
returns-clause-many_nodes c = refl

pub returns-clause-many_queues : goal.returns-clause-many_queues
unfolding read_request clap_on_literals
returns-clause-many_queues c = refl

pub returns-clause-queues_twice : goal.returns-clause-queues_twice
unfolding read_request clap_on_literals
returns-clause-queues_twice c = refl

pub returns-clause-group_twice : goal.returns-clause-group_twice
unfolding read_request clap_on_literals
returns-clause-group_twice c = refl
