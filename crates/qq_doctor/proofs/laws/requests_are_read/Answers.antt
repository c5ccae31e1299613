use Rattle.std.proofs.Common.{refl}
use Rattle.clap.proofs.OnLiterals.{clap_on_literals}
use Rattle.qq_doctor.specs.Words.{read_request}
use Rattle.qq_doctor.proofs.laws.requests_are_read.Goals as goal

pub returns-clause-queues : goal.returns-clause-queues
unfolding read_request clap_on_literals
returns-clause-queues c = refl

pub returns-clause-groups : goal.returns-clause-groups
unfolding read_request clap_on_literals
returns-clause-groups c = refl

pub returns-clause-export : goal.returns-clause-export
unfolding read_request clap_on_literals
returns-clause-export c = refl
