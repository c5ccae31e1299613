use Rattle.std.proofs.Common.{ap, refl}
use Rattle.std.specs.Fmt.{digits}
use Rattle.qq_cluster_run.specs.Setup.{places_by}
use Rattle.qq_cluster_run.proofs.setups.a_cluster_routes_by_its_setup.Goals as goal

pub returns-clause-none : goal.returns-clause-none
returns-clause-none c = λ s exchange key none. ap places_by none

pub returns-clause-some : goal.returns-clause-some
returns-clause-some c = λ s exchange key queues some. ap places_by some

pub returns-clause-by_name : goal.returns-clause-by_name
unfolding digits
returns-clause-by_name c = λ nodes log_bytes. refl

pub returns-clause-unknown : goal.returns-clause-unknown
unfolding digits
returns-clause-unknown c = λ nodes log_bytes. refl
