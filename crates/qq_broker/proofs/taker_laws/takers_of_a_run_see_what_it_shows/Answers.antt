use Rattle.std.proofs.Common.{List, subst}
use Rattle.qq_cluster_model.specs.Cluster.{ClusterEvent, new_cluster}
use Rattle.qq_cluster_run.specs.Serving.{setup_behind}
use Rattle.qq_broker.specs.Takers.{AreFree}
use Rattle.qq_broker.proofs.GivenFree.{given-free}
use Rattle.qq_broker.proofs.taker_laws.takers_of_a_run_see_what_it_shows.Goals as goal

pub returns-clause-free : goal.returns-clause-free
returns-clause-free g c = λ given first s all left b before since place session tag number is.
    given-free (setup_behind b) (new_cluster (setup_behind b)) before since first place session tag number
    (subst (λ (l : List ClusterEvent). AreFree (setup_behind b) (new_cluster (setup_behind b)) l first) is b.disks.1)

pub returns-clause-gone : goal.returns-clause-gone
returns-clause-gone g c = λ given first before after setup events number met. met

pub returns-clause-seen : goal.returns-clause-seen
returns-clause-seen g c = λ given first last setup events seen. seen
