use Rattle.qq_cluster_progress_laws.proofs.Opens.{opens}
use Rattle.qq_cluster_progress_laws.proofs.laws.an_opening_gives_each_queue_a_leader.Goals as goal

pub returns : goal.returns
returns c = opens c.a_log_was_handed_the_changes_of_its_server.ensures
