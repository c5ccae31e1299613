use Rattle.qq_cluster_run.proofs.QueueRows.{groups-begin}
use Rattle.qq_cluster_run.proofs.setups.clusters_begin_with_new_logs.Goals as goal

pub returns : goal.returns
returns c = groups-begin c.groups_are_opened.ensures.new
