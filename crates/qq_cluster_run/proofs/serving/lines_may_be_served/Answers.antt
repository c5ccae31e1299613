use Rattle.std.proofs.Common.{refl}
use Rattle.qq_cluster_model.specs.Cluster.{new_cluster}
use Rattle.qq_cluster_model.specs.Serving.{all_given, run}
use Rattle.qq_cluster_run.specs.Setup.{cluster_over, cluster_setup, new_logs}
use Rattle.qq_cluster_run.proofs.Opening.{served-behind}
use Rattle.qq_cluster_run.proofs.serving.lines_may_be_served.Goals as goal

pub returns-clause-new : goal.returns-clause-new
returns-clause-new c = λ s all lines plain asked.
    (let groups = c.clusters_begin_with_new_logs.ensures s plain in
    served-behind s new_logs all lines (run (cluster_setup s) all_given lines (new_cluster (cluster_setup s))) plain
    (record { own = λ place k. refl; groups = groups }) asked
    (c.scripts_may_be_served.ensures (cluster_setup s) lines groups))

pub returns-clause-over : goal.returns-clause-over
returns-clause-over c = λ s logs all lines plain begins asked.
    served-behind s logs all lines (run (cluster_over s logs) all_given lines (new_cluster (cluster_over s logs))) plain
    begins asked (c.scripts_may_be_served.ensures (cluster_over s logs) lines begins.groups)
