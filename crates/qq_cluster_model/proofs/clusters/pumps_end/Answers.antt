use Rattle.qq_cluster_model.proofs.Stopping.{makes-no_round, rounds-are}
use Rattle.qq_cluster_model.proofs.clusters.pumps_end.Goals as goal

pub returns-clause-most : goal.returns-clause-most
returns-clause-most c = rounds-are

pub returns-clause-idle : goal.returns-clause-idle
returns-clause-idle c = makes-no_round
