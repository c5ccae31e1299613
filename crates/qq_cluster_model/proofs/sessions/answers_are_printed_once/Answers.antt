use Rattle.qq_cluster_model.proofs.PrintedOnce.{closes-once}
use Rattle.qq_cluster_model.proofs.sessions.answers_are_printed_once.Goals as goal

pub returns : goal.returns
returns c = closes-once
