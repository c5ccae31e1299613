use Rattle.qq_cluster_pins.proofs.Asked.{verdict-changes, verdict-shows}
use Rattle.qq_cluster_pins.proofs.takers.a_verdict_is_told.Goals as goal

pub returns-clause-shows : goal.returns-clause-shows
returns-clause-shows c = verdict-shows

pub returns-clause-changes : goal.returns-clause-changes
returns-clause-changes c = verdict-changes
