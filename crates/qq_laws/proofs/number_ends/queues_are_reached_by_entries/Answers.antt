use Rattle.qq_laws.proofs.Within.{new-reached, next-reached}
use Rattle.qq_laws.proofs.number_ends.queues_are_reached_by_entries.Goals as goal

pub returns : goal.returns
returns c = record { new = new-reached; next = next-reached }
