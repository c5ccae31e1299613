use Rattle.std.proofs.lemmas.Bool.{le-leb}
use Rattle.qq_raft_core.proofs.Ranges.{batch_short}
use Rattle.qq_raft_core.proofs.laws.the_entries_of_a_message_fit.Goals as goal

pub returns : goal.returns
returns c = λ entries all. le-leb _ _ (batch_short c.entries_read_back.ensures.short entries all)
