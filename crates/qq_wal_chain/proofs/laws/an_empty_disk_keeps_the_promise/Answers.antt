use Rattle.qq_wal_chain.proofs.Promised.{empty-keeps}
use Rattle.qq_wal_chain.proofs.laws.an_empty_disk_keeps_the_promise.Goals as goal

pub returns : goal.returns
returns c = empty-keeps
