use Rattle.qq_wal_chain.proofs.Promised.{crash-keeps}
use Rattle.qq_wal_chain.proofs.laws.a_crash_keeps_the_promise.Goals as goal

pub returns : goal.returns
returns c = crash-keeps
