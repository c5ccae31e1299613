use Rattle.qq_wal.proofs.Told.{tell-first, tell-more, tell-notices, tell-none}
use Rattle.qq_wal.proofs.laws.notices_are_of_their_ops.Goals as goal

pub returns-clause-begun : goal.returns-clause-begun
returns-clause-begun c = tell-first

pub returns-clause-appended : goal.returns-clause-appended
returns-clause-appended c = λ queues marks ops batch. tell-more batch queues marks ops

pub returns-clause-notices : goal.returns-clause-notices
returns-clause-notices c = tell-notices

pub returns-clause-synced : goal.returns-clause-synced
returns-clause-synced c = tell-none
