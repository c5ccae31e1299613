use Rattle.qq_recover.proofs.Frames.{begun-shows, synced-shows}
use Rattle.qq_recover.proofs.Removed.{left-settled, removed-parts}
use Rattle.qq_recover.proofs.laws.recovery_leaves_other_files_their_bytes.Goals as goal

pub returns-clause-synced : goal.returns-clause-synced
returns-clause-synced c = synced-shows

pub returns-clause-begun : goal.returns-clause-begun
returns-clause-begun c = λ old new b. (b.number, b.above, begun-shows old new b)

pub returns-clause-removed : goal.returns-clause-removed
returns-clause-removed c = removed-parts

pub returns-clause-settled : goal.returns-clause-settled
returns-clause-settled c = left-settled
