use Rattle.std.proofs.Common.{length}
use Rattle.qq_wal.proofs.Lying.{lie-begun, lie-entered, lie-found, lie-written, new-lies}
use Rattle.qq_wal.proofs.laws.entries_lie_where_they_were_written.Goals as goal

pub returns-clause-first : goal.returns-clause-first
returns-clause-first c = new-lies

pub returns-clause-written : goal.returns-clause-written
returns-clause-written c = λ files q id op term vote keep entries within lie.
    lie-written files q lie keep.0 (length entries) within

pub returns-clause-begun : goal.returns-clause-begun
returns-clause-begun c = λ files q n newer lie. lie-begun files q lie n newer

pub returns-clause-entered : goal.returns-clause-entered
returns-clause-entered c = λ files q n from lie. lie-entered files q lie n from

pub returns-clause-range : goal.returns-clause-range
returns-clause-range c = λ files q n lie. lie-found files q lie n
