use Rattle.qq_wal.proofs.Counted.{appended-waits, counted-first, counted-more, counted-synced, synced-carries, synced-counts}
use Rattle.qq_wal.proofs.laws.a_sync_counts_what_was_appended.Goals as goal

pub returns-clause-begun : goal.returns-clause-begun
returns-clause-begun c = counted-first

pub returns-clause-appended : goal.returns-clause-appended
returns-clause-appended c = counted-more

pub returns-clause-kept : goal.returns-clause-kept
returns-clause-kept c = counted-synced

pub returns-clause-waits : goal.returns-clause-waits
returns-clause-waits c = appended-waits

pub returns-clause-counts : goal.returns-clause-counts
returns-clause-counts c = synced-counts

pub returns-clause-carries : goal.returns-clause-carries
returns-clause-carries c = synced-carries
