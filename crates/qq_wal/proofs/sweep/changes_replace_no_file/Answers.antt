use Rattle.qq_wal.proofs.Swept.{none-replaced}
use Rattle.qq_wal.proofs.sweep.changes_replace_no_file.Goals as goal

pub returns : goal.returns
returns c = none-replaced
