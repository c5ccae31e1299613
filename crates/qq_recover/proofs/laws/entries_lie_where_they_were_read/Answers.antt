use Rattle.std.proofs.Common.{Option, subst}
use Rattle.qq_log.specs.Stable.{Stable}
use Rattle.qq_recover.specs.Entries.{entry_files}
use Rattle.qq_recover.proofs.Reread.{TellsEach, reread, told-in-files}
use Rattle.qq_recover.proofs.laws.entries_lie_where_they_were_read.Goals as goal

pub returns-clause-each : goal.returns-clause-each
returns-clause-each g c = λ queues logs files lanes ranges id state listed are read found here.
    (subst (λ (o : Option Stable). TellsEach o (entry_files id.0 files)) here
    (reread queues logs files lanes id listed are read ranges found).each).1

pub returns-clause-read : goal.returns-clause-read
returns-clause-read g c = λ queues logs files lanes ranges id listed are read found.
    let k = reread queues logs files lanes id listed are read ranges found in (k.q, k.is, k.lies)

pub returns-clause-told : goal.returns-clause-told
returns-clause-told g c = λ queues log_bytes d r files lanes id n.
    told-in-files queues log_bytes d r files lanes id n
