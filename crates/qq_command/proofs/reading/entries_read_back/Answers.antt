use Rattle.std.proofs.Common.{refl}
use Rattle.qq_command.specs.Reading.{entry_at}
use Rattle.qq_fields.proofs.Laws.{known}
use Rattle.qq_command.proofs.ShortEncodings.{encoding_len}
use Rattle.qq_command.proofs.EntryLaws.{entry_takes, entry_again}
use Rattle.qq_command.proofs.reading.entries_read_back.Goals as goal

pub returns-clause-again : goal.returns-clause-again
returns-clause-again c = λ e rest fits. entry_again e _ rest refl fits

pub returns-clause-alone : goal.returns-clause-alone
returns-clause-alone c = λ bytes x fits is. known (entry_at bytes) x (entry_takes bytes fits) is

pub returns-clause-short : goal.returns-clause-short
returns-clause-short c = encoding_len
