use Rattle.qq_command.proofs.EntryLaws.{same_entry}
use Rattle.qq_command.proofs.reading.no_encoding_begins_another.Goals as goal

pub returns : goal.returns
returns c = same_entry
