use Rattle.qq_ports.proofs.Crashes.{new_opened}
use Rattle.qq_ports.proofs.folder_yard.FolderYardYard.disk.Goals as goal

pub returns-in_default-clause-opened : goal.returns-in_default-clause-opened
returns-in_default-clause-opened g c = new_opened _ c.new.ensures.past
