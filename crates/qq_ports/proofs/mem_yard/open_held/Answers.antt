use Rattle.qq_ports.proofs.Crashes.{new_opened}
use Rattle.qq_ports.proofs.mem_yard.open_held.Goals as goal

pub returns-in_default-clause-opened : goal.returns-in_default-clause-opened
returns-in_default-clause-opened c = new_opened _ c.new.ensures.past
