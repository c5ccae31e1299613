use Rattle.qq_ports.proofs.LineLemmas.{first_line_leads}
use Rattle.qq_ports.proofs.lines.lines_law.Goals as goal

pub returns : goal.returns
returns c = first_line_leads
