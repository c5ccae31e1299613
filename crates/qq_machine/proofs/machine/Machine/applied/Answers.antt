use Rattle.std.proofs.Common.{subst}
use Rattle.qq_parts.specs.Parts.{IsWhole}
use Rattle.qq_machine.proofs.machine.Machine.applied.Goals as goal

pub returns-clause-whole : goal.returns-clause-whole
returns-clause-whole c = subst IsWhole c.self.view_is (c.sizes.ensures c.self.inside.args)
