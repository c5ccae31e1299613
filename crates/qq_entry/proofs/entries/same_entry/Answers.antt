use Rattle.qq_entry.proofs.Equalities.{entry_decides}
use Rattle.qq_entry.proofs.entries.same_entry.Goals as goal

pub returns-clause-exact : goal.returns-clause-exact
returns-clause-exact c = entry_decides c.is_same.result c.args.a.now c.args.b.now c.is_same.ensures
