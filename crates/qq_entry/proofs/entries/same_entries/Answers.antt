use Rattle.qq_entry.proofs.Equalities.{lists_decide}
use Rattle.qq_entry.proofs.entries.same_entries.Goals as goal

pub returns : goal.returns
returns c = lists_decide c.are_same.result c.args.a.now c.args.b.now c.are_same.ensures
