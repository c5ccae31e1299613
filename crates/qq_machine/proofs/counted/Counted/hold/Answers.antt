use Rattle.std.proofs.Common.{List, ap, ◌∙◌, subst}
use Rattle.qq_base.specs.declared.ids.Index.{Index}
use Rattle.qq_live.specs.Indices.{Adds}
use Rattle.qq_ledger.specs.Ledger.{out_indices, Balances}
use Rattle.qq_machine.specs.Counted.{RosterTracked}
use Rattle.qq_machine.proofs.counted.Counted.hold.Goals as goal

pub returns-clause-indices : goal.returns-clause-indices
returns-clause-indices c =
    subst (λ (xs : List Index). Adds xs c.args.live.now.indices c.add_all.new.self.indices)
    (c.as_slice.ensures.value ∙ ap (λ (t : RosterTracked). t.came) c.self.view_is) c.add_all.ensures.indices

pub returns-clause-balance : goal.returns-clause-balance
returns-clause-balance c =
    subst (λ (t : RosterTracked). Balances (out_indices t.base.served) (out_indices t.roster.served) t.came t.gone)
    c.self.view_is c.self.invariant.balance
