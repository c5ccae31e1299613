use Rattle.std.proofs.Common.{List, ap, ◌∙◌, subst}
use Rattle.qq_base.specs.declared.ids.Index.{Index}
use Rattle.qq_live.specs.Indices.{Adds}
use Rattle.qq_ledger.specs.Ledger.{Tracking, Balances}
use Rattle.qq_ledger.proofs.tracked.Tracked.hold.Goals as goal

pub returns-clause-indices : goal.returns-clause-indices
returns-clause-indices g c =
    subst (λ (xs : List Index). Adds xs c.args.live.now.indices c.add_all.new.self.indices)
    (c.as_slice.ensures.value ∙ ap (λ (t : Tracking _). t.came) c.self.view_is) c.add_all.ensures.indices

pub returns-clause-balance : goal.returns-clause-balance
returns-clause-balance g c =
    subst (λ (t : Tracking _). Balances (g.T.Holds.base_indices t.store) (g.T.Holds.indices t.store) t.came t.gone)
    c.self.view_is c.self.invariant
