use Rattle.std.proofs.Common.{List, [], ◌∷◌, ◌++◌, ap, ◌∙◌, refl}
use Rattle.qq_base.specs.declared.ids.Index.{Index}
use Rattle.qq_live.specs.Indices.{occurrences}
use Rattle.qq_dead.specs.Letters.{Letters}
use Rattle.qq_ledger.specs.Ledger.{dead_indices}
use Rattle.qq_ledger.proofs.Balance.{balance-same, balance-more}
use Rattle.qq_ledger.proofs.Parts.{dead-more}
use Rattle.qq_ledger.proofs.dead.Tracked+Dead.add.Goals as goal

pub invariant_of-self : goal.invariant_of-self
invariant_of-self c =
    balance-same c.self.invariant refl (λ i. refl) c.reserve.ensures.came c.reserve.ensures.gone

pub invariant_of-self-in_err-number : goal.invariant_of-self-in_err-number
invariant_of-self-in_err-number c =
    balance-same c.self.invariant (ap dead_indices c.add.ensures.base)
    (λ i. ap (λ (q : Letters). occurrences i (dead_indices q)) c.in_err-number.ensures.err)
    c.reserve.ensures.came c.reserve.ensures.gone

pub invariant_of-self-2 : goal.invariant_of-self-2
invariant_of-self-2 c =
    balance-more (c.args.row.index ∷ []) c.self.invariant
    (ap dead_indices c.add.ensures.base)
    (λ i. ap (λ (d : Letters). occurrences i (dead_indices d)) c.in_ok-number.ensures.letters
    ∙ dead-more c.args.row c.args.reason c.self.inside.store.letters i)
    (c.take_in.ensures.came ∙ ap (λ (xs : List Index). xs ++ c.args.row.index ∷ []) c.reserve.ensures.came)
    (c.take_in.ensures.gone ∙ c.reserve.ensures.gone)
