use Rattle.std.proofs.Common.{ap, ◌∙◌, refl}
use Rattle.qq_live.specs.Indices.{occurrences}
use Rattle.qq_dead.specs.Letters.{Letters}
use Rattle.qq_ledger.specs.Ledger.{dead_indices}
use Rattle.qq_ledger.proofs.Balance.{balance-same}
use Rattle.qq_ledger.proofs.Parts.{give-same}
use Rattle.qq_ledger.proofs.dead.Tracked+Dead.give.Goals as goal

pub invariant_of-self : goal.invariant_of-self
invariant_of-self c =
    balance-same c.self.invariant
    (ap dead_indices c.give.ensures.base)
    (λ i. ap (λ (d : Letters). occurrences i (dead_indices d)) c.give.ensures.letters
    ∙ give-same c.self.inside.store.letters i)
    refl refl
