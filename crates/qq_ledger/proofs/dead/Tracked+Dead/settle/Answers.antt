use Rattle.std.proofs.Common.{◌+◌, List, [], ◌∷◌, ◌++◌, sym, ap, ◌∙◌, refl}
use Rattle.qq_base.specs.declared.ids.Index.{Index}
use Rattle.qq_live.specs.Indices.{occurrences}
use Rattle.qq_dead.specs.Letters.{Letters}
use Rattle.qq_ledger.specs.Ledger.{dead_indices}
use Rattle.qq_ledger.proofs.Balance.{balance-same, balance-less}
use Rattle.qq_ledger.proofs.Parts.{settle-less, settle-none}
use Rattle.qq_ledger.proofs.dead.Tracked+Dead.settle.Goals as goal

pub invariant_of-self : goal.invariant_of-self
invariant_of-self c =
    balance-same c.self.invariant refl (λ i. refl) c.reserve.ensures.came c.reserve.ensures.gone

pub invariant_of-self-in_err-taken : goal.invariant_of-self-in_err-taken
invariant_of-self-in_err-taken c =
    balance-same c.self.invariant (ap dead_indices c.settle.ensures.base)
    (λ i. ap (λ (q : Letters). occurrences i (dead_indices q)) c.in_err-taken.ensures.err)
    c.reserve.ensures.came c.reserve.ensures.gone

pub invariant_of-self-in-None : goal.invariant_of-self-in-None
invariant_of-self-in-None c =
    balance-same c.self.invariant
    (ap dead_indices c.settle.ensures.base)
    (λ i. ap (λ (d : Letters). occurrences i (dead_indices d)) c.in_ok-taken.ensures.letters
    ∙ settle-none c.args.term.0 c.args.number c.self.inside.store.letters
    (sym c.in-None.is ∙ c.in_ok-taken.ensures.value) i)
    c.reserve.ensures.came c.reserve.ensures.gone

pub invariant_of-self-in-Some : goal.invariant_of-self-in-Some
invariant_of-self-in-Some c =
    balance-less (c.in-Some.row.index ∷ []) c.self.invariant
    (ap dead_indices c.settle.ensures.base)
    (λ i. settle-less c.args.term.0 c.args.number c.in-Some.row c.self.inside.store.letters
    c.counters.ensures.numbered (sym c.in-Some.is ∙ c.in_ok-taken.ensures.value) i
    ∙ ap (λ (d : Letters). occurrences i (dead_indices d) + occurrences i (c.in-Some.row.index ∷ []))
    (sym c.in_ok-taken.ensures.letters))
    (c.let_go.ensures.came ∙ c.reserve.ensures.came)
    (c.let_go.ensures.gone ∙ ap (λ (xs : List Index). xs ++ c.in-Some.row.index ∷ []) c.reserve.ensures.gone)
