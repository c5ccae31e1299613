use Rattle.std.proofs.Common.{◌+◌, List, [], ◌∷◌, ◌++◌, sym, ap, ◌∙◌, refl}
use Rattle.qq_base.specs.declared.ids.Index.{Index}
use Rattle.qq_live.specs.Indices.{occurrences}
use Rattle.qq_ready.specs.Queue.{Queue}
use Rattle.qq_ledger.specs.Ledger.{ready_indices}
use Rattle.qq_ledger.proofs.Balance.{balance-same, balance-less}
use Rattle.qq_ledger.proofs.Parts.{next-less, next-none}
use Rattle.qq_ledger.proofs.ready.Tracked+Ready.pop_next.Goals as goal

pub invariant_of-self : goal.invariant_of-self
invariant_of-self c =
    balance-same c.self.invariant refl (λ i. refl) c.reserve.ensures.came c.reserve.ensures.gone

pub invariant_of-self-in_err-taken : goal.invariant_of-self-in_err-taken
invariant_of-self-in_err-taken c =
    balance-same c.self.invariant (ap ready_indices c.pop_next.ensures.base)
    (λ i. ap (λ (q : Queue). occurrences i (ready_indices q)) c.in_err-taken.ensures.err)
    c.reserve.ensures.came c.reserve.ensures.gone

pub invariant_of-self-in-None : goal.invariant_of-self-in-None
invariant_of-self-in-None c =
    balance-same c.self.invariant
    (ap ready_indices c.pop_next.ensures.base)
    (λ i. ap (λ (q : Queue). occurrences i (ready_indices q)) c.in_ok-taken.ensures.queue
    ∙ next-none c.self.inside.store.queue (sym c.in-None.is ∙ c.in_ok-taken.ensures.next) i)
    c.reserve.ensures.came c.reserve.ensures.gone

pub invariant_of-self-in-Some : goal.invariant_of-self-in-Some
invariant_of-self-in-Some c =
    balance-less (c.in-Some.row.index ∷ []) c.self.invariant
    (ap ready_indices c.pop_next.ensures.base)
    (λ i. next-less c.in-Some.row c.self.inside.store.queue (sym c.in-Some.is ∙ c.in_ok-taken.ensures.next) i
    ∙ ap (λ (q : Queue). occurrences i (ready_indices q) + occurrences i (c.in-Some.row.index ∷ []))
    (sym c.in_ok-taken.ensures.queue))
    (c.let_go.ensures.came ∙ c.reserve.ensures.came)
    (c.let_go.ensures.gone ∙ ap (λ (xs : List Index). xs ++ c.in-Some.row.index ∷ []) c.reserve.ensures.gone)
