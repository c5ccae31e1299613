use Rattle.std.proofs.Common.{List, [], ◌∷◌, ◌++◌, ap, ◌∙◌, refl}
use Rattle.qq_base.specs.declared.ids.Index.{Index}
use Rattle.qq_live.specs.Indices.{occurrences}
use Rattle.qq_ready.specs.Queue.{Queue}
use Rattle.qq_ledger.specs.Ledger.{ready_indices}
use Rattle.qq_ledger.proofs.Balance.{balance-same, balance-more}
use Rattle.qq_ledger.proofs.Parts.{back-more}
use Rattle.qq_ledger.proofs.ready.Tracked+Ready.push_back.Goals as goal

pub invariant_of-self : goal.invariant_of-self
invariant_of-self c =
    balance-same c.self.invariant refl (λ i. refl) c.reserve.ensures.came c.reserve.ensures.gone

pub invariant_of-self-in_err-push_back : goal.invariant_of-self-in_err-push_back
invariant_of-self-in_err-push_back c =
    balance-same c.self.invariant (ap ready_indices c.push_back.ensures.base)
    (λ i. ap (λ (q : Queue). occurrences i (ready_indices q)) c.in_err-push_back.ensures.err)
    c.reserve.ensures.came c.reserve.ensures.gone

pub invariant_of-self-2 : goal.invariant_of-self-2
invariant_of-self-2 c =
    balance-more (c.args.row.index ∷ []) c.self.invariant
    (ap ready_indices c.push_back.ensures.base)
    (λ i. ap (λ (q : Queue). occurrences i (ready_indices q)) c.in_ok-push_back.ensures.queue
    ∙ back-more c.args.row c.self.inside.store.queue i)
    (c.take_in.ensures.came ∙ ap (λ (xs : List Index). xs ++ c.args.row.index ∷ []) c.reserve.ensures.came)
    (c.take_in.ensures.gone ∙ c.reserve.ensures.gone)
