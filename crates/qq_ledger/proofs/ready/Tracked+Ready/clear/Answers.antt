use Rattle.std.proofs.Common.{◌+◌, sym, ap, ◌∙◌, refl}
use Rattle.qq_live.specs.Indices.{occurrences}
use Rattle.qq_ready.specs.Queue.{Queue}
use Rattle.qq_ledger.specs.Ledger.{ready_indices}
use Rattle.qq_ledger.proofs.Balance.{balance-less}
use Rattle.qq_ledger.proofs.Parts.{all-less}
use Rattle.qq_ledger.proofs.ready.Tracked+Ready.clear.Goals as goal

pub invariant_of-self-in-Ok : goal.invariant_of-self-in-Ok
invariant_of-self-in-Ok c =
    balance-less (ready_indices c.self.inside.store.queue) c.self.invariant
    (ap ready_indices c.clear-2.ensures.base)
    (λ i. all-less c.self.inside.store.queue i
    ∙ ap (λ (q : Queue). occurrences i (ready_indices q) + occurrences i (ready_indices c.self.inside.store.queue))
    (sym c.in-Ok.ensures.queue))
    refl c.in_default.ensures.ok
