use Rattle.std.proofs.Common.{ℕ, ◌-◌, ap, sym, ◌∙◌}
use Rattle.std.specs.Prelude.{min, ◌^◌}
use Rattle.qq_parts.specs.Parts.{Parts}
use Rattle.qq_sessions.specs.KeptLow.{kept_low}
use Rattle.qq_ledger.specs.Low.{parts_low}
use Rattle.qq_ledger.proofs.Low.{low-parts}
use Rattle.qq_machine.specs.Views.{Content}
use Rattle.qq_machine.proofs.Lows.{low-is}
use Rattle.qq_machine.proofs.machine.Machine.low.Goals as goal

pub returns-clause-value : goal.returns-clause-value
returns-clause-value c =
    low-is c.self.inside.args c.self.inside.draft.queue c.self.inside.live.indices _ _ c.least_index.result.0
    c.self.invariant.2 c.low.ensures
    (c.kept_low-kept.ensures ∙ ap kept_low (c.sessions.ensures
    ∙ sym (ap (λ (k : Content). k.sessions) c.self.invariant.0.content)))
    c.least_index.ensures
    ∙ ap (λ (m : Parts). min (parts_low m) (2 ^ 64 - 1)) c.self.view_is

pub returns-clause-queue : goal.returns-clause-queue
returns-clause-queue c s stands =
    low-is c.self.inside.args c.self.inside.draft.queue c.self.inside.live.indices _ _ c.least_index.result.0
    c.self.invariant.2 c.low.ensures
    (c.kept_low-kept.ensures ∙ ap kept_low (c.sessions.ensures
    ∙ sym (ap (λ (k : Content). k.sessions) c.self.invariant.0.content)))
    c.least_index.ensures
    ∙ ap (λ (m : Parts). min (parts_low m) (2 ^ 64 - 1)) c.self.view_is
    ∙ sym (ap (λ (n : ℕ). min n (2 ^ 64 - 1)) (low-parts c.args.self.now s stands))
