use Rattle.std.proofs.Common.{ℕ, sym, ap, subst, ◌∙◌}
use Rattle.qq_session.specs.Publishing.{Numbers, low_mark}
use Rattle.qq_session.specs.Numbering.{IsLowMark}
use Rattle.qq_session.proofs.NumberingLemmas.{mark-is_low}
use Rattle.qq_session.proofs.publishing.Publishing.low_mark.Goals as goal

pub returns-clause-greatest : goal.returns-clause-greatest
returns-clause-greatest c =
    subst (λ (mark : ℕ). IsLowMark mark c.args.self.now) (sym (c.mark_before.ensures ∙ ap low_mark c.self.view_is))
    (subst (λ (n : Numbers). IsLowMark (low_mark n) n) c.self.view_is (mark-is_low _ c.self.invariant))
