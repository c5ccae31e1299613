use Rattle.std.proofs.Common.{◌∙◌, sym, rules}
use Rattle.std.proofs.lemmas.Fn.{filter_same}
use Rattle.qq_session.proofs.NumberingLemmas.{dropped-without}
use Rattle.qq_session.proofs.publishing.close.Goals as goal

pub returns-then-is_first : goal.returns-then-is_first
returns-then-is_first c =
    c.pop_front.ensures.rest
    ∙ dropped-without c.args.seq c.args.opened.now.items c.requires (sym c.is_first.ensures ∙ c.if-is_first.true)

pub returns : goal.returns
returns c = filter_same _ _ _ (λ x b f' k. search rules) _ _ c.retain.ensures.filtered
