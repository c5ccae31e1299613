use Rattle.std.proofs.Common.{rules}
use Rattle.indexmap.proofs.CallerLemmas.{filter-RetainsPairs}
use Rattle.qq_sessions.proofs.OpenRows.{none-goes}
use Rattle.qq_sessions.proofs.opened.drop_earlier.Goals as goal

pub returns-clause-entries : goal.returns-clause-entries
returns-clause-entries c =
    filter-RetainsPairs _ _ _ (λ k v b w g call. search rules) _ _ c.retain.ensures.filtered

pub returns-then-not-ends_earlier-clause-entries : goal.returns-then-not-ends_earlier-clause-entries
returns-then-not-ends_earlier-clause-entries c =
    none-goes c.args.session c.args.rows.now.entries (c.requires c.if-not-ends_earlier.true)
