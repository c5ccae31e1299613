use Rattle.std.proofs.Common.{sym, ◌∙◌}
use Rattle.qq_raft_core.proofs.Entries.{entry-known}
use Rattle.qq_raft_core.proofs.Falls.{falls-here, goes-on}
use Rattle.qq_raft_core.proofs.rising.log_rises.Goals as goal

pub entries-preserved : goal.entries-preserved
entries-preserved g c =
    let log = g.L.LogView.log c.args.log.now in
    sym (goes-on c.entries.term.0 c.args.end.0 c.entries.at c.in-Some.entry.now log.entries
    (sym c.in-Some.ensures.some ∙ entry-known log c.entries.at c.requires) c.if-falls.false)
    ∙ c.entries.invariant

pub returns-then-falls : goal.returns-then-falls
returns-then-falls g c =
    let log = g.L.LogView.log c.args.log.now in
    sym (falls-here c.entries.term.0 c.args.end.0 c.entries.at c.in-Some.entry.now log.entries
    (sym c.in-Some.ensures.some ∙ entry-known log c.entries.at c.requires) c.if-falls.true)
    ∙ c.entries.invariant
