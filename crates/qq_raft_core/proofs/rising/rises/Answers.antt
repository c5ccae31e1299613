use Rattle.std.proofs.Common.{sym, ◌∙◌}
use Rattle.qq_raft_core.proofs.Falls.{falls-here, goes-on}
use Rattle.qq_raft_core.proofs.rising.rises.Goals as goal

pub entries-preserved : goal.entries-preserved
entries-preserved c =
    sym (goes-on c.entries.term.0 c.args.end.0 c.entries.place c.in-Some.entry.now c.args.entries.now c.in-Some.ensures
    c.if-falls.false)
    ∙ c.entries.invariant

pub returns-then-falls : goal.returns-then-falls
returns-then-falls c =
    sym (falls-here c.entries.term.0 c.args.end.0 c.entries.place c.in-Some.entry.now c.args.entries.now c.in-Some.ensures
    c.if-falls.true)
    ∙ c.entries.invariant
