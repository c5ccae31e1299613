use Rattle.std.proofs.Common.{◌≡◌, sym, ◌∙◌}
use Rattle.qq_raft_core.specs.Undone.{log_before}
use Rattle.qq_raft_core.proofs.Entries.{entry-known}
use Rattle.qq_raft_core.proofs.Undoing.{same-more}
use Rattle.qq_raft_core.proofs.undo.same_before.Goals as goal

pub entries-preserved : goal.entries-preserved
entries-preserved g c =
    let log = g.L.LogView.log in
    let before = log_before c.args.undos.now (log c.args.log.now).entries in
    let other = log c.args.other.now in
    let at = c.entries.at in
    same-more before other.entries at c.in-Some.own.now c.in-Some-entry.found.now (sym c.in-Some.ensures)
    (sym (entry-known other at c.requires.other) ∙ c.in-Some-entry.ensures.some)
    (c.same_entry.ensures.exact.0 c.if-not-same_entry.false) c.entries.invariant
