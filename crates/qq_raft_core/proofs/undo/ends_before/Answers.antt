use Rattle.std.proofs.Common.{◌≡◌, ◌+◌, drop, sym, ◌∙◌}
use Rattle.std.specs.Prelude.{slice_get}
use Rattle.qq_raft_core.specs.Undone.{log_before}
use Rattle.qq_raft_core.proofs.Undoing.{get-later, same-more}
use Rattle.qq_raft_core.proofs.undo.ends_before.Goals as goal

pub entries-preserved : goal.entries-preserved
entries-preserved g c =
    let before = log_before c.args.undos.now (g.L.LogView.log c.args.log.now).entries in
    let es = c.args.entries.now in
    let place = c.entries.place in
    let own = c.in-Some.own.now in
    let other = c.in-Some-item_at.other.now in
    same-more (drop c.args.keep before) es place own other (get-later c.args.keep place before ∙ sym c.in-Some.ensures)
    (sym c.in-Some-item_at.ensures)
    (c.same_entry.ensures.exact.0 c.if-not-same_entry.false) c.entries.invariant
