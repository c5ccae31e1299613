use Rattle.std.proofs.Common.{ap, ◌∙◌}
use Rattle.std.specs.VecDeque.{deque_capacity}
use Rattle.qq_undo.specs.Undo.{Undoable}
use Rattle.qq_undo.proofs.Undoing.{leads-clear}
use Rattle.qq_undo.proofs.deque.UndoDeque.clear.Goals as goal

pub invariant_of-self-2 : goal.invariant_of-self-2
invariant_of-self-2 g c =
    let s = c.self.inside in
    (leads-clear s.journal.items c.reserve.new.self.items c.push_reserved.new.self.items s.items c.replace-all.result
    c.replace-all.new.dest.items (deque_capacity c.replace-all.new.dest) c.self.invariant c.reserve.ensures.items
    c.push_reserved.ensures.items c.replace-all.ensures.value).can

pub returns-clause-base : goal.returns-clause-base
returns-clause-base g c =
    let s = c.self.inside in
    (leads-clear s.journal.items c.reserve.new.self.items c.push_reserved.new.self.items s.items c.replace-all.result
    c.replace-all.new.dest.items (deque_capacity c.replace-all.new.dest) c.self.invariant c.reserve.ensures.items
    c.push_reserved.ensures.items c.replace-all.ensures.value).base
    ∙ ap (λ (u : Undoable g.row.T.Denot). u.base) c.self.view_is
