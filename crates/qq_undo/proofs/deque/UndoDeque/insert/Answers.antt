use Rattle.std.proofs.Common.{◌≤◌, length, sym, ap, subst, ◌∙◌}
use Rattle.std.specs.VecDeque.{deque_capacity}
use Rattle.qq_undo.specs.Undo.{Undoable}
use Rattle.qq_undo.proofs.Undoing.{leads-insert, leads-kept}
use Rattle.qq_undo.proofs.deque.UndoDeque.insert.Goals as goal

pub invariant_of-self-in_err-insert : goal.invariant_of-self-in_err-insert
invariant_of-self-in_err-insert g c =
    let s = c.self.inside in
    (leads-kept s.journal.items c.reserve.new.self.items s.items.items c.insert.new.self.items (deque_capacity s.items)
    (deque_capacity c.insert.new.self) c.self.invariant c.reserve.ensures.items c.in_err-insert.ensures.unchanged.0 c.insert.ensures.capacity).can

pub returns-in_err-insert-clause-base : goal.returns-in_err-insert-clause-base
returns-in_err-insert-clause-base g c =
    let s = c.self.inside in
    (leads-kept s.journal.items c.reserve.new.self.items s.items.items c.insert.new.self.items (deque_capacity s.items)
    (deque_capacity c.insert.new.self) c.self.invariant c.reserve.ensures.items c.in_err-insert.ensures.unchanged.0 c.insert.ensures.capacity).base
    ∙ ap (λ (u : Undoable g.row.T.Denot). u.base) c.self.view_is

pub invariant_of-self-2 : goal.invariant_of-self-2
invariant_of-self-2 g c =
    let s = c.self.inside in
    let within =
    subst (λ (u : Undoable g.row.T.Denot). c.args.place ≤ length u.items) (sym c.self.view_is) c.requires in
    (leads-insert s.journal.items c.reserve.new.self.items c.push_reserved.new.self.items s.items.items
    c.insert.new.self.items (deque_capacity s.items) (deque_capacity c.insert.new.self) c.args.place c.args.item
    c.self.invariant within c.in_ok-insert.ensures.items c.insert.ensures.capacity c.reserve.ensures.items
    c.push_reserved.ensures.items).can

pub returns-clause-base : goal.returns-clause-base
returns-clause-base g c =
    let s = c.self.inside in
    let within =
    subst (λ (u : Undoable g.row.T.Denot). c.args.place ≤ length u.items) (sym c.self.view_is) c.requires in
    (leads-insert s.journal.items c.reserve.new.self.items c.push_reserved.new.self.items s.items.items
    c.insert.new.self.items (deque_capacity s.items) (deque_capacity c.insert.new.self) c.args.place c.args.item
    c.self.invariant within c.in_ok-insert.ensures.items c.insert.ensures.capacity c.reserve.ensures.items
    c.push_reserved.ensures.items).base
    ∙ ap (λ (u : Undoable g.row.T.Denot). u.base) c.self.view_is
