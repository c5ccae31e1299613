use Rattle.std.proofs.Common.{ap, ◌∙◌}
use Rattle.std.specs.VecDeque.{deque_capacity}
use Rattle.qq_undo.specs.Undo.{Undoable}
use Rattle.qq_undo.proofs.Undoing.{leads-push, leads-kept}
use Rattle.qq_undo.proofs.deque.UndoDeque.push_back.Goals as goal

pub invariant_of-self-in_err-push_back : goal.invariant_of-self-in_err-push_back
invariant_of-self-in_err-push_back g c =
    let s = c.self.inside in
    (leads-kept s.journal.items c.reserve.new.self.items s.items.items c.push_back.new.self.items (deque_capacity s.items)
    (deque_capacity c.push_back.new.self) c.self.invariant c.reserve.ensures.items c.in_err-push_back.ensures.items c.push_back.ensures.capacity).can

pub returns-in_err-push_back-clause-base : goal.returns-in_err-push_back-clause-base
returns-in_err-push_back-clause-base g c =
    let s = c.self.inside in
    (leads-kept s.journal.items c.reserve.new.self.items s.items.items c.push_back.new.self.items (deque_capacity s.items)
    (deque_capacity c.push_back.new.self) c.self.invariant c.reserve.ensures.items c.in_err-push_back.ensures.items c.push_back.ensures.capacity).base
    ∙ ap (λ (u : Undoable g.row.T.Denot). u.base) c.self.view_is

pub invariant_of-self-2 : goal.invariant_of-self-2
invariant_of-self-2 g c =
    let s = c.self.inside in
    (leads-push s.journal.items c.reserve.new.self.items c.push_reserved.new.self.items s.items.items
    c.push_back.new.self.items (deque_capacity s.items) (deque_capacity c.push_back.new.self) c.len-place.result
    c.args.item c.self.invariant (c.len-place.ensures ∙ s.items.ok.0) c.in_ok-push_back.ensures.items
    c.push_back.ensures.capacity c.reserve.ensures.items c.push_reserved.ensures.items).can

pub returns-clause-base : goal.returns-clause-base
returns-clause-base g c =
    let s = c.self.inside in
    (leads-push s.journal.items c.reserve.new.self.items c.push_reserved.new.self.items s.items.items
    c.push_back.new.self.items (deque_capacity s.items) (deque_capacity c.push_back.new.self) c.len-place.result
    c.args.item c.self.invariant (c.len-place.ensures ∙ s.items.ok.0) c.in_ok-push_back.ensures.items
    c.push_back.ensures.capacity c.reserve.ensures.items c.push_reserved.ensures.items).base
    ∙ ap (λ (u : Undoable g.row.T.Denot). u.base) c.self.view_is
