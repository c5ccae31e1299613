use Rattle.std.proofs.Common.{ap, ◌∙◌, arith}
use Rattle.std.specs.VecDeque.{deque_capacity}
use Rattle.qq_undo.specs.Undo.{Undoable}
use Rattle.qq_undo.proofs.Undoing.{copied-item, leads-remove}
use Rattle.qq_undo.proofs.deque.UndoDeque.remove.Goals as goal

pub invariant_of-self-2 : goal.invariant_of-self-2
invariant_of-self-2 g c =
    let s = c.self.inside in
    let there =
    copied-item s.items.items c.args.place c.take_at.result c.index.result.now c.in_ok-twin.twin c.take_at.ensures.value
    c.index.ensures c.in_ok-twin.ensures.ok in
    (leads-remove s.journal.items c.push.new.self.items s.items.items c.take_at.new.items.items (deque_capacity s.items)
    (deque_capacity c.take_at.new.items) c.args.place c.in_ok-twin.twin c.self.invariant there
    (omega (arith, s.items.ok.0, s.items.small.1)) c.take_at.ensures.items c.take_at.ensures.capacity
    c.in_ok-push.ensures.items).can

pub returns-clause-base : goal.returns-clause-base
returns-clause-base g c =
    let s = c.self.inside in
    let there =
    copied-item s.items.items c.args.place c.take_at.result c.index.result.now c.in_ok-twin.twin c.take_at.ensures.value
    c.index.ensures c.in_ok-twin.ensures.ok in
    (leads-remove s.journal.items c.push.new.self.items s.items.items c.take_at.new.items.items (deque_capacity s.items)
    (deque_capacity c.take_at.new.items) c.args.place c.in_ok-twin.twin c.self.invariant there
    (omega (arith, s.items.ok.0, s.items.small.1)) c.take_at.ensures.items c.take_at.ensures.capacity
    c.in_ok-push.ensures.items).base
    ∙ ap (λ (u : Undoable g.row.T.Denot). u.base) c.self.view_is
