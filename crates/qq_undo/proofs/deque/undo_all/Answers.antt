use Rattle.std.specs.VecDeque.{deque_capacity}
use Rattle.qq_undo.specs.Undo.{held}
use Rattle.qq_undo.proofs.Undoing.{step-last, leads-last}
use Rattle.qq_undo.proofs.deque.undo_all.Goals as goal

pub undo_step-requires : goal.undo_step-requires
undo_step-requires g c =
    step-last c.steps.journal.items c.pop.new.self.items c.in-Some.step
    (held c.steps.items.items (deque_capacity c.steps.items)) c.steps.invariant.can c.in-Some.ensures.items

pub steps-preserved : goal.steps-preserved
steps-preserved g c =
    leads-last c.args.journal.now.items c.steps.journal.items c.pop.new.self.items c.in-Some.step
    (held c.args.items.now.items (deque_capacity c.args.items.now))
    (held c.steps.items.items (deque_capacity c.steps.items))
    (held c.undo_step.new.items.items (deque_capacity c.undo_step.new.items)) c.steps.invariant c.in-Some.ensures.items
    c.undo_step.ensures
