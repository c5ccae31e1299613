use Rattle.qq_machine.proofs.Ready.{first-is, none-first, none-still}
use Rattle.qq_machine.proofs.queue.Queue.take_first.Goals as goal

pub returns-clause-some : goal.returns-clause-some
returns-clause-some c =
    first-is c.in_ok-taken.taken c.args.self.now c.pop_next.new.self c.in_ok-taken.ensures.next c.in_ok-taken.ensures.queue

pub returns-clause-none : goal.returns-clause-none
returns-clause-none c = none-first c.in_ok-taken.taken c.args.self.now c.in_ok-taken.ensures.next

pub returns-clause-still : goal.returns-clause-still
returns-clause-still c =
    none-still c.in_ok-taken.taken c.args.self.now c.pop_next.new.self c.in_ok-taken.ensures.next c.in_ok-taken.ensures.queue
