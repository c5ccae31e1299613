use Rattle.qq_inbox.specs.Threads.{HasRaised}
use Rattle.qq_inbox.proofs.watch.raise_all.Given as goal

-- each op so far is raised
abbrev pub invariant-ops : goal.invariant-ops
invariant-ops g l = HasRaised l.marks l.seat l.queue.0 l.before
