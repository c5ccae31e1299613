use Rattle.qq_inbox.specs.Threads.{HasTaken, HasRoom}
use Rattle.qq_inbox.proofs.relay.take_all.Given as goal

-- what was taken is in the list, which has room
abbrev pub invariant-ops : goal.invariant-ops
invariant-ops g l = HasTaken l.inbox l.pass l.taken.items × HasRoom l.taken l.done l.count
