use Rattle.std.proofs.Common.{◌≡◌, length}
use Rattle.qq_parts.specs.Commands.{parts_return_session}
use Rattle.qq_machine.specs.Views.{KeepsBase, work_of}
use Rattle.qq_machine.proofs.queue.Draft.return_session.Given as goal

-- the consumers that are left lead to where all lead
abbrev pub invariant-rounds : goal.invariant-rounds
invariant-rounds l = record {
  same : parts_return_session l.session (work_of l.args l.initial.self) ≡ parts_return_session l.session
      (work_of l.args l.self);
  base : KeepsBase l.initial.self.queue l.self.queue;
}

abbrev pub decreases-rounds : goal.decreases-rounds
decreases-rounds l = length l.self.queue.consumers.roster.served
