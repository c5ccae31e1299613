use Rattle.std.proofs.Common.{◌≡◌, drop, fold}
use Rattle.qq_entry.specs.declared.command.DeadDone.{DeadDone}
use Rattle.qq_parts.specs.Commands.{DeadSettled, parts_settle_dead_by, take_given, parts_settle_dead}
use Rattle.qq_machine.specs.Views.{KeepsBase, work_of}
use Rattle.qq_machine.proofs.queue.Draft.settle_dead.Given as goal

-- the rest leads to where all lead, and the worker stays
abbrev pub invariant-loop-one : goal.invariant-loop-one
invariant-loop-one l = record {
  same : fold (λ (now : DeadSettled) (one : DeadDone). parts_settle_dead_by (take_given one.number now.work.parts) now)
      (record { work = work_of l.args l.self; count = l.count }) (drop l.one-index l.done)
      ≡ parts_settle_dead l.done (work_of l.args l.initial.self);
  attached : l.term.0 ≡ l.self.queue.dead.store.letters.attached;
  base : KeepsBase l.initial.self.queue l.self.queue;
}
