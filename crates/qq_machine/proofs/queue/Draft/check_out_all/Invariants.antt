use Rattle.std.proofs.Common.{◌≡◌, ◌-◌}
use Rattle.qq_model.specs.Changes.{while_next}
use Rattle.qq_parts.specs.Follows.{parts_check_out}
use Rattle.qq_machine.specs.Views.{KeepsBase, work_of}
use Rattle.qq_machine.proofs.queue.Draft.check_out_all.Given as goal

-- the rounds that are left lead to where all lead, and the base stays
abbrev pub invariant-rounds : goal.invariant-rounds
invariant-rounds l = record {
  same : while_next (l.ready - l._round) parts_check_out (work_of l.args l.self) ≡ while_next l.ready parts_check_out
      (work_of l.args l.initial.self);
  base : KeepsBase l.initial.self.queue l.self.queue;
}
