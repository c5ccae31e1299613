use Rattle.std.proofs.Common.{◌≡◌}
use Rattle.std.specs.VecDeque.{deque_len}
use Rattle.qq_model.specs.declared.place.Place.{Place}
use Rattle.qq_machine.specs.Views.{KeepsBase, work_of, end_rows}
use Rattle.qq_machine.proofs.queue.Draft.end_rows.Given as goal

-- the messages that are left lead to where all lead
abbrev pub invariant-rows : goal.invariant-rows
invariant-rows l = record {
  same : (place : Place) → end_rows l.outcome place l.rows.items (work_of l.args l.self) ≡ end_rows l.outcome place
      l.initial.rows.items (work_of l.args l.initial.self);
  base : KeepsBase l.initial.self.queue l.self.queue;
}

abbrev pub decreases-rows : goal.decreases-rows
decreases-rows l = deque_len l.rows
