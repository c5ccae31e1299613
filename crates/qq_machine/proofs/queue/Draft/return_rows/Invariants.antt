use Rattle.std.proofs.Common.{◌≡◌, length}
use Rattle.qq_model.specs.declared.place.Place.{Place}
use Rattle.qq_machine.specs.Views.{KeepsBase, work_of, return_rows}
use Rattle.qq_machine.proofs.queue.Draft.return_rows.Given as goal

-- the messages that are left lead to where all lead
abbrev pub invariant-rows : goal.invariant-rows
invariant-rows l = record {
  same : (place : Place) → return_rows place l.rows.items (work_of l.args l.self) ≡ return_rows place
      l.initial.rows.items (work_of l.args l.initial.self);
  base : KeepsBase l.initial.self.queue l.self.queue;
}

abbrev pub decreases-rows : goal.decreases-rows
decreases-rows l = length l.rows.items
