-- A deque with a journal of its changes, and what it was at the last commit.
use Rattle.std.specs.Prelude.{◌≡◌, ℕ, ◌<◌, ◌≤◌, List, [], ◌∷◌, length, insert, remove}
use Rattle.qq_undo.specs.declared.step.Step.{Step}
use Rattle.qq_undo.specs.declared.step.Step.TheVariants.{Inserted, Removed, Cleared}
use Rattle.std.specs.VecDeque.{deque_capacity}

-- the items, and those at the last commit
pub record Undoable (T : Type 0) : Type 0 where
  pub items : List T
  pub base : List T

-- the items, and for how many there is memory
pub record Held (T : Type 0) : Type 0 where
  pub items : List T
  pub capacity : ℕ

abbrev pub held : {T : Type 0} → List T → ℕ → Held T
held items capacity = record { items = items; capacity = capacity }

-- what a step was made on
abbrev pub undo_step : {T : Type 0} → Step T → Held T → Held T
undo_step (Inserted place) now = held (remove now.items place) now.capacity
undo_step (Removed place item) now = held (insert now.items place item) now.capacity
undo_step (Cleared kept) now = held kept.items (deque_capacity kept)

-- what a journal began with, whose last step is the latest
abbrev pub undone : {T : Type 0} → List (Step T) → Held T → Held T
undone [] now = now
undone (step ∷ steps) now = undo_step step (undone steps now)

-- whether a step can be undone in the memory that there is
abbrev pub CanUndoStep : {T : Type 0} → Step T → Held T → Type 0
CanUndoStep (Inserted place) now = place < length now.items
CanUndoStep (Removed place item) now = (place ≤ length now.items) × (length now.items < now.capacity)
CanUndoStep (Cleared kept) now = Unit {0}

abbrev pub CanUndo : {T : Type 0} → List (Step T) → Held T → Type 0
CanUndo [] now = Unit {0}
CanUndo (step ∷ steps) now = CanUndo steps now × CanUndoStep step (undone steps now)

-- the same items, and memory for no fewer
pub record HasMore {T : Type 0} (old new : Held T) : Type 0 where
  pub items : new.items ≡ old.items
  pub capacity : old.capacity ≤ new.capacity
