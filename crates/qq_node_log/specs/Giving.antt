-- Which ops may be given to a node's log.
use Rattle.std.specs.Prelude.{◌≡◌, ℕ, true, List, [], ◌∷◌, All, IsSome}
use Rattle.std.specs.List.{AllByRecursion}
use Rattle.qq_base.specs.declared.ids.QueueId.{QueueId}
use Rattle.qq_log.specs.Carries.{Carries, GoesOn, add_op, is_listed}
use Rattle.qq_log.specs.declared.op.Op.{Op}
use Rattle.qq_log.specs.Op.{queue}
use Rattle.qq_log.specs.Stable.{stable}
use Rattle.qq_log.specs.Writable.{MayWrite}
use Rattle.qq_lots.specs.Lots.{Lot, Parts, give_batch, ids_of}

-- each op goes on after those before it
abbrev pub AllGoOn : List QueueId → Carries → List Op → Type 0
AllGoOn queues carries [] = Unit {0}
AllGoOn queues carries (op ∷ ops) = GoesOn queues carries op × AllGoOn queues (add_op carries op) ops

-- The log takes and writes each op, each is of a queue of the lot, and with them each queue's ops come to a state.
pub record MayGive (lot : Lot) (parts : Parts) (ops : List Op) : Type 0 where
  pub write : All MayWrite ops
  pub listed : All (λ op. is_listed (ids_of lot) (queue op) ≡ true) ops
  pub sound : AllByRecursion (λ (place : ℕ). IsSome (stable (give_batch lot ops parts place).ops)) lot.places
