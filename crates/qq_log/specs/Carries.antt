-- Where the queues of a log stand, and which op may be handed to it next.
use Rattle.std.specs.Prelude.{◌≡◌, ◌+◌, ℕ, Bool, true, false, List, length, fold, Option, Some, unwrap_or, nat_eq, nat_le, ◌==◌, ◌&&◌, if◌then◌else◌}
use Rattle.std.specs.List.{list_any}
use Rattle.qq_base.specs.declared.ids.QueueId.{QueueId}
use Rattle.qq_log.specs.declared.lane.Carry.{Carry}
use Rattle.qq_log.specs.declared.op.Op.{Op}
use Rattle.qq_log.specs.declared.op.Op.TheVariants.{Change, SnapshotMade, SegmentMade}
use Rattle.qq_log.specs.Op.{queue}
use Rattle.qq_log.specs.Stable.{new_state, carry_of}

-- ---- a queue's carry

-- that of a queue without ops
abbrev pub new_carry : QueueId → Carry
new_carry id = carry_of id new_state

-- the carry after an op more
abbrev pub carry_behind : Carry → Op → Carry
carry_behind c (Change id op term vote keep entries) =
    record c { op = op; term = term; vote = vote; last = record { 0 = keep.0 + length entries } }
carry_behind c (SnapshotMade id op head file) = c
carry_behind c (SegmentMade id op file first last) = c

-- whether an op goes on after a carry: its number is the next, and its cut lies between the base and the end
abbrev pub follows_carry : Carry → Op → Bool
follows_carry c (Change id op term vote keep entries) =
    (op == c.op + 1) && (nat_le c.base.index.0 keep.0 && nat_le keep.0 c.last.0)
follows_carry c (SnapshotMade id op head file) = false
follows_carry c (SegmentMade id op file first last) = false

-- ---- those of all queues

-- the carry of each queue by its number, None before its first op
abbrev pub Carries : Type 0
Carries = ℕ → Option Carry

abbrev pub carry_or_new : Option Carry → QueueId → Carry
carry_or_new carry id = unwrap_or carry (new_carry id)

-- what an op's queue has
abbrev pub carry_before : Carries → Op → Carry
carry_before carries op = carry_or_new (carries (queue op).0) (queue op)

-- with an op more
abbrev pub add_op : Carries → Op → Carries
add_op carries op =
    λ id. if nat_eq (queue op).0 id then Some (carry_behind (carry_before carries op) op) else carries id

abbrev pub add_ops : Carries → List Op → Carries
add_ops carries ops = fold add_op carries ops

abbrev pub is_listed : List QueueId → QueueId → Bool
is_listed queues id = list_any (λ other. nat_eq other.0 id.0) queues

-- An op goes on where its queue stands: it is of one of these queues, its number is the next, and its cut lies between
-- the base and the end.
pub record GoesOn (queues : List QueueId) (carries : Carries) (op : Op) : Type 0 where
  pub listed : is_listed queues (queue op) ≡ true
  pub follows : follows_carry (carry_before carries op) op ≡ true
