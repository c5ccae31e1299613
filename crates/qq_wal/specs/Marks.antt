-- What the log keeps of each queue: the carry with which a new file restates it.
use Rattle.std.specs.Prelude.{◌≡◌, ℕ, Bool, true, false, List, [], ◌∷◌, map, Option, Some, None, option_map, option_to_list, IfSome, nat_eq, nat_lt, ◌&&◌, if◌then◌else◌}
use Rattle.std.specs.List.{AllByRecursion, flat_map}
use Rattle.std.specs.List.Sorted.{IsPartitionPoint}
use Rattle.qq_base.specs.declared.ids.QueueId.{QueueId}
use Rattle.qq_log.specs.declared.lane.Carry.{Carry}
use Rattle.qq_log.specs.declared.op.Op.{Op}
use Rattle.qq_log.specs.Op.{queue}
use Rattle.qq_log.specs.Carries.{Carries, add_op, carry_or_new, follows_carry, is_listed}
use Rattle.qq_log.specs.Stable.{carry_of}
use Rattle.qq_log.specs.Writable.{IsWritableCarry}
use Rattle.qq_wal_record.specs.declared.record.LogRecord.{LogRecord}
use Rattle.qq_wal_record.specs.declared.record.LogRecord.TheVariants.{Op as OpRecord, Carry as CarryRecord}
use Rattle.qq_wal_chain.specs.Image.{put}
use Rattle.qq_wal_chain.specs.Lanes.{Lanes, is_op_within_ends, is_carry_within_ends, is_change, is_plain}
use Rattle.qq_wal.specs.declared.marks.Mark.{Mark}

-- ---- a queue's carry

-- a carry that may be written, within all ends, and that names no snapshot and no segment
pub record IsCarry (c : Carry) : Type 0 where
  pub writable : IsWritableCarry c
  pub ends : is_carry_within_ends c ≡ true
  pub plain : is_plain c ≡ true

-- ---- the carries of all queues

-- with records more
abbrev pub add_records : Carries → List LogRecord → Carries
add_records carries [] = carries
add_records carries (OpRecord op ∷ rs) = add_records (add_op carries op) rs
add_records carries (CarryRecord c ∷ rs) = add_records carries rs

-- An op may be handed in next: it is a change of one of these queues, with no number past its end, and follows what
-- the queue has.
pub record MayFollow (queues : List QueueId) (carries : Carries) (op : Op) : Type 0 where
  pub listed : is_listed queues (queue op) ≡ true
  pub ends : is_op_within_ends op ≡ true
  pub change : is_change op ≡ true
  pub follows : follows_carry (carry_or_new (carries (queue op).0) (queue op)) op ≡ true

-- each of the records may be handed in behind those before it
abbrev pub AllFollow : List QueueId → Carries → List LogRecord → Type 0
AllFollow queues carries [] = Unit {0}
AllFollow queues carries (OpRecord op ∷ rs) =
    MayFollow queues carries op × AllFollow queues (add_op carries op) rs
AllFollow queues carries (CarryRecord c ∷ rs) = ⊥

-- ---- as the lanes have them

-- the carry of a queue's state, where it has one
abbrev pub carry_in : Lanes → QueueId → Option Carry
carry_in lanes id = option_map (carry_of id) (lanes id.0)

-- the carry of each queue that has a state, in the order of the queues
abbrev pub carries_of : List QueueId → Lanes → List Carry
carries_of queues lanes = flat_map (λ (id : QueueId). option_to_list (carry_in lanes id)) queues

-- ---- as the log keeps them

abbrev pub is_below : ℕ → List ℕ → Bool
is_below n [] = true
is_below n (next ∷ numbers) = nat_lt n next

-- each number is below the next one
abbrev pub is_rising : List ℕ → Bool
is_rising [] = true
is_rising (n ∷ numbers) = is_below n numbers && is_rising numbers

abbrev pub numbers_of : List QueueId → List ℕ
numbers_of queues = map (λ (id : QueueId). id.0) queues

-- the queues of the marks
abbrev pub queues_in : List Mark → List QueueId
queues_in marks = map (λ (m : Mark). m.queue) marks

-- and their numbers
abbrev pub numbers_in : List Mark → List ℕ
numbers_in marks = map (λ (m : Mark). m.queue.0) marks

-- a place in the marks: those before it are of queues below this one, and those from it on aren't
abbrev pub IsPlaceOf : QueueId → List Mark → ℕ → Type 0
IsPlaceOf id marks place = IsPartitionPoint (λ (m : Mark). nat_lt m.queue.0 id.0 ≡ true)
    (λ (m : Mark). nat_lt m.queue.0 id.0 ≡ false) marks place

-- the carries that the marks have, in their order
abbrev pub carries_in : List Mark → List Carry
carries_in marks = flat_map (λ (m : Mark). option_to_list m.carry) marks

-- what the marks have of each queue
abbrev pub known : List Mark → Carries
known [] = λ id. None
known (m ∷ marks) = put (known marks) m.queue.0 m.carry

-- a mark's carry may be written
abbrev pub HasCarry : Mark → Type 0
HasCarry m = IfSome m.carry IsCarry

-- the marks have what the lanes come to
abbrev pub Agree : Lanes → List Mark → Type 0
Agree lanes marks = AllByRecursion (λ (m : Mark). m.carry ≡ carry_in lanes m.queue) marks

-- the first carry of a queue, None where there is none
abbrev pub carry_for : List Carry → QueueId → Option Carry
carry_for [] id = None
carry_for (c ∷ carries) id = if nat_eq c.queue.0 id.0 then Some c else carry_for carries id
