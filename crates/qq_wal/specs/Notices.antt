-- What each queue is told of once its ops are synced (the Ra library's internals, written events).
use Rattle.std.specs.Prelude.{◌≡◌, ◌+◌, ℕ, zero, suc, List, [], ◌∷◌, length, take, drop, map, min, Option, Some, None, option_map, option_to_list, unwrap_or, IfSome, nat_eq, if◌then◌else◌}
use Rattle.std.specs.List.{AllByRecursion, fold, flat_map, last_or}
use Rattle.qq_base.specs.declared.ids.QueueId.{QueueId}
use Rattle.qq_log.specs.Carries.{carry_behind, carry_or_new}
use Rattle.qq_log.specs.declared.lane.Carry.{Carry}
use Rattle.qq_log.specs.declared.op.Op.{Op}
use Rattle.qq_log.specs.declared.op.Op.TheVariants.{Change, SnapshotMade, SegmentMade}
use Rattle.qq_log.specs.Op.{queue, number}
use Rattle.qq_wal_record.specs.declared.record.LogRecord.{LogRecord}
use Rattle.qq_wal_record.specs.declared.record.LogRecord.TheVariants.{Op as OpRecord, Carry as CarryRecord}
use Rattle.qq_wal_chain.specs.Lanes.{of_queue}
use Rattle.qq_wal.specs.declared.notices.Notice.{Notice}
use Rattle.qq_wal.specs.declared.marks.Mark.{Mark}
use Rattle.qq_wal.specs.Marks.{carry_for}

-- the server's term from the op on
abbrev pub op_term : Op → ℕ
op_term (Change id op term vote keep entries) = term.0
op_term (SnapshotMade id op head file) = 0
op_term (SegmentMade id op file first last) = 0

-- the log's end behind the op
abbrev pub last_index : Op → ℕ
last_index (Change id op term vote keep entries) = keep.0 + length entries
last_index (SnapshotMade id op head file) = 0
last_index (SegmentMade id op file first last) = 0

-- the first index that the op writes, 0 where it writes none
abbrev pub first_index : Op → ℕ
first_index (Change id op term vote keep entries) = if nat_eq (length entries) 0 then 0 else keep.0 + 1
first_index (SnapshotMade id op head file) = 0
first_index (SegmentMade id op file first last) = 0

-- the lesser of two indices that are there
abbrev pub lesser_index : ℕ → ℕ → ℕ
lesser_index a b = if nat_eq a 0 then b else if nat_eq b 0 then a else min a b

-- the least index that ops write, 0 where they write none
abbrev pub least_index : List Op → ℕ
least_index ops = fold lesser_index 0 (map first_index ops)

-- What a queue is told of its ops, None where there are none: the number and term of the last, the least index
-- that they wrote, and the log's end behind them.
abbrev pub notice_of : QueueId → List Op → Option Notice
notice_of id ops =
    option_map (λ op. record {
      queue = id;
      term = record { 0 = op_term op };
      first = record { 0 = least_index ops };
      last = record { 0 = last_index op };
      op = number op;
    }) (last_or None ops)

-- one notice for each queue that has ops, in the order of the queues
abbrev pub notices_of : List QueueId → List Op → List Notice
notices_of queues ops = flat_map (λ (id : QueueId). option_to_list (notice_of id (of_queue id.0 ops))) queues

-- ---- as the log keeps them

abbrev pub first_of : Option Notice → ℕ
first_of None = 0
first_of (Some notice) = notice.first.0

-- a queue's notice with an op more
abbrev pub note_op : QueueId → Option Notice → Op → Option Notice
note_op id notice op = Some (record {
  queue = id;
  term = record { 0 = op_term op };
  first = record { 0 = lesser_index (first_of notice) (first_index op) };
  last = record { 0 = last_index op };
  op = number op;
})

-- the mark of the op's queue has what the op leaves
abbrev pub note_mark : Op → Mark → Mark
note_mark op mark =
    if nat_eq (queue op).0 mark.queue.0 then record mark {
      carry = Some (carry_behind (carry_or_new mark.carry mark.queue) op);
      notice = note_op mark.queue mark.notice op;
    } else mark

-- a list whose item at a place is changed, where there is one
abbrev pub change_at : {A : Type 0} → (A → A) → ℕ → List A → List A
change_at f place [] = []
change_at f zero (x ∷ xs) = f x ∷ xs
change_at f (suc place) (x ∷ xs) = x ∷ change_at f place xs

-- each mark of the op's queue has what the op leaves
abbrev pub note_all : List Mark → Op → List Mark
note_all marks op = map (note_mark op) marks

abbrev pub note_record : List Mark → LogRecord → List Mark
note_record marks (OpRecord op) = note_all marks op
note_record marks (CarryRecord carry) = marks

-- no mark has a notice
abbrev pub AreQuiet : List Mark → Type 0
AreQuiet marks = AllByRecursion (λ (m : Mark). m.notice ≡ None) marks

-- no mark before one place has a notice, nor one from another place on
abbrev pub AreNotedWithin : ℕ → ℕ → List Mark → Type 0
AreNotedWithin first end marks = AreQuiet (take first marks) × AreQuiet (drop end marks)

-- the notices that the marks have
abbrev pub notices_in : List Mark → List Notice
notices_in marks = flat_map (λ (m : Mark). option_to_list m.notice) marks

-- the marks tell these ops, appended since the last sync: each is of its queue and has the notice of its ops
abbrev pub Tell : List QueueId → List Mark → List Op → Type 0
Tell [] [] ops = Unit {0}
Tell (id ∷ queues) (mark ∷ marks) ops =
    (mark.queue ≡ id) × (mark.notice ≡ notice_of id (of_queue id.0 ops)) × Tell queues marks ops
Tell _ _ ops = ⊥

-- the number of a queue's last op that was synced, as its mark says it
abbrev pub synced_in : List Mark → QueueId → ℕ
synced_in [] id = 0
synced_in (mark ∷ marks) id = if nat_eq mark.queue.0 id.0 then mark.synced else synced_in marks id

-- as a mark says it that may be the queue's own
abbrev pub synced_by : Option Mark → QueueId → ℕ
synced_by None id = 0
synced_by (Some mark) id = if nat_eq mark.queue.0 id.0 then mark.synced else 0

-- the number of the last op that was synced
abbrev pub synced_of : Mark → ℕ
synced_of mark = unwrap_or (option_map (λ n. n.op) mark.notice) mark.synced

abbrev pub sync_mark : Mark → Mark
sync_mark mark = record mark { notice = None; synced = synced_of mark }

abbrev pub carried_op : Option Carry → ℕ
carried_op None = 0
carried_op (Some c) = c.op

-- of each queue what is synced, or will be at the next sync, is what its carry says
abbrev pub AreCounted : List Mark → Type 0
AreCounted marks = AllByRecursion (λ (m : Mark). synced_of m ≡ carried_op m.carry) marks

-- each notice is of its mark's queue
abbrev pub AreNamed : List Mark → Type 0
AreNamed marks = AllByRecursion (λ (m : Mark). IfSome m.notice (λ n. n.queue ≡ m.queue)) marks

-- a queue's mark before any op is appended
abbrev pub new_mark : List Carry → QueueId → Mark
new_mark carries id = record {
  queue = id;
  carry = carry_for carries id;
  notice = None;
  synced = carried_op (carry_for carries id);
}
