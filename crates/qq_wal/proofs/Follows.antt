-- Ops that follow, and what the marks keep of them.
use Rattle.std.proofs.Common.{◌≡◌, ◌≤◌, ◌<◌, ◌^◌, ◌+◌, ◌||◌, ◌&&◌, ℕ, zero, suc, Bool, true, false, cond, eqb, take-append-drop, List, [], ◌∷◌, ◌++◌, take, drop, map, length, Option, Some, None, refl, sym, ap, subst, ◌∙◌, inl, inr, ◌⊎◌, arith}
use Rattle.std.specs.Prelude.{IfSome}
use Rattle.std.specs.List.{AllByRecursion, fold, list_all}
use Rattle.std.proofs.lemmas.List.Elements.{All-from_recursion}
use Rattle.std.proofs.lemmas.Bool.{cases_eq, eqb-true, eqb-false, eq-eqb, ne_eqb, leb-true}
use Rattle.qq_base.specs.declared.ids.QueueId.{QueueId}
use Rattle.qq_base.specs.declared.memory.TheConstants.{NUMBER_END}
use Rattle.qq_entry.specs.declared.command.Entry.{Entry}
use Rattle.qq_log.specs.Carries.{Carries, add_op, carry_behind, carry_or_new, is_listed, new_carry}
use Rattle.qq_log.specs.declared.lane.Carry.{Carry}
use Rattle.qq_log.specs.declared.op.Op.{Op}
use Rattle.qq_log.specs.declared.op.Op.TheVariants.{Change, SnapshotMade, SegmentMade}
use Rattle.qq_log.specs.Op.{queue}
use Rattle.qq_log.specs.Writable.{HasFields, IsQueue, IsSegment}
use Rattle.qq_wal_record.specs.declared.record.LogRecord.{LogRecord}
use Rattle.qq_wal_record.specs.declared.record.LogRecord.TheVariants.{Op as OpRecord, Carry as CarryRecord}
use Rattle.qq_wal_chain.specs.Image.{put}
use Rattle.qq_wal_chain.specs.Lanes.{is_op_within_ends, is_within_end, is_head_within_ends}
use Rattle.qq_wal_chain.proofs.Walk.{put-at, put-other}
use Rattle.qq_wal.specs.declared.marks.Mark.{Mark}
use Rattle.qq_wal.specs.Batch.{FitsBatch}
use Rattle.qq_wal.specs.Marks.{IsCarry, MayFollow, AllFollow, HasCarry, add_records, known, queues_in}
use Rattle.qq_wal.specs.Notices.{note_all, note_mark, note_op, note_record, sync_mark}

-- ---- lists of records that follow

pub follow-more : (queues : List QueueId) (rs : List LogRecord) (carries : Carries) (op : Op)
    → AllFollow queues carries rs
    → MayFollow queues (add_records carries rs) op → AllFollow queues carries (rs ++ OpRecord op ∷ [])
follow-more queues [] carries op all may = (may, tt)
follow-more queues (OpRecord other ∷ rs) carries op all may =
    (all.0, follow-more queues rs (add_op carries other) op all.1 may)
follow-more queues (CarryRecord c ∷ rs) carries op all may = absurd all

pub follow-take : (queues : List QueueId) (count : ℕ) (rs : List LogRecord) (carries : Carries)
    → AllFollow queues carries rs → AllFollow queues carries (take count rs)
follow-take queues zero rs carries all = tt
follow-take queues (suc count) [] carries all = tt
follow-take queues (suc count) (OpRecord op ∷ rs) carries all =
    (all.0, follow-take queues count rs (add_op carries op) all.1)
follow-take queues (suc count) (CarryRecord c ∷ rs) carries all = absurd all

pub follow-drop : (queues : List QueueId) (count : ℕ) (rs : List LogRecord) (carries : Carries)
    → AllFollow queues carries rs → AllFollow queues (add_records carries (take count rs)) (drop count rs)
follow-drop queues zero rs carries all = all
follow-drop queues (suc count) [] carries all = tt
follow-drop queues (suc count) (OpRecord op ∷ rs) carries all =
    follow-drop queues count rs (add_op carries op) all.1
follow-drop queues (suc count) (CarryRecord c ∷ rs) carries all = absurd all

-- what all records leave

add-append : (a b : List LogRecord) (carries : Carries)
    → add_records carries (a ++ b) ≡ add_records (add_records carries a) b
add-append [] b carries = refl
add-append (OpRecord op ∷ a) b carries = add-append a b (add_op carries op)
add-append (CarryRecord c ∷ a) b carries = add-append a b carries

pub add-more : (rs : List LogRecord) (carries : Carries) (op : Op)
    → add_records carries (rs ++ OpRecord op ∷ []) ≡ add_op (add_records carries rs) op
add-more rs carries op = add-append rs (OpRecord op ∷ []) carries

pub add-split : (count : ℕ) (rs : List LogRecord) (carries : Carries)
    → add_records (add_records carries (take count rs)) (drop count rs) ≡ add_records carries rs
add-split count rs carries =
    sym (add-append (take count rs) (drop count rs) carries)
    ∙ ap (λ (l : List LogRecord). add_records carries l) (take-append-drop count rs)

-- ---- what the marks know of each queue

pub same_queue : (a b : QueueId) → a.0 ≡ b.0 → a ≡ b
same_queue a b e = ap (λ (n : ℕ). record { 0 = n }) e

-- the mark of the op's queue
abbrev pub noted : Op → Mark → Mark
noted op m = record m {
  carry = Some (carry_behind (carry_or_new m.carry m.queue) op);
  notice = note_op m.queue m.notice op;
}

note-other : (marks : List Mark) (op : Op) (n : ℕ) → ((queue op).0 ≡ n → ⊥) → known (note_all marks op) n ≡ known marks n
note-other [] op n apart = refl
note-other (m ∷ marks) op n apart = by (eqb (queue op).0 m.queue.0) refl (note-other marks op n apart)
  where
    by : (t : Bool) → eqb (queue op).0 m.queue.0 ≡ t → known (note_all marks op) n ≡ known marks n
        → known (cond t (noted op m) m ∷ note_all marks op) n ≡ known (m ∷ marks) n
    by true e later =
        let away : m.queue.0 ≡ n → ⊥ = λ same. apart (eqb-true (queue op).0 m.queue.0 e ∙ same) in
        put-other (known (note_all marks op)) m.queue.0 n (noted op m).carry away ∙ later
        ∙ sym (put-other (known marks) m.queue.0 n m.carry away)
    by false e later = ap (λ (o : Option Carry). cond (eqb m.queue.0 n) m.carry o) later

note-here : (marks : List Mark) (op : Op) → is_listed (queues_in marks) (queue op) ≡ true
    → known (note_all marks op) (queue op).0
    ≡ Some (carry_behind (carry_or_new (known marks (queue op).0) (queue op)) op)
note-here [] op listed = absurd cc
note-here (m ∷ marks) op listed = by (eqb (queue op).0 m.queue.0) refl (note-here marks op)
  where
    q : ℕ
    q = (queue op).0

    by : (t : Bool) → eqb (queue op).0 m.queue.0 ≡ t
        → (is_listed (queues_in marks) (queue op) ≡ true
        → known (note_all marks op) (queue op).0
        ≡ Some (carry_behind (carry_or_new (known marks (queue op).0) (queue op)) op))
        → known (cond t (noted op m) m ∷ note_all marks op) (queue op).0
        ≡ Some (carry_behind (carry_or_new (known (m ∷ marks) (queue op).0) (queue op)) op)
    by true e later =
        let same : q ≡ m.queue.0 = eqb-true q m.queue.0 e in
        ap (λ (t : Bool). cond t (noted op m).carry (known (note_all marks op) q)) (eq-eqb m.queue.0 q (sym same))
        ∙ ap (λ (id : QueueId). Some (carry_behind (carry_or_new m.carry id) op))
        (sym (same_queue (queue op) m.queue same))
        ∙ sym (ap (λ (o : Option Carry). Some (carry_behind (carry_or_new o (queue op)) op))
        (ap (λ (t : Bool). cond t m.carry (known marks q)) (eq-eqb m.queue.0 q (sym same))))
    by false e later =
        let apart : eqb m.queue.0 q ≡ false = ne_eqb m.queue.0 q (λ same. eqb-false q m.queue.0 e (sym same)) in
        let rest : is_listed (queues_in marks) (queue op) ≡ true =
        subst (λ (t : Bool). (t || is_listed (queues_in marks) (queue op)) ≡ true) apart listed in
        ap (λ (t : Bool). cond t m.carry (known (note_all marks op) q)) apart
        ∙ later rest
        ∙ sym (ap (λ (o : Option Carry). Some (carry_behind (carry_or_new o (queue op)) op))
        (ap (λ (t : Bool). cond t m.carry (known marks q)) apart))

pub known-note : (marks : List Mark) (op : Op) → is_listed (queues_in marks) (queue op) ≡ true
    → known (note_all marks op) ≡ add_op (known marks) op
known-note marks op listed = λ i n. each n (cases_eq (queue op).0 n) i
  where
    each : (n : ℕ) → ((queue op).0 ≡ n) ⊎ ((queue op).0 ≡ n → ⊥)
        → known (note_all marks op) n ≡ add_op (known marks) op n
    each n (inl same) =
        subst (λ (n : ℕ). known (note_all marks op) n ≡ add_op (known marks) op n) same
        (note-here marks op listed ∙ sym (put-at (known marks) (queue op).0
        (Some (carry_behind (carry_or_new (known marks (queue op).0) (queue op)) op))))
    each n (inr apart) =
        note-other marks op n apart
        ∙ sym (put-other (known marks) (queue op).0 n
        (Some (carry_behind (carry_or_new (known marks (queue op).0) (queue op)) op)) apart)

note_mark-queue : (op : Op) (m : Mark) → (note_mark op m).queue ≡ m.queue
note_mark-queue op m = by (eqb (queue op).0 m.queue.0)
  where
    by : (t : Bool) → (cond t (noted op m) m).queue ≡ m.queue
    by true = refl
    by false = refl

pub note-queues : (marks : List Mark) (op : Op) → queues_in (note_all marks op) ≡ queues_in marks
note-queues [] op = refl
note-queues (m ∷ marks) op =
    ap (λ (id : QueueId). id ∷ queues_in (note_all marks op)) (note_mark-queue op m)
    ∙ ap (λ (l : List QueueId). m.queue ∷ l) (note-queues marks op)

pub noted-queues : (rs : List LogRecord) (marks : List Mark) → queues_in (fold note_record marks rs) ≡ queues_in marks
noted-queues [] marks = refl
noted-queues (OpRecord op ∷ rs) marks = noted-queues rs (note_all marks op) ∙ note-queues marks op
noted-queues (CarryRecord c ∷ rs) marks = noted-queues rs marks

pub noted-known : (queues : List QueueId) (rs : List LogRecord) (marks : List Mark) → queues_in marks ≡ queues
    → AllFollow queues (known marks) rs → known (fold note_record marks rs) ≡ add_records (known marks) rs
noted-known queues [] marks of all = refl
noted-known queues (OpRecord op ∷ rs) marks of all =
    let same = known-note marks op (subst (λ (l : List QueueId). is_listed l (queue op) ≡ true) (sym of) all.0.listed) in
    noted-known queues rs (note_all marks op) (note-queues marks op ∙ of)
    (subst (λ (c : Carries). AllFollow queues c rs) (sym same) all.1)
    ∙ ap (λ (c : Carries). add_records c rs) same
noted-known queues (CarryRecord c ∷ rs) marks of all = absurd all

pub synced-known : (marks : List Mark) → known (map sync_mark marks) ≡ known marks
synced-known [] = refl
synced-known (m ∷ marks) = ap (λ (c : Carries). put c m.queue.0 m.carry) (synced-known marks)

pub synced-queues : (marks : List Mark) → queues_in (map sync_mark marks) ≡ queues_in marks
synced-queues [] = refl
synced-queues (m ∷ marks) = ap (λ (l : List QueueId). m.queue ∷ l) (synced-queues marks)

-- ---- each carry may be written

four_parts : (a b c d : Bool) → (a && b && c && d) ≡ true → (a ≡ true) × (b ≡ true) × (c ≡ true) × (d ≡ true)
four_parts true true true true e = (refl, refl, refl, refl)
four_parts true true true false e = absurd cc
four_parts true true false d e = absurd cc
four_parts true false c d e = absurd cc
four_parts false b c d e = absurd cc

five_parts : (a b c d f : Bool) → (a && b && c && d && f) ≡ true
    → (a ≡ true) × (b ≡ true) × (c ≡ true) × (d ≡ true) × (f ≡ true)
five_parts true true true true true e = (refl, refl, refl, refl, refl)
five_parts true true true true false e = absurd cc
five_parts true true true false f e = absurd cc
five_parts true true false d f e = absurd cc
five_parts true false c d f e = absurd cc
five_parts false b c d f e = absurd cc

five_from : (a b c d f : Bool) → a ≡ true → b ≡ true → c ≡ true → d ≡ true → f ≡ true
    → (a && b && c && d && f) ≡ true
five_from true true true true true e1 e2 e3 e4 e5 = refl
five_from true true true true false e1 e2 e3 e4 e5 = absurd cc
five_from true true true false f e1 e2 e3 e4 e5 = absurd cc
five_from true true false d f e1 e2 e3 e4 e5 = absurd cc
five_from true false c d f e1 e2 e3 e4 e5 = absurd cc
five_from false b c d f e1 e2 e3 e4 e5 = absurd cc

behind-is : (c : Carry) (op : Op) → IsCarry c → is_op_within_ends op ≡ true → HasFields op → IsCarry (carry_behind c op)
behind-is c (Change id n term vote keep entries) is ends fields = record {
  writable = record {
    queue = is.writable.queue;
    op = fields.1;
    term = fields.2;
    vote = fields.3;
    base = is.writable.base;
    snapshot = is.writable.snapshot;
    segments = is.writable.segments;
    last = omega (arith, end);
    payload = is.writable.payload;
  };
  ends =
      five_from (is_within_end n) (is_within_end term.0) (is_head_within_ends c.base) (is_within_end c.snapshot)
      (is_within_end (keep.0 + length entries)) op_ends.0 op_ends.1 c_ends.2 c_ends.3 op_ends.2;
  plain = is.plain;
}
  where
    op_ends : (is_within_end n ≡ true) × (is_within_end term.0 ≡ true)
        × (is_within_end (keep.0 + length entries) ≡ true)
        × (list_all (λ (e : Entry). is_within_end e.term.0) entries ≡ true)
    op_ends =
        four_parts (is_within_end n) (is_within_end term.0) (is_within_end (keep.0 + length entries))
        (list_all (λ (e : Entry). is_within_end e.term.0) entries) ends

    c_ends : (is_within_end c.op ≡ true) × (is_within_end c.term.0 ≡ true) × (is_head_within_ends c.base ≡ true)
        × (is_within_end c.snapshot ≡ true) × (is_within_end c.last.0 ≡ true)
    c_ends =
        five_parts (is_within_end c.op) (is_within_end c.term.0) (is_head_within_ends c.base)
        (is_within_end c.snapshot) (is_within_end c.last.0) is.ends

    end : keep.0 + length entries ≤ NUMBER_END
    end = leb-true (keep.0 + length entries) NUMBER_END op_ends.2
behind-is c (SnapshotMade id n head file) is ends fields = is
behind-is c (SegmentMade id n file first last) is ends fields = is

new-is : (id : QueueId) → IsQueue id → IsCarry (new_carry id)
new-is id fits = record {
  writable = record {
    queue = fits;
    op = omega arith;
    term = omega arith;
    vote = tt;
    base = (omega arith, omega arith, omega arith);
    snapshot = omega arith;
    segments = All-from_recursion IsSegment [] tt;
    last = omega arith;
    payload = omega arith;
  };
  ends = refl;
  plain = refl;
}

op-queue : (op : Op) → HasFields op → IsQueue (queue op)
op-queue (Change id n term vote keep entries) fields = fields.0
op-queue (SnapshotMade id n head file) fields = fields.0
op-queue (SegmentMade id n file first last) fields = fields.0

or-new-is : (o : Option Carry) (id : QueueId) → IfSome o IsCarry → IsQueue id → IsCarry (carry_or_new o id)
or-new-is None id has fits = new-is id fits
or-new-is (Some c) id has fits = has

pub note-carries : (marks : List Mark) (op : Op) → AllByRecursion HasCarry marks → is_op_within_ends op ≡ true
    → HasFields op → AllByRecursion HasCarry (note_all marks op)
note-carries [] op each ends fields = tt
note-carries (m ∷ marks) op each ends fields =
    (by (eqb (queue op).0 m.queue.0) refl, note-carries marks op each.1 ends fields)
  where
    by : (t : Bool) → eqb (queue op).0 m.queue.0 ≡ t → HasCarry (cond t (noted op m) m)
    by true e =
        behind-is (carry_or_new m.carry m.queue) op
        (or-new-is m.carry m.queue each.0
        (subst (λ (n : ℕ). n < 2 ^ 32) (eqb-true (queue op).0 m.queue.0 e) (op-queue op fields)))
        ends fields
    by false e = each.0

pub noted-carries : (queues : List QueueId) (rs : List LogRecord) (carries : Carries) (marks : List Mark)
    → AllFollow queues carries rs → AllByRecursion FitsBatch rs → AllByRecursion HasCarry marks
    → AllByRecursion HasCarry (fold note_record marks rs)
noted-carries queues [] carries marks all fits each = each
noted-carries queues (OpRecord op ∷ rs) carries marks all fits each =
    noted-carries queues rs (add_op carries op) (note_all marks op) all.1 fits.1
    (note-carries marks op each all.0.ends fits.0.0.fields)
noted-carries queues (CarryRecord c ∷ rs) carries marks all fits each = absurd all

pub synced-carries : (marks : List Mark) → AllByRecursion HasCarry marks → AllByRecursion HasCarry (map sync_mark marks)
synced-carries [] each = tt
synced-carries (m ∷ marks) each = (each.0, synced-carries marks each.1)
