-- The marks have what the ops on the disk come to.
use Rattle.std.proofs.Common.{◌≡◌, ◌≤◌, ◌-◌, ◌+◌, ◌||◌, ◌&&◌, ℕ, suc, Bool, true, false, cond, eqb, leb, List, [], ◌∷◌, ◌++◌, map, length, Option, Some, None, refl, sym, ap, subst, ◌∙◌, arith, option_map, option_to_list, unwrap_or, length-append, length-take, append_assoc}
use Rattle.std.specs.Prelude.{IfSome}
use Rattle.std.specs.List.{AllByRecursion, fold}
use Rattle.std.proofs.lemmas.Bool.{eqb-true, eqb-false, eq-eqb, and_parts, and_from, leb-true}
use Rattle.std.proofs.lemmas.List.{length-map}
use Rattle.qq_base.specs.declared.ids.QueueId.{QueueId}
use Rattle.qq_base.proofs.Lists.{AllByRecursion-append}
use Rattle.qq_log.specs.Carries.{Carries, add_op, carry_behind, carry_or_new, follows_carry, is_listed}
use Rattle.qq_log.specs.declared.head.Span.{Span}
use Rattle.qq_log.specs.declared.lane.Carry.{Carry}
use Rattle.qq_log.specs.declared.op.Op.{Op}
use Rattle.qq_log.specs.declared.op.Op.TheVariants.{Change, SnapshotMade, SegmentMade}
use Rattle.qq_log.specs.Op.{queue}
use Rattle.qq_log.specs.Above.{take_above}
use Rattle.qq_log.specs.Stable.{Stable, new_state, carry_of, apply_op, change, segments_between, last_index, restates}
use Rattle.qq_wal_record.specs.declared.record.LogRecord.{LogRecord}
use Rattle.qq_wal_record.specs.declared.record.LogRecord.TheVariants.{Op as OpRecord, Carry as CarryRecord}
use Rattle.qq_wal_chain.specs.Image.{put}
use Rattle.qq_wal_chain.specs.Lanes.{Lanes, is_op_within_ends, is_change, put_lane, add_record}
use Rattle.qq_wal_chain.specs.Records.{Restate, replay}
use Rattle.qq_wal_chain.specs.Wal.{wal}
use Rattle.qq_wal_chain.proofs.Queues.{carry-restates}
use Rattle.qq_wal_chain.proofs.Walk.{put-at, put-other}
use Rattle.qq_wal.specs.declared.marks.Mark.{Mark}
use Rattle.qq_wal.specs.Batch.{FitsBatch}
use Rattle.qq_wal.specs.Marks.{IsCarry, MayFollow, AllFollow, HasCarry, Agree, known, queues_in, carries_in, carries_of, carry_in, carry_for}
use Rattle.qq_wal.specs.Notices.{note_all, note_record, sync_mark, new_mark}
use Rattle.qq_wal.proofs.Follows.{noted, same_queue, known-note, note-queues, note-carries}

-- ---- one queue

no_spans : (spans : List Span) → eqb (length spans) 0 ≡ true → spans ≡ []
no_spans [] e = refl
no_spans (span ∷ spans) e = absurd (omega (arith, eqb-true (suc (length spans)) 0 e))

-- the state behind an op that follows, and its carry
record Next (id : QueueId) (s : Stable) (op : Op) : Type 0 where
  state : Stable
  is : apply_op s op ≡ Some state
  carry : carry_of id state ≡ carry_behind (carry_of id s) op

next : (id : QueueId) (s : Stable) (op : Op) → follows_carry (carry_of id s) op ≡ true → s.segments ≡ [] → Next id s op
unfolding apply_op change
next id s (Change q n term vote keep entries) e none = record {
  state = change (record s { op = n }) term vote keep.0 entries;
  is =
      ap (λ (t : Bool). cond t (cond (leb s.base.index.0 keep.0 && leb keep.0 (last_index s))
      (Some (change (record s { op = n }) term vote keep.0 entries)) None) None) outer.0
      ∙ ap (λ (t : Bool). cond t (Some (change (record s { op = n }) term vote keep.0 entries)) None) outer.1;
  carry = λ i. record {
    queue = id;
    op = n;
    term = term;
    vote = vote;
    base = s.base;
    snapshot = s.snapshot;
    segments = spans i;
    last = record { 0 = last i };
  };
}
  where
    outer : (eqb n (s.op + 1) ≡ true) × ((leb s.base.index.0 keep.0 && leb keep.0 (last_index s)) ≡ true)
    outer = and_parts (eqb n (s.op + 1)) (leb s.base.index.0 keep.0 && leb keep.0 (last_index s)) e

    inner : (leb s.base.index.0 keep.0 ≡ true) × (leb keep.0 (last_index s) ≡ true)
    inner = and_parts (leb s.base.index.0 keep.0) (leb keep.0 (last_index s)) outer.1

    base : s.base.index.0 ≤ keep.0
    base = leb-true s.base.index.0 keep.0 inner.0

    end : keep.0 ≤ s.base.index.0 + length s.log
    end = leb-true keep.0 (last_index s) inner.1

    spans : segments_between s.base.index.0 keep.0 s.segments ≡ s.segments
    spans = ap (λ (l : List Span). segments_between s.base.index.0 keep.0 l) none ∙ sym none

    last : s.base.index.0 + length (take_above s.base.index.0 keep.0 s.log ++ map Some entries)
        ≡ keep.0 + length entries
    last =
        omega (
          arith,
          base,
          end,
          length-append (take_above s.base.index.0 keep.0 s.log) (map Some entries),
          length-map entries Some,
          length-take (keep.0 - s.base.index.0) s.log,
        )
next id s (SnapshotMade q n head file) e none = absurd cc
next id s (SegmentMade q n file first last) e none = absurd cc

pub or-new : (id : QueueId) (o : Option Stable)
    → carry_or_new (option_map (carry_of id) o) id ≡ carry_of id (unwrap_or o new_state)
or-new id None = refl
or-new id (Some s) = refl

plain-state : (id : QueueId) (o : Option Stable) → IfSome (option_map (carry_of id) o) IsCarry
    → (unwrap_or o new_state).segments ≡ []
plain-state id None is = refl
plain-state id (Some s) is = no_spans s.segments (and_parts _ _ is.plain).1

-- ---- all queues

pub agree-known : (lanes : Lanes) (marks : List Mark) (id : QueueId) → Agree lanes marks
    → is_listed (queues_in marks) id ≡ true → known marks id.0 ≡ carry_in lanes id
agree-known lanes [] id agree listed = absurd cc
agree-known lanes (m ∷ marks) id agree listed = by (eqb m.queue.0 id.0) refl listed
    (agree-known lanes marks id agree.1)
  where
    by : (t : Bool) → eqb m.queue.0 id.0 ≡ t → (t || is_listed (queues_in marks) id) ≡ true
        → (is_listed (queues_in marks) id ≡ true → known marks id.0 ≡ carry_in lanes id)
        → cond t m.carry (known marks id.0) ≡ carry_in lanes id
    by true e listed later =
        agree.0 ∙ ap (λ (q : QueueId). carry_in lanes q) (same_queue m.queue id (eqb-true m.queue.0 id.0 e))
    by false e listed later = later listed

known-has : (marks : List Mark) (n : ℕ) → AllByRecursion HasCarry marks → IfSome (known marks n) IsCarry
known-has [] n each = tt
known-has (m ∷ marks) n each = by (eqb m.queue.0 n) (known-has marks n each.1)
  where
    by : (t : Bool) → IfSome (known marks n) IsCarry → IfSome (cond t m.carry (known marks n)) IsCarry
    by true later = each.0
    by false later = later

record Added (queues : List QueueId) (lanes : Lanes) (marks : List Mark) (op : Op) : Type 0 where
  after : Lanes
  is : add_record queues (OpRecord op) lanes ≡ Some after
  agree : Agree after (note_all marks op)

module _ (lanes : Lanes) (op : Op) (s after : Stable) (was : s ≡ unwrap_or (lanes (queue op).0) new_state)
    (carry : carry_of (queue op) after ≡ carry_behind (carry_of (queue op) s) op) where
  agree-put : (marks : List Mark) → Agree lanes marks
      → Agree (put lanes (queue op).0 (Some after)) (note_all marks op)
  agree-put [] agree = tt
  agree-put (m ∷ marks) agree = (by (eqb (queue op).0 m.queue.0) refl, agree-put marks agree.1)
    where
      by : (t : Bool) → eqb (queue op).0 m.queue.0 ≡ t
          → (cond t (noted op m) m).carry
          ≡ carry_in (put lanes (queue op).0 (Some after)) ((cond t (noted op m) m).queue)
      by true e =
          let same : queue op ≡ m.queue =
          same_queue (queue op) m.queue (eqb-true (queue op).0 m.queue.0 e) in
          subst (λ (id : QueueId). Some (carry_behind (carry_or_new m.carry id) op)
          ≡ carry_in (put lanes (queue op).0 (Some after)) id) same
          (ap (λ (o : Option Carry). Some (carry_behind (carry_or_new o (queue op)) op))
          (agree.0 ∙ ap (λ (id : QueueId). carry_in lanes id) (sym same))
          ∙ ap (λ (c : Carry). Some (carry_behind c op)) (or-new (queue op) (lanes (queue op).0))
          ∙ ap (λ (s : Stable). Some (carry_behind (carry_of (queue op) s) op)) (sym was)
          ∙ ap (λ (c : Carry). Some c) (sym carry)
          ∙ sym (ap (λ (o : Option Stable). option_map (carry_of (queue op)) o)
          (put-at lanes (queue op).0 (Some after))))
      by false e =
          agree.0
          ∙ sym (ap (λ (o : Option Stable). option_map (carry_of m.queue) o)
          (put-other lanes (queue op).0 m.queue.0 (Some after) (eqb-false (queue op).0 m.queue.0 e)))

agree-op : (queues : List QueueId) (lanes : Lanes) (marks : List Mark) (op : Op) → queues_in marks ≡ queues
    → Agree lanes marks → AllByRecursion HasCarry marks → MayFollow queues (known marks) op
    → Added queues lanes marks op
agree-op queues lanes marks op of agree each may =
    let id : QueueId = queue op in
    let s : Stable = unwrap_or (lanes id.0) new_state in
    let here : known marks id.0 ≡ carry_in lanes id =
    agree-known lanes marks id agree (subst (λ (l : List QueueId). is_listed l id ≡ true) (sym of) may.listed) in
    let follows : follows_carry (carry_of id s) op ≡ true =
    subst (λ (c : Carry). follows_carry c op ≡ true)
    (ap (λ (o : Option Carry). carry_or_new o id) here ∙ or-new id (lanes id.0)) may.follows in
    let none : s.segments ≡ [] =
    plain-state id (lanes id.0) (subst (λ (o : Option Carry). IfSome o IsCarry) here (known-has marks id.0 each)) in
    let step = next id s op follows none in
    record {
      after = put lanes id.0 (Some step.state);
      is =
          ap (λ (t : Bool). cond t (put_lane lanes id (apply_op s op)) None)
          (and_from (is_listed queues id && is_op_within_ends op) (is_change op)
          (and_from (is_listed queues id) (is_op_within_ends op) may.listed may.ends) may.change)
          ∙ ap (λ (o : Option Stable). put_lane lanes id o) step.is;
      agree = agree-put lanes op s step.state refl step.carry marks agree;
    }

-- what ops that follow make of the lanes
pub record Replayed (queues : List QueueId) (lanes : Lanes) (marks : List Mark) (rs : List LogRecord) : Type 0 where
  pub after : Lanes
  pub is : replay (wal queues) rs (Some lanes) ≡ Some after
  pub agree : Agree after (fold note_record marks rs)

pub agree-all : (queues : List QueueId) (rs : List LogRecord) (lanes : Lanes) (marks : List Mark)
    → queues_in marks ≡ queues → Agree lanes marks → AllByRecursion HasCarry marks
    → AllFollow queues (known marks) rs → AllByRecursion FitsBatch rs → Replayed queues lanes marks rs
agree-all queues [] lanes marks of agree each all fits = record { after = lanes; is = refl; agree = agree }
agree-all queues (OpRecord op ∷ rs) lanes marks of agree each all fits =
    let one = agree-op queues lanes marks op of agree each all.0 in
    let same : known (note_all marks op) ≡ add_op (known marks) op =
    known-note marks op (subst (λ (l : List QueueId). is_listed l (queue op) ≡ true) (sym of) all.0.listed) in
    let later = agree-all queues rs one.after (note_all marks op) (note-queues marks op ∙ of) one.agree
    (note-carries marks op each all.0.ends fits.0.0.fields)
    (subst (λ (c : Carries). AllFollow queues c rs) (sym same) all.1) fits.1 in
    record {
      after = later.after;
      is = ap (λ (o : Option Lanes). replay (wal queues) rs o) one.is ∙ later.is;
      agree = later.agree;
    }
agree-all queues (CarryRecord c ∷ rs) lanes marks of agree each all fits = absurd all

pub agree-synced : (lanes : Lanes) (marks : List Mark) → Agree lanes marks → Agree lanes (map sync_mark marks)
agree-synced lanes [] agree = tt
agree-synced lanes (m ∷ marks) agree = (agree.0, agree-synced lanes marks agree.1)

-- ---- the carries of a new file

pub agree-carries : (lanes : Lanes) (marks : List Mark) → Agree lanes marks
    → carries_in marks ≡ carries_of (queues_in marks) lanes
agree-carries lanes [] agree = refl
agree-carries lanes (m ∷ marks) agree =
    ap (λ (o : Option Carry). option_to_list o ++ carries_in marks) agree.0
    ∙ ap (λ (l : List Carry). option_to_list (carry_in lanes m.queue) ++ l) (agree-carries lanes marks agree.1)

module _ (same : (id : QueueId) (s : Stable) → restates (carry_of id s) s ≡ true) (queues : List QueueId)
    (lanes : Lanes) where
  restate-part : (ids : List QueueId) → AllByRecursion (λ (id : QueueId). is_listed queues id ≡ true) ids
      → AllByRecursion IsCarry (carries_of ids lanes)
      → Restate (wal queues) lanes (map CarryRecord (carries_of ids lanes))
  restate-part [] listed each = tt
  restate-part (id ∷ ids) listed each = by (lanes id.0) refl each (restate-part ids listed.1)
    where
      by : (o : Option Stable) → lanes id.0 ≡ o
          → AllByRecursion IsCarry (option_to_list (option_map (carry_of id) o) ++ carries_of ids lanes)
          → (AllByRecursion IsCarry (carries_of ids lanes)
          → Restate (wal queues) lanes (map CarryRecord (carries_of ids lanes)))
          → Restate (wal queues) lanes
          (map CarryRecord (option_to_list (option_map (carry_of id) o) ++ carries_of ids lanes))
      by None e each later = later each
      by (Some s) e each later = (
        carry-restates queues (carry_of id s) lanes s e (same id s) listed.0
            each.0.ends each.0.plain,
        later each.1,
      )

-- each queue is one of its list
listed-more : (queues more : List QueueId) (id : QueueId) → is_listed queues id ≡ true
    → is_listed (more ++ queues) id ≡ true
listed-more queues [] id listed = listed
listed-more queues (other ∷ more) id listed =
    ap (λ (t : Bool). eqb other.0 id.0 || t) (listed-more queues more id listed) ∙ either (eqb other.0 id.0)
  where
    either : (t : Bool) → (t || true) ≡ true
    either true = refl
    either false = refl

pub listed-self : (front queues : List QueueId)
    → AllByRecursion (λ (id : QueueId). is_listed (front ++ queues) id ≡ true) queues
listed-self front [] = tt
listed-self front (id ∷ queues) = (
  listed-more (id ∷ queues) front id
      (ap (λ (t : Bool). t || is_listed queues id) (eq-eqb id.0 id.0 refl)),
  subst (λ (l : List QueueId). AllByRecursion (λ (id : QueueId). is_listed l id ≡ true) queues)
      (append_assoc front (id ∷ []) queues) (listed-self (front ++ id ∷ []) queues),
)

-- the carries of lanes restate them
pub carries-restate : (same : (id : QueueId) (s : Stable) → restates (carry_of id s) s ≡ true) (queues : List QueueId) (lanes : Lanes) → AllByRecursion IsCarry (carries_of queues lanes)
    → Restate (wal queues) lanes (map CarryRecord (carries_of queues lanes))
carries-restate same queues lanes each = restate-part same queues lanes queues (listed-self [] queues) each

-- those that marks have may be written
pub marks-have : (marks : List Mark) → AllByRecursion HasCarry marks → AllByRecursion IsCarry (carries_in marks)
marks-have [] each = tt
marks-have (m ∷ marks) each =
    AllByRecursion-append IsCarry (option_to_list m.carry) (carries_in marks) (by m.carry each.0)
    (marks-have marks each.1)
  where
    by : (o : Option Carry) → IfSome o IsCarry → AllByRecursion IsCarry (option_to_list o)
    by None has = tt
    by (Some c) has = (has, tt)

-- ---- the marks of a log that is begun

either-way : (t : Bool) (o : Option Carry) → cond t o o ≡ o
either-way true o = refl
either-way false o = refl

-- among the carries of lanes each queue's is found
carry-found : (lanes : Lanes) (queues : List QueueId) (id : QueueId)
    → carry_for (carries_of queues lanes) id ≡ cond (is_listed queues id) (carry_in lanes id) None
carry-found lanes [] id = refl
carry-found lanes (q ∷ queues) id = by (lanes q.0) refl (eqb q.0 id.0) refl (carry-found lanes queues id)
  where
    by : (o : Option Stable) → lanes q.0 ≡ o → (t : Bool) → eqb q.0 id.0 ≡ t
        → carry_for (carries_of queues lanes) id ≡ cond (is_listed queues id) (carry_in lanes id) None
        → carry_for (option_to_list (option_map (carry_of q) o) ++ carries_of queues lanes) id
        ≡ cond (t || is_listed queues id) (carry_in lanes id) None
    by None e true same later =
        let none : carry_in lanes id ≡ None =
        ap (λ (id : QueueId). carry_in lanes id) (sym (same_queue q id (eqb-true q.0 id.0 same)))
        ∙ ap (λ (o : Option Stable). option_map (carry_of q) o) e in
        later ∙ ap (λ (o : Option Carry). cond (is_listed queues id) o None) none ∙ either-way (is_listed queues id) None
        ∙ sym none
    by None e false same later = later
    by (Some s) e true same later =
        ap (λ (t : Bool). cond t (Some (carry_of q s)) (carry_for (carries_of queues lanes) id)) same
        ∙ sym (ap (λ (o : Option Stable). option_map (carry_of q) o) e)
        ∙ ap (λ (id : QueueId). carry_in lanes id) (same_queue q id (eqb-true q.0 id.0 same))
    by (Some s) e false same later =
        ap (λ (t : Bool). cond t (Some (carry_of q s)) (carry_for (carries_of queues lanes) id)) same ∙ later

-- so the marks have what the lanes come to
new-agree : (lanes : Lanes) (queues ids : List QueueId)
    → AllByRecursion (λ (id : QueueId). is_listed queues id ≡ true) ids
    → Agree lanes (map (new_mark (carries_of queues lanes)) ids)
new-agree lanes queues [] listed = tt
new-agree lanes queues (id ∷ ids) listed = (
  carry-found lanes queues id ∙ ap (λ (t : Bool). cond t (carry_in lanes id) None) listed.0,
  new-agree lanes queues ids listed.1,
)

pub begun-agree : (lanes : Lanes) (queues : List QueueId)
    → Agree lanes (map (new_mark (carries_of queues lanes)) queues)
begun-agree lanes queues = new-agree lanes queues queues (listed-self [] queues)

pub begun-queues : (carries : List Carry) (queues : List QueueId)
    → queues_in (map (new_mark carries) queues) ≡ queues
begun-queues carries [] = refl
begun-queues carries (id ∷ queues) = ap (λ (l : List QueueId). id ∷ l) (begun-queues carries queues)

found-is : (carries : List Carry) (id : QueueId) → AllByRecursion IsCarry carries → IfSome (carry_for carries id) IsCarry
found-is [] id each = tt
found-is (c ∷ carries) id each = by (eqb c.queue.0 id.0) (found-is carries id each.1)
  where
    by : (t : Bool) → IfSome (carry_for carries id) IsCarry → IfSome (cond t (Some c) (carry_for carries id)) IsCarry
    by true later = each.0
    by false later = later

pub begun-carries : (carries : List Carry) (queues : List QueueId) → AllByRecursion IsCarry carries
    → AllByRecursion HasCarry (map (new_mark carries) queues)
begun-carries carries [] each = tt
begun-carries carries (id ∷ queues) each = (found-is carries id each, begun-carries carries queues each)
