-- What counts as synced of a queue is kept, and is in every image.
use Rattle.std.proofs.Common.{◌≡◌, ◌≤◌, ◌+◌, ◌&&◌, ℕ, Bool, true, false, cond, eqb, List, [], ◌∷◌, ◌++◌, map, Option, Some, None, refl, sym, ap, subst, ◌∙◌, arith, append-nil, unwrap_or, option_map}
use Rattle.std.proofs.lemmas.List.Elements.{All-from_recursion}
use Rattle.qq_base.proofs.Lists.{AllByRecursion-append}
use Rattle.std.proofs.lemmas.Bool.{eqb-true}
use Rattle.std.specs.Prelude.{All, IfSome, option_to_list}
use Rattle.std.specs.List.{AllByRecursion, fold}
use Rattle.qq_base.specs.Fronts.{IsFront}
use Rattle.qq_base.specs.declared.ids.QueueId.{QueueId}
use Rattle.qq_disk.specs.Disk.{Disk}
use Rattle.qq_log.specs.Carries.{Carries, add_op, is_listed}
use Rattle.qq_log.specs.declared.lane.Carry.{Carry}
use Rattle.qq_log.specs.declared.op.Op.{Op}
use Rattle.qq_log.specs.declared.op.Op.TheVariants.{Change, SnapshotMade, SegmentMade}
use Rattle.qq_log.specs.Op.{number, queue}
use Rattle.qq_log.specs.Stable.{Stable, act, apply_op, carry_of, change, follows, may_keep, may_rebase, has_range, new_state, rebase, add_segment, restates, take_carry}
use Rattle.qq_wal_record.specs.declared.header.Header.{Header}
use Rattle.qq_wal_record.specs.declared.record.LogRecord.{LogRecord}
use Rattle.qq_wal_record.specs.declared.record.LogRecord.TheVariants.{Op as OpRecord, Carry as CarryRecord}
use Rattle.qq_wal_chain.specs.Format.{IsFormat}
use Rattle.qq_wal_chain.specs.Chain.{Found, Logs, Reading, reading}
use Rattle.qq_wal_chain.specs.Image.{IsLogImage, files_of, put}
use Rattle.qq_wal_chain.specs.Lanes.{Lanes, add_record, has_entries, is_carry_within_ends, is_change, is_op_within_ends, is_plain, put_lane}
use Rattle.qq_wal_chain.specs.Promise.{found_behind, found_world, kept_records, pending_records}
use Rattle.qq_wal_chain.specs.Records.{encode_all, file_records, replay}
use Rattle.qq_wal_chain.specs.Wal.{wal, Ours}
use Rattle.qq_wal_chain.proofs.Growing.{all-records, log-shows-world}
use Rattle.qq_wal_chain.proofs.Replays.{IsSome, replay-append, replay-front, replay-none}
use Rattle.qq_wal_chain.proofs.Running.{log-reads, log-shown, log_reading, world-added}
use Rattle.qq_wal.specs.declared.marks.Mark.{Mark}
use Rattle.qq_wal.specs.declared.notices.Notice.{Notice}
use Rattle.qq_wal.specs.Marks.{Agree, AllFollow, carry_in, queues_in}
use Rattle.qq_wal.specs.Notices.{AreCounted, AreNamed, carried_op, new_mark, note_all, note_record, notices_in, sync_mark, synced_in, synced_of}
use Rattle.qq_wal.specs.Running.{top, IsSynced, IsWrittenTo, lanes_kept, lanes_shown, op_in}
use Rattle.qq_wal.specs.Wal.{IsKept}
use Rattle.qq_wal.proofs.Agreeing.{agree-known, listed-self}
use Rattle.qq_wal.proofs.Counted.{counted-op, synced-counts}
use Rattle.qq_wal.proofs.Follows.{noted}

-- ---- records never take a queue's op back

sound-rises : (s t : Stable) (op : Op) → act s op ≡ Some t → s.op ≤ t.op
unfolding change rebase add_segment
sound-rises s t (Change id n term vote keep entries) is =
    by (may_keep s keep.0) is
  where
    by : (b : Bool) → cond b (Some (change s term vote keep.0 entries)) None ≡ Some t → s.op ≤ t.op
    by true e = let same : s.op ≡ t.op = ap (λ (o : Option Stable). (unwrap_or o new_state).op) e in omega (arith, same)
    by false e = absurd cc
sound-rises s t (SnapshotMade id n head file) is = by (may_rebase s head) is
  where
    by : (b : Bool) → cond b (Some (rebase s head file)) None ≡ Some t → s.op ≤ t.op
    by true e = let same : s.op ≡ t.op = ap (λ (o : Option Stable). (unwrap_or o new_state).op) e in omega (arith, same)
    by false e = absurd cc
sound-rises s t (SegmentMade id n file first last) is = by (has_range s first.0 last.0) is
  where
    by : (b : Bool) → cond b (Some (add_segment s file first last)) None ≡ Some t → s.op ≤ t.op
    by true e = let same : s.op ≡ t.op = ap (λ (o : Option Stable). (unwrap_or o new_state).op) e in omega (arith, same)
    by false e = absurd cc

op-rises : (s t : Stable) (op : Op) → apply_op s op ≡ Some t → s.op ≤ t.op
unfolding apply_op
op-rises s t op is = by (follows s (number op)) refl is
  where
    by : (b : Bool) → follows s (number op) ≡ b → cond b (act (record s { op = number op }) op) None ≡ Some t
        → s.op ≤ t.op
    by true e is =
        let next : number op ≡ s.op + 1 = eqb-true (number op) (s.op + 1) e in
        let up : number op ≤ t.op = sound-rises (record s { op = number op }) t op is in
        omega (arith, next, up)
    by false e is = absurd cc

carry-rises : (o : Option Stable) (t : Stable) (c : Carry) → take_carry o c ≡ Some t → (unwrap_or o new_state).op ≤ t.op
unfolding take_carry
carry-rises None t c is = let least : 0 ≤ t.op = omega arith in least
carry-rises (Some s) t c is = by (restates c s) is
  where
    by : (b : Bool) → cond b (Some s) None ≡ Some t → s.op ≤ t.op
    by true e = let same : s.op ≡ t.op = ap (λ (o : Option Stable). (unwrap_or o new_state).op) e in omega (arith, same)
    by false e = absurd cc

-- one queue's state is put in
put-rises : (lanes next : Lanes) (id : QueueId) (o : Option Stable)
    → ((t : Stable) → o ≡ Some t → op_in lanes id ≤ t.op) → put_lane lanes id o ≡ Some next → (other : QueueId)
    → op_in lanes other ≤ op_in next other
put-rises lanes next id None rises is other = absurd cc
put-rises lanes next id (Some t) rises is other =
    subst (λ (l : Lanes). op_in lanes other ≤ op_in l other) same (by (eqb id.0 other.0) refl)
  where
    same : put lanes id.0 (Some t) ≡ next
    same = ap (λ (o : Option Lanes). unwrap_or o lanes) is

    by : (b : Bool) → eqb id.0 other.0 ≡ b
        → op_in lanes other ≤ (unwrap_or (cond b (Some t) (lanes other.0)) new_state).op
    by true e =
        let here : id.0 ≡ other.0 = eqb-true id.0 other.0 e in
        subst (λ (n : ℕ). (unwrap_or (lanes n) new_state).op ≤ t.op) here (rises t refl)
    by false e = let same : op_in lanes other ≤ op_in lanes other = omega arith in same

record-rises : (queues : List QueueId) (r : LogRecord) (lanes next : Lanes) → add_record queues r lanes ≡ Some next
    → (id : QueueId) → op_in lanes id ≤ op_in next id
record-rises queues (OpRecord op) lanes next is id =
    by (is_listed queues (queue op) && is_op_within_ends op && is_change op) is
  where
    by : (b : Bool)
        → cond b (put_lane lanes (queue op) (apply_op (unwrap_or (lanes (queue op).0) new_state) op)) None ≡ Some next
        → op_in lanes id ≤ op_in next id
    by true e =
        put-rises lanes next (queue op) (apply_op (unwrap_or (lanes (queue op).0) new_state) op)
        (λ t is. op-rises (unwrap_or (lanes (queue op).0) new_state) t op is) e id
    by false e = absurd cc
record-rises queues (CarryRecord c) lanes next is id =
    by (is_listed queues c.queue && is_carry_within_ends c && is_plain c && has_entries (lanes c.queue.0) c) is
  where
    by : (b : Bool) → cond b (put_lane lanes c.queue (take_carry (lanes c.queue.0) c)) None ≡ Some next
        → op_in lanes id ≤ op_in next id
    by true e =
        put-rises lanes next c.queue (take_carry (lanes c.queue.0) c) (λ t is. carry-rises (lanes c.queue.0) t c is) e
        id
    by false e = absurd cc

none-some : (lanes : Lanes) → None ≡ Some lanes → ⊥
none-some lanes e = cc

pub replay-rises : (queues : List QueueId) (rs : List LogRecord) (lanes next : Lanes)
    → replay (wal queues) rs (Some lanes) ≡ Some next → (id : QueueId) → op_in lanes id ≤ op_in next id
replay-rises queues [] lanes next is id =
    subst (λ (l : Lanes). op_in lanes id ≤ op_in l id) (ap (λ (o : Option Lanes). unwrap_or o lanes) is) (omega arith)
replay-rises queues (r ∷ rs) lanes next is id =
    by (add_record queues r lanes) refl is (λ mid later. replay-rises queues rs mid next later id)
  where
    by : (o : Option Lanes) → add_record queues r lanes ≡ o → replay (wal queues) rs o ≡ Some next
        → ((mid : Lanes) → replay (wal queues) rs (Some mid) ≡ Some next → op_in mid id ≤ op_in next id)
        → op_in lanes id ≤ op_in next id
    by None e is rest = absurd (none-some next (sym (replay-none (wal queues) rs) ∙ is))
    by (Some mid) e is rest = omega (arith, record-rises queues r lanes mid e id, rest mid is)

-- ---- in every image

pub record HasSynced (queues : List QueueId) (marks : List Mark) (logs : Logs) : Type 0 where
  pub lanes : Lanes
  pub is : found_world (wal queues) ((reading (wal queues) top logs).found) ≡ Some lanes
  pub each : AllByRecursion (λ (m : Mark). m.synced ≤ op_in lanes m.queue) marks

all-rise : (marks : List Mark) (lanes next : Lanes) → ((id : QueueId) → op_in lanes id ≤ op_in next id)
    → AllByRecursion (λ (m : Mark). m.synced ≤ op_in lanes m.queue) marks
    → AllByRecursion (λ (m : Mark). m.synced ≤ op_in next m.queue) marks
all-rise [] lanes next rises each = tt
all-rise (m ∷ marks) lanes next rises each =
    (omega (arith, each.0, rises m.queue), all-rise marks lanes next rises each.1)

pub synced-at : (lanes : Lanes) (marks : List Mark) (id : QueueId)
    → AllByRecursion (λ (m : Mark). m.synced ≤ op_in lanes m.queue) marks → synced_in marks id ≤ op_in lanes id
synced-at lanes [] id each = let least : 0 ≤ op_in lanes id = omega arith in least
synced-at lanes (m ∷ marks) id each = by (eqb m.queue.0 id.0) refl (synced-at lanes marks id each.1)
  where
    by : (b : Bool) → eqb m.queue.0 id.0 ≡ b → synced_in marks id ≤ op_in lanes id
        → cond b m.synced (synced_in marks id) ≤ op_in lanes id
    by true e later =
        let here : m.queue.0 ≡ id.0 = eqb-true m.queue.0 id.0 e in
        subst (λ (n : ℕ). m.synced ≤ (unwrap_or (lanes n) new_state).op) here each.0
    by false e later = later

module _ (queues : List QueueId) (laws : IsFormat (wal queues)) (h : Header) (marks : List Mark) (d : Disk)
    (running : IsWrittenTo queues h d) where
  abbrev behind : Found (wal queues)
  behind = found_behind (wal queues) top (Ours h) (files_of d)

  abbrev kept : List LogRecord
  kept = kept_records (wal queues) h.file (files_of d)

  abbrev pending : List LogRecord
  pending = pending_records (wal queues) h.file (files_of d)

  shown-is : lanes_shown queues d ≡ replay (wal queues) (kept ++ pending) (Some behind.world)
  shown-is =
      log-shows-world (wal queues) laws top h.file (Ours h) behind kept pending (files_of d) running.log running.fit

  -- where nothing waits for a sync, all that the disk shows is kept
  pub clean-kept : IsSynced queues h d → lanes_kept queues h d ≡ lanes_shown queues d
  clean-kept clean =
      ap (λ (l : List LogRecord). replay (wal queues) l (Some behind.world))
      (sym (append-nil kept) ∙ ap (λ (l : List LogRecord). kept ++ l) (sym clean)) ∙ sym shown-is

  pub image-has : (shown : Lanes) → lanes_shown queues d ≡ Some shown → IsKept queues h marks d → (logs : Logs)
      → IsLogImage (wal queues) (files_of d) logs → HasSynced queues marks logs
  image-has shown is k logs image =
      let s = log-shown (wal queues) laws top h.file (Ours h) behind kept (encode_all (wal queues) h.file pending)
      (files_of d) running.log logs image in
      let rs : List LogRecord = file_records (wal queues) h.file s.bytes in
      let found : found_world (wal queues) ((reading (wal queues) top logs).found)
      ≡ replay (wal queues) rs (Some behind.world) =
      ap (λ (r : Reading (wal queues)). found_world (wal queues) r.found)
      (log-reads (wal queues) laws top h.file (Ours h) behind kept (encode_all (wal queues) h.file pending)
      (files_of d) running.log logs image
      ∙ ap (λ (o : Option (List ℕ)). log_reading (wal queues) laws h.file behind o) s.is)
      ∙ world-added (wal queues) laws h.file rs behind in
      let front : IsFront rs (kept ++ pending) = subst (λ (l : List LogRecord). IsFront rs l)
      (all-records (wal queues) laws top h.file (Ours h) behind kept pending (files_of d) running.log running.fit)
      s.front in
      let some : IsSome (wal queues) (replay (wal queues) (rs ++ front.rest) (Some behind.world)) = record {
        world = shown;
        is =
            ap (λ (l : List LogRecord). replay (wal queues) l (Some behind.world)) (sym front.is) ∙ sym shown-is
            ∙ is;
      } in
      let here = replay-front (wal queues) rs front.rest (Some behind.world) some in
      let on : replay (wal queues) s.held.rest (Some k.lanes) ≡ Some here.world =
      ap (λ (o : Option Lanes). replay (wal queues) s.held.rest o) (sym k.is)
      ∙ sym (replay-append (wal queues) kept s.held.rest (Some behind.world))
      ∙ ap (λ (l : List LogRecord). replay (wal queues) l (Some behind.world)) (sym s.held.is) ∙ here.is in
      record {
        lanes = here.world;
        is = found ∙ here.is;
        each = all-rise marks k.lanes here.world (λ id. replay-rises queues s.held.rest k.lanes here.world on id) k.each;
      }

-- ---- behind each call

-- where the kept part comes to the same
pub kept-as : (queues : List QueueId) (h next : Header) (marks : List Mark) (d e : Disk)
    → lanes_kept queues next e ≡ lanes_kept queues h d → IsKept queues h marks d → IsKept queues next marks e
kept-as queues h next marks d e same k = record { lanes = k.lanes; is = same ∙ k.is; each = k.each }

carried-in : (lanes : Lanes) (id : QueueId) (o : Option Stable) → lanes id.0 ≡ o
    → carried_op (option_map (carry_of id) o) ≤ (unwrap_or o new_state).op
carried-in lanes id None is = let same : 0 ≤ 0 = omega arith in same
carried-in lanes id (Some s) is = let same : s.op ≤ s.op = omega arith in same

mark-in : (lanes : Lanes) (m : Mark) → m.carry ≡ carry_in lanes m.queue → carried_op m.carry ≤ op_in lanes m.queue
mark-in lanes m agree =
    subst (λ (o : Option Carry). carried_op o ≤ op_in lanes m.queue) (sym agree)
    (carried-in lanes m.queue (lanes m.queue.0) refl)

synced-each : (lanes : Lanes) (marks : List Mark) → AreCounted marks → Agree lanes marks
    → AllByRecursion (λ (m : Mark). m.synced ≤ op_in lanes m.queue) (map sync_mark marks)
synced-each lanes [] counted agree = tt
synced-each lanes (m ∷ marks) counted agree =
    let low : synced_of m ≤ op_in lanes m.queue = omega (arith, counted.0, mark-in lanes m agree.0) in
    (low, synced-each lanes marks counted.1 agree.1)

-- a sync counts what it kept
pub synced-kept : (queues : List QueueId) (h : Header) (marks : List Mark) (d : Disk) (lanes : Lanes)
    → lanes_kept queues h d ≡ Some lanes → AreCounted marks → Agree lanes marks
    → IsKept queues h (map sync_mark marks) d
synced-kept queues h marks d lanes is counted agree =
    record { lanes = lanes; is = is; each = synced-each lanes marks counted agree }

begun-each : (lanes : Lanes) (carries : List Carry) (queues : List QueueId)
    → Agree lanes (map (new_mark carries) queues)
    → AllByRecursion (λ (m : Mark). m.synced ≤ op_in lanes m.queue) (map (new_mark carries) queues)
begun-each lanes carries [] agree = tt
begun-each lanes carries (id ∷ queues) agree =
    (mark-in lanes (new_mark carries id) agree.0, begun-each lanes carries queues agree.1)

pub begun-kept : (queues : List QueueId) (h : Header) (carries : List Carry) (marks : List Mark) (d : Disk)
    (lanes : Lanes) → marks ≡ map (new_mark carries) queues → lanes_kept queues h d ≡ Some lanes → Agree lanes marks
    → IsKept queues h marks d
begun-kept queues h carries marks d lanes are is agree = record {
  lanes = lanes;
  is = is;
  each = subst (λ (l : List Mark). AllByRecursion (λ (m : Mark). m.synced ≤ op_in lanes m.queue) l) (sym are)
      (begun-each lanes carries queues (subst (Agree lanes) are agree));
}

note-each : (lanes : Lanes) (op : Op) (marks : List Mark)
    → AllByRecursion (λ (m : Mark). m.synced ≤ op_in lanes m.queue) marks
    → AllByRecursion (λ (m : Mark). m.synced ≤ op_in lanes m.queue) (note_all marks op)
note-each lanes op [] each = tt
note-each lanes op (m ∷ marks) each = (by (eqb (queue op).0 m.queue.0), note-each lanes op marks each.1)
  where
    by : (t : Bool) → (cond t (noted op m) m).synced ≤ op_in lanes (cond t (noted op m) m).queue
    by true = each.0
    by false = each.0

-- what is appended doesn't count yet
pub noted-each : (lanes : Lanes) (rs : List LogRecord) (marks : List Mark)
    → AllByRecursion (λ (m : Mark). m.synced ≤ op_in lanes m.queue) marks
    → AllByRecursion (λ (m : Mark). m.synced ≤ op_in lanes m.queue) (fold note_record marks rs)
noted-each lanes [] marks each = each
noted-each lanes (OpRecord op ∷ rs) marks each = noted-each lanes rs (note_all marks op) (note-each lanes op marks each)
noted-each lanes (CarryRecord c ∷ rs) marks each = noted-each lanes rs marks each

pub noted-kept : (queues : List QueueId) (h : Header) (marks : List Mark) (rs : List LogRecord) (d e : Disk)
    → lanes_kept queues h e ≡ lanes_kept queues h d → IsKept queues h marks d
    → IsKept queues h (fold note_record marks rs) e
noted-kept queues h marks rs d e same k =
    record { lanes = k.lanes; is = same ∙ k.is; each = noted-each k.lanes rs marks k.each }

-- ---- the marks count, and their notices are of their queues

changes : (op : Op) (marks : List Mark) → is_change op ≡ true → AreCounted marks → AreCounted (note_all marks op)
changes (Change id n term vote keep entries) marks is each =
    counted-op (Change id n term vote keep entries) marks tt each
changes (SnapshotMade id n head file) marks is each = absurd cc
changes (SegmentMade id n file first last) marks is each = absurd cc

pub follow-counted : (queues : List QueueId) (carries : Carries) (rs : List LogRecord) (marks : List Mark)
    → AllFollow queues carries rs → AreCounted marks → AreCounted (fold note_record marks rs)
follow-counted queues carries [] marks all each = each
follow-counted queues carries (OpRecord op ∷ rs) marks all each =
    follow-counted queues (add_op carries op) rs (note_all marks op) all.1 (changes op marks all.0.change each)
follow-counted queues carries (CarryRecord c ∷ rs) marks all each = absurd all

named-op : (op : Op) (marks : List Mark) → AreNamed marks → AreNamed (note_all marks op)
named-op op [] each = tt
named-op op (m ∷ marks) each = (by (eqb (queue op).0 m.queue.0), named-op op marks each.1)
  where
    by : (t : Bool) → IfSome (cond t (noted op m) m).notice (λ n. n.queue ≡ (cond t (noted op m) m).queue)
    by true = refl
    by false = each.0

pub noted-named : (rs : List LogRecord) (marks : List Mark) → AreNamed marks → AreNamed (fold note_record marks rs)
noted-named [] marks each = each
noted-named (OpRecord op ∷ rs) marks each = noted-named rs (note_all marks op) (named-op op marks each)
noted-named (CarryRecord c ∷ rs) marks each = noted-named rs marks each

pub synced-named : (marks : List Mark) → AreNamed (map sync_mark marks)
synced-named [] = tt
synced-named (m ∷ marks) = (tt, synced-named marks)

pub begun-named : (carries : List Carry) (queues : List QueueId) → AreNamed (map (new_mark carries) queues)
begun-named carries [] = tt
begun-named carries (id ∷ queues) = (tt, begun-named carries queues)

-- ---- the notices of a sync

notices-part : (lanes : Lanes) (all marks : List Mark) → AreCounted all → Agree lanes all
    → AllByRecursion (λ (id : QueueId). is_listed (queues_in all) id ≡ true) (queues_in marks) → AreCounted marks
    → AreNamed marks → Agree lanes marks
    → AllByRecursion (λ (n : Notice). synced_in (map sync_mark all) n.queue ≡ n.op) (notices_in marks)
notices-part lanes all [] every agrees listed counted named agree = tt
notices-part lanes all (m ∷ marks) every agrees listed counted named agree =
    AllByRecursion-append (λ (n : Notice). synced_in (map sync_mark all) n.queue ≡ n.op) (option_to_list m.notice)
    (notices_in marks) (by m.notice refl)
    (notices-part lanes all marks every agrees listed.1 counted.1 named.1 agree.1)
  where
    by : (o : Option Notice) → m.notice ≡ o
        → AllByRecursion (λ (n : Notice). synced_in (map sync_mark all) n.queue ≡ n.op) (option_to_list o)
    by None e = tt
    by (Some n) e = (
      ap (λ (id : QueueId). synced_in (map sync_mark all) id)
          (subst (λ (o : Option Notice). IfSome o (λ n. n.queue ≡ m.queue)) e named.0)
          ∙ synced-counts all m.queue every
          ∙ ap carried_op (agree-known lanes all m.queue agrees listed.0 ∙ sym agree.0) ∙ sym counted.0
          ∙ ap (λ (o : Option Notice). unwrap_or (option_map (λ (n : Notice). n.op) o) m.synced) e,
      tt,
    )

-- each names an op that is synced of its queue then
pub notices-synced : (lanes : Lanes) (marks : List Mark) → AreCounted marks → AreNamed marks → Agree lanes marks
    → All (λ (n : Notice). synced_in (map sync_mark marks) n.queue ≡ n.op) (notices_in marks)
notices-synced lanes marks counted named agree =
    All-from_recursion (λ (n : Notice). synced_in (map sync_mark marks) n.queue ≡ n.op) (notices_in marks)
    (notices-part lanes marks marks counted agree (listed-self [] (queues_in marks)) counted named agree)
