-- Where the entries lie that recovery read.
use Rattle.std.proofs.Common.{◌≡◌, ◌≤◌, ◌<◌, ◌+◌, ◌-◌, ◌&&◌, ◌||◌, ℕ, zero, suc, Bool, true, false, cond, eqb, leb, List, [], ◌∷◌, ◌++◌, length, map, take, replicate, Option, Some, None, Ok, Err, refl, sym, ap, subst, ◌∙◌, inl, inr, ◌⊎◌, arith, length-append, length-take, unwrap_or}
use Rattle.std.specs.List.{fold, list_all}
use Rattle.std.proofs.lemmas.Bool.{and_parts, cases_eq, eq-eqb, eqb-true, ne_eqb, leb-true}
use Rattle.std.proofs.lemmas.List.{length-map, length-replicate}
use Rattle.qq_base.specs.declared.ids.Index.{Index}
use Rattle.qq_base.specs.declared.ids.NodeId.{NodeId}
use Rattle.qq_base.specs.declared.ids.QueueId.{QueueId}
use Rattle.qq_base.specs.declared.ids.Term.{Term}
use Rattle.qq_entry.specs.declared.command.Entry.{Entry}
use Rattle.qq_disk.specs.Disk.{Disk}
use Rattle.qq_disk.specs.Image.{log_of}
use Rattle.qq_log.specs.Carries.{is_listed}
use Rattle.qq_log.specs.Above.{take_above}
use Rattle.qq_log.specs.declared.head.SnapshotHead.{SnapshotHead}
use Rattle.qq_log.specs.declared.lane.Carry.{Carry}
use Rattle.qq_log.specs.declared.op.Op.{Op}
use Rattle.qq_log.specs.declared.op.Op.TheVariants.{Change, SnapshotMade, SegmentMade}
use Rattle.qq_log.specs.Op.{queue}
use Rattle.qq_log.specs.Stable.{Stable, new_state, apply_op, change, follows, last_index as state_end, may_keep, restates, state_of, take_carry}
use Rattle.qq_wal_record.specs.declared.header.Header.{Header}
use Rattle.qq_wal_record.specs.declared.record.LogRecord.{LogRecord}
use Rattle.qq_wal_record.specs.declared.record.LogRecord.TheVariants.{Op as OpRecord, Carry as CarryRecord}
use Rattle.qq_wal_chain.specs.Chain.{Logs, good_length}
use Rattle.qq_wal_chain.specs.Image.{put}
use Rattle.qq_wal_chain.specs.Lanes.{Lanes, add_carry, add_op, add_record, has_entries, is_carry_within_ends, is_change, is_op_within_ends, is_plain, is_within_end, put_lane}
use Rattle.qq_wal_chain.specs.Wal.{no_lanes, wal}
use Rattle.qq_wal_chain.proofs.Walk.{put-at, put-other}
use Rattle.qq_wal.specs.declared.ranges.QueueRanges.{QueueRanges}
use Rattle.qq_wal.specs.Entries.{IsRangeOf, LieAs, files_behind}
use Rattle.qq_wal.specs.Ranges.{AllRanges, as_indices, begin_file, begin_files, begin_queue, change_by, enter_file, in_file, in_file_by, list_queue, new_ranges, no_queues, places_of, put_ranges, ranges_in, ranges_of, write, write_op_in}
use Rattle.qq_wal.specs.Spans.{Range, find_file}
use Rattle.qq_wal.specs.Running.{top}
use Rattle.qq_wal.proofs.Lying.{lie-begun, lie-entered, lie-found, lie-written, new-lies}
use Rattle.qq_recover.specs.declared.fault.RecoverFault.TheVariants.{Damaged}
use Rattle.qq_recover.specs.declared.file.ChainFile.{ChainFile}
use Rattle.qq_recover.specs.declared.recovered.Recovered.{Recovered}
use Rattle.qq_recover.specs.Answer.{Answer, ◌>>=◌, or_refuse}
use Rattle.qq_recover.specs.Entries.{entry_files, find_files, find_in, find_op, find_record, ranges_read, with_record}
use Rattle.qq_recover.specs.Files.{chain_file, chain_files, file_at}
use Rattle.qq_recover.specs.Placed.{Placed}
use Rattle.qq_recover.specs.Reading.{files_read, lanes_read, newest_file, shown}
use Rattle.qq_recover.specs.Recovered.{IsBegunBehind, wal_of}
use Rattle.qq_recover.specs.Replay.{replay_files, replay_records}
use Rattle.qq_recover.proofs.Starts.{newest-within-listed}
use Rattle.qq_recover.proofs.Tables.{same_number}
use Rattle.qq_recover.proofs.Way.{file-back, file-number}

-- ---- what is known of one queue

-- of each entry of a queue's state, its file
abbrev pub TellsEach : Option Stable → List ℕ → Type 0
TellsEach None files = files ≡ []
TellsEach (Some s) files = (s.base.index.0 ≡ 0) × (length s.log ≡ length files)

-- once records were read as far as file n
pub record Knows (id : ℕ) (lanes : Lanes) (files : List ℕ) (all : AllRanges) (n : ℕ) : Type 0 where
  pub q : QueueRanges
  pub is : all id ≡ Some q
  pub lies : LieAs files q
  pub file : q.file ≤ n
  pub each : TellsEach (lanes id) files

knows-later : (id : ℕ) (lanes : Lanes) (files : List ℕ) (all : AllRanges) (m n : ℕ) → m ≤ n
    → Knows id lanes files all m → Knows id lanes files all n
knows-later id lanes files all m n le k =
    record { q = k.q; is = k.is; lies = k.lies; file = omega (arith, le, k.file); each = k.each }

-- ---- ranges by queue

put-here : (all : AllRanges) (id : ℕ) (q : QueueRanges) → put_ranges all id q id ≡ Some q
put-here all id q =
    ap (λ (t : Bool). cond t (Some q) (all id)) (same_number id id ∙ eq-eqb id id refl)

put-away : (all : AllRanges) (own id : ℕ) (q : QueueRanges) → (own ≡ id → ⊥) → put_ranges all own q id ≡ all id
put-away all own id q apart =
    ap (λ (t : Bool). cond t (Some q) (all id)) (same_number own id ∙ ne_eqb own id apart)

pub change-here : (f : QueueRanges → QueueRanges) (all : AllRanges) (id : ℕ) (o : Option QueueRanges) (q : QueueRanges)
    → o ≡ Some q → change_by f all id o id ≡ Some (f q)
change-here f all id o q is = ap (λ (o : Option QueueRanges). change_by f all id o id) is ∙ put-here all id (f q)

pub change-away : (f : QueueRanges → QueueRanges) (all : AllRanges) (own id : ℕ) (o : Option QueueRanges)
    → (own ≡ id → ⊥) → change_by f all own o id ≡ all id
change-away f all own id None apart = refl
change-away f all own id (Some q) apart = put-away all own id (f q) apart

entered-file : (n : ℕ) (q : QueueRanges) → (enter_file n q).file ≡ n
entered-file n q = by (eqb q.file n) refl
  where
    by : (t : Bool) → eqb q.file n ≡ t → (cond t q (begin_file n q)).file ≡ n
    by true e = eqb-true q.file n e
    by false e = refl

-- ---- an op more

-- what a change makes of a state
record Changes (s t : Stable) (keep : ℕ) (entries : List Entry) : Type 0 where
  within : keep ≤ s.base.index.0 + length s.log
  base : t.base ≡ s.base
  log : t.log ≡ take_above s.base.index.0 keep s.log ++ map Some entries

changes : (s t : Stable) (id : QueueId) (n : ℕ) (term : Term) (vote : Option NodeId) (keep : Index)
    (entries : List Entry) → apply_op s (Change id n term vote keep entries) ≡ Some t → Changes s t keep.0 entries
unfolding apply_op change
changes s t id n term vote keep entries e = by (follows s n) (may_keep (record s { op = n }) keep.0) refl e
  where
    made : Stable
    made = change (record s { op = n }) term vote keep.0 entries

    by : (one two : Bool) → may_keep (record s { op = n }) keep.0 ≡ two
        → cond one (cond two (Some made) None) None ≡ Some t → Changes s t keep.0 entries
    by true true may e =
        let parts = and_parts (leb s.base.index.0 keep.0) (leb keep.0 (state_end s)) may in
        let same : made ≡ t = cc in
        record {
          within = leb-true keep.0 (state_end s) parts.1;
          base = ap (λ (t : Stable). t.base) (sym same);
          log = ap (λ (t : Stable). t.log) (sym same);
        }
    by true false may e = absurd cc
    by false two may e = absurd cc

state-each : (o : Option Stable) (files : List ℕ) → TellsEach o files
    → ((unwrap_or o new_state).base.index.0 ≡ 0) × (length (unwrap_or o new_state).log ≡ length files)
state-each None files each = (refl, ap length (sym each))
state-each (Some s) files each = each

module _ (queues : List QueueId) (n : ℕ) (lanes next : Lanes) (all : AllRanges) where
  module _ (q : QueueId) (m : ℕ) (term : Term) (vote : Option NodeId) (keep : Index) (entries : List Entry) where
    abbrev op : Op
    op = Change q m term vote keep entries

    -- a change of the queue
    own-change : (files : List ℕ) (t : Stable) → apply_op (unwrap_or (lanes q.0) new_state) op ≡ Some t
        → Knows q.0 lanes files all n → next ≡ put lanes q.0 (Some t)
        → Knows q.0 next (files_behind files n op) (write_op_in n all op) n
    own-change files t is k so =
        let s = unwrap_or (lanes q.0) new_state in
        let c = changes s t q m term vote keep entries is in
        let each = state-each (lanes q.0) files k.each in
        let within : keep.0 ≤ length files = omega (arith, c.within, each.0, each.1) in
        let entered = enter_file n k.q in
        let at : entered.file ≡ n = entered-file n k.q in
        let long : length t.log ≡ length (take keep.0 files ++ replicate (length entries) n) = omega (
          arith,
          ap length c.log,
          length-append (take_above s.base.index.0 keep.0 s.log) (map Some entries),
          length-map entries Some,
          length-take (keep.0 - s.base.index.0) s.log,
          length-append (take keep.0 files) (replicate (length entries) n),
          length-take keep.0 files,
          length-replicate (length entries) n,
          each.0,
          each.1,
          within,
        ) in
        record {
          q = write keep.0 (length entries) entered;
          is = change-here (λ (r : QueueRanges). write keep.0 (length entries) (enter_file n r)) all q.0 (all q.0) k.q k.is;
          lies = subst (λ (f : ℕ). LieAs (take keep.0 files ++ replicate (length entries) f)
              (write keep.0 (length entries) entered)) at
              (lie-written files entered (lie-entered files k.q k.lies n k.file) keep.0 (length entries) within);
          file = omega (arith, at);
          each = subst (λ (o : Option Stable). TellsEach o (take keep.0 files ++ replicate (length entries) n))
              (sym (ap (λ (l : Lanes). l q.0) so ∙ put-at lanes q.0 (Some t)))
              (ap (λ (b : SnapshotHead). b.index.0) c.base ∙ each.0, long);
        }

    -- and of another one
    other-change : (id : ℕ) (files : List ℕ) (t : Stable) → (q.0 ≡ id → ⊥) → Knows id lanes files all n
        → next ≡ put lanes q.0 (Some t) → Knows id next files (write_op_in n all op) n
    other-change id files t apart k so = record {
      q = k.q;
      is = change-away (λ (r : QueueRanges). write keep.0 (length entries) (enter_file n r)) all q.0 id (all q.0) apart
          ∙ k.is;
      lies = k.lies;
      file = k.file;
      each = subst (λ (o : Option Stable). TellsEach o files)
          (sym (ap (λ (l : Lanes). l id) so ∙ put-other lanes q.0 id (Some t) apart)) k.each;
    }

    one-change : (id : ℕ) (files : List ℕ) → is_op_within_ends op ≡ true
        → put_lane lanes q (apply_op (unwrap_or (lanes q.0) new_state) op) ≡ Some next → Knows id lanes files all n
        → Knows id next (with_record id n files (OpRecord op)) (find_op n all op) n
    one-change id files ends e k =
        subst (λ (a : AllRanges). Knows id next (with_record id n files (OpRecord op)) a n) (sym finds)
        (applied (apply_op (unwrap_or (lanes q.0) new_state) op) refl e (cases_eq q.0 id))
      where
        parts : (is_within_end m && is_within_end term.0 && is_within_end (keep.0 + length entries)) ≡ true
        parts =
            (and_parts (is_within_end m && is_within_end term.0 && is_within_end (keep.0 + length entries))
            (list_all (λ (e : Entry). is_within_end e.term.0) entries) ends).0

        finds : find_op n all op ≡ write_op_in n all op
        finds =
            ap (λ (t : Bool). cond t (write_op_in n all op) all)
            (and_parts (is_within_end m && is_within_end term.0) (is_within_end (keep.0 + length entries)) parts).1

        applied : (o : Option Stable) → apply_op (unwrap_or (lanes q.0) new_state) op ≡ o
            → put_lane lanes q o ≡ Some next → (q.0 ≡ id) ⊎ (q.0 ≡ id → ⊥)
            → Knows id next (with_record id n files (OpRecord op)) (write_op_in n all op) n
        applied None is e which = absurd cc
        applied (Some t) is e (inl here) =
            let so : next ≡ put lanes q.0 (Some t) = cc in
            let own : Knows q.0 lanes files all n = subst (λ (i : ℕ). Knows i lanes files all n) (sym here) k in
            subst (λ (b : Bool). Knows id next (cond b (files_behind files n op) files) (write_op_in n all op) n)
            (sym (eq-eqb q.0 id here))
            (subst (λ (i : ℕ). Knows i next (files_behind files n op) (write_op_in n all op) n) here
            (own-change files t is own so))
        applied (Some t) is e (inr apart) =
            let so : next ≡ put lanes q.0 (Some t) = cc in
            subst (λ (b : Bool). Knows id next (cond b (files_behind files n op) files) (write_op_in n all op) n)
            (sym (ne_eqb q.0 id apart)) (other-change id files t apart k so)

  one-op : (id : ℕ) (files : List ℕ) (op : Op) → add_op queues op lanes ≡ Some next → Knows id lanes files all n
      → Knows id next (with_record id n files (OpRecord op)) (find_op n all op) n
  one-op id files op e k =
      by (is_listed queues (queue op) && is_op_within_ends op && is_change op) refl e
    where
      taken : (op : Op) → is_op_within_ends op ≡ true → is_change op ≡ true
          → put_lane lanes (queue op) (apply_op (unwrap_or (lanes (queue op).0) new_state) op) ≡ Some next
          → Knows id next (with_record id n files (OpRecord op)) (find_op n all op) n
      taken (Change q m term vote keep entries) ends change e = one-change q m term vote keep entries id files ends e k
      taken (SnapshotMade q m head file) ends change e = absurd (cc change)
      taken (SegmentMade q m file first last) ends change e = absurd (cc change)

      by : (t : Bool) → (is_listed queues (queue op) && is_op_within_ends op && is_change op) ≡ t
          → cond t (put_lane lanes (queue op) (apply_op (unwrap_or (lanes (queue op).0) new_state) op)) None ≡ Some next
          → Knows id next (with_record id n files (OpRecord op)) (find_op n all op) n
      by false is e = absurd cc
      by true is e =
          let outer = and_parts (is_listed queues (queue op) && is_op_within_ends op) (is_change op) is in
          taken op (and_parts (is_listed queues (queue op)) (is_op_within_ends op) outer.0).1 outer.1 e

  -- ---- a carry more

  one-carry : (id : ℕ) (files : List ℕ) (c : Carry) → add_carry queues c lanes ≡ Some next
      → Knows id lanes files all n → Knows id next files all n
  unfolding take_carry
  one-carry id files c e k =
      by (is_listed queues c.queue && is_carry_within_ends c && is_plain c && has_entries (lanes c.queue.0) c) refl e
    where
      given : ((t : Stable) → next c.queue.0 ≡ Some t → TellsEach (lanes c.queue.0) files → TellsEach (Some t) files)
          → (t : Stable) → next ≡ put lanes c.queue.0 (Some t) → (c.queue.0 ≡ id) ⊎ (c.queue.0 ≡ id → ⊥)
          → Knows id next files all n
      given own t so (inl here) =
          let at : next c.queue.0 ≡ Some t = ap (λ (l : Lanes). l c.queue.0) so ∙ put-at lanes c.queue.0 (Some t) in
          record {
            q = k.q;
            is = k.is;
            lies = k.lies;
            file = k.file;
            each = subst (λ (i : ℕ). TellsEach (next i) files) here
                (subst (λ (o : Option Stable). TellsEach o files) (sym at)
                (own t at (subst (λ (i : ℕ). TellsEach (lanes i) files) (sym here) k.each)));
          }
      given own t so (inr apart) = record {
        q = k.q;
        is = k.is;
        lies = k.lies;
        file = k.file;
        each = subst (λ (o : Option Stable). TellsEach o files)
            (sym (ap (λ (l : Lanes). l id) so ∙ put-other lanes c.queue.0 id (Some t) apart)) k.each;
      }

      base : is_plain c ≡ true → c.base.index.0 ≡ 0
      base plain = eqb-true c.base.index.0 0 (and_parts (eqb c.base.index.0 0) (eqb (length c.segments) 0) plain).0

      anew : is_plain c ≡ true → eqb c.last.0 0 ≡ true → (t : Stable) → state_of c ≡ t → files ≡ []
          → TellsEach (Some t) files
      anew plain last t same none =
          let unknown : Option Entry = None in
          let end : c.last.0 ≡ 0 = eqb-true c.last.0 0 last in
          let empty : length (state_of c).log ≡ 0 = ap (λ (k : ℕ). length (replicate (k - c.base.index.0) unknown)) end
          ∙ ap (λ (k : ℕ). length (replicate (0 - k) unknown)) (base plain) in
          let long : length t.log ≡ length (state_of c).log = ap (λ (s : Stable). length s.log) (sym same) in (
            ap (λ (s : Stable). s.base.index.0) (sym same) ∙ base plain,
            long ∙ empty ∙ ap length (sym none),
          )

      taken : (o : Option Stable) → lanes c.queue.0 ≡ o → is_plain c ≡ true → has_entries o c ≡ true
          → put_lane lanes c.queue (take_carry o c) ≡ Some next → Knows id next files all n
      taken None here plain last e = first (leb c.base.index.0 c.last.0) e
        where
          first : (t : Bool) → put_lane lanes c.queue (cond t (Some (state_of c)) None) ≡ Some next
              → Knows id next files all n
          first false e = absurd cc
          first true e =
              let so : next ≡ put lanes c.queue.0 (Some (state_of c)) = cc in
              given (λ t at each. anew plain last t
              (let same : Some (state_of c) ≡ Some t = sym (put-at lanes c.queue.0 (Some (state_of c)))
              ∙ ap (λ (l : Lanes). l c.queue.0) (sym so) ∙ at in cc)
              (subst (λ (o : Option Stable). TellsEach o files) here each)) (state_of c) so (cases_eq c.queue.0 id)
      taken (Some s) here plain last e = again (restates c s) e
        where
          again : (t : Bool) → put_lane lanes c.queue (cond t (Some s) None) ≡ Some next → Knows id next files all n
          again false e = absurd cc
          again true e =
              let so : next ≡ put lanes c.queue.0 (Some s) = cc in
              given (λ t at each. subst (λ (o : Option Stable). TellsEach o files)
              (here ∙ sym (put-at lanes c.queue.0 (Some s)) ∙ ap (λ (l : Lanes). l c.queue.0) (sym so) ∙ at) each)
              s so (cases_eq c.queue.0 id)

      by : (t : Bool)
          → (is_listed queues c.queue && is_carry_within_ends c && is_plain c && has_entries (lanes c.queue.0) c) ≡ t
          → cond t (put_lane lanes c.queue (take_carry (lanes c.queue.0) c)) None ≡ Some next
          → Knows id next files all n
      by false is e = absurd cc
      by true is e =
          let outer = and_parts (is_listed queues c.queue && is_carry_within_ends c && is_plain c)
          (has_entries (lanes c.queue.0) c) is in
          let plain = (and_parts (is_listed queues c.queue && is_carry_within_ends c) (is_plain c) outer.0).1 in
          taken (lanes c.queue.0) refl plain outer.1 e

  one-more : (id : ℕ) (files : List ℕ) (r : LogRecord) → add_record queues r lanes ≡ Some next
      → Knows id lanes files all n → Knows id next (with_record id n files r) (find_in n all r) n
  one-more id files (OpRecord op) e k = one-op id files op e k
  one-more id files (CarryRecord c) e k = one-carry id files c e k

-- ---- all records

records-more : (queues : List QueueId) (id n : ℕ) (rs : List Placed) (lanes next : Lanes) (files : List ℕ)
    (all : AllRanges) → replay_records queues n rs lanes ≡ Ok next → Knows id lanes files all n
    → Knows id next (fold (λ files (r : Placed). with_record id n files r.entry) files rs)
    (fold (find_record n) all rs) n
records-more queues id n [] lanes next files all e k =
    let same : lanes ≡ next = cc in subst (λ (l : Lanes). Knows id l files all n) same k
records-more queues id n (r ∷ rs) lanes next files all e k = by (add_record queues r.entry lanes) refl e
    (λ mid h l. records-more queues id n rs mid next (with_record id n files r.entry) (find_in n all r.entry) h l)
  where
    by : (o : Option Lanes) → add_record queues r.entry lanes ≡ o
        → (or_refuse (Damaged (log_of n) r.place) o >>= replay_records queues n rs) ≡ Ok next
        → ((mid : Lanes) → replay_records queues n rs mid ≡ Ok next
        → Knows id mid (with_record id n files r.entry) (find_in n all r.entry) n
        → Knows id next (fold (λ files (r : Placed). with_record id n files r.entry) (with_record id n files r.entry) rs)
        (fold (find_record n) (find_in n all r.entry) rs) n)
        → Knows id next (fold (λ files (r : Placed). with_record id n files r.entry) (with_record id n files r.entry) rs)
        (fold (find_record n) (find_in n all r.entry) rs) n
    by None is e later = absurd cc
    by (Some mid) is e later = later mid e (one-more queues n lanes mid all id files r.entry is k)

-- the files fall, from n on
abbrev Falls : ℕ → List ChainFile → Type 0
Falls n [] = Unit {0}
Falls n (file ∷ older) = (file.number ≤ n) × Falls file.number older

falls-from : (m n : ℕ) (files : List ChainFile) → m ≤ n → Falls m files → Falls n files
falls-from m n [] le falls = tt
falls-from m n (file ∷ older) le falls = (omega (arith, le, falls.0), falls.1)

falls-back : (queues : List QueueId) (b : ℕ) (logs : Logs) (n good : ℕ) (files : List ChainFile)
    → chain_files queues b logs n good ≡ Ok files → Falls n files
falls-back queues zero logs n good files e =
    let none : [] ≡ files = cc in subst (λ (l : List ChainFile). Falls n l) none tt
falls-back queues (suc b) logs n good files e =
    by (eqb n (suc b)) e (λ m g l h. falls-back queues b logs m g l h)
  where
    rest : Type 0
    rest = (m g : ℕ) (l : List ChainFile) → chain_files queues b logs m g ≡ Ok l → Falls m l

    behind : (bytes : List ℕ) (file : Header × ChainFile) → file_at queues n good bytes ≡ Ok file
        → (older : Answer (List ChainFile)) → chain_files queues b logs file.0.previous file.0.good ≡ older
        → (older >>= λ files. Ok (file.1 ∷ files)) ≡ Ok files → rest → Falls n files
    behind bytes file at (Err refusal) is e later = absurd cc
    behind bytes file at (Ok older) is e later =
        let same : file.1 ∷ older ≡ files = cc in
        let number : file.1.number ≡ n = file-number queues n good bytes file.0 file.1 at in
        let back : file.0.previous < n = file-back queues n good bytes file.0 file.1 at in
        subst (λ (l : List ChainFile). Falls n l) same (
          omega (arith, number),
          falls-from file.0.previous file.1.number older (omega (arith, number, back))
              (later file.0.previous file.0.good older is),
        )

    here : (bytes : List ℕ) (o : Answer (Header × ChainFile)) → file_at queues n good bytes ≡ o
        → (o >>= λ file. (chain_files queues b logs file.0.previous file.0.good >>= λ files. Ok (file.1 ∷ files)))
        ≡ Ok files → rest → Falls n files
    here bytes (Err refusal) at e later = absurd cc
    here bytes (Ok file) at e later =
        behind bytes file at (chain_files queues b logs file.0.previous file.0.good) refl e later

    file : (o : Option (List ℕ)) → chain_file queues (chain_files queues b logs) n good o ≡ Ok files → rest
        → Falls n files
    file None e later = let none : [] ≡ files = cc in subst (λ (l : List ChainFile). Falls n l) none tt
    file (Some bytes) e later = here bytes (file_at queues n good bytes) refl e later

    by : (t : Bool) → cond t (chain_file queues (chain_files queues b logs) n good (logs n))
        (chain_files queues b logs n good) ≡ Ok files → rest → Falls n files
    by true e later = file (logs n) e later
    by false e later = later n good files e

-- ---- all files

listed-ranges : (queues : List QueueId) (id : QueueId) (all : AllRanges)
    → (is_listed queues id ≡ true) ⊎ (all id.0 ≡ Some new_ranges)
    → fold list_queue all queues id.0 ≡ Some new_ranges
listed-ranges [] id all (inl listed) = absurd cc
listed-ranges [] id all (inr has) = has
listed-ranges (q ∷ queues) id all which =
    by (cases_eq q.0 id.0) which (λ l w. listed-ranges queues id l w)
  where
    more : AllRanges
    more = put_ranges all q.0 new_ranges

    by : (q.0 ≡ id.0) ⊎ (q.0 ≡ id.0 → ⊥) → (is_listed (q ∷ queues) id ≡ true) ⊎ (all id.0 ≡ Some new_ranges)
        → ((l : AllRanges) → (is_listed queues id ≡ true) ⊎ (l id.0 ≡ Some new_ranges)
        → fold list_queue l queues id.0 ≡ Some new_ranges)
        → fold list_queue more queues id.0 ≡ Some new_ranges
    by (inl here) which later =
        later more (inr (subst (λ (i : ℕ). more i ≡ Some new_ranges) here (put-here all q.0 new_ranges)))
    by (inr apart) (inl listed) later =
        later more (inl (sym (ap (λ (t : Bool). t || is_listed queues id) (ne_eqb q.0 id.0 apart)) ∙ listed))
    by (inr apart) (inr has) later = later more (inr (put-away all q.0 id.0 new_ranges apart ∙ has))

files-more : (queues : List QueueId) (id : QueueId) → is_listed queues id ≡ true → (files : List ChainFile) (n : ℕ)
    (lanes : Lanes) → Falls n files → replay_files queues files no_lanes ≡ Ok lanes
    → Knows id.0 lanes (entry_files id.0 files) (find_files files (ranges_of queues)) n
files-more queues id listed [] n lanes falls e =
    let same : no_lanes ≡ lanes = cc in
    subst (λ (l : Lanes). Knows id.0 l [] (ranges_of queues) n) same (record {
      q = new_ranges;
      is = listed-ranges queues id no_queues (inl listed);
      lies = new-lies;
      file = omega arith;
      each = refl;
    })
files-more queues id listed (file ∷ older) n lanes falls e =
    by (replay_files queues older no_lanes) refl e
    (λ mid h. files-more queues id listed older file.number mid falls.1 h)
  where
    by : (o : Answer Lanes) → replay_files queues older no_lanes ≡ o
        → (o >>= replay_records queues file.number file.records) ≡ Ok lanes
        → ((mid : Lanes) → replay_files queues older no_lanes ≡ Ok mid
        → Knows id.0 mid (entry_files id.0 older) (find_files older (ranges_of queues)) file.number)
        → Knows id.0 lanes (entry_files id.0 (file ∷ older)) (find_files (file ∷ older) (ranges_of queues)) n
    by (Err refusal) is e later = absurd cc
    by (Ok mid) is e later =
        knows-later id.0 lanes (entry_files id.0 (file ∷ older)) (find_files (file ∷ older) (ranges_of queues))
        file.number n falls.0
        (records-more queues id.0 file.number file.records mid lanes (entry_files id.0 older)
        (find_files older (ranges_of queues)) e (later mid is))

-- ---- what was read

module _ (queues : List QueueId) (logs : Logs) (files : List ChainFile) (lanes : Lanes) (id : QueueId)
    (listed : is_listed queues id ≡ true) (are : files_read queues logs ≡ Ok files)
    (read : lanes_read queues logs ≡ Ok lanes) where
  replayed : replay_files queues files no_lanes ≡ Ok lanes
  unfolding lanes_read
  replayed =
      sym (ap (λ (o : Answer (List ChainFile)). o >>= λ files. replay_files queues files no_lanes) are) ∙ read

  pub reread : (ranges : AllRanges) → ranges_read queues logs ≡ Ok ranges
      → Knows id.0 lanes (entry_files id.0 files) ranges (newest_file queues logs)
  reread ranges found =
      let n = newest_file queues logs in
      let both : Ok (find_files files (ranges_of queues)) ≡ Ok ranges = sym (ap (λ (o : Answer (List ChainFile)). o
      >>= λ files. Ok (find_files files (ranges_of queues))) are) ∙ found in
      let same : find_files files (ranges_of queues) ≡ ranges = cc in
      subst (λ (all : AllRanges). Knows id.0 lanes (entry_files id.0 files) all n) same
      (files-more queues id listed files n lanes
      (falls-back queues top logs n (good_length (wal queues) n (logs n)) files are) replayed)

-- ---- the log that goes on

pub begun-ranges : (queues : List QueueId) (file : ℕ) (old : AllRanges) (id : QueueId) (q : QueueRanges)
    → old id.0 ≡ Some q → (new : AllRanges)
    → (is_listed queues id ≡ true) ⊎ (new id.0 ≡ Some (begin_file file q))
    → fold (begin_queue file old) new queues id.0 ≡ Some (begin_file file q)
begun-ranges [] file old id q is new (inl listed) = absurd cc
begun-ranges [] file old id q is new (inr has) = has
begun-ranges (other ∷ queues) file old id q is new which =
    by (cases_eq other.0 id.0) which (λ l w. begun-ranges queues file old id q is l w)
  where
    more : AllRanges
    more = begin_queue file old new other

    by : (other.0 ≡ id.0) ⊎ (other.0 ≡ id.0 → ⊥)
        → (is_listed (other ∷ queues) id ≡ true) ⊎ (new id.0 ≡ Some (begin_file file q))
        → ((l : AllRanges) → (is_listed queues id ≡ true) ⊎ (l id.0 ≡ Some (begin_file file q))
        → fold (begin_queue file old) l queues id.0 ≡ Some (begin_file file q))
        → fold (begin_queue file old) more queues id.0 ≡ Some (begin_file file q)
    by (inl here) which later =
        later more (inr (subst (λ (i : ℕ). change_by (begin_file file) new i (old i) id.0 ≡ Some (begin_file file q))
        (sym here) (change-here (begin_file file) new id.0 (old id.0) q is)))
    by (inr apart) (inl listed) later =
        later more (inl (sym (ap (λ (t : Bool). t || is_listed queues id) (ne_eqb other.0 id.0 apart)) ∙ listed))
    by (inr apart) (inr has) later =
        later more (inr (change-away (begin_file file) new other.0 id.0 (old other.0) apart ∙ has))

pub told-in-files : {D : Type 0} (queues : List QueueId) (log_bytes : ℕ) (d : Disk) (r : Recovered D)
    (files : List ChainFile) (lanes : Lanes) (id : QueueId) (n : ℕ) → IsBegunBehind queues log_bytes d r
    → files_read queues (shown d) ≡ Ok files → lanes_read queues (shown d) ≡ Ok lanes → is_listed queues id ≡ true
    → (range : Range) × (in_file (ranges_in (wal_of r).ranges) id n ≡ as_indices range)
    × IsRangeOf (entry_files id.0 files) n range
told-in-files queues log_bytes d r files lanes id n behind are read listed =
    let k = reread queues (shown d) files lanes id listed are read behind.ranges behind.found in
    let file = (wal_of r).header.file in
    let newer : k.q.file < file = omega (
      arith,
      k.file,
      newest-within-listed queues d behind.names behind.listing,
      behind.above.file,
    ) in
    let q = begin_file file k.q in
    let lies : LieAs (entry_files id.0 files) q = lie-begun (entry_files id.0 files) k.q k.lies file newer in
    let at : ranges_in (wal_of r).ranges id.0 ≡ Some q =
    ap (λ (all : AllRanges). all id.0) behind.above.begun.ranges_are
    ∙ ap (λ (l : List QueueId). begin_files file l behind.ranges id.0) behind.above.queues_are
    ∙ begun-ranges queues file behind.ranges id k.q k.is no_queues (inl listed) in (
      find_file n (places_of q),
      ap (in_file_by n) at,
      lie-found (entry_files id.0 files) q lies n,
    )
