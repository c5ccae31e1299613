-- The disk is as the log knows it, behind each call.
use Rattle.std.proofs.Common.{◌≡◌, ◌≤◌, ◌<◌, ◌+◌, arith, ℕ, zero, suc, Bool, true, false, cond, List, [], ◌∷◌, ◌++◌, length, map, max, Option, Some, None, refl, sym, ap, subst, ◌∙◌, append-nil, length-append, unwrap_or, is_some, slice_index_or, IsTrue}
use Rattle.std.specs.List.{AllByRecursion, fold}
use Rattle.qq_base.specs.declared.ids.QueueId.{QueueId}
use Rattle.qq_disk.specs.declared.name.FileKind.TheVariants.{Log}
use Rattle.qq_disk.specs.declared.name.FileName.{FileName}
use Rattle.qq_disk.specs.Disk.{Disk, FileState, content, file_content, contents, IsListing, IsListed}
use Rattle.qq_disk.specs.Image.{log_of}
use Rattle.qq_log.specs.declared.lane.Carry.{Carry}
use Rattle.qq_log.specs.declared.op.Op.{Op}
use Rattle.qq_log.specs.Stable.{Stable, carry_of, restates}
use Rattle.qq_wal_record.specs.declared.header.Header.{Header}
use Rattle.qq_wal_record.specs.Reading.{IsHeader}
use Rattle.qq_wal_record.specs.declared.record.LogRecord.{LogRecord}
use Rattle.qq_wal_record.specs.declared.record.LogRecord.TheVariants.{Carry as CarryRecord}
use Rattle.qq_wal_chain.specs.Format.{IsFormat}
use Rattle.qq_wal_chain.specs.Lanes.{Lanes}
use Rattle.qq_wal_chain.specs.Chain.{Found, reading}
use Rattle.qq_wal_chain.specs.Image.{files_of, shown_logs}
use Rattle.qq_wal_chain.specs.Records.{Restate, encode_all, end_of, replay}
use Rattle.qq_wal_chain.specs.Promise.{Continues, IsLog, found_behind, found_world, kept_records}
use Rattle.qq_wal_chain.specs.Laws.{op_records}
use Rattle.qq_wal_chain.specs.Wal.{wal, Ours, encode_header, RecordFits}
use Rattle.qq_wal_chain.proofs.Calls.{roll-continues}
use Rattle.qq_wal_chain.proofs.Growing.{log-shows-world}
use Rattle.qq_wal.specs.declared.marks.Mark.{Mark}
use Rattle.qq_wal.specs.declared.numbers.Numbers.{Numbers}
use Rattle.qq_wal.specs.Batch.{FitsBatch}
use Rattle.qq_wal.specs.Marks.{IsCarry, AllFollow, HasCarry, Agree, known, queues_in, carries_in, carries_of}
use Rattle.qq_wal.specs.Notices.{note_record, sync_mark, new_mark}
use Rattle.qq_wal.specs.Numbers.{first_numbers, greater, greatest_number, same_kind}
use Rattle.qq_wal.specs.Running.{top, IsWrittenTo, IsSynced, MayAdd, MayBegin, SameOthers, StillHolds, lanes_shown}
use Rattle.qq_wal.specs.Wal.{IsOnDisk}
use Rattle.qq_wal.proofs.Steps.{still-holds}
use Rattle.qq_wal.proofs.Agreeing.{agree-all, agree-synced, agree-carries, begun-agree, begun-queues, carries-restate, marks-have}

-- ---- a batch more

module _ (queues : List QueueId) (h : Header) (marks : List Mark) (size : ℕ) (numbers : Numbers)
    (rs : List LogRecord) (d : Disk) (on : IsOnDisk queues h marks size numbers d) (of : queues_in marks ≡ queues)
    (each : AllByRecursion HasCarry marks) (all : AllFollow queues (known marks) rs)
    (fits : AllByRecursion FitsBatch rs) (batch : List Op) (are : op_records batch ≡ rs) where
  pub may-add : MayAdd queues batch d
  may-add =
      let r = agree-all queues rs on.lanes marks of on.agree each all fits in (
        r.after,
        ap (λ (l : List LogRecord). replay (wal queues) l (lanes_shown queues d)) are
            ∙ ap (λ (o : Option Lanes). replay (wal queues) rs o) on.shown ∙ r.is,
      )

  pub appended : (more : ℕ) (e : Disk) → h.file ≤ numbers.log → IsWrittenTo queues h e
      → lanes_shown queues e ≡ replay (wal queues) (op_records batch) (lanes_shown queues d)
      → length (content e (log_of h.file)) ≡ length (content d (log_of h.file)) + more → SameOthers h.file d e
      → IsOnDisk queues h (fold note_record marks rs) (size + more) numbers e
  appended more e number log shows longer others =
      let r = agree-all queues rs on.lanes marks of on.agree each all fits in
      record {
        log = log;
        lanes = r.after;
        shown =
            shows ∙ ap (λ (l : List LogRecord). replay (wal queues) l (lanes_shown queues d)) are
            ∙ ap (λ (o : Option Lanes). replay (wal queues) rs o) on.shown ∙ r.is;
        agree = r.agree;
        size_is = ap (λ (k : ℕ). k + more) on.size_is ∙ sym longer;
        free = λ n above. ap file_content (others n (λ same. absurd (omega (arith, same)))) ∙ on.free n above;
      }

-- ---- it is synced

pub same-lanes : (queues : List QueueId) (d e : Disk) → shown_logs (files_of e) ≡ shown_logs (files_of d)
    → lanes_shown queues e ≡ lanes_shown queues d
same-lanes queues d e same =
    ap (λ (logs : ℕ → Option (List ℕ)). found_world (wal queues) ((reading (wal queues) top logs).found)) same

pub shown-holds : (queues : List QueueId) (d e : Disk) → shown_logs (files_of e) ≡ shown_logs (files_of d)
    → StillHolds queues d e
shown-holds queues d e same =
    still-holds queues d e
    (ap (λ (logs : ℕ → Option (List ℕ)). found_world (wal queues) ((reading (wal queues) top logs).found)) same)

pub now-synced : (queues : List QueueId) (h : Header) (marks : List Mark) (size : ℕ) (numbers : Numbers) (d e : Disk)
    → IsOnDisk queues h marks size numbers d → IsWrittenTo queues h e
    → shown_logs (files_of e) ≡ shown_logs (files_of d) → IsOnDisk queues h (map sync_mark marks) size numbers e
now-synced queues h marks size numbers d e on log same = record {
  log = log;
  lanes = on.lanes;
  shown =
      ap (λ (logs : ℕ → Option (List ℕ)). found_world (wal queues) ((reading (wal queues) top logs).found)) same
      ∙ on.shown;
  agree = agree-synced on.lanes marks on.agree;
  size_is =
      on.size_is
      ∙ sym (ap (λ (logs : ℕ → Option (List ℕ)). length (unwrap_or (logs h.file) [])) same);
  free = λ n above. ap (λ (logs : ℕ → Option (List ℕ)). logs n) same ∙ on.free n above;
}

-- ---- a new file

-- it is written behind what the disk shows
pub opened : (queues : List QueueId) (h : Header) (marks : List Mark) (size : ℕ) (numbers : Numbers) (lanes : Lanes)
    (d e : Disk) → numbers.log ≡ h.file → ((n : ℕ) → h.file < n → file_content (files_of d n) ≡ None)
    → lanes_shown queues d ≡ Some lanes → Agree lanes marks → IsWrittenTo queues h e
    → lanes_shown queues e ≡ lanes_shown queues d → size ≡ length (content e (log_of h.file))
    → SameOthers h.file d e → IsOnDisk queues h marks size numbers e
opened queues h marks size numbers lanes d e number free shown agree log same long others = record {
  log = log;
  lanes = lanes;
  shown = same ∙ shown;
  agree = agree;
  size_is = long;
  free = λ n above. ap file_content (others n (λ same. absurd (omega (arith, same, number))))
      ∙ free n (omega (arith, number));
}

-- names that are listed have no number above the greatest
greatest-grows : (names : List FileName) (greatest : ℕ) → greatest ≤ fold (greater Log) greatest names
greatest-grows [] greatest = omega arith
greatest-grows (name ∷ names) greatest = by (same_kind Log name.kind) (greatest-grows names)
  where
    by : (t : Bool) → ((k : ℕ) → k ≤ fold (greater Log) k names)
        → greatest ≤ fold (greater Log) (cond t (max greatest name.number) greatest) names
    by true later = omega (arith, later (max greatest name.number))
    by false later = later greatest

pub listed-below : (names : List FileName) (k greatest n : ℕ) → k < length names
    → slice_index_or names k (log_of n) ≡ log_of n → n ≤ fold (greater Log) greatest names
listed-below [] k greatest n less is = absurd (omega arith)
listed-below (name ∷ names) zero greatest n less is =
    subst (λ (name : FileName). n ≤ fold (greater Log) (greater Log greatest name) names) (sym is)
    (omega (arith, greatest-grows names (max greatest n)))
listed-below (name ∷ names) (suc k) greatest n less is =
    listed-below names k (greater Log greatest name) n (omega arith) is

pub above-listed : (d : Disk) (names : List FileName) → IsListing d names → (n : ℕ) → greatest_number Log names < n
    → file_content (files_of d n) ≡ None
above-listed d names listing n above = by (contents d (log_of n)) refl
  where
    by : (o : Option (List ℕ)) → contents d (log_of n) ≡ o → contents d (log_of n) ≡ None
    by None e = e
    by (Some bytes) e =
        let here : IsListed d (log_of n) = subst (λ (o : Option (List ℕ)). IsTrue (is_some o)) (sym e) refl in
        let c = (listing.listed (log_of n)).1 here in
        absurd (omega (arith, listed-below names c.0 0 n c.1 c.2))

module _ (same : (id : QueueId) (s : Stable) → restates (carry_of id s) s ≡ true) (queues : List QueueId) (h : Header)
    (carries : List Carry) (names : List FileName) (d : Disk) (may : MayBegin queues h carries names d)
    (number : greatest_number Log names < h.file) (each : AllByRecursion IsCarry carries) (marks : List Mark)
    (made : marks ≡ map (new_mark carries) queues) where
  pub begin-agree : Agree may.before.world marks
  begin-agree =
      subst (λ (l : List Mark). Agree may.before.world l)
      (sym (made ∙ ap (λ (l : List Carry). map (new_mark l) queues) may.carries_are))
      (begun-agree may.before.world queues)

  begin-carries : carries_in marks ≡ carries_of queues may.before.world
  begin-carries =
      agree-carries may.before.world marks begin-agree
      ∙ ap (λ (l : List QueueId). carries_of l may.before.world) (ap queues_in made ∙ begun-queues carries queues)

  pub begin-continues : IsHeader h → h.file ≤ top
      → AllByRecursion (RecordFits h.file) (map CarryRecord (carries_in marks))
      → Continues (wal queues) top may.before h.file (Ours h) (map CarryRecord (carries_in marks)) (files_of d)
  begin-continues header within fit = record {
    settled = may.settled;
    found = may.found;
    newer = may.newer;
    within = within;
    free = above-listed d names may.listing h.file number;
    number = refl;
    previous = may.previous;
    good = may.good;
    header_fits = header;
    fit = fit;
    restate = subst (λ (l : List Carry). Restate (wal queues) may.before.world (map CarryRecord l)) (sym begin-carries)
        (carries-restate same queues may.before.world
        (subst (λ (l : List Carry). AllByRecursion IsCarry l) may.carries_are each));
  }

  pub begin-on-disk : (size : ℕ) (numbers : Numbers) (e : Disk) → numbers ≡ first_numbers h names
      → IsWrittenTo queues h e → lanes_shown queues e ≡ lanes_shown queues d
      → size ≡ length (content e (log_of h.file)) → SameOthers h.file d e → IsOnDisk queues h marks size numbers e
  begin-on-disk size numbers e are log shows long others =
      opened queues h marks size numbers may.before.world d e (ap (λ (n : Numbers). n.log) are)
      (λ n above. above-listed d names may.listing n (omega (arith, number, above)))
      (ap (λ (f : Option (Found (wal queues))). found_world (wal queues) f) may.found) begin-agree log shows long others

-- a file behind a log of which nothing waits for a sync
module _ (queues : List QueueId) (laws : IsFormat (wal queues)) (h next : Header) (marks : List Mark) (size : ℕ)
    (numbers : Numbers) (d : Disk) (on : IsOnDisk queues h marks size numbers d) (clean : IsSynced queues h d)
    (of : queues_in marks ≡ queues) (each : AllByRecursion HasCarry marks)
    (restated : (id : QueueId) (s : Stable) → restates (carry_of id s) s ≡ true) where
  abbrev kept : List LogRecord
  kept = kept_records (wal queues) h.file (files_of d)

  abbrev behind : Found (wal queues)
  behind = found_behind (wal queues) top (Ours h) (files_of d)

  log : IsLog (wal queues) top h.file (Ours h) behind kept [] (files_of d)
  log = subst (λ (l : List LogRecord). IsLog (wal queues) top h.file (Ours h) behind kept
      (encode_all (wal queues) h.file l) (files_of d)) clean on.log.log

  value : replay (wal queues) kept (Some behind.world) ≡ Some on.lanes
  value =
      ap (λ (l : List LogRecord). replay (wal queues) l (Some behind.world)) (sym (append-nil kept))
      ∙ sym (log-shows-world (wal queues) laws top h.file (Ours h) behind kept [] (files_of d) log tt) ∙ on.shown

  whole : size ≡ end_of (wal queues) h.file kept
  whole =
      on.size_is
      ∙ ap (λ (o : Option FileState). length (unwrap_or (file_content o) [])) log.is
      ∙ ap length (append-nil (encode_header (Ours h) ++ encode_all (wal queues) h.file kept))
      ∙ length-append (encode_header (Ours h)) (encode_all (wal queues) h.file kept)
      ∙ ap (λ (k : ℕ). k + length (encode_all (wal queues) h.file kept)) (laws.header_length (Ours h) log.header_fits)

  pub next-continues : h.file < next.file → next.file ≤ top → file_content (files_of d next.file) ≡ None
      → next.previous ≡ h.file → next.good ≡ size → IsHeader next
      → AllByRecursion (RecordFits next.file) (map CarryRecord (carries_in marks))
      → Continues (wal queues) top (record { files = h.file ∷ behind.files; world = on.lanes }) next.file (Ours next)
      (map CarryRecord (carries_in marks)) (files_of d)
  next-continues newer within free previous good header fit =
      roll-continues (wal queues) laws top h.file next.file (Ours h) (Ours next) behind kept
      (map CarryRecord (carries_in marks)) on.lanes d log value newer within free refl previous (good ∙ whole) header fit
      (subst (λ (l : List Carry). Restate (wal queues) on.lanes (map CarryRecord l))
      (sym same) (carries-restate restated queues on.lanes
      (subst (λ (l : List Carry). AllByRecursion IsCarry l) same (marks-have marks each))))
    where
      same : carries_in marks ≡ carries_of queues on.lanes
      same = agree-carries on.lanes marks on.agree ∙ ap (λ (l : List QueueId). carries_of l on.lanes) of

  -- with the marks as they were handed on
  pub next-file : (others : List Mark) → others ≡ marks → h.file ≤ numbers.log → next.file ≡ numbers.log + 1
      → next.previous ≡ h.file → next.good ≡ size → IsHeader next → next.file ≤ top
      → AllByRecursion (RecordFits next.file) (map CarryRecord (carries_in others))
      → Continues (wal queues) top (record { files = h.file ∷ behind.files; world = on.lanes }) next.file (Ours next)
      (map CarryRecord (carries_in others)) (files_of d)
  next-file others same old number previous good header within fit =
      subst (λ (l : List Mark). Continues (wal queues) top
      (record { files = h.file ∷ behind.files; world = on.lanes }) next.file (Ours next)
      (map CarryRecord (carries_in l)) (files_of d)) (sym same)
      (next-continues (omega (arith, old, number)) within (on.free next.file (omega (arith, number))) previous good
      header (subst (λ (l : List Mark). AllByRecursion (RecordFits next.file) (map CarryRecord (carries_in l))) same fit))

  pub next-on-disk : (long : ℕ) (others : Numbers) (e : Disk) → others.log ≡ next.file → numbers.log < next.file
      → IsWrittenTo queues next e → lanes_shown queues e ≡ lanes_shown queues d
      → long ≡ length (content e (log_of next.file)) → SameOthers next.file d e
      → IsOnDisk queues next marks long others e
  next-on-disk long others e same newer written shows whole apart =
      opened queues next marks long others on.lanes d e same
      (λ n above. on.free n (omega (arith, newer, above))) on.shown on.agree written shows whole apart
