-- The first of what waits is taken.
use Rattle.std.proofs.Common.{◌≡◌, ◌≤◌, ◌+◌, arith, ℕ, true, List, [], ◌∷◌, ◌++◌, length, take, drop, refl, sym, ap, subst, ◌∙◌}
use Rattle.std.specs.List.{AllByRecursion, fold, list_all}
use Rattle.std.proofs.lemmas.List.Elements.{All-from_recursion, All-take, recursion_from_All}
use Rattle.std.proofs.lemmas.Bool.{and_from, leb-true, le-leb}
use Rattle.qq_base.specs.declared.ids.QueueId.{QueueId}
use Rattle.qq_base.specs.declared.memory.TheConstants.{NUMBER_END}
use Rattle.qq_base.proofs.Lists.{AllByRecursion-append}
use Rattle.qq_entry.specs.declared.command.Entry.{Entry}
use Rattle.qq_log.specs.Carries.{Carries, GoesOn, add_op}
use Rattle.qq_log.specs.declared.op.Op.{Op}
use Rattle.qq_log.specs.declared.op.Op.TheVariants.{Change, SnapshotMade, SegmentMade}
use Rattle.qq_log.specs.Writable.{IsWithinEnd, MayGather, payload_length}
use Rattle.qq_wal_record.specs.declared.record.LogRecord.TheVariants.{Op as OpRecord}
use Rattle.qq_wal_chain.specs.Lanes.{is_within_end}
use Rattle.qq_wal.specs.declared.batch.TheConstants.{BATCH_BYTES}
use Rattle.qq_wal_record.specs.declared.record.LogRecord.{LogRecord}
use Rattle.qq_wal.specs.declared.marks.Mark.{Mark}
use Rattle.qq_wal.specs.Batch.{FitsBatch, AllFitBatch, is_short}
use Rattle.qq_wal.specs.Marks.{AllFollow, HasCarry, MayFollow, add_records, known, queues_in}
use Rattle.qq_wal.specs.Notices.{last_index, note_record}
use Rattle.qq_wal.proofs.Follows.{follow-more, follow-take, follow-drop, add-more, add-split, noted-known, noted-carries}

pub taken-fit : (count : ℕ) (waiting : List LogRecord) → AllFitBatch waiting
    → AllByRecursion FitsBatch (take count waiting)
taken-fit count waiting fit =
    recursion_from_All FitsBatch (take count waiting) (All-take FitsBatch count waiting fit)

module _ (queues : List QueueId) (marks : List Mark) (count : ℕ) (waiting : List LogRecord)
    (fit : AllFitBatch waiting) (follow : AllFollow queues (known marks) waiting) (of : queues_in marks ≡ queues) where
  noted : known (fold note_record marks (take count waiting)) ≡ add_records (known marks) (take count waiting)
  noted =
      noted-known queues (take count waiting) marks of (follow-take queues count waiting (known marks) follow)

  pub left-follow : AllFollow queues (known (fold note_record marks (take count waiting))) (drop count waiting)
  left-follow =
      subst (λ (c : Carries). AllFollow queues c (drop count waiting)) (sym noted)
      (follow-drop queues count waiting (known marks) follow)

  pub left-ahead : add_records (known (fold note_record marks (take count waiting))) (drop count waiting)
      ≡ add_records (known marks) waiting
  left-ahead =
      ap (λ (c : Carries). add_records c (drop count waiting)) noted ∙ add-split count waiting (known marks)

  pub left-carries : AllByRecursion HasCarry marks
      → AllByRecursion HasCarry (fold note_record marks (take count waiting))
  left-carries each =
      noted-carries queues (take count waiting) (known marks) marks
      (follow-take queues count waiting (known marks) follow) (taken-fit count waiting fit) each

-- ---- an op is gathered

op-end : (op : Op) → MayGather op → last_index op ≤ NUMBER_END
op-end (Change id n term vote keep entries) may = may.ends.2
op-end (SnapshotMade id n head file) may = omega arith
op-end (SegmentMade id n file first last) may = omega arith

each-end : (entries : List Entry) → AllByRecursion (λ (e : Entry). IsWithinEnd e.term.0) entries
    → list_all (λ (e : Entry). is_within_end e.term.0) entries ≡ true
each-end [] all = refl
each-end (e ∷ entries) all = and_from (is_within_end e.term.0) (list_all (λ (e : Entry). is_within_end e.term.0) entries)
    (le-leb e.term.0 NUMBER_END all.0) (each-end entries all.1)

-- an op that the log takes and that goes on may be handed in next
pub may-follow : (queues : List QueueId) (carries : Carries) (op : Op) → MayGather op → GoesOn queues carries op
    → MayFollow queues carries op
may-follow queues carries (Change id n term vote keep entries) may on = record {
  listed = on.listed;
  ends =
      and_from _ _ (and_from _ _ (and_from _ _ (le-leb n NUMBER_END may.ends.0) (le-leb term.0 NUMBER_END may.ends.1))
      (le-leb (keep.0 + length entries) NUMBER_END may.ends.2))
      (each-end entries (recursion_from_All (λ (e : Entry). IsWithinEnd e.term.0) entries may.ends.3));
  change = refl;
  follows = on.follows;
}
may-follow queues carries (SnapshotMade id n head file) may on = absurd may.change
may-follow queues carries (SegmentMade id n file first last) may on = absurd may.change

pub gathered-fit : (waiting now : List LogRecord) (op : Op) → now ≡ waiting ++ OpRecord op ∷ [] → MayGather op
    → is_short op ≡ true → AllFitBatch waiting → AllFitBatch now
gathered-fit waiting now op is may short fit =
    subst (λ (l : List LogRecord). AllFitBatch l) (sym is)
    (All-from_recursion FitsBatch (waiting ++ OpRecord op ∷ [])
    (AllByRecursion-append FitsBatch waiting (OpRecord op ∷ []) (recursion_from_All FitsBatch waiting fit) (fits, tt)))
  where
    small : 25 + payload_length op ≤ BATCH_BYTES
    small = leb-true _ _ short

    fits : FitsBatch (OpRecord op)
    fits = (record { fields = may.fields; payload = omega (arith, small) }, small, op-end op may)

pub gathered-follow : (queues : List QueueId) (carries : Carries) (waiting now : List LogRecord) (op : Op)
    → now ≡ waiting ++ OpRecord op ∷ [] → AllFollow queues carries waiting
    → MayGather op → GoesOn queues (add_records carries waiting) op → AllFollow queues carries now
gathered-follow queues carries waiting now op is all may on =
    subst (λ (l : List LogRecord). AllFollow queues carries l) (sym is)
    (follow-more queues waiting carries op all (may-follow queues (add_records carries waiting) op may on))

pub gathered-ahead : (carries : Carries) (waiting now : List LogRecord) (op : Op) → now ≡ waiting ++ OpRecord op ∷ []
    → add_records carries now ≡ add_op (add_records carries waiting) op
gathered-ahead carries waiting now op is =
    ap (λ (l : List LogRecord). add_records carries l) is ∙ add-more waiting carries op
