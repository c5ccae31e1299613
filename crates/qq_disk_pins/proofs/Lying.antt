-- Where entries lie behind a batch, and behind a new file.
use Rattle.std.proofs.Common.{◌≡◌, ℕ, Bool, true, false, cond, eqb, List, [], ◌∷◌, ◌++◌, length, take, replicate, Option, Some, None, refl, sym, ap, subst, ◌∙◌, inl, inr, ◌⊎◌, append-nil}
use Rattle.std.specs.List.{fold}
use Rattle.std.proofs.lemmas.Bool.{cases_eq, eq-eqb, eqb-true}
use Rattle.qq_base.specs.declared.ids.QueueId.{QueueId}
use Rattle.qq_log.specs.Carries.{is_listed}
use Rattle.qq_log.specs.declared.head.Span.{Span}
use Rattle.qq_log.specs.declared.op.Op.{Op}
use Rattle.qq_log.specs.declared.op.Op.TheVariants.{Change, SnapshotMade, SegmentMade}
use Rattle.qq_log.specs.Op.{queue}
use Rattle.qq_wal_chain.specs.Lanes.{of_queue}
use Rattle.qq_wal_chain.specs.Laws.{op_records}
use Rattle.qq_wal.specs.declared.ranges.QueueRanges.{QueueRanges}
use Rattle.qq_wal.specs.Entries.{LieAs}
use Rattle.qq_wal.specs.Ranges.{AllRanges, as_indices, begin_file, begin_files, begin_queue, change_by, in_file, in_file_by, no_queues, places_of, write, write_op, write_record}
use Rattle.qq_wal.specs.Spans.{find_file, spans_to}
use Rattle.qq_wal.proofs.Lying.{lie-written}
use Rattle.qq_recover.proofs.Reread.{begun-ranges, change-away, change-here}
use Rattle.qq_disk_pins.specs.Batches.{AllKeepWithin, files_after}

-- ---- a batch

-- behind these ops, of which all that are of the queue are these
abbrev Written : ℕ → ℕ → List ℕ → List Op → AllRanges → List Op → Type 0
Written id n files own all ops =
    (now : QueueRanges) × (fold write_record all (op_records ops) id ≡ Some now) × (now.file ≡ n)
    × LieAs (files_after n files own) now

-- what the ops that are left make of any ranges
abbrev Later : ℕ → List Op → Type 0
Later id ops = (all : AllRanges) (q : QueueRanges) (files : List ℕ) → all id ≡ Some q → LieAs files q
    → AllKeepWithin q.file files (of_queue id ops) → Written id q.file files (of_queue id ops) all ops

-- an op of another queue
written-other : (id : ℕ) (op : Op) (ops : List Op) → ((queue op).0 ≡ id → ⊥) → Later id ops → (all : AllRanges)
    (q : QueueRanges) (files : List ℕ) → all id ≡ Some q → LieAs files q
    → AllKeepWithin q.file files (of_queue id ops) → Written id q.file files (of_queue id ops) (write_op all op) ops
written-other id (Change p m term vote keep entries) ops apart later all q files is lies within =
    later (write_op all (Change p m term vote keep entries)) q files
    (change-away (write keep.0 (length entries)) all p.0 id (all p.0) apart ∙ is) lies within
written-other id (SnapshotMade p m head file) ops apart later all q files is lies within =
    later all q files is lies within
written-other id (SegmentMade p m file first last) ops apart later all q files is lies within =
    later all q files is lies within

-- an op of the queue
written-own : (id : ℕ) (op : Op) (ops : List Op) → (queue op).0 ≡ id → Later id ops → (all : AllRanges)
    (q : QueueRanges) (files : List ℕ) → all id ≡ Some q → LieAs files q
    → AllKeepWithin q.file files (op ∷ of_queue id ops)
    → Written id q.file files (op ∷ of_queue id ops) (write_op all op) ops
written-own id (Change p m term vote keep entries) ops here later all q files is lies within =
    later (write_op all (Change p m term vote keep entries)) (write keep.0 (length entries) q)
    (take keep.0 files ++ replicate (length entries) q.file)
    (subst (λ (i : ℕ). change_by (write keep.0 (length entries)) all i (all i) id
    ≡ Some (write keep.0 (length entries) q)) (sym here)
    (change-here (write keep.0 (length entries)) all id (all id) q is))
    (lie-written files q lies keep.0 (length entries) within.0) within.1
written-own id (SnapshotMade p m head file) ops here later all q files is lies within =
    later all q files is lies within.1
written-own id (SegmentMade p m file first last) ops here later all q files is lies within =
    later all q files is lies within.1

pub batch-lies : (id : ℕ) (ops : List Op) → Later id ops
batch-lies id [] all q files is lies within = (q, is, refl, lies)
batch-lies id (op ∷ ops) all q files is lies within =
    by (eqb (queue op).0 id) refl within (batch-lies id ops)
  where
    by : (t : Bool) → eqb (queue op).0 id ≡ t
        → AllKeepWithin q.file files (cond t (op ∷ of_queue id ops) (of_queue id ops)) → Later id ops
        → Written id q.file files (cond t (op ∷ of_queue id ops) (of_queue id ops)) (write_op all op) ops
    by true e within later =
        written-own id op ops (eqb-true (queue op).0 id e) later all q files is lies within
    by false e within later =
        written-other id op ops (λ same. cc (sym e ∙ eq-eqb (queue op).0 id same)) later all q files is lies within

-- ---- a new file

all-spans : (spans : List Span) → spans_to None spans ≡ spans
all-spans [] = refl
all-spans (s ∷ spans) = ap (λ (l : List Span). s ∷ l) (all-spans spans)

module _ (file : ℕ) (old : AllRanges) (id : QueueId) where
  begun-none : old id.0 ≡ None → (queues : List QueueId) (new : AllRanges) → new id.0 ≡ None
      → fold (begin_queue file old) new queues id.0 ≡ None
  begun-none is [] new none = none
  begun-none is (other ∷ queues) new none =
      by (cases_eq other.0 id.0) (begun-none is queues (begin_queue file old new other))
    where
      by : (other.0 ≡ id.0) ⊎ (other.0 ≡ id.0 → ⊥)
          → (begin_queue file old new other id.0 ≡ None
          → fold (begin_queue file old) (begin_queue file old new other) queues id.0 ≡ None)
          → fold (begin_queue file old) (begin_queue file old new other) queues id.0 ≡ None
      by (inl here) later =
          later (ap (λ (o : Option QueueRanges). change_by (begin_file file) new other.0 o id.0)
          (ap old here ∙ is) ∙ none)
      by (inr apart) later = later (change-away (begin_file file) new other.0 id.0 (old other.0) apart ∙ none)

  -- each entry lies where it lay
  pub begun-lies : (queues : List QueueId) (n : ℕ) → is_listed queues id ≡ true
      → in_file (begin_files file queues old) id n ≡ in_file old id n
  begun-lies queues n listed = by (old id.0) refl
    where
      by : (o : Option QueueRanges) → old id.0 ≡ o
          → in_file_by n (begin_files file queues old id.0) ≡ in_file_by n o
      by None e = ap (in_file_by n) (begun-none e queues no_queues refl)
      by (Some q) e =
          ap (in_file_by n) (begun-ranges queues file old id q e no_queues (inl listed))
          ∙ ap (λ (l : List Span). as_indices (find_file n l))
          (append-nil (spans_to None (places_of q)) ∙ all-spans (places_of q))
