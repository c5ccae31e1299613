-- What a sync counts as synced is what was appended.
use Rattle.std.proofs.Common.{◌≡◌, ℕ, Bool, true, false, cond, eqb, List, [], ◌∷◌, map, refl, ap, ◌∙◌}
use Rattle.std.specs.Prelude.{All}
use Rattle.std.specs.List.{AllByRecursion, fold}
use Rattle.std.proofs.lemmas.List.Elements.{recursion_from_All}
use Rattle.qq_base.specs.declared.ids.QueueId.{QueueId}
use Rattle.qq_log.specs.Carries.{Carries}
use Rattle.qq_log.specs.declared.lane.Carry.{Carry}
use Rattle.qq_log.specs.declared.op.Op.{Op}
use Rattle.qq_log.specs.declared.op.Op.TheVariants.{Change, SnapshotMade, SegmentMade}
use Rattle.qq_log.specs.Op.{queue}
use Rattle.qq_log.specs.Writable.{IsChange}
use Rattle.qq_wal_chain.specs.Image.{put}
use Rattle.qq_wal_chain.specs.Laws.{op_records}
use Rattle.qq_wal.specs.declared.marks.Mark.{Mark}
use Rattle.qq_wal.specs.Marks.{known}
use Rattle.qq_wal.specs.Notices.{AreCounted, carried_op, new_mark, note_all, note_record, sync_mark, synced_in, synced_of}
use Rattle.qq_wal.proofs.Follows.{noted}

-- ---- the marks count

pub counted-first : (carries : List Carry) (queues : List QueueId) → AreCounted (map (new_mark carries) queues)
counted-first carries [] = tt
counted-first carries (id ∷ queues) = (refl, counted-first carries queues)

counted-noted : (op : Op) (m : Mark) → IsChange op → synced_of (noted op m) ≡ carried_op (noted op m).carry
counted-noted (Change id n term vote keep entries) m is = refl
counted-noted (SnapshotMade id n head file) m is = absurd is
counted-noted (SegmentMade id n file first last) m is = absurd is

pub counted-op : (op : Op) (marks : List Mark) → IsChange op → AreCounted marks → AreCounted (note_all marks op)
counted-op op [] is each = tt
counted-op op (m ∷ marks) is each = (by (eqb (queue op).0 m.queue.0), counted-op op marks is each.1)
  where
    by : (t : Bool) → synced_of (cond t (noted op m) m) ≡ carried_op (cond t (noted op m) m).carry
    by true = counted-noted op m is
    by false = each.0

counted-ops : (batch : List Op) (marks : List Mark) → AllByRecursion IsChange batch → AreCounted marks
    → AreCounted (fold note_record marks (op_records batch))
counted-ops [] marks is each = each
counted-ops (op ∷ batch) marks is each =
    counted-ops batch (note_all marks op) is.1 (counted-op op marks is.0 each)

pub counted-more : (marks : List Mark) (batch : List Op) → All IsChange batch → AreCounted marks
    → AreCounted (fold note_record marks (op_records batch))
counted-more marks batch is each = counted-ops batch marks (recursion_from_All IsChange batch is) each

pub counted-synced : (marks : List Mark) → AreCounted marks → AreCounted (map sync_mark marks)
counted-synced [] each = tt
counted-synced (m ∷ marks) each = (each.0, counted-synced marks each.1)

-- ---- what counts as synced

noted-waits : (op : Op) (marks : List Mark) (id : QueueId) → synced_in (note_all marks op) id ≡ synced_in marks id
noted-waits op [] id = refl
noted-waits op (m ∷ marks) id = by (eqb (queue op).0 m.queue.0) (noted-waits op marks id)
  where
    by : (t : Bool) → synced_in (note_all marks op) id ≡ synced_in marks id
        → synced_in (cond t (noted op m) m ∷ note_all marks op) id ≡ synced_in (m ∷ marks) id
    by true later = ap (λ (n : ℕ). cond (eqb m.queue.0 id.0) m.synced n) later
    by false later = ap (λ (n : ℕ). cond (eqb m.queue.0 id.0) m.synced n) later

pub appended-waits : (marks : List Mark) (batch : List Op) (id : QueueId)
    → synced_in (fold note_record marks (op_records batch)) id ≡ synced_in marks id
appended-waits marks [] id = refl
appended-waits marks (op ∷ batch) id = appended-waits (note_all marks op) batch id ∙ noted-waits op marks id

pub synced-counts : (marks : List Mark) (id : QueueId) → AreCounted marks
    → synced_in (map sync_mark marks) id ≡ carried_op (known marks id.0)
synced-counts [] id each = refl
synced-counts (m ∷ marks) id each = by (eqb m.queue.0 id.0) (synced-counts marks id each.1)
  where
    by : (t : Bool) → synced_in (map sync_mark marks) id ≡ carried_op (known marks id.0)
        → cond t (synced_of m) (synced_in (map sync_mark marks) id)
        ≡ carried_op (cond t m.carry (known marks id.0))
    by true later = each.0
    by false later = later

pub synced-carries : (marks : List Mark) → known (map sync_mark marks) ≡ known marks
synced-carries [] = refl
synced-carries (m ∷ marks) = ap (λ (k : Carries). put k m.queue.0 m.carry) (synced-carries marks)
