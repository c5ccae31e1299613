-- What waits is gathered, and then appended: what that leaves of the log's parts.
use Rattle.std.proofs.Common.{◌≡◌, ◌++◌, true, List, [], sym, ap, ◌∙◌, subst, arith}
use Rattle.std.specs.Global.{Vec}
use Rattle.std.specs.Prelude.{IsTrue, fold}
use Rattle.std.proofs.lemmas.List.Elements.{recursion_from_All}
use Rattle.qq_base.specs.declared.ids.QueueId.{QueueId}
use Rattle.qq_base.specs.declared.memory.Memory.{Memory}
use Rattle.qq_base.specs.declared.memory.Memory.TheVariants.{Want}
use Rattle.qq_base.proofs.Fronts.{front-more}
use Rattle.qq_disk.specs.Disk.{Disk, now}
use Rattle.qq_disk.specs.Facts.{DiskFacts}
use Rattle.qq_disk.specs.Moments.{Adds}
use Rattle.qq_disk.proofs.Moments.{adds-none}
use Rattle.qq_log.specs.Carries.{add_op, is_listed}
use Rattle.qq_log.specs.declared.op.Op.{Op}
use Rattle.qq_log.specs.Op.{queue}
use Rattle.qq_log.specs.Writable.{MayWrite}
use Rattle.qq_lots.specs.Kept.{KeepsPromised}
use Rattle.qq_lots.specs.Lots.{Lot, Parts, give_batch, ids_of, ops_at}
use Rattle.qq_lots.proofs.Writes.{promised-later, promised-now, tied-promised}
use Rattle.qq_wal.specs.declared.wal.Wal.{Wal}
use Rattle.qq_wal.specs.Wal.{carries_ahead}
use Rattle.qq_wal_chain.specs.Laws.{op_records}
use Rattle.qq_wal_record.specs.declared.record.LogRecord.{LogRecord}
use Rattle.qq_node_log.specs.declared.node_log.NodeLog.TheVariants.{Open}
use Rattle.qq_node_log.specs.Batches.{HasWritten, IsLong, StaysGiven, StaysWriting}
use Rattle.qq_node_log.specs.Ends.{CarriesAre}
use Rattle.qq_node_log.specs.Giving.{AllGoOn}
use Rattle.qq_node_log.specs.Log.{IsLater, IsWhole, SameLog}
use Rattle.qq_node_log.specs.Steps.{CallKeeps, KeepsDisk, MayAppend, RunsOn}
use Rattle.qq_node_log.proofs.Goes.{all-go, carries-given}
use Rattle.qq_node_log.proofs.Same.{same-disk, same-later}

-- a log that may be given ops takes them
pub ops-go : {D : Type 0} (facts : DiskFacts D) (ops : List Op) (wal : Wal D)
    → MayAppend facts ops (Open wal) → AllGoOn wal.queues.items (carries_ahead wal) ops
ops-go facts ops wal (lot, parts, run, give) =
    subst (λ (ids : List QueueId). AllGoOn ids (carries_ahead wal) ops) (sym run.queues_are)
    (all-go lot ops parts (carries_ahead wal) (recursion_from_All MayWrite ops give.write)
    (recursion_from_All (λ (op : Op). is_listed (ids_of lot) (queue op) ≡ true) ops give.listed) give.sound run.carries)

-- ---- whatever the answer is

-- a promise of parts is one with ops more
given-promised : (lot : Lot) (parts : Parts) (ops : List Op) (d : Disk) → KeepsPromised lot parts d
    → KeepsPromised lot (give_batch lot ops parts) d
given-promised lot parts ops d p =
    promised-later lot parts (give_batch lot ops parts) d
    (λ place. (front-more (parts place).ops (ops_at lot place ops), omega arith)) p

keeps-given : {D : Type 0} (facts : DiskFacts D) (ops : List Op) (old new : Wal D)
    → (IsTrue (facts.tells old.disk) → old.waiting.items ≡ []
    → StaysGiven old.queues.items ops (facts.past old.disk) (facts.past new.disk))
    → CallKeeps facts (λ (lot : Lot). give_batch lot ops) (Open old) (Open new)
keeps-given facts ops old new stays lot parts run tell tied =
    let adds : Adds (KeepsPromised lot (give_batch lot ops parts)) (facts.past old.disk) (facts.past new.disk) =
    stays tell run.waiting lot parts run.queues_are tied in (
      adds,
      promised-now lot (give_batch lot ops parts) (facts.past old.disk) (facts.past new.disk)
          (given-promised lot parts ops (now (facts.past old.disk))
          (tied-promised lot parts (now (facts.past old.disk)) tied)) adds,
    )

-- ops were gathered
pub record Gave {D : Type 0} (ops : List Op) (old mid : Wal D) : Type 0 where
  pub waiting : mid.waiting.items ≡ old.waiting.items ++ op_records ops
  pub ahead : carries_ahead mid ≡ fold add_op (carries_ahead old) ops
  pub same : mid ≡ record old { waiting = mid.waiting }

-- where there was no memory for them nothing was done to the disk
pub gather-keeps : {D : Type 0} (facts : DiskFacts D) (ops : List Op) (old new : Wal D)
    → new ≡ record old { waiting = new.waiting }
    → CallKeeps facts (λ (lot : Lot). give_batch lot ops) (Open old) (Open new)
gather-keeps {D} facts ops old new same =
    keeps-given facts ops old new (λ tell none lot parts is tied.
    subst (λ (w : Wal D). Adds (KeepsPromised lot (give_batch lot ops parts)) (facts.past old.disk) (facts.past w.disk))
    (sym same) (adds-none (KeepsPromised lot (give_batch lot ops parts)) (facts.past old.disk)))

pub gather-same : {D : Type 0} (facts : DiskFacts D) (old new : Wal D)
    → new ≡ record old { waiting = new.waiting } → KeepsDisk facts (Open old) (Open new)
gather-same {D} facts old new same lot parts run = record {
  told = ap (λ (w : Wal D). facts.tells w.disk) same;
  later = omega (arith, ap (λ (w : Wal D). facts.faults w.disk) same);
  whole = subst (λ (w : Wal D). IsWhole facts (ids_of lot) old.disk → IsWhole facts (ids_of lot) w.disk)
      (sym same) (λ is. is);
}

-- what a write does to the log that ops were gathered for
pub record Wrote {D : Type 0} (facts : DiskFacts D) (mid new : Wal D) : Type 0 where
  pub same : SameLog facts mid new
  pub stays : IsTrue (facts.tells mid.disk)
      → StaysWriting mid.queues.items mid.waiting.items (facts.past mid.disk) (facts.past new.disk)

module _ {D : Type 0} (facts : DiskFacts D) (ops : List Op) (old mid new : Wal D) (gave : Gave ops old mid)
    (wrote : Wrote facts mid new) where
  was : Wrote facts (record old { waiting = mid.waiting }) new
  was = subst (λ (w : Wal D). Wrote facts w new) gave.same wrote

  waits : old.waiting.items ≡ [] → op_records ops ≡ mid.waiting.items
  waits none = sym (gave.waiting ∙ ap (λ (l : List LogRecord). l ++ op_records ops) none)

  pub write-keeps : CallKeeps facts (λ (lot : Lot). give_batch lot ops) (Open old) (Open new)
  write-keeps = keeps-given facts ops old new (λ tell none. was.stays tell ops (waits none))

  pub write-same : KeepsDisk facts (Open old) (Open new)
  write-same lot parts run =
      same-disk facts (ids_of lot) (record old { waiting = mid.waiting }) new was.same run.queues_are

  pub write-later : IsLater facts old.disk new.disk
  write-later = same-later facts (record old { waiting = mid.waiting }) new was.same

  -- with what was gathered the log's file is too long
  pub write-long : old.waiting.items ≡ [] → (memory : Memory) → IsLong mid mid.waiting.items memory
      → IsLong old (op_records ops) memory
  write-long none memory long =
      subst (λ (rs : List LogRecord). IsLong old rs memory) (sym (waits none))
      (subst (λ (w : Wal D). IsLong w mid.waiting.items memory) gave.same long)

  -- ---- a log that goes on

  pub write-runs : AllGoOn old.queues.items (carries_ahead old) ops → HasWritten facts mid new
      → RunsOn facts (λ (lot : Lot). give_batch lot ops) (Open old) (Open new)
  write-runs goes done =
      let h : HasWritten facts (record old { waiting = mid.waiting }) new =
      subst (λ (w : Wal D). HasWritten facts w new) gave.same done in
      record {
        running = λ lot parts run. record {
          sound = was.same.sound;
          queues_are = ap (λ (q : Vec QueueId). q.items) was.same.queues ∙ run.queues_are;
          waiting = h.waiting;
          going = h.going;
          newest = was.same.newest run.newest;
          carries = subst (CarriesAre lot (give_batch lot ops parts))
              (sym (wrote.same.ahead ∙ gave.ahead))
              (carries-given lot ops parts old.queues.items (carries_ahead old) goes run.carries);
        };
        tied = λ lot parts run tell tied. h.holds tell ops (waits run.waiting) lot parts run.queues_are tied;
      }

-- want of memory is no number at its end
pub want-long : {D : Type 0} (wal : Wal D) (records : List LogRecord) (memory : Memory) → memory ≡ Want
    → IsLong wal records memory
want-long wal records memory is = subst (IsLong wal records) (sym is) tt
