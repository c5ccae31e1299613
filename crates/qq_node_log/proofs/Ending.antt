-- A number at its end is that of the log's file on the disk.
use Rattle.std.proofs.Common.{◌≡◌, ◌≤◌, ℕ, false, List, [], Option, refl, sym, ap, ◌∙◌, subst, arith, is_some}
use Rattle.std.specs.Prelude.{IsTrue}
use Rattle.qq_base.specs.Causes.{SpentOnlyWhere}
use Rattle.qq_base.specs.declared.memory.Memory.{Memory}
use Rattle.qq_base.specs.declared.memory.Memory.TheVariants.{Want, Spent}
use Rattle.qq_base.specs.declared.memory.TheConstants.{NUMBER_END}
use Rattle.qq_disk.specs.Disk.{Disk, FileState, IsListed, file_content, now}
use Rattle.qq_disk.specs.Facts.{DiskFacts}
use Rattle.qq_disk.specs.Image.{log_of}
use Rattle.qq_log.specs.declared.op.Op.{Op}
use Rattle.qq_wal.specs.declared.numbers.Numbers.{Numbers}
use Rattle.qq_wal.specs.declared.wal.Wal.{Wal}
use Rattle.qq_wal.specs.Wal.{IsOnDisk, IsSound}
use Rattle.qq_wal_chain.specs.Laws.{op_records}
use Rattle.qq_node_log.specs.Batches.{IsLong, IsLongOn, IsLongWith}
use Rattle.qq_node_log.specs.Log.{IsInNewest, IsLater}
use Rattle.qq_node_log.specs.Syncing.{IsLast, IsLastOn}

-- a log whose memory was gathered alone is where it was
pub gathered-later : {D : Type 0} (facts : DiskFacts D) (old new : Wal D)
    → new ≡ record old { waiting = new.waiting } → IsLater facts old.disk new.disk
gathered-later {D} facts old new same = record {
  told = ap (λ (w : Wal D). facts.tells w.disk) same;
  grown = λ tell. ([], ap (λ (w : Wal D). facts.past w.disk) same);
}

-- the file that is written to is as long as the log knows
pub long-on : {D : Type 0} (facts : DiskFacts D) (wal : Wal D) (ops : List Op) (memory : Memory)
    → IsSound facts wal → IsTrue (facts.tells wal.disk) → wal.stopped ≡ false → IsLong wal (op_records ops) memory
    → IsLongOn memory ops (now (facts.past wal.disk))
long-on facts wal ops Want sound tell going long = tt
long-on facts wal ops (Spent number) sound tell going long =
    let on : IsOnDisk wal.queues.items wal.header wal.marks wal.size wal.numbers (now (facts.past wal.disk)) =
    sound.on_disk tell going in
    record {
      file = wal.header.file;
      with_ops = subst (λ (size : ℕ). IsLongWith number size wal.header.file (op_records ops)) on.size_is long;
    }

-- and it is there, and the newest
pub last-on : {D : Type 0} (facts : DiskFacts D) (wal : Wal D) (memory : Memory)
    → IsSound facts wal → IsTrue (facts.tells wal.disk) → IsInNewest wal → wal.stopped ≡ false → IsLast wal memory
    → IsLastOn memory (now (facts.past wal.disk))
last-on facts wal Want sound tell newest going last = tt
last-on facts wal (Spent number) sound tell newest going last =
    let d : Disk = now (facts.past wal.disk) in
    let on : IsOnDisk wal.queues.items wal.header wal.marks wal.size wal.numbers d = sound.on_disk tell going in
    let is : number ≡ wal.header.file = last.0 ∙ newest in
    record {
      there = subst (λ (n : ℕ). IsListed d (log_of n)) (sym is)
          (subst (λ (o : Option FileState). IsTrue (is_some (file_content o))) (sym on.log.log.is) refl);
      greatest = λ n above. on.free n (omega (arith, above, last.0));
      end = omega (arith, last.0, last.1);
    }

-- it is that of a log with the same numbers
pub numbers-last : {D : Type 0} (old new : Wal D) (memory : Memory) → new.numbers ≡ old.numbers → IsLast new memory
    → IsLast old memory
numbers-last old new memory same =
    subst (λ (n : Numbers). SpentOnlyWhere memory n.log (NUMBER_END ≤ n.log)) same

pub want-on : (memory : Memory) (ops : List Op) (d : Disk) → memory ≡ Want → IsLongOn memory ops d
want-on memory ops d is = subst (λ (m : Memory). IsLongOn m ops d) (sym is) tt
