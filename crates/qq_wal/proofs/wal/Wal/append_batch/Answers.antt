use Rattle.std.proofs.Common.{ℕ, List, ap, subst, sym, take, drop, length, ◌∙◌, ◌+◌}
use Rattle.std.specs.List.{AllByRecursion, fold}
use Rattle.std.proofs.lemmas.List.Elements.{All-drop}
use Rattle.qq_disk.specs.Disk.{now}
use Rattle.qq_wal_record.specs.declared.record.LogRecord.{LogRecord}
use Rattle.qq_wal.specs.declared.marks.Mark.{Mark}
use Rattle.qq_wal.specs.Batch.{FitsBatch, AllFitBatch}
use Rattle.qq_wal.specs.Marks.{AllFollow, HasCarry, add_records, known, queues_in}
use Rattle.qq_wal.specs.Notices.{AreCounted, AreNamed, note_record}
use Rattle.qq_wal.specs.Wal.{IsKept, IsOnDisk}
use Rattle.qq_wal.proofs.Batches.{told_before, ops_of, is_batch}
use Rattle.qq_wal.proofs.Follows.{follow-take, noted-queues}
use Rattle.qq_wal.proofs.Held.{follow-counted, noted-kept, noted-named}
use Rattle.qq_wal.proofs.OnDisk.{appended, may-add}
use Rattle.qq_wal.proofs.Refusing.{stays-at-want, still-sound, stops}
use Rattle.qq_wal.proofs.Steps.{holds-also}
use Rattle.qq_wal.proofs.Taking.{left-ahead, left-carries, left-follow, taken-fit}
use Rattle.qq_wal.proofs.wal.Wal.append_batch.Goals as goal

pub returns-in-Err-append_file-clause-stays : goal.returns-in-Err-append_file-clause-stays
returns-in-Err-append_file-clause-stays g c = λ told going.
    let was = c.args.self.now in
    let taken = take c.in-Ok.batch.0 was.waiting.items in
    let on = c.requires.on_disk told going in
    record {
      count = c.in-Ok.batch.0;
      stays = λ batch are. c.append_file.ensures.stays told was.queues.items batch on.log
          (is_batch was.queues.items was.header taken c.in-Ok.batch.1.now
          c.in-Ok.ensures.ok c.in-Ok.ensures.fits batch are)
          (may-add was.queues.items was.header was.marks was.size was.numbers taken
          (now (g.D.NodeDisk.facts.past was.disk)) on c.requires.queues_are c.requires.carries
          (follow-take was.queues.items c.in-Ok.batch.0 was.waiting.items (known was.marks) c.requires.follow)
          (taken-fit c.in-Ok.batch.0 was.waiting.items c.requires.waiting) batch are);
    }

pub returns-clause-stays : goal.returns-clause-stays
returns-clause-stays g c = λ told going.
    let was = c.args.self.now in
    let taken = take c.in-Ok.batch.0 was.waiting.items in
    let on = c.requires.on_disk told going in
    record {
      count = c.in-Ok.batch.0;
      stays = λ batch are. c.append_file.ensures.stays told was.queues.items batch on.log
          (is_batch was.queues.items was.header taken c.in-Ok.batch.1.now
          c.in-Ok.ensures.ok c.in-Ok.ensures.fits batch are)
          (may-add was.queues.items was.header was.marks was.size was.numbers taken
          (now (g.D.NodeDisk.facts.past was.disk)) on c.requires.queues_are c.requires.carries
          (follow-take was.queues.items c.in-Ok.batch.0 was.waiting.items (known was.marks) c.requires.follow)
          (taken-fit c.in-Ok.batch.0 was.waiting.items c.requires.waiting) batch are);
    }

pub returns-clause-holds : goal.returns-clause-holds
returns-clause-holds g c = λ told batch are.
    let was = c.args.self.now in
    let taken = take c.in-Ok.batch.0 was.waiting.items in
    let on = c.requires.on_disk told c.if-self.false in
    let b = is_batch was.queues.items was.header taken c.in-Ok.batch.1.now
    c.in-Ok.ensures.ok c.in-Ok.ensures.fits batch are in (
      c.append_file.ensures.stays told was.queues.items batch on.log b
          (may-add was.queues.items was.header was.marks was.size was.numbers taken
          (now (g.D.NodeDisk.facts.past was.disk)) on c.requires.queues_are c.requires.carries
          (follow-take was.queues.items c.in-Ok.batch.0 was.waiting.items (known was.marks) c.requires.follow)
          (taken-fit c.in-Ok.batch.0 was.waiting.items c.requires.waiting) batch are),
      holds-also was.queues.items batch (now (g.D.NodeDisk.facts.past was.disk))
          (now (g.D.NodeDisk.facts.past c.append_file.new.disk))
          (c.in_default.ensures.shown told was.queues.items batch on.log b),
    )

pub returns-clause-ahead : goal.returns-clause-ahead
returns-clause-ahead g c =
    let was = c.args.self.now in
    let marks = c.take_batch.ensures.marks in
    ap (λ (l : List Mark). add_records (known l) c.take_batch.new.waiting.items) marks
    ∙ ap (λ (l : List LogRecord). add_records
    (known (fold note_record was.marks (take c.in-Ok.batch.0 was.waiting.items))) l) c.take_batch.ensures.waiting
    ∙ left-ahead was.queues.items was.marks c.in-Ok.batch.0 was.waiting.items c.requires.waiting
    c.requires.follow c.requires.queues_are

pub returns-clause-sound : goal.returns-clause-sound
returns-clause-sound g c =
    let was = c.args.self.now in
    let taken = take c.in-Ok.batch.0 was.waiting.items in
    let marks = c.take_batch.ensures.marks in
    record {
      waiting = subst (λ (l : List LogRecord). AllFitBatch l) (sym c.take_batch.ensures.waiting)
          (All-drop FitsBatch c.in-Ok.batch.0 was.waiting.items c.requires.waiting);
      follow = subst (λ (l : List LogRecord). AllFollow was.queues.items (known c.take_batch.new.marks) l)
          (sym c.take_batch.ensures.waiting)
          (subst (λ (l : List Mark). AllFollow was.queues.items (known l)
          (drop c.in-Ok.batch.0 was.waiting.items)) (sym marks)
          (left-follow was.queues.items was.marks c.in-Ok.batch.0 was.waiting.items c.requires.waiting
          c.requires.follow c.requires.queues_are));
      queues_are = ap queues_in marks ∙ noted-queues taken was.marks ∙ c.requires.queues_are;
      carries = subst (λ (l : List Mark). AllByRecursion HasCarry l) (sym marks)
          (left-carries was.queues.items was.marks c.in-Ok.batch.0 was.waiting.items c.requires.waiting
          c.requires.follow c.requires.queues_are c.requires.carries);
      number = c.requires.number;
      counted = subst (λ (l : List Mark). AreCounted l) (sym marks)
          (follow-counted was.queues.items (known was.marks) taken was.marks
          (follow-take was.queues.items c.in-Ok.batch.0 was.waiting.items (known was.marks) c.requires.follow)
          c.requires.counted);
      named = subst (λ (l : List Mark). AreNamed l) (sym marks) (noted-named taken was.marks c.requires.named);
      on_disk = λ told going.
          let before = told_before c.append_file.ensures.told told in
          let on = c.requires.on_disk before c.if-self.false in
          let ops = ops_of c.in-Ok.batch.0 was.waiting.items c.requires.waiting in
          let b = is_batch was.queues.items was.header taken c.in-Ok.batch.1.now
          c.in-Ok.ensures.ok c.in-Ok.ensures.fits ops.ops ops.are in
          subst (λ (l : List Mark). IsOnDisk was.queues.items was.header l
          (was.size + length c.in-Ok.batch.1.now) was.numbers
          (now (g.D.NodeDisk.facts.past c.append_file.new.disk))) (sym marks)
          (appended was.queues.items was.header was.marks was.size was.numbers taken
          (now (g.D.NodeDisk.facts.past was.disk)) on c.requires.queues_are c.requires.carries
          (follow-take was.queues.items c.in-Ok.batch.0 was.waiting.items (known was.marks) c.requires.follow)
          (taken-fit c.in-Ok.batch.0 was.waiting.items c.requires.waiting) ops.ops ops.are (length c.in-Ok.batch.1.now)
          (now (g.D.NodeDisk.facts.past c.append_file.new.disk)) c.requires.number
          (c.in_default.ensures.log before was.queues.items ops.ops on.log b)
          (c.in_default.ensures.shown before was.queues.items ops.ops on.log b)
          (c.in_default.ensures.length before was.queues.items on.log) (c.in_default.ensures.others before));
      synced = λ told going clean. absurd (cc clean);
      kept = λ told going.
          let before = told_before c.append_file.ensures.told told in
          let on = c.requires.on_disk before c.if-self.false in
          let ops = ops_of c.in-Ok.batch.0 was.waiting.items c.requires.waiting in
          let b = is_batch was.queues.items was.header taken c.in-Ok.batch.1.now
          c.in-Ok.ensures.ok c.in-Ok.ensures.fits ops.ops ops.are in
          subst (λ (l : List Mark). IsKept was.queues.items was.header l
          (now (g.D.NodeDisk.facts.past c.append_file.new.disk))) (sym marks)
          (noted-kept was.queues.items was.header was.marks taken (now (g.D.NodeDisk.facts.past was.disk))
          (now (g.D.NodeDisk.facts.past c.append_file.new.disk))
          (c.in_default.ensures.kept before was.queues.items ops.ops on.log b)
          (c.requires.kept before c.if-self.false));
    }

pub returns-in-Err-append_file-clause-sound : goal.returns-in-Err-append_file-clause-sound
returns-in-Err-append_file-clause-sound g c =
    let past = g.D.NodeDisk.facts.past in
    still-sound g.D.NodeDisk.facts c.args.self.now c.append_file.new.disk c.is_failure-self.result c.requires
    c.if-self.false c.append_file.ensures.told
    (λ told. stays-at-want (past c.args.self.now.disk) (past c.append_file.new.disk) c.in-Err-append_file.fault
    c.is_failure-self.result c.is_failure-self.ensures (c.in-Err-append_file.ensures.want told))

pub returns-in-Err-append_file-clause-stops : goal.returns-in-Err-append_file-clause-stops
returns-in-Err-append_file-clause-stops g c =
    stops ℕ c.args.self.now.stopped c.is_failure-self.result c.in-Err-append_file.fault c.fault_of.result
    c.fault_of.ensures c.if-self.false
    c.is_failure-self.ensures

pub returns-in-Err-append_file-clause-moments : goal.returns-in-Err-append_file-clause-moments
returns-in-Err-append_file-clause-moments g c = λ told.
    let past = g.D.NodeDisk.facts.past in
    stays-at-want (past c.args.self.now.disk) (past c.append_file.new.disk) c.in-Err-append_file.fault
    c.is_failure-self.result c.is_failure-self.ensures (c.in-Err-append_file.ensures.want told)

pub returns-in-Err-append_file-clause-may : goal.returns-in-Err-append_file-clause-may
returns-in-Err-append_file-clause-may g c = λ told may.
    c.append_file.ensures.may told c.args.self.now.queues.items (c.requires.on_disk told c.if-self.false).log

pub returns-clause-may : goal.returns-clause-may
returns-clause-may g c = λ told may.
    c.append_file.ensures.may told c.args.self.now.queues.items (c.requires.on_disk told c.if-self.false).log
