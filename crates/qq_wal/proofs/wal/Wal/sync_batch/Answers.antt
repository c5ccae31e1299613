use Rattle.std.proofs.Common.{◌≡◌, List, map, ap, subst, sym, ◌∙◌}
use Rattle.std.specs.Prelude.{All}
use Rattle.std.specs.Global.{Vec}
use Rattle.std.specs.List.{AllByRecursion}
use Rattle.qq_disk.specs.Disk.{now}
use Rattle.qq_wal.specs.declared.marks.Mark.{Mark}
use Rattle.qq_log.specs.Carries.{Carries}
use Rattle.qq_wal.specs.Marks.{AllFollow, HasCarry, add_records, known, queues_in}
use Rattle.qq_wal.specs.declared.notices.Notice.{Notice}
use Rattle.qq_wal.specs.Notices.{AreCounted, AreNamed, sync_mark, synced_in}
use Rattle.qq_wal.specs.Wal.{IsKept, IsOnDisk}
use Rattle.qq_wal.proofs.Batches.{told_before}
use Rattle.qq_wal.proofs.Counted.{counted-synced}
use Rattle.qq_wal.proofs.Follows.{synced-known, synced-queues, synced-carries}
use Rattle.qq_wal.proofs.Held.{clean-kept, notices-synced, synced-kept, synced-named}
use Rattle.qq_wal.proofs.OnDisk.{now-synced, same-lanes, shown-holds}
use Rattle.qq_wal.proofs.Refusing.{stays-at-want, still-sound, stops}
use Rattle.qq_wal.proofs.wal.Wal.sync_batch.Goals as goal

pub returns-in-Err-sync_file-clause-stays : goal.returns-in-Err-sync_file-clause-stays
returns-in-Err-sync_file-clause-stays g c = λ told. c.sync_file.ensures.stays told c.args.self.now.queues.items

pub returns-in-Err-sync_file-clause-may : goal.returns-in-Err-sync_file-clause-may
returns-in-Err-sync_file-clause-may g c = λ told. c.sync_file.ensures.may told c.args.self.now.queues.items

pub returns-clause-stays : goal.returns-clause-stays
returns-clause-stays g c = λ told. c.sync_file.ensures.stays told c.args.self.now.queues.items

pub returns-clause-may : goal.returns-clause-may
returns-clause-may g c = λ told. c.sync_file.ensures.may told c.args.self.now.queues.items

pub returns-clause-noticed : goal.returns-clause-noticed
returns-clause-noticed g c = λ told.
    c.in_default.ensures.noticed told c.args.self.now.queues.items (c.requires.on_disk told c.if-self.false).log
    (c.requires.synced told c.if-self.false)

pub returns-clause-holds : goal.returns-clause-holds
returns-clause-holds g c = λ told.
    shown-holds c.args.self.now.queues.items (now (g.D.NodeDisk.facts.past c.args.self.now.disk))
    (now (g.D.NodeDisk.facts.past c.sync_file.new.disk)) (c.in_default.ensures.shown told)

pub returns-clause-ahead : goal.returns-clause-ahead
returns-clause-ahead g c =
    ap (λ (l : List Mark). add_records (known l) c.args.self.now.waiting.items)
    c.sync.ensures
    ∙ ap (λ (k : Carries). add_records k c.args.self.now.waiting.items) (synced-known c.args.self.now.marks)

pub returns-clause-sound : goal.returns-clause-sound
returns-clause-sound g c =
    let was = c.args.self.now in
    let marks = c.sync.ensures in
    record {
      waiting = c.requires.waiting;
      follow = subst (λ (k : Carries). AllFollow was.queues.items k was.waiting.items)
          (sym (ap known marks ∙ synced-known was.marks)) c.requires.follow;
      queues_are = ap queues_in marks ∙ synced-queues was.marks ∙ c.requires.queues_are;
      carries = subst (λ (l : List Mark). AllByRecursion HasCarry l) (sym marks)
          (synced-carries was.marks c.requires.carries);
      number = c.requires.number;
      counted = subst (λ (l : List Mark). AreCounted l) (sym marks) (counted-synced was.marks c.requires.counted);
      named = subst (λ (l : List Mark). AreNamed l) (sym marks) (synced-named was.marks);
      on_disk = λ told going.
          let before = told_before c.sync_file.ensures.told told in
          let on = c.requires.on_disk before c.if-self.false in
          subst (λ (l : List Mark). IsOnDisk was.queues.items was.header l was.size was.numbers
          (now (g.D.NodeDisk.facts.past c.sync_file.new.disk))) (sym marks)
          (now-synced was.queues.items was.header was.marks was.size was.numbers
          (now (g.D.NodeDisk.facts.past was.disk)) (now (g.D.NodeDisk.facts.past c.sync_file.new.disk)) on
          (c.in_default.ensures.log before was.queues.items on.log (c.requires.synced before c.if-self.false)).0
          (c.in_default.ensures.shown before));
      synced = λ told going clean.
          let before = told_before c.sync_file.ensures.told told in
          let on = c.requires.on_disk before c.if-self.false in
          (c.in_default.ensures.log before was.queues.items on.log (c.requires.synced before c.if-self.false)).1;
      kept = λ told going.
          let before = told_before c.sync_file.ensures.told told in
          let on = c.requires.on_disk before c.if-self.false in
          let log = c.in_default.ensures.log before was.queues.items on.log (c.requires.synced before c.if-self.false) in
          let shown = same-lanes was.queues.items (now (g.D.NodeDisk.facts.past was.disk))
          (now (g.D.NodeDisk.facts.past c.sync_file.new.disk)) (c.in_default.ensures.shown before) in
          subst (λ (l : List Mark). IsKept was.queues.items was.header l
          (now (g.D.NodeDisk.facts.past c.sync_file.new.disk))) (sym marks)
          (synced-kept was.queues.items was.header was.marks
          (now (g.D.NodeDisk.facts.past c.sync_file.new.disk)) on.lanes
          (clean-kept was.queues.items (c.the_log_has_a_format.ensures was.queues.items) was.header was.marks
          (now (g.D.NodeDisk.facts.past c.sync_file.new.disk)) log.0 log.1 ∙ shown ∙ on.shown)
          c.requires.counted on.agree);
    }

pub returns-clause-names_synced : goal.returns-clause-names_synced
returns-clause-names_synced g c = λ told.
    let was = c.args.self.now in
    let on = c.requires.on_disk told c.if-self.false in
    subst (λ (l : List Mark). All (λ (n : Notice). synced_in l n.queue ≡ n.op) c.in-Ok.notices.items)
    (sym c.sync.ensures)
    (subst (λ (l : List Notice). All (λ (n : Notice). synced_in (map sync_mark was.marks) n.queue ≡ n.op) l)
    (sym c.in-Ok.ensures.ok)
    (notices-synced on.lanes was.marks c.requires.counted c.requires.named on.agree))

pub returns-in-Err-sync_file-clause-sound : goal.returns-in-Err-sync_file-clause-sound
returns-in-Err-sync_file-clause-sound g c =
    let past = g.D.NodeDisk.facts.past in
    still-sound g.D.NodeDisk.facts c.args.self.now c.sync_file.new.disk c.is_failure-self.result c.requires
    c.if-self.false c.sync_file.ensures.told
    (λ told. stays-at-want (past c.args.self.now.disk) (past c.sync_file.new.disk) c.in-Err-sync_file.fault
    c.is_failure-self.result c.is_failure-self.ensures (c.in-Err-sync_file.ensures.want told))

pub returns-in-Err-sync_file-clause-stops : goal.returns-in-Err-sync_file-clause-stops
returns-in-Err-sync_file-clause-stops g c =
    stops (Vec Notice) c.args.self.now.stopped c.is_failure-self.result c.in-Err-sync_file.fault c.fault_of.result
    c.fault_of.ensures c.if-self.false c.is_failure-self.ensures

pub returns-in-Err-sync_file-clause-moments : goal.returns-in-Err-sync_file-clause-moments
returns-in-Err-sync_file-clause-moments g c = λ told.
    let past = g.D.NodeDisk.facts.past in
    stays-at-want (past c.args.self.now.disk) (past c.sync_file.new.disk) c.in-Err-sync_file.fault
    c.is_failure-self.result c.is_failure-self.ensures (c.in-Err-sync_file.ensures.want told)
