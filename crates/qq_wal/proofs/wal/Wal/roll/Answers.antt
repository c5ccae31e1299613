use Rattle.std.proofs.Common.{ap, Err, List, ◌∷◌, map, sym, ◌∙◌, refl, arith, rules, ◌≡◌, ◌+◌, length}
use Rattle.qq_base.specs.declared.ids.QueueId.{QueueId}
use Rattle.qq_disk.specs.Disk.{now}
use Rattle.qq_log.specs.Stable.{carry_of}
use Rattle.qq_wal_record.specs.declared.header.Header.{Header}
use Rattle.qq_wal_record.specs.declared.record.LogRecord.TheVariants.{Carry as CarryRecord}
use Rattle.qq_wal_chain.specs.Chain.{Found}
use Rattle.qq_wal_chain.specs.Image.{files_of}
use Rattle.qq_wal_chain.specs.Promise.{found_behind}
use Rattle.qq_wal_chain.specs.Wal.{wal, Ours}
use Rattle.qq_wal.specs.Marks.{carries_in}
use Rattle.qq_wal.specs.declared.marks.Mark.{Mark}
use Rattle.qq_wal.specs.Ranges.{begin_files, ranges_in}
use Rattle.qq_wal.specs.Wal.{first_length}
use Rattle.qq_wal.specs.Running.{top}
use Rattle.qq_wal.specs.declared.fault.WalFault.{WalFault}
use Rattle.qq_wal.proofs.Batches.{told_before}
use Rattle.qq_wal.proofs.Held.{clean-kept, kept-as}
use Rattle.qq_wal.proofs.OnDisk.{next-file, next-on-disk}
use Rattle.qq_wal.proofs.Steps.{in_top, still-holds}
use Rattle.qq_wal.proofs.Frames.{beside-log}
use Rattle.qq_wal.proofs.Refusing.{roll-failed, roll-stops, still-sound}
use Rattle.qq_wal.proofs.wal.Wal.roll.Goals as goal

pub returns-in-Err-begin_file-clause-stays : goal.returns-in-Err-begin_file-clause-stays
returns-in-Err-begin_file-clause-stays g c = λ told.
    let was = c.args.self.now in
    let header : Header = record { file = c.in-Ok.number; previous = was.header.file; good = was.size } in
    let on = c.requires.sound.on_disk told c.if-self.false in
    c.begin_file.ensures.stays told was.queues.items
    (record {
      files = was.header.file ∷ (found_behind (wal was.queues.items) top (Ours was.header)
          (files_of (now (g.D.NodeDisk.facts.past was.disk)))).files;
      world = on.lanes;
    }) (map CarryRecord (carries_in c.as_slice.result.now))
    (next-file was.queues.items (c.the_log_has_a_format.ensures was.queues.items) was.header header
    was.marks was.size was.numbers (now (g.D.NodeDisk.facts.past was.disk)) on
    (c.requires.sound.synced told c.if-self.false c.requires.synced) c.requires.sound.queues_are
    c.requires.sound.carries (λ id s. (c.carries_restate.ensures.exact (carry_of id s) s).1 refl)
    c.as_slice.result.now c.as_slice.ensures c.requires.sound.number c.in-Ok.ensures.ok refl refl
    c.begin_file.ensures.range (in_top c.in-Ok.number c.begin_file.ensures.range.0) c.in-Ok-first_bytes.ensures.fits)
    (c.as_slice-2.ensures.value ∙ c.in-Ok-first_bytes.ensures.ok was.queues.items)

pub returns-in-Err-begin_file-clause-may : goal.returns-in-Err-begin_file-clause-may
returns-in-Err-begin_file-clause-may g c = λ told before.
    let was = c.args.self.now in
    let header : Header = record { file = c.in-Ok.number; previous = was.header.file; good = was.size } in
    let on = c.requires.sound.on_disk told c.if-self.false in
    c.begin_file.ensures.may told was.queues.items
    (record {
      files = was.header.file ∷ (found_behind (wal was.queues.items) top (Ours was.header)
          (files_of (now (g.D.NodeDisk.facts.past was.disk)))).files;
      world = on.lanes;
    }) (map CarryRecord (carries_in c.as_slice.result.now))
    (next-file was.queues.items (c.the_log_has_a_format.ensures was.queues.items) was.header header
    was.marks was.size was.numbers (now (g.D.NodeDisk.facts.past was.disk)) on
    (c.requires.sound.synced told c.if-self.false c.requires.synced) c.requires.sound.queues_are
    c.requires.sound.carries (λ id s. (c.carries_restate.ensures.exact (carry_of id s) s).1 refl)
    c.as_slice.result.now c.as_slice.ensures c.requires.sound.number c.in-Ok.ensures.ok refl refl
    c.begin_file.ensures.range (in_top c.in-Ok.number c.begin_file.ensures.range.0) c.in-Ok-first_bytes.ensures.fits)
    (c.as_slice-2.ensures.value ∙ c.in-Ok-first_bytes.ensures.ok was.queues.items)

pub returns-clause-stays : goal.returns-clause-stays
returns-clause-stays g c = λ told.
    let was = c.args.self.now in
    let header : Header = record { file = c.in-Ok.number; previous = was.header.file; good = was.size } in
    let on = c.requires.sound.on_disk told c.if-self.false in
    c.begin_file.ensures.stays told was.queues.items
    (record {
      files = was.header.file ∷ (found_behind (wal was.queues.items) top (Ours was.header)
          (files_of (now (g.D.NodeDisk.facts.past was.disk)))).files;
      world = on.lanes;
    }) (map CarryRecord (carries_in c.as_slice.result.now))
    (next-file was.queues.items (c.the_log_has_a_format.ensures was.queues.items) was.header header
    was.marks was.size was.numbers (now (g.D.NodeDisk.facts.past was.disk)) on
    (c.requires.sound.synced told c.if-self.false c.requires.synced) c.requires.sound.queues_are
    c.requires.sound.carries (λ id s. (c.carries_restate.ensures.exact (carry_of id s) s).1 refl)
    c.as_slice.result.now c.as_slice.ensures c.requires.sound.number c.in-Ok.ensures.ok refl refl
    c.begin_file.ensures.range (in_top c.in-Ok.number c.begin_file.ensures.range.0) c.in-Ok-first_bytes.ensures.fits)
    (c.as_slice-2.ensures.value ∙ c.in-Ok-first_bytes.ensures.ok was.queues.items)

pub returns-clause-may : goal.returns-clause-may
returns-clause-may g c = λ told before.
    let was = c.args.self.now in
    let header : Header = record { file = c.in-Ok.number; previous = was.header.file; good = was.size } in
    let on = c.requires.sound.on_disk told c.if-self.false in
    c.begin_file.ensures.may told was.queues.items
    (record {
      files = was.header.file ∷ (found_behind (wal was.queues.items) top (Ours was.header)
          (files_of (now (g.D.NodeDisk.facts.past was.disk)))).files;
      world = on.lanes;
    }) (map CarryRecord (carries_in c.as_slice.result.now))
    (next-file was.queues.items (c.the_log_has_a_format.ensures was.queues.items) was.header header
    was.marks was.size was.numbers (now (g.D.NodeDisk.facts.past was.disk)) on
    (c.requires.sound.synced told c.if-self.false c.requires.synced) c.requires.sound.queues_are
    c.requires.sound.carries (λ id s. (c.carries_restate.ensures.exact (carry_of id s) s).1 refl)
    c.as_slice.result.now c.as_slice.ensures c.requires.sound.number c.in-Ok.ensures.ok refl refl
    c.begin_file.ensures.range (in_top c.in-Ok.number c.begin_file.ensures.range.0) c.in-Ok-first_bytes.ensures.fits)
    (c.as_slice-2.ensures.value ∙ c.in-Ok-first_bytes.ensures.ok was.queues.items)

pub returns-clause-holds : goal.returns-clause-holds
returns-clause-holds g c = λ told.
    let was = c.args.self.now in
    let header : Header = record { file = c.in-Ok.number; previous = was.header.file; good = was.size } in
    let on = c.requires.sound.on_disk told c.if-self.false in
    still-holds was.queues.items (now (g.D.NodeDisk.facts.past was.disk))
    (now (g.D.NodeDisk.facts.past c.begin_file.new.disk)) (c.in_default.ensures.shown told was.queues.items
    (record {
      files = was.header.file ∷ (found_behind (wal was.queues.items) top (Ours was.header)
          (files_of (now (g.D.NodeDisk.facts.past was.disk)))).files;
      world = on.lanes;
    }) (map CarryRecord (carries_in c.as_slice.result.now))
    (next-file was.queues.items (c.the_log_has_a_format.ensures was.queues.items) was.header header
    was.marks was.size was.numbers (now (g.D.NodeDisk.facts.past was.disk)) on
    (c.requires.sound.synced told c.if-self.false c.requires.synced) c.requires.sound.queues_are
    c.requires.sound.carries (λ id s. (c.carries_restate.ensures.exact (carry_of id s) s).1 refl)
    c.as_slice.result.now c.as_slice.ensures c.requires.sound.number c.in-Ok.ensures.ok refl refl
    c.begin_file.ensures.range (in_top c.in-Ok.number c.begin_file.ensures.range.0) c.in-Ok-first_bytes.ensures.fits)
    (c.as_slice-2.ensures.value ∙ c.in-Ok-first_bytes.ensures.ok was.queues.items))

pub returns-clause-sound : goal.returns-clause-sound
returns-clause-sound g c = record {
  waiting = c.requires.sound.waiting;
  follow = c.requires.sound.follow;
  queues_are = c.requires.sound.queues_are;
  carries = c.requires.sound.carries;
  number = search rules;
  counted = c.requires.sound.counted;
  named = c.requires.sound.named;
  on_disk = λ told going.
      let before = told_before c.begin_file.ensures.told told in
      let was = c.args.self.now in
      let header : Header = record { file = c.in-Ok.number; previous = was.header.file; good = was.size } in
      let on = c.requires.sound.on_disk before c.if-self.false in
      next-on-disk was.queues.items (c.the_log_has_a_format.ensures was.queues.items) was.header header
      was.marks was.size was.numbers (now (g.D.NodeDisk.facts.past was.disk)) on
      (c.requires.sound.synced before c.if-self.false c.requires.synced) c.requires.sound.queues_are
      c.requires.sound.carries (λ id s. (c.carries_restate.ensures.exact (carry_of id s) s).1 refl)
      c.len-size.result (record { log = c.in-Ok.number; segment = was.numbers.segment; snapshot = was.numbers.snapshot })
      (now (g.D.NodeDisk.facts.past c.begin_file.new.disk)) refl (omega (arith, c.in-Ok.ensures.ok))
      (c.in_default.ensures.log before was.queues.items
      (record {
        files = was.header.file ∷ (found_behind (wal was.queues.items) top (Ours was.header)
            (files_of (now (g.D.NodeDisk.facts.past was.disk)))).files;
        world = on.lanes;
      }) (map CarryRecord (carries_in c.as_slice.result.now))
      (next-file was.queues.items (c.the_log_has_a_format.ensures was.queues.items) was.header header
      was.marks was.size was.numbers (now (g.D.NodeDisk.facts.past was.disk)) on
      (c.requires.sound.synced before c.if-self.false c.requires.synced) c.requires.sound.queues_are
      c.requires.sound.carries (λ id s. (c.carries_restate.ensures.exact (carry_of id s) s).1 refl)
      c.as_slice.result.now c.as_slice.ensures c.requires.sound.number c.in-Ok.ensures.ok refl refl
      c.begin_file.ensures.range (in_top c.in-Ok.number c.begin_file.ensures.range.0) c.in-Ok-first_bytes.ensures.fits)
      (c.as_slice-2.ensures.value ∙ c.in-Ok-first_bytes.ensures.ok was.queues.items)).0
      (c.in_default.ensures.shown before was.queues.items
      (record {
        files = was.header.file ∷ (found_behind (wal was.queues.items) top (Ours was.header)
            (files_of (now (g.D.NodeDisk.facts.past was.disk)))).files;
        world = on.lanes;
      }) (map CarryRecord (carries_in c.as_slice.result.now))
      (next-file was.queues.items (c.the_log_has_a_format.ensures was.queues.items) was.header header
      was.marks was.size was.numbers (now (g.D.NodeDisk.facts.past was.disk)) on
      (c.requires.sound.synced before c.if-self.false c.requires.synced) c.requires.sound.queues_are
      c.requires.sound.carries (λ id s. (c.carries_restate.ensures.exact (carry_of id s) s).1 refl)
      c.as_slice.result.now c.as_slice.ensures c.requires.sound.number c.in-Ok.ensures.ok refl refl
      c.begin_file.ensures.range (in_top c.in-Ok.number c.begin_file.ensures.range.0) c.in-Ok-first_bytes.ensures.fits)
      (c.as_slice-2.ensures.value ∙ c.in-Ok-first_bytes.ensures.ok was.queues.items))
      (search rules ∙ sym (c.in_default.ensures.length before was.queues.items
      (record {
        files = was.header.file ∷ (found_behind (wal was.queues.items) top (Ours was.header)
            (files_of (now (g.D.NodeDisk.facts.past was.disk)))).files;
        world = on.lanes;
      }) (map CarryRecord (carries_in c.as_slice.result.now))
      (next-file was.queues.items (c.the_log_has_a_format.ensures was.queues.items) was.header header
      was.marks was.size was.numbers (now (g.D.NodeDisk.facts.past was.disk)) on
      (c.requires.sound.synced before c.if-self.false c.requires.synced) c.requires.sound.queues_are
      c.requires.sound.carries (λ id s. (c.carries_restate.ensures.exact (carry_of id s) s).1 refl)
      c.as_slice.result.now c.as_slice.ensures c.requires.sound.number c.in-Ok.ensures.ok refl refl
      c.begin_file.ensures.range (in_top c.in-Ok.number c.begin_file.ensures.range.0) c.in-Ok-first_bytes.ensures.fits)
      (c.as_slice-2.ensures.value ∙ c.in-Ok-first_bytes.ensures.ok was.queues.items)))
      (c.in_default.ensures.others before was.queues.items
      (record {
        files = was.header.file ∷ (found_behind (wal was.queues.items) top (Ours was.header)
            (files_of (now (g.D.NodeDisk.facts.past was.disk)))).files;
        world = on.lanes;
      }) (map CarryRecord (carries_in c.as_slice.result.now))
      (next-file was.queues.items (c.the_log_has_a_format.ensures was.queues.items) was.header header
      was.marks was.size was.numbers (now (g.D.NodeDisk.facts.past was.disk)) on
      (c.requires.sound.synced before c.if-self.false c.requires.synced) c.requires.sound.queues_are
      c.requires.sound.carries (λ id s. (c.carries_restate.ensures.exact (carry_of id s) s).1 refl)
      c.as_slice.result.now c.as_slice.ensures c.requires.sound.number c.in-Ok.ensures.ok refl refl
      c.begin_file.ensures.range (in_top c.in-Ok.number c.begin_file.ensures.range.0) c.in-Ok-first_bytes.ensures.fits)
      (c.as_slice-2.ensures.value ∙ c.in-Ok-first_bytes.ensures.ok was.queues.items));
  synced = λ told going clean.
      let before = told_before c.begin_file.ensures.told told in
      let was = c.args.self.now in
      let header : Header = record { file = c.in-Ok.number; previous = was.header.file; good = was.size } in
      let on = c.requires.sound.on_disk before c.if-self.false in
      (c.in_default.ensures.log before was.queues.items
      (record {
        files = was.header.file ∷ (found_behind (wal was.queues.items) top (Ours was.header)
            (files_of (now (g.D.NodeDisk.facts.past was.disk)))).files;
        world = on.lanes;
      }) (map CarryRecord (carries_in c.as_slice.result.now))
      (next-file was.queues.items (c.the_log_has_a_format.ensures was.queues.items) was.header header
      was.marks was.size was.numbers (now (g.D.NodeDisk.facts.past was.disk)) on
      (c.requires.sound.synced before c.if-self.false c.requires.synced) c.requires.sound.queues_are
      c.requires.sound.carries (λ id s. (c.carries_restate.ensures.exact (carry_of id s) s).1 refl)
      c.as_slice.result.now c.as_slice.ensures c.requires.sound.number c.in-Ok.ensures.ok refl refl
      c.begin_file.ensures.range (in_top c.in-Ok.number c.begin_file.ensures.range.0) c.in-Ok-first_bytes.ensures.fits)
      (c.as_slice-2.ensures.value ∙ c.in-Ok-first_bytes.ensures.ok was.queues.items)).1;
  kept = λ told going.
      let before = told_before c.begin_file.ensures.told told in
      let was = c.args.self.now in
      let header : Header = record { file = c.in-Ok.number; previous = was.header.file; good = was.size } in
      let laws = c.the_log_has_a_format.ensures was.queues.items in
      let on = c.requires.sound.on_disk before c.if-self.false in
      let clean = c.requires.sound.synced before c.if-self.false c.requires.synced in
      let found : Found (wal was.queues.items) = record {
        files = was.header.file ∷ (found_behind (wal was.queues.items) top (Ours was.header)
            (files_of (now (g.D.NodeDisk.facts.past was.disk)))).files;
        world = on.lanes;
      } in
      let carries = map CarryRecord (carries_in c.as_slice.result.now) in
      let continues = next-file was.queues.items laws was.header header was.marks was.size was.numbers
      (now (g.D.NodeDisk.facts.past was.disk)) on clean c.requires.sound.queues_are c.requires.sound.carries
      (λ id s. (c.carries_restate.ensures.exact (carry_of id s) s).1 refl)
      c.as_slice.result.now c.as_slice.ensures c.requires.sound.number c.in-Ok.ensures.ok refl refl
      c.begin_file.ensures.range (in_top c.in-Ok.number c.begin_file.ensures.range.0) c.in-Ok-first_bytes.ensures.fits in
      let is = c.as_slice-2.ensures.value ∙ c.in-Ok-first_bytes.ensures.ok was.queues.items in
      let log = c.in_default.ensures.log before was.queues.items found carries continues is in
      kept-as was.queues.items was.header header was.marks (now (g.D.NodeDisk.facts.past was.disk))
      (now (g.D.NodeDisk.facts.past c.begin_file.new.disk))
      (clean-kept was.queues.items laws header was.marks
      (now (g.D.NodeDisk.facts.past c.begin_file.new.disk)) log.0 log.1
      ∙ c.in_default.ensures.shown before was.queues.items found carries continues is
      ∙ sym (clean-kept was.queues.items laws was.header was.marks
      (now (g.D.NodeDisk.facts.past was.disk)) on.log clean)) (c.requires.sound.kept before c.if-self.false);
}

pub returns-clause-ok : goal.returns-clause-ok
returns-clause-ok g c =
    let was = c.args.self.now in
    let header : Header = record { file = c.in-Ok.number; previous = was.header.file; good = was.size } in
    let long : c.len-size.result ≡ length c.in-Ok-first_bytes.bytes.items = search rules in
    record {
      header = λ i. record { file = c.in-Ok.ensures.ok i; previous = was.header.file; good = was.size };
      size = long ∙ c.in-Ok-first_bytes.ensures.length
          ∙ ap (λ (l : List Mark). first_length header l) c.as_slice.ensures;
      first = refl;
      numbers = λ i. record {
        log = c.in-Ok.ensures.ok i;
        segment = was.numbers.segment;
        snapshot = was.numbers.snapshot;
      };
      log_bytes = refl;
      waiting = refl;
      marks = refl;
      ranges = c.in-Ok-begin_files.ensures.ok
          ∙ ap (λ (l : List QueueId). begin_files c.in-Ok.number l (ranges_in was.ranges)) c.deref.ensures.value;
      dirty = refl;
      stopped = c.if-self.false;
    }

pub returns-in-Err-begin_file-clause-sound : goal.returns-in-Err-begin_file-clause-sound
returns-in-Err-begin_file-clause-sound g c =
    still-sound g.D.NodeDisk.facts c.args.self.now c.begin_file.new.disk c.in-Err-begin_file.half c.requires.sound
    c.if-self.false c.begin_file.ensures.told c.in-Err-begin_file.ensures.want

pub returns-in-Err-begin_file-clause-stops : goal.returns-in-Err-begin_file-clause-stops
returns-in-Err-begin_file-clause-stops g c = λ told.
    let was = c.args.self.now in
    roll-stops _ (was.numbers.log + 1) c.in-Ok.number was.stopped c.in-Err-begin_file.half c.in-Err-begin_file.fault
    c.fault_of.result (now (g.D.NodeDisk.facts.past c.begin_file.new.disk)) (g.D.NodeDisk.facts.faults was.disk)
    (g.D.NodeDisk.facts.faults c.begin_file.new.disk) c.fault_of.ensures c.if-self.false (sym c.in-Ok.ensures.ok)
    c.in-Err-begin_file.ensures.failed (c.in-Err-begin_file.ensures.half told) c.in-Err-begin_file.ensures.cause.cause

pub returns-in-Err-begin_file-clause-failed : goal.returns-in-Err-begin_file-clause-failed
returns-in-Err-begin_file-clause-failed g c =
    roll-failed _ c.in-Err-begin_file.fault c.in-Err-begin_file.half _ c.in-Err-begin_file.ensures.failed
    (ap (λ (e : WalFault). Err e) c.fault_of.ensures)

pub returns-in-Err-begin_file-clause-moments : goal.returns-in-Err-begin_file-clause-moments
returns-in-Err-begin_file-clause-moments g c = λ told. c.in-Err-begin_file.ensures.want told

pub returns-in-Err-begin_file-clause-beside : goal.returns-in-Err-begin_file-clause-beside
returns-in-Err-begin_file-clause-beside g c = λ told.
    let past = g.D.NodeDisk.facts.past in
    beside-log c.in-Ok.number (c.args.self.now.numbers.log + 1) (past c.args.self.now.disk)
    (past c.begin_file.new.disk) c.in-Ok.ensures.ok (c.begin_file.ensures.beside told)

pub returns-clause-beside : goal.returns-clause-beside
returns-clause-beside g c = λ told.
    let past = g.D.NodeDisk.facts.past in
    beside-log c.in-Ok.number (c.args.self.now.numbers.log + 1) (past c.args.self.now.disk)
    (past c.begin_file.new.disk) c.in-Ok.ensures.ok (c.begin_file.ensures.beside told)
