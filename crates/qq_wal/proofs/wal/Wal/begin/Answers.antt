use Rattle.std.proofs.Common.{Option, List, map, subst, sym, ap, ◌∙◌, refl, rules, ◌≡◌, length}
use Rattle.std.specs.List.{AllByRecursion}
use Rattle.std.proofs.lemmas.List.Elements.{recursion_from_All}
use Rattle.qq_base.specs.declared.ids.QueueId.{QueueId}
use Rattle.qq_disk.specs.Disk.{now}
use Rattle.qq_log.specs.Stable.{carry_of}
use Rattle.qq_wal_record.specs.declared.record.LogRecord.{LogRecord}
use Rattle.qq_wal_record.specs.declared.record.LogRecord.TheVariants.{Carry as CarryRecord}
use Rattle.qq_wal.specs.declared.marks.Mark.{Mark}
use Rattle.qq_wal.specs.Batch.{AllFitBatch}
use Rattle.qq_wal.specs.Marks.{AllFollow, HasCarry, IsCarry, carries_in, known, queues_in}
use Rattle.qq_wal.specs.Notices.{AreCounted, AreNamed, new_mark}
use Rattle.qq_wal.specs.Ranges.{begin_files, ranges_in}
use Rattle.qq_wal.specs.Running.{numbers_in}
use Rattle.qq_wal.specs.Wal.{first_length}
use Rattle.qq_wal.proofs.Agreeing.{begun-carries, begun-queues}
use Rattle.qq_wal_chain.specs.Chain.{Found}
use Rattle.qq_wal_chain.specs.Promise.{found_world}
use Rattle.qq_wal_chain.specs.Wal.{wal}
use Rattle.qq_wal.proofs.Batches.{told_before}
use Rattle.qq_wal.proofs.Counted.{counted-first}
use Rattle.qq_wal.proofs.Held.{begun-kept, begun-named, clean-kept}
use Rattle.qq_wal.proofs.OnDisk.{begin-agree, begin-continues, begin-on-disk}
use Rattle.qq_wal.proofs.Steps.{in_top, still-holds}
use Rattle.qq_wal.proofs.wal.Wal.begin.Goals as goal

pub first_bytes-requires : goal.first_bytes-requires
first_bytes-requires g c =
    subst (λ (l : List Mark). AllByRecursion HasCarry l) (sym (c.as_slice-2.ensures ∙ c.in-Ok.ensures.ok))
    (begun-carries c.args.carries.now c.as_slice.result.now
    (recursion_from_All IsCarry c.args.carries.now c.requires.carries))

pub returns-in-Err-begin_file-clause-stays : goal.returns-in-Err-begin_file-clause-stays
returns-in-Err-begin_file-clause-stays g c = λ told.
    let may = c.requires.goes_on told in
    c.begin_file.ensures.stays told c.args.queues.items may.before
    (map CarryRecord (carries_in c.as_slice-2.result.now))
    (begin-continues (λ id s. (c.carries_restate.ensures.exact (carry_of id s) s).1 refl) c.args.queues.items
    c.args.header c.args.carries.now c.args.names.now (now (g.D.NodeDisk.facts.past c.args.disk)) may c.requires.number
    (recursion_from_All IsCarry c.args.carries.now c.requires.carries) c.as_slice-2.result.now
    (c.as_slice-2.ensures ∙ c.in-Ok.ensures.ok
    ∙ ap (λ (l : List QueueId). map (new_mark c.args.carries.now) l) c.as_slice.ensures.value)
    (search rules) (in_top c.args.header.file (search rules)) c.in-Ok-first_bytes.ensures.fits)
    (c.as_slice-3.ensures.value ∙ c.in-Ok-first_bytes.ensures.ok c.args.queues.items)

pub returns-in-Err-begin_file-clause-may : goal.returns-in-Err-begin_file-clause-may
returns-in-Err-begin_file-clause-may g c = λ told before.
    let may = c.requires.goes_on told in
    c.begin_file.ensures.may told c.args.queues.items may.before
    (map CarryRecord (carries_in c.as_slice-2.result.now))
    (begin-continues (λ id s. (c.carries_restate.ensures.exact (carry_of id s) s).1 refl) c.args.queues.items
    c.args.header c.args.carries.now c.args.names.now (now (g.D.NodeDisk.facts.past c.args.disk)) may c.requires.number
    (recursion_from_All IsCarry c.args.carries.now c.requires.carries) c.as_slice-2.result.now
    (c.as_slice-2.ensures ∙ c.in-Ok.ensures.ok
    ∙ ap (λ (l : List QueueId). map (new_mark c.args.carries.now) l) c.as_slice.ensures.value)
    (search rules) (in_top c.args.header.file (search rules)) c.in-Ok-first_bytes.ensures.fits)
    (c.as_slice-3.ensures.value ∙ c.in-Ok-first_bytes.ensures.ok c.args.queues.items)

pub returns-clause-stays : goal.returns-clause-stays
returns-clause-stays g c = λ told.
    let may = c.requires.goes_on told in
    c.begin_file.ensures.stays told c.args.queues.items may.before
    (map CarryRecord (carries_in c.as_slice-2.result.now))
    (begin-continues (λ id s. (c.carries_restate.ensures.exact (carry_of id s) s).1 refl) c.args.queues.items
    c.args.header c.args.carries.now c.args.names.now (now (g.D.NodeDisk.facts.past c.args.disk)) may c.requires.number
    (recursion_from_All IsCarry c.args.carries.now c.requires.carries) c.as_slice-2.result.now
    (c.as_slice-2.ensures ∙ c.in-Ok.ensures.ok
    ∙ ap (λ (l : List QueueId). map (new_mark c.args.carries.now) l) c.as_slice.ensures.value)
    (search rules) (in_top c.args.header.file (search rules)) c.in-Ok-first_bytes.ensures.fits)
    (c.as_slice-3.ensures.value ∙ c.in-Ok-first_bytes.ensures.ok c.args.queues.items)

pub returns-clause-behind : goal.returns-clause-behind
returns-clause-behind g c = λ told.
    let may = c.requires.goes_on told in
    c.in_default.ensures.behind told c.args.queues.items may.before
    (map CarryRecord (carries_in c.as_slice-2.result.now))
    (begin-continues (λ id s. (c.carries_restate.ensures.exact (carry_of id s) s).1 refl) c.args.queues.items
    c.args.header c.args.carries.now c.args.names.now (now (g.D.NodeDisk.facts.past c.args.disk)) may c.requires.number
    (recursion_from_All IsCarry c.args.carries.now c.requires.carries) c.as_slice-2.result.now
    (c.as_slice-2.ensures ∙ c.in-Ok.ensures.ok
    ∙ ap (λ (l : List QueueId). map (new_mark c.args.carries.now) l) c.as_slice.ensures.value)
    (search rules) (in_top c.args.header.file (search rules)) c.in-Ok-first_bytes.ensures.fits)
    (c.as_slice-3.ensures.value ∙ c.in-Ok-first_bytes.ensures.ok c.args.queues.items)
    ∙ sym (ap (λ (f : Option (Found (wal c.args.queues.items))). numbers_in c.args.queues.items f) may.found)

pub returns-clause-may : goal.returns-clause-may
returns-clause-may g c = λ told before.
    let may = c.requires.goes_on told in
    c.begin_file.ensures.may told c.args.queues.items may.before
    (map CarryRecord (carries_in c.as_slice-2.result.now))
    (begin-continues (λ id s. (c.carries_restate.ensures.exact (carry_of id s) s).1 refl) c.args.queues.items
    c.args.header c.args.carries.now c.args.names.now (now (g.D.NodeDisk.facts.past c.args.disk)) may c.requires.number
    (recursion_from_All IsCarry c.args.carries.now c.requires.carries) c.as_slice-2.result.now
    (c.as_slice-2.ensures ∙ c.in-Ok.ensures.ok
    ∙ ap (λ (l : List QueueId). map (new_mark c.args.carries.now) l) c.as_slice.ensures.value)
    (search rules) (in_top c.args.header.file (search rules)) c.in-Ok-first_bytes.ensures.fits)
    (c.as_slice-3.ensures.value ∙ c.in-Ok-first_bytes.ensures.ok c.args.queues.items)

pub returns-clause-holds : goal.returns-clause-holds
returns-clause-holds g c = λ told.
    let may = c.requires.goes_on told in
    still-holds c.args.queues.items (now (g.D.NodeDisk.facts.past c.args.disk))
    (now (g.D.NodeDisk.facts.past c.begin_file.new.disk))
    (c.in_default.ensures.shown told c.args.queues.items may.before
    (map CarryRecord (carries_in c.as_slice-2.result.now))
    (begin-continues (λ id s. (c.carries_restate.ensures.exact (carry_of id s) s).1 refl) c.args.queues.items
    c.args.header c.args.carries.now c.args.names.now (now (g.D.NodeDisk.facts.past c.args.disk)) may c.requires.number
    (recursion_from_All IsCarry c.args.carries.now c.requires.carries) c.as_slice-2.result.now
    (c.as_slice-2.ensures ∙ c.in-Ok.ensures.ok
    ∙ ap (λ (l : List QueueId). map (new_mark c.args.carries.now) l) c.as_slice.ensures.value)
    (search rules) (in_top c.args.header.file (search rules)) c.in-Ok-first_bytes.ensures.fits)
    (c.as_slice-3.ensures.value ∙ c.in-Ok-first_bytes.ensures.ok c.args.queues.items))

pub returns-clause-sound : goal.returns-clause-sound
returns-clause-sound g c =
    let queues = c.args.queues.items in
    let made = c.in-Ok.ensures.ok
    ∙ ap (λ (l : List QueueId). map (new_mark c.args.carries.now) l) c.as_slice.ensures.value in
    let each = recursion_from_All IsCarry c.args.carries.now c.requires.carries in
    let records = map CarryRecord (carries_in c.as_slice-2.result.now) in
    record {
      waiting = subst (λ (l : List LogRecord). AllFitBatch l) (sym c.new-2.ensures.items) (search rules);
      follow = subst (λ (l : List LogRecord). AllFollow queues (known c.in-Ok.marks) l) (sym c.new-2.ensures.items)
          tt;
      queues_are = ap queues_in made ∙ begun-queues c.args.carries.now queues;
      carries = subst (λ (l : List Mark). AllByRecursion HasCarry l) (sym made)
          (begun-carries c.args.carries.now queues each);
      number = search rules;
      counted = subst (λ (l : List Mark). AreCounted l) (sym made) (counted-first c.args.carries.now queues);
      named = subst (λ (l : List Mark). AreNamed l) (sym made) (begun-named c.args.carries.now queues);
      on_disk = λ told going.
          let before = told_before c.begin_file.ensures.told told in
          let may = c.requires.goes_on before in
          let goes_on = begin-continues (λ id s. (c.carries_restate.ensures.exact (carry_of id s) s).1 refl) queues
          c.args.header c.args.carries.now c.args.names.now (now (g.D.NodeDisk.facts.past c.args.disk)) may
          c.requires.number each c.as_slice-2.result.now (c.as_slice-2.ensures ∙ made) (search rules)
          (in_top c.args.header.file (search rules)) c.in-Ok-first_bytes.ensures.fits in
          let is = c.as_slice-3.ensures.value ∙ c.in-Ok-first_bytes.ensures.ok queues in
          begin-on-disk (λ id s. (c.carries_restate.ensures.exact (carry_of id s) s).1 refl) queues
          c.args.header c.args.carries.now c.args.names.now (now (g.D.NodeDisk.facts.past c.args.disk)) may
          c.requires.number each c.in-Ok.marks made c.len-size.result c.first_numbers.result
          (now (g.D.NodeDisk.facts.past c.begin_file.new.disk)) c.first_numbers.ensures
          (c.in_default.ensures.log before queues may.before records goes_on is).0
          (c.in_default.ensures.shown before queues may.before records goes_on is)
          (search rules ∙ sym (c.in_default.ensures.length before queues may.before records goes_on is))
          (c.in_default.ensures.others before queues may.before records goes_on is);
      synced = λ told going clean.
          let before = told_before c.begin_file.ensures.told told in
          let may = c.requires.goes_on before in
          let goes_on = begin-continues (λ id s. (c.carries_restate.ensures.exact (carry_of id s) s).1 refl) queues
          c.args.header c.args.carries.now c.args.names.now (now (g.D.NodeDisk.facts.past c.args.disk)) may
          c.requires.number each c.as_slice-2.result.now (c.as_slice-2.ensures ∙ made) (search rules)
          (in_top c.args.header.file (search rules)) c.in-Ok-first_bytes.ensures.fits in
          (c.in_default.ensures.log before queues may.before records goes_on
          (c.as_slice-3.ensures.value ∙ c.in-Ok-first_bytes.ensures.ok queues)).1;
      kept = λ told going.
          let before = told_before c.begin_file.ensures.told told in
          let may = c.requires.goes_on before in
          let goes_on = begin-continues (λ id s. (c.carries_restate.ensures.exact (carry_of id s) s).1 refl) queues
          c.args.header c.args.carries.now c.args.names.now (now (g.D.NodeDisk.facts.past c.args.disk)) may
          c.requires.number each c.as_slice-2.result.now (c.as_slice-2.ensures ∙ made) (search rules)
          (in_top c.args.header.file (search rules)) c.in-Ok-first_bytes.ensures.fits in
          let is = c.as_slice-3.ensures.value ∙ c.in-Ok-first_bytes.ensures.ok queues in
          let log = c.in_default.ensures.log before queues may.before records goes_on is in
          begun-kept queues c.args.header c.args.carries.now c.in-Ok.marks
          (now (g.D.NodeDisk.facts.past c.begin_file.new.disk)) may.before.world made
          (clean-kept queues (c.the_log_has_a_format.ensures queues) c.args.header c.in-Ok.marks
          (now (g.D.NodeDisk.facts.past c.begin_file.new.disk)) log.0 log.1
          ∙ c.in_default.ensures.shown before queues may.before records goes_on is
          ∙ ap (λ (f : Option (Found (wal queues))). found_world (wal queues) f) may.found)
          (begin-agree (λ id s. (c.carries_restate.ensures.exact (carry_of id s) s).1 refl) queues
          c.args.header c.args.carries.now c.args.names.now (now (g.D.NodeDisk.facts.past c.args.disk)) may
          c.requires.number each c.in-Ok.marks made);
    }

pub returns-clause-ok : goal.returns-clause-ok
returns-clause-ok g c =
    let long : c.len-size.result ≡ length c.in-Ok-first_bytes.bytes.items = search rules in
    record {
      queues_are = refl;
      header_is = refl;
      waiting = c.new-2.ensures.items;
      marks = c.in-Ok.ensures.ok
          ∙ ap (λ (l : List QueueId). map (new_mark c.args.carries.now) l) c.as_slice.ensures.value;
      ranges_are = c.in-Ok-begin_files.ensures.ok
          ∙ ap (λ (l : List QueueId). begin_files c.args.header.file l (ranges_in c.args.ranges.now)) c.deref.ensures.value;
      size = long ∙ c.in-Ok-first_bytes.ensures.length
          ∙ ap (λ (l : List Mark). first_length c.args.header l) c.as_slice-2.ensures;
      first = refl;
      numbers = c.first_numbers.ensures;
      limit = refl;
      clean = refl;
      going = refl;
    }
