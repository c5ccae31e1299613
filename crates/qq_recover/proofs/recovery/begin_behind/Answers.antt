use Rattle.std.proofs.Common.{◌≡◌, ◌⊎◌, ◌∙◌, ℕ, Bool, true, List, IsTrue, ap, inr, subst, sym}
use Rattle.std.specs.Global.{Vec}
use Rattle.std.specs.Prelude.{Contains}
use Rattle.qq_base.specs.declared.ids.QueueId.{QueueId}
use Rattle.qq_disk.specs.declared.name.FileName.{FileName}
use Rattle.qq_disk.specs.Disk.{Disk, contents, now}
use Rattle.qq_disk.specs.Image.{log_of}
use Rattle.qq_wal_record.specs.declared.header.Header.{Header}
use Rattle.qq_wal.specs.Ranges.{ranges_in}
use Rattle.qq_wal.specs.Running.{IsNoneOf, StaysBeside, StillHolds, StillMayRecover, Stays, numbers_behind, numbers_read}
use Rattle.qq_wal.proofs.Steps.{stays-then}
use Rattle.qq_recover.specs.Clearing.{BeginsAndClears, has_end, is_unread}
use Rattle.qq_recover.specs.Ends.{End}
use Rattle.qq_recover.specs.Recovered.{IsDiskCaused}
use Rattle.qq_recover.proofs.Cleared.{gone, none-of}
use Rattle.qq_recover.proofs.Removed.{caused-earlier, cleared-behind}
use Rattle.qq_recover.proofs.recovery.begin_behind.Goals as goal

pub remove_unread-requires-clause-outside : goal.remove_unread-requires-clause-outside
remove_unread-requires-clause-outside g c = λ there m none apart.
    let past = g.D.NodeDisk.facts.past in
    let b = c.in-Ok-begin.ensures in
    let w = c.in-Ok-begin.wal in
    let d = now (past w.disk) in
    let told = subst (λ (t : Bool). IsTrue t) b.told there in
    let same = ap (λ (v : Vec QueueId). numbers_behind v.items w.header d) b.ok.queues_are
    ∙ ap (λ (h : Header). numbers_behind c.in-Ok.queues.items h d) b.ok.header_is
    ∙ b.behind told
    ∙ ap (λ (l : List QueueId). numbers_read l (now (past c.args.disk))) c.in-Ok.ensures.items
    ∙ c.requires.chain told in (
      apart,
      subst (λ (l : List ℕ). IsNoneOf l m) (sym same)
          (none-of c.args.start.chain.items m
          (ap (λ (l : List End). has_end l m) (sym c.as_slice-in-Ok-begin.ensures.value) ∙ none)),
    )

-- ---- what isn't read is removed

pub returns-in-Ok-remove_unread-clause-stays : goal.returns-in-Ok-remove_unread-clause-stays
returns-in-Ok-remove_unread-clause-stays g c = λ told.
    let past = g.D.NodeDisk.facts.past in
    let b = c.in-Ok-begin.ensures in
    let w = c.in-Ok-begin.wal in
    let new = c.remove_unread.new.wal in
    let k = c.remove_unread.ensures.clears in
    let there = subst (λ (t : Bool). IsTrue t) (sym b.told) told in
    let items = ap (λ (v : Vec QueueId). v.items) b.ok.queues_are ∙ c.in-Ok.ensures.items in
    stays-then c.args.queues.now (past c.args.disk) (past w.disk) (past new.disk)
    (subst (λ (l : List QueueId). Stays l (past c.args.disk) (past w.disk)) c.in-Ok.ensures.items (b.stays told))
    (subst (λ (l : List QueueId). Stays l (past w.disk) (past new.disk)) items (k.stays there))

pub returns-in-Ok-remove_unread-clause-holds : goal.returns-in-Ok-remove_unread-clause-holds
returns-in-Ok-remove_unread-clause-holds g c = λ told given held.
    let past = g.D.NodeDisk.facts.past in
    let b = c.in-Ok-begin.ensures in
    let w = c.in-Ok-begin.wal in
    let new = c.remove_unread.new.wal in
    let k = c.remove_unread.ensures.clears in
    let there = subst (λ (t : Bool). IsTrue t) (sym b.told) told in
    let items = ap (λ (v : Vec QueueId). v.items) b.ok.queues_are ∙ c.in-Ok.ensures.items in
    subst (λ (l : List QueueId). StillHolds l (now (past w.disk)) (now (past new.disk))) items
    (c.in-Ok-remove_unread.ensures.holds there) given
    (subst (λ (l : List QueueId). StillHolds l (now (past c.args.disk)) (now (past w.disk))) c.in-Ok.ensures.items
    (b.holds told) given held)

pub returns-in-Ok-remove_unread-clause-others : goal.returns-in-Ok-remove_unread-clause-others
returns-in-Ok-remove_unread-clause-others g c = λ told.
    let facts = g.D.NodeDisk.facts in
    let b = c.in-Ok-begin.ensures in
    let w = c.in-Ok-begin.wal in
    let new = c.remove_unread.new.wal in
    let k = c.remove_unread.ensures.clears in
    let there = subst (λ (t : Bool). IsTrue t) (sym b.told) told in
    let items = ap (λ (v : Vec QueueId). v.items) b.ok.queues_are ∙ c.in-Ok.ensures.items in
    inr (cleared-behind facts c.args.start.names.items c.as_slice-in-Ok-begin-2.result.now c.args.start.chain.items
    c.as_slice-in-Ok-begin.result.now c.args.disk w new c.in-Ok.queues c.args.start.header
    c.as_slice.result.now c.as_slice-2.result.now (ranges_in c.args.start.ranges) c.args.log_bytes
    c.as_slice-in-Ok-begin-2.ensures.value c.as_slice-in-Ok-begin.ensures.value b.sound b.ok k b.told (b.beside told) told)

pub returns-in-Ok-remove_unread-clause-removed : goal.returns-in-Ok-remove_unread-clause-removed
returns-in-Ok-remove_unread-clause-removed g c = λ told file has unread.
    let past = g.D.NodeDisk.facts.past in
    let b = c.in-Ok-begin.ensures in
    let w = c.in-Ok-begin.wal in
    let new = c.remove_unread.new.wal in
    let k = c.remove_unread.ensures.clears in
    let there = subst (λ (t : Bool). IsTrue t) (sym b.told) told in
    let items = ap (λ (v : Vec QueueId). v.items) b.ok.queues_are ∙ c.in-Ok.ensures.items in
    ap (λ (d : Disk). contents d file) (c.in-Ok-remove_unread.ensures.ok there)
    ∙ gone c.as_slice-in-Ok-begin.result.now c.as_slice-in-Ok-begin-2.result.now (now (past w.disk)) file
    (subst (λ (l : List FileName). Contains l file) (sym c.as_slice-in-Ok-begin-2.ensures.value) has)
    (subst (λ (l : List End). is_unread l file ≡ true) (sym c.as_slice-in-Ok-begin.ensures.value) unread)

pub returns-in-Ok-remove_unread-clause-may : goal.returns-in-Ok-remove_unread-clause-may
returns-in-Ok-remove_unread-clause-may g c = λ told may.
    let past = g.D.NodeDisk.facts.past in
    let b = c.in-Ok-begin.ensures in
    let w = c.in-Ok-begin.wal in
    let new = c.remove_unread.new.wal in
    let k = c.remove_unread.ensures.clears in
    let there = subst (λ (t : Bool). IsTrue t) (sym b.told) told in
    let items = ap (λ (v : Vec QueueId). v.items) b.ok.queues_are ∙ c.in-Ok.ensures.items in
    subst (λ (l : List QueueId). StillMayRecover l (past w.disk) (past new.disk)) items (k.may there)
    (subst (λ (l : List QueueId). StillMayRecover l (past c.args.disk) (past w.disk)) c.in-Ok.ensures.items
    (b.may told) may)

-- ---- a removal fails

pub returns-in-Ok-begin-clause-stays : goal.returns-in-Ok-begin-clause-stays
returns-in-Ok-begin-clause-stays g c = λ told.
    let past = g.D.NodeDisk.facts.past in
    let b = c.in-Ok-begin.ensures in
    let w = c.in-Ok-begin.wal in
    let new = c.remove_unread.new.wal in
    let k = c.remove_unread.ensures.clears in
    let there = subst (λ (t : Bool). IsTrue t) (sym b.told) told in
    let items = ap (λ (v : Vec QueueId). v.items) b.ok.queues_are ∙ c.in-Ok.ensures.items in
    subst (λ (d : g.row.D.Denot). Stays c.args.queues.now (past c.args.disk) (past d)) (sym c.into_disk.ensures)
    (stays-then c.args.queues.now (past c.args.disk) (past w.disk) (past new.disk)
    (subst (λ (l : List QueueId). Stays l (past c.args.disk) (past w.disk)) c.in-Ok.ensures.items (b.stays told))
    (subst (λ (l : List QueueId). Stays l (past w.disk) (past new.disk)) items (k.stays there)))

pub returns-in-Ok-begin-clause-others : goal.returns-in-Ok-begin-clause-others
returns-in-Ok-begin-clause-others g c = λ told.
    let facts = g.D.NodeDisk.facts in
    let b = c.in-Ok-begin.ensures in
    let w = c.in-Ok-begin.wal in
    let new = c.remove_unread.new.wal in
    let k = c.remove_unread.ensures.clears in
    let there = subst (λ (t : Bool). IsTrue t) (sym b.told) told in
    let items = ap (λ (v : Vec QueueId). v.items) b.ok.queues_are ∙ c.in-Ok.ensures.items in
    subst (λ (d : g.row.D.Denot). StaysBeside (log_of c.args.start.header.file) (facts.past c.args.disk) (facts.past d)
    ⊎ BeginsAndClears c.args.start.names.items c.args.start.chain.items (log_of c.args.start.header.file)
    (facts.past c.args.disk) (facts.past d)) (sym c.into_disk.ensures)
    (inr (cleared-behind facts c.args.start.names.items c.as_slice-in-Ok-begin-2.result.now c.args.start.chain.items
    c.as_slice-in-Ok-begin.result.now c.args.disk w new c.in-Ok.queues c.args.start.header
    c.as_slice.result.now c.as_slice-2.result.now (ranges_in c.args.start.ranges) c.args.log_bytes
    c.as_slice-in-Ok-begin-2.ensures.value c.as_slice-in-Ok-begin.ensures.value b.sound b.ok k b.told (b.beside told) told))

pub returns-in-Ok-begin-clause-may : goal.returns-in-Ok-begin-clause-may
returns-in-Ok-begin-clause-may g c = λ told.
    let past = g.D.NodeDisk.facts.past in
    let b = c.in-Ok-begin.ensures in
    let w = c.in-Ok-begin.wal in
    let new = c.remove_unread.new.wal in
    let k = c.remove_unread.ensures.clears in
    let there = subst (λ (t : Bool). IsTrue t) (sym b.told) told in
    let items = ap (λ (v : Vec QueueId). v.items) b.ok.queues_are ∙ c.in-Ok.ensures.items in
    subst (λ (d : g.row.D.Denot). StillMayRecover c.args.queues.now (past c.args.disk) (past d)) (sym c.into_disk.ensures)
    (λ may. subst (λ (l : List QueueId). StillMayRecover l (past w.disk) (past new.disk)) items (k.may there)
    (subst (λ (l : List QueueId). StillMayRecover l (past c.args.disk) (past w.disk)) c.in-Ok.ensures.items
    (b.may told) may))

pub returns-in-Ok-begin-clause-cause : goal.returns-in-Ok-begin-clause-cause
returns-in-Ok-begin-clause-cause g c =
    let faults = g.D.NodeDisk.facts.faults in
    subst (λ (d : g.row.D.Denot). IsDiskCaused (faults c.args.disk) (faults d) c.fault_at_begin.result)
    (sym c.into_disk.ensures)
    (c.fault_at_begin.ensures (faults c.args.disk) (faults c.remove_unread.new.wal.disk)
    (caused-earlier (faults c.args.disk) (faults c.in-Ok-begin.wal.disk) (faults c.remove_unread.new.wal.disk)
    c.in-Err-remove_unread.fault c.in-Ok-begin.ensures.later c.in-Err-remove_unread.ensures.cause))

-- ---- no file is begun

pub returns-clause-stays : goal.returns-clause-stays
returns-clause-stays g c = λ told.
    let past = g.D.NodeDisk.facts.past in
    subst (λ (l : List QueueId). Stays l (past c.args.disk) (past c.in-Err-begin.disk)) c.in-Ok.ensures.items
    (c.in-Err-begin.ensures.stays told)

pub returns-clause-may : goal.returns-clause-may
returns-clause-may g c = λ told.
    let past = g.D.NodeDisk.facts.past in
    subst (λ (l : List QueueId). StillMayRecover l (past c.args.disk) (past c.in-Err-begin.disk)) c.in-Ok.ensures.items
    (c.in-Err-begin.ensures.may told)

pub returns-clause-cause : goal.returns-clause-cause
returns-clause-cause g c =
    c.fault_at_begin-in-Err-begin.ensures (g.D.NodeDisk.facts.faults c.args.disk)
    (g.D.NodeDisk.facts.faults c.in-Err-begin.disk) c.in-Err-begin.ensures.cause
