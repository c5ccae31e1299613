use Rattle.std.proofs.Common.{◌≡◌, ◌∙◌, Bool, IsTrue, List, ap, refl, sym, subst}
use Rattle.qq_disk.specs.declared.name.FileName.{FileName}
use Rattle.qq_disk.specs.Disk.{IsListing, now}
use Rattle.qq_wal_chain.specs.Chain.{Logs}
use Rattle.qq_wal_chain.specs.Promise.{sync_all}
use Rattle.qq_recover.specs.declared.start.Start.{Start}
use Rattle.qq_recover.specs.Answer.{Fails}
use Rattle.qq_recover.specs.Reading.{lanes_read}
use Rattle.qq_recover.proofs.Frames.{only-through}
use Rattle.qq_recover.proofs.Prepared.{may-through, prepared-stays, read-of, still-listed, still-shown}
use Rattle.qq_recover.proofs.start.prepare.Goals as goal

pub returns-in-Err-clause-stays : goal.returns-in-Err-clause-stays
returns-in-Err-clause-stays g c = λ told.
    let past = g.D.NodeDisk.facts.past in
    prepared-stays c.args.queues.now (past c.args.disk.now) (past c.names.new.self) (past c.settle_all.new.disk)
    (past c.settle_all.new.disk) (c.names.ensures.same told)
    (c.settle_all.ensures.stays (subst (λ (t : Bool). IsTrue t) (sym c.names.ensures.told) told) c.args.queues.now) refl

pub returns-in_err-start_behind-in-Ok-clause-stays :
    goal.returns-in_err-start_behind-in-Ok-clause-stays
returns-in_err-start_behind-in-Ok-clause-stays g c = λ told.
    let past = g.D.NodeDisk.facts.past in
    let named = subst (λ (t : Bool). IsTrue t) (sym c.names.ensures.told) told in
    let settled = subst (λ (t : Bool). IsTrue t) (sym c.settle_all.ensures.told) named in
    prepared-stays c.args.queues.now (past c.args.disk.now) (past c.names.new.self) (past c.settle_all.new.disk)
    (past c.read_log.new.disk) (c.names.ensures.same told) (c.settle_all.ensures.stays named c.args.queues.now)
    (c.read_log.ensures.reads.same settled)

pub returns-in_ok-start_behind-in-Ok-clause-stays :
    goal.returns-in_ok-start_behind-in-Ok-clause-stays
returns-in_ok-start_behind-in-Ok-clause-stays g c = λ told.
    let past = g.D.NodeDisk.facts.past in
    let named = subst (λ (t : Bool). IsTrue t) (sym c.names.ensures.told) told in
    let settled = subst (λ (t : Bool). IsTrue t) (sym c.settle_all.ensures.told) named in
    prepared-stays c.args.queues.now (past c.args.disk.now) (past c.names.new.self) (past c.settle_all.new.disk)
    (past c.read_log.new.disk) (c.names.ensures.same told) (c.settle_all.ensures.stays named c.args.queues.now)
    (c.read_log.ensures.reads.same settled)

pub returns-in-Err-read_log-clause-stays : goal.returns-in-Err-read_log-clause-stays
returns-in-Err-read_log-clause-stays g c = λ told.
    let past = g.D.NodeDisk.facts.past in
    let named = subst (λ (t : Bool). IsTrue t) (sym c.names.ensures.told) told in
    let settled = subst (λ (t : Bool). IsTrue t) (sym c.settle_all.ensures.told) named in
    prepared-stays c.args.queues.now (past c.args.disk.now) (past c.names.new.self) (past c.settle_all.new.disk)
    (past c.read_log.new.disk) (c.names.ensures.same told) (c.settle_all.ensures.stays named c.args.queues.now)
    (c.read_log.ensures.reads.same settled)

pub returns-in_ok-start_behind-in-Ok-clause-read :
    goal.returns-in_ok-start_behind-in-Ok-clause-read
returns-in_ok-start_behind-in-Ok-clause-read g c = λ told.
    let past = g.D.NodeDisk.facts.past in
    let named = subst (λ (t : Bool). IsTrue t) (sym c.names.ensures.told) told in
    let settled = subst (λ (t : Bool). IsTrue t) (sym c.settle_all.ensures.told) named in
    let names : List FileName = c.in_ok-names.names.items in
    let synced : now (past c.settle_all.new.disk) ≡ sync_all (now (past c.names.new.self)) names =
    c.in_default.ensures.ok named
    ∙ ap (λ (l : List FileName). sync_all (now (past c.names.new.self)) l) c.as_slice.ensures.value in
    let listed : IsListing (now (past c.settle_all.new.disk)) c.as_slice-2.result.now =
    subst (λ (l : List FileName). IsListing (now (past c.settle_all.new.disk)) l) (sym c.as_slice-2.ensures.value)
    (still-listed c.args.queues.now (past c.args.disk.now) (past c.names.new.self) (past c.settle_all.new.disk)
    names (c.names.ensures.same told) (c.in_ok-names.ensures.ok told) synced) in
    let s : Start = c.in_ok-start_behind-in-Ok.field-0 in
    read-of c.args.queues.now (past c.args.disk.now) (past c.names.new.self) (past c.settle_all.new.disk)
    names (c.names.ensures.same told) (c.in_ok-names.ensures.ok told) synced (past c.read_log.new.disk) c.in-Ok.log
    s (c.read_log.ensures.reads.same settled) (c.in-Ok.ensures.lanes settled listed)
    (c.in-Ok.ensures.newest settled listed) (c.in-Ok.ensures.ranges settled listed)
    (c.in-Ok.ensures.chain settled listed)
    c.in_ok-start_behind-in-Ok.ensures.ranges c.in_ok-start_behind-in-Ok.ensures.table
    (ap (λ v. v.items) c.in_ok-start_behind-in-Ok.ensures.names) c.in_ok-start_behind-in-Ok.ensures.previous
    c.in_ok-start_behind-in-Ok.ensures.good (ap (λ v. v.items) c.in_ok-start_behind-in-Ok.ensures.chain)

pub returns-in_ok-start_behind-in-Ok-clause-lanes :
    goal.returns-in_ok-start_behind-in-Ok-clause-lanes
returns-in_ok-start_behind-in-Ok-clause-lanes g c = λ told.
    (returns-in_ok-start_behind-in-Ok-clause-read g c told).lanes

pub returns-in-Err-read_log-clause-lanes : goal.returns-in-Err-read_log-clause-lanes
returns-in-Err-read_log-clause-lanes g c = λ told.
    let past = g.D.NodeDisk.facts.past in
    let named = subst (λ (t : Bool). IsTrue t) (sym c.names.ensures.told) told in
    let settled = subst (λ (t : Bool). IsTrue t) (sym c.settle_all.ensures.told) named in
    let names : List FileName = c.in_ok-names.names.items in
    let synced : now (past c.settle_all.new.disk) ≡ sync_all (now (past c.names.new.self)) names =
    c.in_default.ensures.ok named
    ∙ ap (λ (l : List FileName). sync_all (now (past c.names.new.self)) l) c.as_slice.ensures.value in
    let listed : IsListing (now (past c.settle_all.new.disk)) c.as_slice-2.result.now =
    subst (λ (l : List FileName). IsListing (now (past c.settle_all.new.disk)) l) (sym c.as_slice-2.ensures.value)
    (still-listed c.args.queues.now (past c.args.disk.now) (past c.names.new.self) (past c.settle_all.new.disk)
    names (c.names.ensures.same told) (c.in_ok-names.ensures.ok told) synced) in
    subst (λ (logs : Logs). Fails c.in-Err-read_log.fault (lanes_read c.args.queues.now logs))
    (still-shown c.args.queues.now (past c.args.disk.now) (past c.names.new.self) (past c.settle_all.new.disk)
    names (c.names.ensures.same told) (c.in_ok-names.ensures.ok told) synced)
    (c.in-Err-read_log.ensures.lanes settled listed)

pub returns-in-Err-clause-may : goal.returns-in-Err-clause-may
returns-in-Err-clause-may g c = λ told.
    let past = g.D.NodeDisk.facts.past in
    let named = subst (λ (t : Bool). IsTrue t) (sym c.names.ensures.told) told in
    may-through c.args.queues.now (past c.args.disk.now) (past c.names.new.self) (past c.settle_all.new.disk)
    (past c.settle_all.new.disk) (c.names.ensures.same told) (c.settle_all.ensures.may named c.args.queues.now) refl

pub returns-in_err-start_behind-in-Ok-clause-may : goal.returns-in_err-start_behind-in-Ok-clause-may
returns-in_err-start_behind-in-Ok-clause-may g c = λ told.
    let past = g.D.NodeDisk.facts.past in
    let named = subst (λ (t : Bool). IsTrue t) (sym c.names.ensures.told) told in
    let settled = subst (λ (t : Bool). IsTrue t) (sym c.settle_all.ensures.told) named in
    may-through c.args.queues.now (past c.args.disk.now) (past c.names.new.self) (past c.settle_all.new.disk)
    (past c.read_log.new.disk) (c.names.ensures.same told) (c.settle_all.ensures.may named c.args.queues.now) (c.read_log.ensures.reads.same settled)

pub returns-in_ok-start_behind-in-Ok-clause-may : goal.returns-in_ok-start_behind-in-Ok-clause-may
returns-in_ok-start_behind-in-Ok-clause-may g c = λ told.
    let past = g.D.NodeDisk.facts.past in
    let named = subst (λ (t : Bool). IsTrue t) (sym c.names.ensures.told) told in
    let settled = subst (λ (t : Bool). IsTrue t) (sym c.settle_all.ensures.told) named in
    may-through c.args.queues.now (past c.args.disk.now) (past c.names.new.self) (past c.settle_all.new.disk)
    (past c.read_log.new.disk) (c.names.ensures.same told) (c.settle_all.ensures.may named c.args.queues.now) (c.read_log.ensures.reads.same settled)

pub returns-in-Err-read_log-clause-may : goal.returns-in-Err-read_log-clause-may
returns-in-Err-read_log-clause-may g c = λ told.
    let past = g.D.NodeDisk.facts.past in
    let named = subst (λ (t : Bool). IsTrue t) (sym c.names.ensures.told) told in
    let settled = subst (λ (t : Bool). IsTrue t) (sym c.settle_all.ensures.told) named in
    may-through c.args.queues.now (past c.args.disk.now) (past c.names.new.self) (past c.settle_all.new.disk)
    (past c.read_log.new.disk) (c.names.ensures.same told) (c.settle_all.ensures.may named c.args.queues.now) (c.read_log.ensures.reads.same settled)

pub returns-in-Err-clause-only : goal.returns-in-Err-clause-only
returns-in-Err-clause-only g c = λ told.
    let past = g.D.NodeDisk.facts.past in
    let named = subst (λ (t : Bool). IsTrue t) (sym c.names.ensures.told) told in
    only-through (past c.args.disk.now) (past c.names.new.self) (past c.settle_all.new.disk)
    (past c.settle_all.new.disk) (c.names.ensures.same told) (c.settle_all.ensures.only named) refl

pub returns-in_err-start_behind-in-Ok-clause-only : goal.returns-in_err-start_behind-in-Ok-clause-only
returns-in_err-start_behind-in-Ok-clause-only g c = λ told.
    let past = g.D.NodeDisk.facts.past in
    let named = subst (λ (t : Bool). IsTrue t) (sym c.names.ensures.told) told in
    let settled = subst (λ (t : Bool). IsTrue t) (sym c.settle_all.ensures.told) named in
    only-through (past c.args.disk.now) (past c.names.new.self) (past c.settle_all.new.disk)
    (past c.read_log.new.disk) (c.names.ensures.same told) (c.settle_all.ensures.only named) (c.read_log.ensures.reads.same settled)

pub returns-in_ok-start_behind-in-Ok-clause-only : goal.returns-in_ok-start_behind-in-Ok-clause-only
returns-in_ok-start_behind-in-Ok-clause-only g c = λ told.
    let past = g.D.NodeDisk.facts.past in
    let named = subst (λ (t : Bool). IsTrue t) (sym c.names.ensures.told) told in
    let settled = subst (λ (t : Bool). IsTrue t) (sym c.settle_all.ensures.told) named in
    only-through (past c.args.disk.now) (past c.names.new.self) (past c.settle_all.new.disk)
    (past c.read_log.new.disk) (c.names.ensures.same told) (c.settle_all.ensures.only named) (c.read_log.ensures.reads.same settled)

pub returns-in-Err-read_log-clause-only : goal.returns-in-Err-read_log-clause-only
returns-in-Err-read_log-clause-only g c = λ told.
    let past = g.D.NodeDisk.facts.past in
    let named = subst (λ (t : Bool). IsTrue t) (sym c.names.ensures.told) told in
    let settled = subst (λ (t : Bool). IsTrue t) (sym c.settle_all.ensures.told) named in
    only-through (past c.args.disk.now) (past c.names.new.self) (past c.settle_all.new.disk)
    (past c.read_log.new.disk) (c.names.ensures.same told) (c.settle_all.ensures.only named) (c.read_log.ensures.reads.same settled)
