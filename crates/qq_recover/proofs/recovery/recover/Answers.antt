use Rattle.std.proofs.Common.{Bool, IsTrue, arith, inl, inr, sym, subst}
use Rattle.std.proofs.lemmas.Result.{on_ok_weaker}
use Rattle.qq_disk.specs.Disk.{Disk, now}
use Rattle.qq_wal_chain.specs.Laws.{SettlesOn}
use Rattle.qq_wal.specs.Running.{StillHolds, top}
use Rattle.qq_wal.proofs.Steps.{stays-then}
use Rattle.qq_recover.specs.Reading.{lanes_read, shown}
use Rattle.qq_recover.specs.Recovered.{disk_of}
use Rattle.qq_recover.specs.Table.{lanes_of}
use Rattle.qq_recover.proofs.Removed.{others-begun, unread-is}
use Rattle.qq_recover.proofs.Outcomes.{begun-ok, disk-fails, disk-no-refusal, disk-unspent, err-weaker, knows-ok, lanes-ok, never-ok, new-ok, settles-ok}
use Rattle.qq_recover.proofs.Promised.{no-refusal, readable, settles-lanes}
use Rattle.qq_recover.proofs.Starts.{listed-within, may-begin, none-at-end, same-numbers, shows-lanes}
use Rattle.qq_recover.proofs.recovery.recover.Goals as goal

pub begin_behind-requires-clause-goes_on : goal.begin_behind-requires-clause-goes_on
begin_behind-requires-clause-goes_on g c = λ told.
    let past = g.D.NodeDisk.facts.past in
    let before : IsTrue (g.D.NodeDisk.facts.tells c.args.disk) =
    subst (λ (t : Bool). IsTrue t) c.prepare.ensures.told told in
    may-begin c.args.queues.now (c.the_log_has_a_format.ensures c.args.queues.now) (now (past c.args.disk))
    (now (past c.prepare.new.disk)) c.in-Ok.start c.in-Ok.ensures.start (c.in-Ok.ensures.read before)
    (c.requires before)

pub returns-in-Ok-clause-knows : goal.returns-in-Ok-clause-knows
returns-in-Ok-clause-knows g c =
    knows-ok c.args.queues.now c.in-Ok.start c.args.log_bytes c.begin_behind.result c.begin_behind.ensures.begun

pub returns-in-Ok-clause-goes_on : goal.returns-in-Ok-clause-goes_on
returns-in-Ok-clause-goes_on g c =
    new-ok c.args.queues.now c.in-Ok.start c.args.log_bytes c.begin_behind.result c.begin_behind.ensures.begun

pub returns-in-Ok-clause-begun : goal.returns-in-Ok-clause-begun
returns-in-Ok-clause-begun g c = λ told.
    let past = g.D.NodeDisk.facts.past in
    begun-ok c.args.queues.now c.in-Ok.start c.args.log_bytes c.begin_behind.result (now (past c.args.disk))
    (now (past c.prepare.new.disk)) (c.in-Ok.ensures.read told) c.begin_behind.ensures.begun
    c.begin_behind.ensures.header

pub returns-in-Ok-clause-lanes : goal.returns-in-Ok-clause-lanes
returns-in-Ok-clause-lanes g c = λ told.
    let past = g.D.NodeDisk.facts.past in
    lanes-ok c.args.queues.now c.in-Ok.start c.args.log_bytes c.begin_behind.result
    (lanes_read c.args.queues.now (shown (now (past c.args.disk)))) (c.in-Ok.ensures.read told).lanes
    c.begin_behind.ensures.lanes

pub returns-in-Ok-clause-refused : goal.returns-in-Ok-clause-refused
returns-in-Ok-clause-refused g c = λ told.
    let past = g.D.NodeDisk.facts.past in
    err-weaker _ _ c.begin_behind.result c.begin_behind.ensures.cause
    (λ e. disk-fails _ _ e.0 (lanes_read c.args.queues.now (shown (now (past c.args.disk)))))

pub returns-in-Ok-clause-stays : goal.returns-in-Ok-clause-stays
returns-in-Ok-clause-stays g c = λ told.
    let past = g.D.NodeDisk.facts.past in
    stays-then c.args.queues.now (past c.args.disk) (past c.prepare.new.disk) (past (disk_of c.begin_behind.result))
    (c.prepare.ensures.stays told)
    (c.begin_behind.ensures.stays (subst (λ (t : Bool). IsTrue t) (sym c.prepare.ensures.told) told))

pub returns-in-Ok-clause-settles : goal.returns-in-Ok-clause-settles
returns-in-Ok-clause-settles g c = λ told noticed given keeps.
    let past = g.D.NodeDisk.facts.past in
    let queues = c.args.queues.now in
    let later : IsTrue (g.D.NodeDisk.facts.tells c.prepare.new.disk) =
    subst (λ (t : Bool). IsTrue t) (sym c.prepare.ensures.told) told in
    let read = c.in-Ok.ensures.read told in
    let on : SettlesOn queues top noticed given (now (past c.prepare.new.disk)) =
    subst (λ (d : Disk). SettlesOn queues top noticed given d) (sym read.synced)
    (c.syncs_settle_what_is_read.ensures.ops queues top noticed given (now (past c.args.disk))
    c.in-Ok.start.names.items read.listing keeps) in
    settles-ok queues c.in-Ok.start c.args.log_bytes c.begin_behind.result noticed given
    (now (past (disk_of c.begin_behind.result)))
    (StillHolds queues (now (past c.prepare.new.disk)) (now (past (disk_of c.begin_behind.result))))
    (c.begin_behind.ensures.holds later)
    (settles-lanes queues noticed given (lanes_of c.in-Ok.start.table) (past c.prepare.new.disk)
    (past (disk_of c.begin_behind.result)) on
    (shows-lanes queues (c.the_log_has_a_format.ensures queues) (now (past c.args.disk))
    (now (past c.prepare.new.disk)) c.in-Ok.start c.in-Ok.ensures.start read)
    (c.begin_behind.ensures.stays later))
    c.begin_behind.ensures.lanes

pub returns-in-Ok-clause-never_refused : goal.returns-in-Ok-clause-never_refused
returns-in-Ok-clause-never_refused g c = λ told noticed given keeps.
    err-weaker _ _ c.begin_behind.result c.begin_behind.ensures.cause (λ e. disk-no-refusal _ _ e.0)

pub returns-in-Ok-clause-spent : goal.returns-in-Ok-clause-spent
returns-in-Ok-clause-spent g c = λ told.
    err-weaker _ _ c.begin_behind.result c.begin_behind.ensures.cause
    (λ e. disk-unspent _ _ (now (g.D.NodeDisk.facts.past c.args.disk)) e.0)

pub returns-in-Ok-clause-end : goal.returns-in-Ok-clause-end
returns-in-Ok-clause-end g c = λ told number end listed.
    let past = g.D.NodeDisk.facts.past in
    never-ok c.begin_behind.result
    (none-at-end c.args.queues.now (c.the_log_has_a_format.ensures c.args.queues.now) (now (past c.args.disk))
    (now (past c.prepare.new.disk)) c.in-Ok.start c.in-Ok.ensures.start (c.in-Ok.ensures.read told) number end listed)

pub returns-in-Err-clause-never_refused : goal.returns-in-Err-clause-never_refused
returns-in-Err-clause-never_refused g c = λ told noticed given keeps.
    let queues = c.args.queues.now in
    let d = now (g.D.NodeDisk.facts.past c.args.disk) in
    let r = readable queues (c.the_log_has_a_format.ensures queues) noticed given d keeps in
    no-refusal c.in-Err.fault (lanes_read queues (shown d)) r.lanes r.read (c.in-Err.ensures.lanes told)

pub begin_behind-requires-clause-chain : goal.begin_behind-requires-clause-chain
begin_behind-requires-clause-chain g c = λ told.
    let past = g.D.NodeDisk.facts.past in
    let before : IsTrue (g.D.NodeDisk.facts.tells c.args.disk) =
    subst (λ (t : Bool). IsTrue t) c.prepare.ensures.told told in
    same-numbers c.args.queues.now (c.the_log_has_a_format.ensures c.args.queues.now) (now (past c.args.disk))
    (now (past c.prepare.new.disk)) c.in-Ok.start c.in-Ok.ensures.start (c.in-Ok.ensures.read before)

pub returns-in-Ok-clause-may : goal.returns-in-Ok-clause-may
returns-in-Ok-clause-may g c = λ told may.
    c.begin_behind.ensures.may (subst (λ (t : Bool). IsTrue t) (sym c.prepare.ensures.told) told)
    (c.prepare.ensures.may told may)

pub returns-in-Ok-clause-removed : goal.returns-in-Ok-clause-removed
returns-in-Ok-clause-removed g c = λ told.
    let past = g.D.NodeDisk.facts.past in
    let read = c.in-Ok.ensures.read told in
    on_ok_weaker c.begin_behind.result
    (λ gone file unread. (let is = unread-is c.args.queues.now (past c.args.disk) (past c.prepare.new.disk)
    (past (disk_of c.begin_behind.result)) c.in-Ok.start.names.items c.in-Ok.start.chain.items read.listing read.chain
    file unread in gone file is.0 is.1))
    (c.begin_behind.ensures.removed (subst (λ (t : Bool). IsTrue t) (sym c.prepare.ensures.told) told))

pub returns-in-Ok-clause-others : goal.returns-in-Ok-clause-others
returns-in-Ok-clause-others g c = λ told.
    let past = g.D.NodeDisk.facts.past in
    let start = c.in-Ok.ensures.start in
    let read = c.in-Ok.ensures.read told in
    inr (others-begun c.args.queues.now (past c.args.disk) (past c.prepare.new.disk)
    (past (disk_of c.begin_behind.result)) c.in-Ok.start.names.items c.in-Ok.start.chain.items read.listing read.chain
    c.in-Ok.start.header.file
    (λ m listed. omega (
      arith,
      start.number,
      listed-within (now (past c.args.disk)) c.in-Ok.start.names.items read.listing m listed,
    ))
    (c.prepare.ensures.only told) read.synced
    (c.begin_behind.ensures.others (subst (λ (t : Bool). IsTrue t) (sym c.prepare.ensures.told) told)))

pub returns-in-Err-clause-others : goal.returns-in-Err-clause-others
returns-in-Err-clause-others g c = λ told. inl (c.prepare.ensures.only told)
