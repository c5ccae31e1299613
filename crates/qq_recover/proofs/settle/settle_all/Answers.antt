use Rattle.std.proofs.Common.{◌∙◌, ◌<◌, ℕ, Bool, List, suc, drop, length, ap, sym, subst, arith, add-one, drop-cons, IsTrue}
use Rattle.qq_disk.specs.declared.name.FileName.{FileName}
use Rattle.qq_disk.specs.Disk.{Disk, now}
use Rattle.qq_wal_chain.specs.Promise.{sync_all}
use Rattle.qq_wal.proofs.Steps.{stays-then}
use Rattle.qq_recover.proofs.Frames.{only-then}
use Rattle.qq_recover.proofs.settle.settle_all.Goals as goal

pub returns-in_err-sync_one-clause-stays : goal.returns-in_err-sync_one-clause-stays
returns-in_err-sync_one-clause-stays g c = λ told queues.
    let past = g.D.NodeDisk.facts.past in
    stays-then queues (past c.args.disk.now) (past c.loop-name.disk) (past c.sync_one.new.disk)
    (c.loop-name.invariant.stays told queues)
    (c.sync_one.ensures.stays (subst (λ (t : Bool). IsTrue t) (sym c.loop-name.invariant.told) told) queues)

pub returns-in_err-sync_one-clause-only : goal.returns-in_err-sync_one-clause-only
returns-in_err-sync_one-clause-only g c = λ told.
    let past = g.D.NodeDisk.facts.past in
    only-then (past c.args.disk.now) (past c.loop-name.disk) (past c.sync_one.new.disk)
    (c.loop-name.invariant.only told)
    (c.sync_one.ensures.only (subst (λ (t : Bool). IsTrue t) (sym c.loop-name.invariant.told) told))

pub returns-in_err-sync_one-clause-may : goal.returns-in_err-sync_one-clause-may
returns-in_err-sync_one-clause-may g c = λ told queues may.
    c.sync_one.ensures.may (subst (λ (t : Bool). IsTrue t) (sym c.loop-name.invariant.told) told) queues
    (c.loop-name.invariant.may told queues may)

pub loop-name-preserved : goal.loop-name-preserved
loop-name-preserved g c =
    let past = g.D.NodeDisk.facts.past in
    let within : c.loop-name.name-index < length c.args.names.now = omega arith in
    record {
      rest = λ told.
          ap (λ (k : ℕ). sync_all (now (past c.sync_one.new.disk)) (drop k c.args.names.now))
          (add-one c.loop-name.name-index)
          ∙ ap (λ (d : Disk). sync_all d (drop (suc c.loop-name.name-index) c.args.names.now))
          (c.in_ok-sync_one.ensures.ok (subst (λ (t : Bool). IsTrue t) (sym c.loop-name.invariant.told) told))
          ∙ ap (λ (names : List FileName). sync_all (now (past c.loop-name.disk)) names)
          (sym (drop-cons c.args.names.now c.loop-name.name-index _ within))
          ∙ c.loop-name.invariant.rest told;
      stays = λ told queues.
          stays-then queues (past c.args.disk.now) (past c.loop-name.disk) (past c.sync_one.new.disk)
          (c.loop-name.invariant.stays told queues)
          (c.sync_one.ensures.stays (subst (λ (t : Bool). IsTrue t) (sym c.loop-name.invariant.told) told) queues);
      only = λ told.
          only-then (past c.args.disk.now) (past c.loop-name.disk) (past c.sync_one.new.disk)
          (c.loop-name.invariant.only told)
          (c.sync_one.ensures.only (subst (λ (t : Bool). IsTrue t) (sym c.loop-name.invariant.told) told));
      may = λ told queues may.
          c.sync_one.ensures.may (subst (λ (t : Bool). IsTrue t) (sym c.loop-name.invariant.told) told) queues
          (c.loop-name.invariant.may told queues may);
      told = c.sync_one.ensures.told ∙ c.loop-name.invariant.told;
      later = omega (arith, c.loop-name.invariant.later, c.sync_one.ensures.cause.later);
    }
