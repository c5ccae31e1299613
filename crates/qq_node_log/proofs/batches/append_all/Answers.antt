use Rattle.std.proofs.lemmas.Result.{err_from_is_err_and}
use Rattle.qq_disk.proofs.Stored.{still_tells}
use Rattle.qq_node_log.proofs.Batching.{begun-all, begun-more, begun-none, begun-some, begun-stays, later-caused, less-waits, nothing-waits}
use Rattle.qq_node_log.proofs.Same.{same-none, same-then}
use Rattle.qq_node_log.proofs.batches.append_all.Goals as goal

pub append_some-requires-clause-sound : goal.append_some-requires-clause-sound
append_some-requires-clause-sound g c = c.batches.invariant.same.sound

pub batches-init : goal.batches-init
batches-init g c = record {
  same = same-none g.D.NodeDisk.facts c.args.wal.now c.requires.sound;
  going = c.requires.going;
  begun = begun-none g.D.NodeDisk.facts c.args.wal.now;
}

pub batches-smaller : goal.batches-smaller
batches-smaller g c =
    less-waits g.D.NodeDisk.facts c.in_ok-append_some.field-0 c.batches.wal c.append_some.new.wal c.if-branch.true
    c.in_ok-append_some.ensures.ok

pub batches-preserved : goal.batches-preserved
batches-preserved g c = record {
  same = same-then g.D.NodeDisk.facts c.args.wal.now c.batches.wal c.append_some.new.wal c.batches.invariant.same
      c.append_some.ensures.same;
  going = c.in_ok-append_some.ensures.ok.going;
  begun = begun-more g.D.NodeDisk.facts c.in_ok-append_some.field-0 c.args.wal.now c.batches.wal c.append_some.new.wal
      c.batches.invariant.same.queues c.batches.invariant.same.told c.batches.invariant.begun
      c.in_ok-append_some.ensures.ok;
}

pub returns-in_err-append_some-clause-same : goal.returns-in_err-append_some-clause-same
returns-in_err-append_some-clause-same g c =
    same-then g.D.NodeDisk.facts c.args.wal.now c.batches.wal c.append_some.new.wal c.batches.invariant.same
    c.append_some.ensures.same

pub returns-in_err-append_some-clause-stays : goal.returns-in_err-append_some-clause-stays
returns-in_err-append_some-clause-stays g c = λ told.
    begun-some g.D.NodeDisk.facts c.args.wal.now c.batches.wal c.append_some.new.wal c.batches.invariant.same.queues
    c.batches.invariant.begun told
    (c.append_some.ensures.stays (still_tells c.batches.invariant.same.told told))

pub returns-in_err-append_some-clause-cause : goal.returns-in_err-append_some-clause-cause
returns-in_err-append_some-clause-cause g c =
    let p = err_from_is_err_and c.from_residual.result c.from_residual.ensures.1 in
    rw (p.1, p.2) (later-caused g.D.NodeDisk.facts c.args.wal.now c.batches.wal c.append_some.new.wal _
    c.batches.invariant.begun c.batches.invariant.same.later c.in_err-append_some.ensures.cause)

pub returns-clause-same : goal.returns-clause-same
returns-clause-same g c =
    same-then g.D.NodeDisk.facts c.args.wal.now c.batches.wal c.append_some.new.wal c.batches.invariant.same
    c.append_some.ensures.same

pub returns-clause-ok : goal.returns-clause-ok
returns-clause-ok g c =
    let waiting =
    nothing-waits g.D.NodeDisk.facts c.in_ok-append_some.field-0 c.batches.wal c.append_some.new.wal c.if-branch.false
    c.in_ok-append_some.ensures.ok in
    record {
      waiting = waiting;
      going = c.in_ok-append_some.ensures.ok.going;
      holds = λ told.
          begun-all g.D.NodeDisk.facts c.args.wal.now c.append_some.new.wal
          (begun-more g.D.NodeDisk.facts c.in_ok-append_some.field-0 c.args.wal.now c.batches.wal c.append_some.new.wal
          c.batches.invariant.same.queues c.batches.invariant.same.told
          c.batches.invariant.begun c.in_ok-append_some.ensures.ok) waiting told;
    }

pub returns-clause-stays : goal.returns-clause-stays
returns-clause-stays g c = λ told.
    begun-stays g.D.NodeDisk.facts c.args.wal.now c.append_some.new.wal
    (begun-more g.D.NodeDisk.facts c.in_ok-append_some.field-0 c.args.wal.now c.batches.wal c.append_some.new.wal
    c.batches.invariant.same.queues c.batches.invariant.same.told c.batches.invariant.begun
    c.in_ok-append_some.ensures.ok) told
