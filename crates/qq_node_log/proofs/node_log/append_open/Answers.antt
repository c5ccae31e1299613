use Rattle.qq_disk.specs.Disk.{now}
use Rattle.qq_wal_chain.specs.Laws.{op_records}
use Rattle.qq_node_log.proofs.Appending.{gather-keeps, gather-same, ops-go, want-long, write-keeps, write-later, write-long, write-runs, write-same}
use Rattle.qq_node_log.proofs.Ending.{gathered-later, long-on, want-on}
use Rattle.qq_node_log.proofs.node_log.append_open.Goals as goal

pub gather_all-requires-clause-goes_on : goal.gather_all-requires-clause-goes_on
gather_all-requires-clause-goes_on g c =
    ops-go g.D.NodeDisk.facts c.args.ops.items c.args.wal.now c.requires

pub returns-in-Err-clause-same : goal.returns-in-Err-clause-same
returns-in-Err-clause-same g c =
    gather-same g.D.NodeDisk.facts c.args.wal.now c.gather_all.new.wal c.gather_all.ensures.same

pub returns-in-Err-clause-moments : goal.returns-in-Err-clause-moments
returns-in-Err-clause-moments g c =
    gather-keeps g.D.NodeDisk.facts c.args.ops.items c.args.wal.now c.gather_all.new.wal c.gather_all.ensures.same

pub returns-in-Err-clause-spent : goal.returns-in-Err-clause-spent
returns-in-Err-clause-spent g c =
    want-long c.args.wal.now (op_records c.args.ops.items) c.in-Err.memory c.in-Err.ensures.want

pub returns-in-Ok-clause-same : goal.returns-in-Ok-clause-same
returns-in-Ok-clause-same g c =
    write-same g.D.NodeDisk.facts c.args.ops.items c.args.wal.now c.gather_all.new.wal c.write_log.new.wal
    (record { waiting = c.in_default.ensures.ok; ahead = c.in_default.ensures.ahead; same = c.gather_all.ensures.same })
    (record { same = c.write_log.ensures.same; stays = λ tell. c.write_log.ensures.stays tell })

pub returns-in-Err-write_log-clause-same : goal.returns-in-Err-write_log-clause-same
returns-in-Err-write_log-clause-same g c =
    write-same g.D.NodeDisk.facts c.args.ops.items c.args.wal.now c.gather_all.new.wal c.write_log.new.wal
    (record { waiting = c.in_default.ensures.ok; ahead = c.in_default.ensures.ahead; same = c.gather_all.ensures.same })
    (record { same = c.write_log.ensures.same; stays = λ tell. c.write_log.ensures.stays tell })

pub returns-in-Ok-clause-moments : goal.returns-in-Ok-clause-moments
returns-in-Ok-clause-moments g c =
    write-keeps g.D.NodeDisk.facts c.args.ops.items c.args.wal.now c.gather_all.new.wal c.write_log.new.wal
    (record { waiting = c.in_default.ensures.ok; ahead = c.in_default.ensures.ahead; same = c.gather_all.ensures.same })
    (record { same = c.write_log.ensures.same; stays = λ tell. c.write_log.ensures.stays tell })

pub returns-in-Err-write_log-clause-moments : goal.returns-in-Err-write_log-clause-moments
returns-in-Err-write_log-clause-moments g c =
    write-keeps g.D.NodeDisk.facts c.args.ops.items c.args.wal.now c.gather_all.new.wal c.write_log.new.wal
    (record { waiting = c.in_default.ensures.ok; ahead = c.in_default.ensures.ahead; same = c.gather_all.ensures.same })
    (record { same = c.write_log.ensures.same; stays = λ tell. c.write_log.ensures.stays tell })

pub returns-in-Ok-clause-ok : goal.returns-in-Ok-clause-ok
returns-in-Ok-clause-ok g c = λ is.
    write-runs g.D.NodeDisk.facts c.args.ops.items c.args.wal.now c.gather_all.new.wal c.write_log.new.wal
    (record { waiting = c.in_default.ensures.ok; ahead = c.in_default.ensures.ahead; same = c.gather_all.ensures.same })
    (record { same = c.write_log.ensures.same; stays = λ tell. c.write_log.ensures.stays tell })
    (ops-go g.D.NodeDisk.facts c.args.ops.items c.args.wal.now c.requires) (c.in-Ok.ensures.ok is)

pub returns-in-Err-clause-later : goal.returns-in-Err-clause-later
returns-in-Err-clause-later g c =
    gathered-later g.D.NodeDisk.facts c.args.wal.now c.gather_all.new.wal c.gather_all.ensures.same

pub returns-in-Err-clause-shown : goal.returns-in-Err-clause-shown
returns-in-Err-clause-shown g c = λ tell.
    want-on c.in-Err.memory c.args.ops.items (now (g.D.NodeDisk.facts.past c.args.wal.now.disk)) c.in-Err.ensures.want

pub returns-in-Ok-clause-later : goal.returns-in-Ok-clause-later
returns-in-Ok-clause-later g c =
    write-later g.D.NodeDisk.facts c.args.ops.items c.args.wal.now c.gather_all.new.wal c.write_log.new.wal
    (record { waiting = c.in_default.ensures.ok; ahead = c.in_default.ensures.ahead; same = c.gather_all.ensures.same })
    (record { same = c.write_log.ensures.same; stays = λ tell. c.write_log.ensures.stays tell })

pub returns-in-Err-write_log-clause-later : goal.returns-in-Err-write_log-clause-later
returns-in-Err-write_log-clause-later g c =
    write-later g.D.NodeDisk.facts c.args.ops.items c.args.wal.now c.gather_all.new.wal c.write_log.new.wal
    (record { waiting = c.in_default.ensures.ok; ahead = c.in_default.ensures.ahead; same = c.gather_all.ensures.same })
    (record { same = c.write_log.ensures.same; stays = λ tell. c.write_log.ensures.stays tell })

pub returns-in-Err-write_log-clause-spent : goal.returns-in-Err-write_log-clause-spent
returns-in-Err-write_log-clause-spent g c =
    write-long g.D.NodeDisk.facts c.args.ops.items c.args.wal.now c.gather_all.new.wal c.write_log.new.wal
    (record { waiting = c.in_default.ensures.ok; ahead = c.in_default.ensures.ahead; same = c.gather_all.ensures.same })
    (record { same = c.write_log.ensures.same; stays = λ tell. c.write_log.ensures.stays tell })
    c.requires.2.waiting c.in-Err-write_log.memory c.in-Err-write_log.ensures.cause

pub returns-in-Err-write_log-clause-shown : goal.returns-in-Err-write_log-clause-shown
returns-in-Err-write_log-clause-shown g c = λ tell.
    long-on g.D.NodeDisk.facts c.args.wal.now c.args.ops.items c.in-Err-write_log.memory c.requires.2.sound tell
    c.requires.2.going (returns-in-Err-write_log-clause-spent g c)
