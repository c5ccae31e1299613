use Rattle.qq_opening.proofs.GoingOn.{mid-lanes, mid-may}
use Rattle.qq_opening.proofs.Stepped.{finds, not-damaged, not-remembered, not-told, not-version, steps-back, steps-failed, steps-up}
use Rattle.qq_opening.proofs.stepping.recover_node.Goals as goal

pub recover_in-requires-clause-own : goal.recover_in-requires-clause-own
recover_in-requires-clause-own g c = c.requires.recover

pub recover_in-requires-clause-apart : goal.recover_in-requires-clause-apart
recover_in-requires-clause-apart g c = c.requires.go_on.apart

pub go_on-requires-clause-may : goal.go_on-requires-clause-may
go_on-requires-clause-may g c =
    mid-may c.args.node c.args.nodes.now
    (finds c.args.node c.args.opens c.args.nodes.now c.recover_in.new.nodes c.in-Ok.lanes.items c.in-Ok.ensures.ok)
    c.requires.go_on

pub go_on-requires-clause-lanes : goal.go_on-requires-clause-lanes
go_on-requires-clause-lanes g c =
    mid-lanes c.args.node c.args.nodes.now
    (finds c.args.node c.args.opens c.args.nodes.now c.recover_in.new.nodes c.in-Ok.lanes.items c.in-Ok.ensures.ok)
    c.requires.go_on

pub returns-in-Ok-go_on-clause-ok : goal.returns-in-Ok-go_on-clause-ok
returns-in-Ok-go_on-clause-ok g c =
    steps-up c.args.node c.args.opens c.args.nodes.now c.recover_in.new.nodes c.in-Ok.lanes.items c.go_on.new.nodes
    c.args.told.now c.in-Ok.ensures.ok c.in-Ok-go_on.ensures.ok

pub returns-in-Err-clause-err : goal.returns-in-Err-clause-err
returns-in-Err-clause-err g c =
    steps-back c.args.node c.args.opens c.args.nodes.now c.recover_in.new.nodes c.in-Ok.lanes.items c.go_on.new.nodes
    c.in-Err.fault c.in-Ok.ensures.ok c.in-Err.ensures.nodes c.in-Err.ensures.cause

pub returns-in-Ok-say_stopped-clause-ok : goal.returns-in-Ok-say_stopped-clause-ok
returns-in-Ok-say_stopped-clause-ok g c =
    steps-failed c.args.node c.args.opens c.args.nodes.now c.recover_in.new.nodes c.in-Err-Disk.field-0
    c.args.told.now c.say_stopped.new.told c.in-Err-Disk.ensures.err c.in-Err-Disk.field-0-is
    c.in-Ok-say_stopped.ensures.ok

pub returns-in-Err-say_stopped-clause-err : goal.returns-in-Err-say_stopped-clause-err
returns-in-Err-say_stopped-clause-err g c =
    not-told c.args.node c.args.opens c.args.nodes.now c.recover_in.new.nodes c.in-Err-Disk.field-0
    c.in-Err-say_stopped.memory c.in-Err-Disk.ensures.err c.in-Err-Disk.field-0-is c.in-Err-say_stopped.ensures.want

pub returns-in-Err-Damaged-clause-err : goal.returns-in-Err-Damaged-clause-err
returns-in-Err-Damaged-clause-err g c =
    not-damaged c.args.node c.args.opens c.args.nodes.now c.recover_in.new.nodes c.in-Err-Damaged.field-0
    c.in-Err-Damaged.file _ c.in-Err-Damaged.place _ c.in-Err-Damaged.ensures.err c.in-Err-Damaged.field-0-is
    c.in-Err-Damaged.file-is c.in-Err-Damaged.place-is

pub returns-in-Err-Version-clause-err : goal.returns-in-Err-Version-clause-err
returns-in-Err-Version-clause-err g c =
    not-version c.args.node c.args.opens c.args.nodes.now c.recover_in.new.nodes c.in-Err-Version.field-0
    c.in-Err-Version.file _ c.in-Err-Version.byte _ c.in-Err-Version.ensures.err c.in-Err-Version.field-0-is
    c.in-Err-Version.file-is c.in-Err-Version.byte-is

pub returns-in-Err-Memory-clause-err : goal.returns-in-Err-Memory-clause-err
returns-in-Err-Memory-clause-err g c =
    not-remembered c.args.node c.args.opens c.args.nodes.now c.recover_in.new.nodes c.in-Err-Memory.field-0
    c.in-Err-Memory.memory _ c.in-Err-Memory.ensures.err c.in-Err-Memory.field-0-is c.in-Err-Memory.memory-is
