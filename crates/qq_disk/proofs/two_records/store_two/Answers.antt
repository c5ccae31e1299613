use Rattle.std.proofs.lemmas.Result.{on_ok_weaker}
use Rattle.qq_disk.specs.Disk.{now, content}
use Rattle.qq_disk.proofs.Stored.{still_tells, first_leaves, second_leaves, sync_leaves_both, stored_both}
use Rattle.qq_disk.proofs.two_records.store_two.Goals as goal

pub returns-in_err-append-clause-any_moment : goal.returns-in_err-append-clause-any_moment
returns-in_err-append-clause-any_moment g c = λ told.
    let past = g.D.NodeDisk.facts.past in
    let old = content (now (past c.args.disk.now)) c.args.file in
    let p0 = past c.args.disk.now in
    let p1 = past c.append.new.self in
    first_leaves c.args.file old c.args.first.now c.args.second.now p0 p1 p1 p1 (c.requires told)
    (c.append.ensures.moments told)

pub returns-in_err-append-2-clause-any_moment : goal.returns-in_err-append-2-clause-any_moment
returns-in_err-append-2-clause-any_moment g c = λ told.
    let past = g.D.NodeDisk.facts.past in
    let old = content (now (past c.args.disk.now)) c.args.file in
    let p0 = past c.args.disk.now in
    let p1 = past c.append.new.self in
    let p2 = past c.append-2.new.self in
    let told1 = still_tells c.append.ensures.told told in
    second_leaves c.args.file old c.args.first.now c.args.second.now p0 p1 p2 p2 (c.requires told)
    (c.append.ensures.moments told) (c.in_ok-append.ensures.ok told) (c.append-2.ensures.moments told1)

pub returns-clause-stored : goal.returns-clause-stored
returns-clause-stored g c = λ told.
    let past = g.D.NodeDisk.facts.past in
    let old = content (now (past c.args.disk.now)) c.args.file in
    let p0 = past c.args.disk.now in
    let p1 = past c.append.new.self in
    let p2 = past c.append-2.new.self in
    let p3 = past c.sync.new.self in
    let told1 = still_tells c.append.ensures.told told in
    let told2 = still_tells c.append-2.ensures.told told1 in
    on_ok_weaker c.sync.result
    (λ is. stored_both c.args.file old c.args.first.now c.args.second.now p0 p1 p2 p3 (c.requires told)
    (c.in_ok-append.ensures.ok told) (c.in_ok-append-2.ensures.ok told1) is)
    (c.sync.ensures.ok told2)

pub returns-clause-any_moment : goal.returns-clause-any_moment
returns-clause-any_moment g c = λ told.
    let past = g.D.NodeDisk.facts.past in
    let old = content (now (past c.args.disk.now)) c.args.file in
    let p0 = past c.args.disk.now in
    let p1 = past c.append.new.self in
    let p2 = past c.append-2.new.self in
    let p3 = past c.sync.new.self in
    let told1 = still_tells c.append.ensures.told told in
    let told2 = still_tells c.append-2.ensures.told told1 in
    sync_leaves_both c.args.file old c.args.first.now c.args.second.now p0 p1 p2 p3 (c.requires told)
    (c.append.ensures.moments told) (c.in_ok-append.ensures.ok told) (c.append-2.ensures.moments told1)
    (c.in_ok-append-2.ensures.ok told1) (c.sync.ensures.moments told2)
