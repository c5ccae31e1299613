use Rattle.std.proofs.Common.{length}
use Rattle.qq_cluster.proofs.Stands.{can-after}
use Rattle.qq_opening.proofs.NewNodes.{sound-each}
use Rattle.qq_opening.proofs.Opened.{opens-served, pump-gave_up, ticks-gave_up}
use Rattle.qq_opening.proofs.OpenedAll.{can-open, opens-gave_up, opens-over}
use Rattle.qq_opening.proofs.OpenedLater.{lost-opens}
use Rattle.qq_opening.proofs.opening.open.Goals as goal

pub first_lost-requires : goal.first_lost-requires
first_lost-requires g c =
    sound-each c.requires.0 c.args.nodes.now c.requires.1 (length c.args.nodes.now.nodes.items) c.open_each.new.nodes
    (c.in_ok-some.ensures.ok c.requires.0 c.requires.1).opened

pub lost-requires : goal.lost-requires
lost-requires g c = c.in-Some.ensures.some.0

pub returns-in-Some-clause-err : goal.returns-in-Some-clause-err
returns-in-Some-clause-err g c = λ rows new.
    lost-opens rows c.args.nodes.now new c.in_ok-some.some c.open_each.new.nodes c.args.told.now
    c.open_each.new.told (c.in_ok-some.ensures.ok rows new) c.in-Some.at c.in-Some.ensures.some.0
    c.in-Some.ensures.some.1 c.lost.result c.lost.ensures

pub tick_each-requires : goal.tick_each-requires
tick_each-requires g c =
    can-open c.requires.0 c.args.nodes.now c.requires.1 c.in_ok-some.some c.open_each.new.nodes c.args.told.now
    c.open_each.new.told (c.in_ok-some.ensures.ok c.requires.0 c.requires.1)
    c.in_default.ensures.none c.a_queue_may_begin_with_new_logs.ensures

pub pump-requires : goal.pump-requires
pump-requires g c =
    can-after (can-open c.requires.0 c.args.nodes.now c.requires.1 c.in_ok-some.some c.open_each.new.nodes
    c.args.told.now c.open_each.new.told (c.in_ok-some.ensures.ok c.requires.0 c.requires.1)
    c.in_default.ensures.none c.a_queue_may_begin_with_new_logs.ensures)
    c.in_default-tick_each.ensures.ok

pub returns-clause-ok : goal.returns-clause-ok
returns-clause-ok g c = λ rows new.
    opens-over rows c.args.nodes.now new c.in_ok-some.some c.open_each.new.nodes c.args.told.now
    c.open_each.new.told (c.in_ok-some.ensures.ok rows new)
    c.in_default.ensures.none c.a_queue_may_begin_with_new_logs.ensures
    c.pump.new.self c.pump.new.told
    (opens-served c.in_default-tick_each.ensures.ok c.in_default-pump.ensures.ok)

pub returns-in-Err-clause-err : goal.returns-in-Err-clause-err
returns-in-Err-clause-err g c = λ rows new.
    opens-gave_up rows c.args.nodes.now new c.in_ok-some.some c.open_each.new.nodes c.args.told.now
    c.open_each.new.told (c.in_ok-some.ensures.ok rows new)
    c.in_default.ensures.none c.a_queue_may_begin_with_new_logs.ensures
    c.tick_each.new.self c.in-Err.memory (ticks-gave_up c.in-Err.ensures.err)

pub returns-in-Err-pump-clause-err : goal.returns-in-Err-pump-clause-err
returns-in-Err-pump-clause-err g c = λ rows new.
    opens-gave_up rows c.args.nodes.now new c.in_ok-some.some c.open_each.new.nodes c.args.told.now
    c.open_each.new.told (c.in_ok-some.ensures.ok rows new)
    c.in_default.ensures.none c.a_queue_may_begin_with_new_logs.ensures
    c.pump.new.self c.in-Err-pump.memory
    (pump-gave_up c.in_default-tick_each.ensures.ok c.in-Err-pump.ensures.err)
