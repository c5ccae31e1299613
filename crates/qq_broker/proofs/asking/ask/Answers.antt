use Rattle.std.proofs.lemmas.Result.{on_ok_weaker}
use Rattle.qq_script_lines.specs.declared.line.ScriptLine.TheVariants as lines
use Rattle.qq_cluster_model.specs.Lines.{IsLine}
use Rattle.qq_broker.proofs.Asked.{all-given-up, all-served, just-served, nothing-served, want-given-up}
use Rattle.qq_broker.proofs.Bodies.{body-stamps}
use Rattle.qq_broker.proofs.GoingOn.{can-serve, node-there, queue-there}
use Rattle.qq_broker.proofs.asking.ask.Goals as goal

pub give-requires : goal.give-requires
give-requires g c =
    let disk = g.D.NodeDisk in
    let s = c.args.setup.now in
    let named = rw c.in-Client.is at c.requires.holds.1.2 in
    record {
      serve = can-serve c.requires.holds.0 disk.facts s c.args.nodes.now c.requires.holds.1.0 c.requires.holds.1.1;
      queue = queue-there c.requires.holds.0 disk.facts s c.requires.holds.1.0 c.args.nodes.now c.in-Client.queue
          c.requires.holds.1.1 named.1;
      session = named.0.1.0;
      range = body-stamps c.in-Client.body named.2;
    }

pub returns-in-Client : goal.returns-in-Client
unfolding IsLine
returns-in-Client g c =
    let disk = g.D.NodeDisk in
    let s = c.args.setup.now in
    rw c.in-Client.is (record {
      ok = λ given. all-served given disk.facts s (lines.Client c.in-Client.session c.in-Client.queue c.in-Client.body)
          c.give.result c.args.nodes.now
          c.give.new.self c.args.told.now c.give.new.told c.give.ensures.ok;
      cause = λ given. all-given-up given disk.facts s
          (lines.Client c.in-Client.session c.in-Client.queue c.in-Client.body) c.give.result c.args.nodes.now
          c.give.new.self c.give.ensures.err;
    })

pub attach-requires : goal.attach-requires
attach-requires g c =
    let disk = g.D.NodeDisk in
    let s = c.args.setup.now in
    let named = rw c.in-Attach.is at c.requires.holds.1.2 in
    record {
      serve = can-serve c.requires.holds.0 disk.facts s c.args.nodes.now c.requires.holds.1.0 c.requires.holds.1.1;
      queue = queue-there c.requires.holds.0 disk.facts s c.requires.holds.1.0 c.args.nodes.now c.in-Attach.queue
          c.requires.holds.1.1 named.1;
    }

pub returns-in-Attach : goal.returns-in-Attach
unfolding IsLine
returns-in-Attach g c =
    let disk = g.D.NodeDisk in
    let s = c.args.setup.now in
    rw c.in-Attach.is (record {
      ok = λ given. all-served given disk.facts s
          (lines.Attach c.in-Attach.session c.in-Attach.queue c.in-Attach.tag c.in-Attach.taker) c.attach.result
          c.args.nodes.now c.attach.new.self c.args.told.now c.attach.new.told c.attach.ensures.ok;
      cause = λ given. all-given-up given disk.facts s
          (lines.Attach c.in-Attach.session c.in-Attach.queue c.in-Attach.tag c.in-Attach.taker) c.attach.result
          c.args.nodes.now c.attach.new.self c.attach.ensures.err;
    })

pub end-requires : goal.end-requires
end-requires g c =
    let disk = g.D.NodeDisk in
    let s = c.args.setup.now in
    let named = rw c.in-End.is at c.requires.holds.1.2 in
    record {
      serve = can-serve c.requires.holds.0 disk.facts s c.args.nodes.now c.requires.holds.1.0 c.requires.holds.1.1;
      session = named.1.0;
    }

pub returns-in-End : goal.returns-in-End
unfolding IsLine
returns-in-End g c =
    let disk = g.D.NodeDisk in
    let s = c.args.setup.now in
    rw c.in-End.is (record {
      ok = λ given. all-served given disk.facts s (lines.End c.in-End.session) c.end.result c.args.nodes.now
          c.end.new.self c.args.told.now c.end.new.told c.end.ensures.ok;
      cause = λ given. all-given-up given disk.facts s (lines.End c.in-End.session) c.end.result c.args.nodes.now
          c.end.new.self c.end.ensures.err;
    })

pub resend-requires : goal.resend-requires
resend-requires g c =
    let disk = g.D.NodeDisk in
    let s = c.args.setup.now in
    can-serve c.requires.holds.0 disk.facts s c.args.nodes.now c.requires.holds.1.0 c.requires.holds.1.1

pub returns-in-Resend : goal.returns-in-Resend
unfolding IsLine
returns-in-Resend g c =
    let disk = g.D.NodeDisk in
    let s = c.args.setup.now in
    rw c.in-Resend.is (record {
      ok = λ given. all-served given disk.facts s (lines.Resend c.in-Resend.session) c.resend.result
          c.args.nodes.now c.resend.new.self c.args.told.now c.resend.new.told c.resend.ensures.ok;
      cause = λ given. all-given-up given disk.facts s (lines.Resend c.in-Resend.session) c.resend.result
          c.args.nodes.now c.resend.new.self c.resend.ensures.err;
    })

pub returns-in-Mute : goal.returns-in-Mute
unfolding IsLine
returns-in-Mute g c =
    let disk = g.D.NodeDisk in
    let s = c.args.setup.now in
    rw c.in-Mute.is (record {
      ok = λ given. all-served given disk.facts s (lines.Mute c.in-Mute.session c.in-Mute.muted) c.mute.result
          c.args.nodes.now c.mute.new.self c.args.told.now c.args.told.now
          (on_ok_weaker c.mute.result (λ so. so c.args.told.now) c.mute.ensures.ok);
      cause = λ given. all-given-up given disk.facts s (lines.Mute c.in-Mute.session c.in-Mute.muted) c.mute.result
          c.args.nodes.now c.mute.new.self c.mute.ensures.err;
    })

pub returns-in-Pace : goal.returns-in-Pace
unfolding IsLine
returns-in-Pace g c =
    let disk = g.D.NodeDisk in
    let s = c.args.setup.now in
    rw c.in-Pace.is (record {
      ok = λ given. just-served given disk.facts s (lines.Pace c.in-Pace.auto) c.args.nodes.now c.set_auto.new.self
          c.args.told.now c.args.told.now (c.set_auto.ensures c.args.told.now);
      cause = λ given run before after h. tt;
    })

pub pump-requires : goal.pump-requires
pump-requires g c =
    let disk = g.D.NodeDisk in
    let s = c.args.setup.now in
    can-serve c.requires.holds.0 disk.facts s c.args.nodes.now c.requires.holds.1.0 c.requires.holds.1.1

pub returns-in-Pump : goal.returns-in-Pump
unfolding IsLine
returns-in-Pump g c =
    let disk = g.D.NodeDisk in
    let s = c.args.setup.now in
    rw c.in-Pump.is (record {
      ok = λ given. all-served given disk.facts s lines.Pump c.pump.result c.args.nodes.now c.pump.new.self
          c.args.told.now c.pump.new.told c.pump.ensures.ok;
      cause = λ given. all-given-up given disk.facts s lines.Pump c.pump.result c.args.nodes.now c.pump.new.self
          c.pump.ensures.err;
    })

pub write-requires : goal.write-requires
write-requires g c =
    let disk = g.D.NodeDisk in
    let s = c.args.setup.now in
    let named = rw c.in-Write.is at c.requires.holds.1.2 in
    record {
      serve = can-serve c.requires.holds.0 disk.facts s c.args.nodes.now c.requires.holds.1.0 c.requires.holds.1.1;
      node = node-there c.requires.holds.0 disk.facts s c.requires.holds.1.0 c.args.nodes.now c.in-Write.node
          c.requires.holds.1.1 named;
    }

pub returns-in-Write : goal.returns-in-Write
unfolding IsLine
returns-in-Write g c =
    let disk = g.D.NodeDisk in
    let s = c.args.setup.now in
    rw c.in-Write.is (record {
      ok = λ given. all-served given disk.facts s (lines.Write c.in-Write.node) c.write.result c.args.nodes.now
          c.write.new.self c.args.told.now c.write.new.told c.write.ensures.ok;
      cause = λ given. all-given-up given disk.facts s (lines.Write c.in-Write.node) c.write.result
          c.args.nodes.now c.write.new.self c.write.ensures.err;
    })

pub sync-requires : goal.sync-requires
sync-requires g c =
    let disk = g.D.NodeDisk in
    let s = c.args.setup.now in
    let named = rw c.in-Sync.is at c.requires.holds.1.2 in
    record {
      serve = can-serve c.requires.holds.0 disk.facts s c.args.nodes.now c.requires.holds.1.0 c.requires.holds.1.1;
      node = node-there c.requires.holds.0 disk.facts s c.requires.holds.1.0 c.args.nodes.now c.in-Sync.node
          c.requires.holds.1.1 named;
    }

pub returns-in-Sync : goal.returns-in-Sync
unfolding IsLine
returns-in-Sync g c =
    let disk = g.D.NodeDisk in
    let s = c.args.setup.now in
    rw c.in-Sync.is (record {
      ok = λ given. all-served given disk.facts s (lines.Sync c.in-Sync.node) c.sync.result c.args.nodes.now
          c.sync.new.self c.args.told.now c.sync.new.told c.sync.ensures.ok;
      cause = λ given. all-given-up given disk.facts s (lines.Sync c.in-Sync.node) c.sync.result c.args.nodes.now
          c.sync.new.self c.sync.ensures.err;
    })

pub notice-requires : goal.notice-requires
notice-requires g c =
    let disk = g.D.NodeDisk in
    let s = c.args.setup.now in
    let named = rw c.in-Notice.is at c.requires.holds.1.2 in
    record {
      serve = can-serve c.requires.holds.0 disk.facts s c.args.nodes.now c.requires.holds.1.0 c.requires.holds.1.1;
      queue = queue-there c.requires.holds.0 disk.facts s c.requires.holds.1.0 c.args.nodes.now c.in-Notice.queue
          c.requires.holds.1.1 named.1;
      node = node-there c.requires.holds.0 disk.facts s c.requires.holds.1.0 c.args.nodes.now c.in-Notice.node
          c.requires.holds.1.1 named.0;
    }

pub returns-in-Notice : goal.returns-in-Notice
unfolding IsLine
returns-in-Notice g c =
    let disk = g.D.NodeDisk in
    let s = c.args.setup.now in
    rw c.in-Notice.is (record {
      ok = λ given. all-served given disk.facts s (lines.Notice c.in-Notice.node c.in-Notice.queue) c.notice.result
          c.args.nodes.now c.notice.new.self c.args.told.now c.notice.new.told
          c.notice.ensures.ok;
      cause = λ given. all-given-up given disk.facts s (lines.Notice c.in-Notice.node c.in-Notice.queue) c.notice.result
          c.args.nodes.now c.notice.new.self c.notice.ensures.err;
    })

pub tick-requires : goal.tick-requires
tick-requires g c =
    let disk = g.D.NodeDisk in
    let s = c.args.setup.now in
    let named = rw c.in-Tick.is at c.requires.holds.1.2 in
    record {
      serve = can-serve c.requires.holds.0 disk.facts s c.args.nodes.now c.requires.holds.1.0 c.requires.holds.1.1;
      queue = queue-there c.requires.holds.0 disk.facts s c.requires.holds.1.0 c.args.nodes.now c.in-Tick.queue
          c.requires.holds.1.1 named.1;
      node = node-there c.requires.holds.0 disk.facts s c.requires.holds.1.0 c.args.nodes.now c.in-Tick.node
          c.requires.holds.1.1 named.0;
    }

pub returns-in-Tick : goal.returns-in-Tick
unfolding IsLine
returns-in-Tick g c =
    let disk = g.D.NodeDisk in
    let s = c.args.setup.now in
    rw c.in-Tick.is (record {
      ok = λ given. all-served given disk.facts s (lines.Tick c.in-Tick.node c.in-Tick.queue) c.tick.result
          c.args.nodes.now c.tick.new.self c.args.told.now c.tick.new.told c.tick.ensures.ok;
      cause = λ given. all-given-up given disk.facts s (lines.Tick c.in-Tick.node c.in-Tick.queue) c.tick.result
          c.args.nodes.now c.tick.new.self c.tick.ensures.err;
    })

pub deliver-requires : goal.deliver-requires
deliver-requires g c =
    let disk = g.D.NodeDisk in
    let s = c.args.setup.now in
    let named = rw c.in-Deliver.is at c.requires.holds.1.2 in
    record {
      serve = can-serve c.requires.holds.0 disk.facts s c.args.nodes.now c.requires.holds.1.0 c.requires.holds.1.1;
      queue = queue-there c.requires.holds.0 disk.facts s c.requires.holds.1.0 c.args.nodes.now c.in-Deliver.queue
          c.requires.holds.1.1 named;
    }

pub returns-in-Deliver : goal.returns-in-Deliver
unfolding IsLine
returns-in-Deliver g c =
    let disk = g.D.NodeDisk in
    let s = c.args.setup.now in
    rw c.in-Deliver.is (record {
      ok = λ given. all-served given disk.facts s (lines.Deliver c.in-Deliver.queue c.in-Deliver.message)
          c.deliver.result c.args.nodes.now c.deliver.new.self c.args.told.now c.deliver.new.told
          c.deliver.ensures.ok;
      cause = λ given. all-given-up given disk.facts s (lines.Deliver c.in-Deliver.queue c.in-Deliver.message)
          c.deliver.result c.args.nodes.now c.deliver.new.self c.deliver.ensures.err;
    })

pub lose-requires : goal.lose-requires
lose-requires g c =
    let disk = g.D.NodeDisk in
    let s = c.args.setup.now in
    let named = rw c.in-Lose.is at c.requires.holds.1.2 in
    record {
      serve = can-serve c.requires.holds.0 disk.facts s c.args.nodes.now c.requires.holds.1.0 c.requires.holds.1.1;
      queue = queue-there c.requires.holds.0 disk.facts s c.requires.holds.1.0 c.args.nodes.now c.in-Lose.queue
          c.requires.holds.1.1 named;
    }

pub returns-in-Lose : goal.returns-in-Lose
unfolding IsLine
returns-in-Lose g c =
    let disk = g.D.NodeDisk in
    let s = c.args.setup.now in
    rw c.in-Lose.is (record {
      ok = λ given. all-served given disk.facts s (lines.Lose c.in-Lose.queue c.in-Lose.message) c.lose.result
          c.args.nodes.now c.lose.new.self c.args.told.now c.lose.new.told c.lose.ensures.ok;
      cause = λ given. all-given-up given disk.facts s (lines.Lose c.in-Lose.queue c.in-Lose.message) c.lose.result
          c.args.nodes.now c.lose.new.self c.lose.ensures.err;
    })

pub copy-requires : goal.copy-requires
copy-requires g c =
    let disk = g.D.NodeDisk in
    let s = c.args.setup.now in
    let named = rw c.in-Copy.is at c.requires.holds.1.2 in
    record {
      serve = can-serve c.requires.holds.0 disk.facts s c.args.nodes.now c.requires.holds.1.0 c.requires.holds.1.1;
      queue = queue-there c.requires.holds.0 disk.facts s c.requires.holds.1.0 c.args.nodes.now c.in-Copy.queue
          c.requires.holds.1.1 named;
    }

pub returns-in-Copy : goal.returns-in-Copy
unfolding IsLine
returns-in-Copy g c =
    let disk = g.D.NodeDisk in
    let s = c.args.setup.now in
    rw c.in-Copy.is (record {
      ok = λ given. all-served given disk.facts s (lines.Copy c.in-Copy.queue c.in-Copy.message) c.copy.result
          c.args.nodes.now c.copy.new.self c.args.told.now c.copy.new.told c.copy.ensures.ok;
      cause = λ given. all-given-up given disk.facts s (lines.Copy c.in-Copy.queue c.in-Copy.message) c.copy.result
          c.args.nodes.now c.copy.new.self c.copy.ensures.err;
    })

pub show-requires : goal.show-requires
show-requires g c =
    let disk = g.D.NodeDisk in
    let s = c.args.setup.now in
    let named = rw c.in-Show.is at c.requires.holds.1.2 in
    record {
      serve = can-serve c.requires.holds.0 disk.facts s c.args.nodes.now c.requires.holds.1.0 c.requires.holds.1.1;
      queue = queue-there c.requires.holds.0 disk.facts s c.requires.holds.1.0 c.args.nodes.now c.in-Show.queue
          c.requires.holds.1.1 named;
    }

pub returns-in-Show : goal.returns-in-Show
unfolding IsLine
returns-in-Show g c =
    let disk = g.D.NodeDisk in
    let s = c.args.setup.now in
    rw c.in-Show.is (record {
      ok = λ given. all-served given disk.facts s (lines.Show c.in-Show.queue) c.show.result c.args.nodes.now
          c.args.nodes.now c.args.told.now c.show.new.told c.show.ensures.ok;
      cause = λ given run before after h. want-given-up _ _ _ (lines.Show c.in-Show.queue) c.show.result
          c.show.ensures.want;
    })

pub returns-in-Crash : goal.returns-in-Crash
returns-in-Crash g c =
    record { ok = λ given run h. tt; cause = λ given run before after h. tt }

pub returns : goal.returns
returns g c =
    record { ok = λ given run h. tt; cause = λ given run before after h. tt }

pub returns-in-Nothing : goal.returns-in-Nothing
returns-in-Nothing g c =
    let disk = g.D.NodeDisk in
    let s = c.args.setup.now in
    rw c.in-Nothing.is (record {
      ok = λ given. nothing-served given disk.facts s c.args.nodes.now c.args.told.now;
      cause = λ given run before after h. tt;
    })

pub publish-requires : goal.publish-requires
publish-requires g c =
    record {
      may = c.requires.may;
      holds = (
        c.requires.holds.0,
        (c.requires.holds.1.0, c.requires.holds.1.1, rw c.in-Publish.is at c.requires.holds.1.2),
      );
    }

pub returns-in-Publish : goal.returns-in-Publish
returns-in-Publish g c =
    rw c.in-Publish.is c.publish.ensures

pub send-requires : goal.send-requires
send-requires g c =
    let named = rw c.in-Send.is at c.requires.holds.1.2 in
    record {
      may = c.requires.may;
      holds = (c.requires.holds.0, (c.requires.holds.1.0, c.requires.holds.1.1));
      client = named.0;
      short = named.1;
    }

pub returns-in-Send : goal.returns-in-Send
returns-in-Send g c =
    rw c.in-Send.is c.send.ensures
