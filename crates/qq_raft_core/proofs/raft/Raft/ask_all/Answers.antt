use Rattle.std.proofs.Common.{◌∙◌, refl, sym, take, map, arith}
use Rattle.qq_raft_msg.specs.declared.rpc.Rpc.TheVariants.{Vote}
use Rattle.qq_raft_model.specs.Leading.{ask}
use Rattle.qq_raft_core.specs.Raft.{server_of, IsPeer}
use Rattle.qq_raft_core.proofs.Ranges.{all_index}
use Rattle.qq_raft_core.proofs.Said.{nothing-said, asked-more, count-said}
use Rattle.qq_raft_core.proofs.raft.Raft.ask_all.Goals as goal

pub peers-init : goal.peers-init
peers-init g c = record {
  sound = c.requires;
  before = refl;
  server = sym (nothing-said (server_of g.L.LogView.log c.args.self.now));
}

pub index-requires : goal.index-requires
index-requires g c =
    let first = server_of g.L.LogView.log c.args.self.now in
    let now = server_of g.L.LogView.log c.peers.self in
    let n = count-said (map (ask first) (take c.peers.place first.peers)) first now c.peers.invariant.server in
    omega (arith, n, c.peers-test.true, c.len-place-end.ensures)

pub ask-message-requires-clause-peer : goal.ask-message-requires-clause-peer
ask-message-requires-clause-peer g c =
    let first = server_of g.L.LogView.log c.args.self.now in
    let now = server_of g.L.LogView.log c.peers.self in
    let n = count-said (map (ask first) (take c.peers.place first.peers)) first now c.peers.invariant.server in
    all_index IsPeer now.peers c.peers.place c.index.result.now c.index.ensures
    (omega (arith, n, c.peers-test.true, c.len-place-end.ensures)) c.peers.invariant.sound.each

pub peers-preserved : goal.peers-preserved
peers-preserved g c =
    let first = server_of g.L.LogView.log c.args.self.now in
    let now = server_of g.L.LogView.log c.peers.self in
    record {
      sound = c.in_ok-say.ensures.sound;
      before = c.say.ensures.before ∙ c.peers.invariant.before;
      server = asked-more first now (server_of g.L.LogView.log c.say.new.self) c.peers.place c.index.result.now
          (Vote c.ask-message.result) c.peers.invariant.server c.in_ok-say.ensures.ok c.ask-message.ensures.value
          c.index.ensures (omega (arith, c.peers-test.true, c.len-place-end.ensures));
    }
