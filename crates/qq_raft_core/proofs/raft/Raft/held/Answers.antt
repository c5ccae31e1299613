use Rattle.std.proofs.Common.{◌≡◌, ◌≤◌, true, subst, arith}
use Rattle.std.proofs.lemmas.List.{take_all}
use Rattle.std.proofs.lemmas.List.Elements.{All-nil}
use Rattle.qq_raft_model.specs.declared.peer.Peer.{Peer}
use Rattle.qq_raft_core.specs.Held.{is_held}
use Rattle.qq_raft_core.specs.Raft.{server_of}
use Rattle.qq_raft_core.proofs.Holding.{Covers, covers-more, none-above}
use Rattle.qq_raft_core.proofs.raft.Raft.held.Goals as goal

pub peers-init : goal.peers-init
peers-init g c =
    let s = server_of g.L.LogView.log c.args.self.now in
    record {
      own = subst (λ n. is_held s n ≡ true → n ≤ c.held_or-held.result) c.durable-own.ensures c.held_or-held.ensures.here;
      each = All-nil (λ (p : Peer). is_held s p.matched ≡ true → p.matched ≤ c.held_or-held.result);
    }

pub peers-preserved : goal.peers-preserved
peers-preserved g c =
    let s = server_of g.L.LogView.log c.args.self.now in
    covers-more s c.peers.held c.held_or-held-in-peers.result c.peers.place c.index.result.now c.index.ensures
    (omega (arith, c.peers-test.true, c.len-place-end.ensures)) c.peers.invariant c.held_or-held-in-peers.ensures.rises
    c.held_or-held-in-peers.ensures.here

pub returns : goal.returns
returns g c =
    let s = server_of g.L.LogView.log c.args.self.now in
    let all = take_all c.peers.place s.peers (omega (arith, c.peers-test.false, c.len-place-end.ensures)) in
    none-above s c.peers.held (subst (Covers s c.peers.held) all c.peers.invariant) c.requires.each c.requires.last
