use Rattle.std.proofs.Common.{List, map, ap, ◌∙◌}
use Rattle.std.specs.Prelude.{Some, None}
use Rattle.qq_entry.specs.declared.command.Entry.{Entry}
use Rattle.qq_raft_msg.specs.declared.state.Role.TheVariants.{Candidate}
use Rattle.qq_raft_model.specs.declared.peer.Peer.{Peer}
use Rattle.qq_raft_model.specs.State.{Server, last, change}
use Rattle.qq_raft_model.specs.Leading.{stand, ask_all, clear_vote, next_term}
use Rattle.qq_raft_core.specs.Raft.{server_of}
use Rattle.qq_raft_core.proofs.raft.Raft.stand.Goals as goal

pub returns-clause-ok : goal.returns-clause-ok
unfolding stand change
returns-clause-ok g c =
    let s = server_of g.L.LogView.log c.args.self.now in
    let changed = server_of g.L.LogView.log c.change.new.self in
    let written = c.in_ok-change.ensures.ok
    ∙ ap (λ keep. change (next_term s.term) (Some s.node) keep c.no_entries.result s) c.last-last.ensures
    ∙ ap (λ (es : List Entry). change (next_term s.term) (Some s.node) (last s) es s) c.no_entries.ensures.value in
    c.in_ok-ask_all.ensures.ok
    ∙ ap ask_all (
    ap (λ (ps : List Peer). record changed { role = Candidate; leader = None; peers = ps })
    c.change_peers.ensures.value
    ∙ ap (λ (t : Server). record t { role = Candidate; leader = None; peers = map clear_vote t.peers }) written)
