-- What a server knows to be committed stays as it is at a tick and at a command.
use Rattle.std.proofs.Common.{◌≡◌, ℕ, zero, suc, ◌+◌, Bool, true, false, cond, leb, List, ◌++◌, map, refl, ◌∙◌}
use Rattle.std.specs.List.{list_any}
use Rattle.qq_entry.specs.declared.command.Command.{Command}
use Rattle.qq_entry.specs.declared.command.Entry.{Entry}
use Rattle.qq_raft_msg.specs.declared.rpc.Rpc.{Rpc}
use Rattle.qq_raft_model.specs.declared.peer.Peer.{Peer}
use Rattle.qq_raft_model.specs.Leading.{add_entry, append_entry, ask, become_candidate, everyone, flush, flush_within, lags, send, stand}
use Rattle.qq_raft_model.specs.Server.{add, is_ready, send_again, submit, tick}
use Rattle.qq_raft_model.specs.State.{Server, change, is_leader, last, say_all, wait}

either : (b : Bool) (s t : Server) (n : ℕ) → s.commit ≡ n → t.commit ≡ n → (cond b s t).commit ≡ n
either true s t n p q = p
either false s t n p q = q

say-same : (rpcs : List Rpc) (s : Server) → (say_all rpcs s).commit ≡ s.commit
unfolding say_all
say-same rpcs s =
    either (leb s.op s.noticed) (record s { out = s.out ++ rpcs })
    (record s { waiting = s.waiting ++ map (wait s.op) rpcs }) s.commit refl refl

send-same : (picks : Peer → Bool) (s : Server) → (send picks s).commit ≡ s.commit
unfolding send
send-same picks s = refl

append-same : (entry : Entry) (s : Server) → (append_entry entry s).commit ≡ s.commit
unfolding change
append-same entry s = refl

entry-same : (entry : Entry) (s : Server) → (add_entry entry s).commit ≡ s.commit
unfolding add_entry
entry-same entry s = send-same everyone (append_entry entry s) ∙ append-same entry s

stand-same : (s : Server) → (stand s).commit ≡ s.commit
unfolding stand change
stand-same s =
    let candidate : Server = become_candidate s in
    say-same (map (ask candidate) candidate.peers) candidate

within-same : (n : ℕ) (s : Server) → (flush_within n s).commit ≡ s.commit
within-same zero s = refl
within-same (suc n) s =
    let picks : Peer → Bool = lags (last s) in
    either (list_any picks s.peers) (flush_within n (send picks s)) s s.commit
    (within-same n (send picks s) ∙ send-same picks s) refl

pub tick-same : (s : Server) → (tick s).commit ≡ s.commit
unfolding tick
tick-same s =
    let again : Server = record s { peers = map send_again s.peers } in
    either (is_leader s.role) (send everyone again) (stand s) s.commit (send-same everyone again) (stand-same s)

pub submit-same : (time : ℕ) (command : Command) (s : Server) → (submit time command s).commit ≡ s.commit
unfolding submit
submit-same time command s =
    let entry : Entry = record { term = s.term; time = time; command = command } in
    either (is_ready s) (add_entry entry s) s s.commit (entry-same entry s) refl

pub add-same : (time : ℕ) (command : Command) (s : Server) → (add time command s).commit ≡ s.commit
unfolding add
add-same time command s =
    let entry : Entry = record { term = s.term; time = time; command = command } in
    either (is_ready s) (append_entry entry s) s s.commit (append-same entry s) refl

pub flush-same : (s : Server) → (flush s).commit ≡ s.commit
unfolding flush
flush-same s =
    either (is_leader s.role) (flush_within (last s + 1) s) s s.commit (within-same (last s + 1) s) refl
