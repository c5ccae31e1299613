-- What waits at a server waits for changes that it wasn't noticed of, in their order.
use Rattle.std.proofs.Common.{◌≡◌, ℕ, zero, suc, ◌≤◌, ◌-◌, ◌+◌, Bool, true, false, cond, ◌&&◌, ltb, leb, List, [], ◌∷◌, ◌++◌, map, drop, Option, Some, None, refl, arith}
use Rattle.std.specs.List.{list_any}
use Rattle.std.specs.Prelude.{min}
use Rattle.std.proofs.lemmas.Bool.{cond_both, leb-false}
use Rattle.qq_base.specs.declared.ids.NodeId.{NodeId}
use Rattle.qq_base.specs.declared.ids.Term.{Term}
use Rattle.qq_entry.specs.declared.command.Entry.{Entry}
use Rattle.qq_log.specs.Same.{same_vote}
use Rattle.qq_raft_msg.specs.declared.rpc.AppendMsg.{AppendMsg}
use Rattle.qq_raft_msg.specs.declared.rpc.AppendedMsg.{AppendedMsg}
use Rattle.qq_raft_msg.specs.declared.rpc.Rpc.{Rpc}
use Rattle.qq_raft_msg.specs.declared.rpc.Rpc.TheVariants.{Vote, Voted, Append, Appended, Install, Installed}
use Rattle.qq_raft_msg.specs.declared.rpc.VoteMsg.{VoteMsg}
use Rattle.qq_raft_msg.specs.declared.rpc.VotedMsg.{VotedMsg}
use Rattle.qq_raft_msg.specs.Rpc.{envelope}
use Rattle.qq_raft_msg.specs.declared.state.Role.TheVariants.{Leader}
use Rattle.qq_raft_model.specs.declared.peer.Peer.{Peer}
use Rattle.qq_raft_model.specs.declared.peer.Waiting.{Waiting}
use Rattle.qq_raft_model.specs.Leading.{add_entry, advance, append_entry, ask, become_candidate, commit_within, everyone, flush, flush_within, is_elected, lags, lead, lead_if_elected, next_term, noop, send, stand, start_peer}
use Rattle.qq_raft_model.specs.Server.{Input, accept, add, appended, at_peer, back_peer, end, give_vote, grant_peer, greater, has_agreed, installed, is_match, is_peer, is_ready, lacks, learn, match_peer, may_grant, notice, receive, receive_append, receive_appended, receive_vote, receive_voted, refuse, refuse_entries, send_again, step, step_back, still_waiting, submit, take_ack, take_entries, take_notice, take_reply, tick, voted, write, write_missing}
use Rattle.qq_raft_model.specs.Server.Input.{Tick, Receive, Submit, Add, Flush, Notice}
use Rattle.qq_raft_model.specs.State.{Server, last, is_candidate, is_leader, change, enter, follow, leader_in, say, say_all, vote_in, wait}

-- each is for a change between these, and not for an earlier one than the one before it
abbrev pub Rises : ℕ → ℕ → List Waiting → Type 0
Rises low high [] = Unit {0}
Rises low high (w ∷ ws) = (low ≤ w.op) × (w.op ≤ high) × Rises w.op high ws

abbrev pub WaitsLater : Server → Type 0
WaitsLater s = Rises (s.noticed + 1) s.op s.waiting

-- ---- lists

rises-high : (low high more : ℕ) (ws : List Waiting) → high ≤ more → Rises low high ws → Rises low more ws
rises-high low high more [] le r = tt
rises-high low high more (w ∷ ws) le r =
    let most : w.op ≤ high = r.1 in
    (r.0, omega (arith, le, most), rises-high w.op high more ws le r.2)

rises-said : (low high : ℕ) (rpcs : List Rpc) → low ≤ high → Rises low high (map (wait high) rpcs)
rises-said low high [] le = tt
rises-said low high (r ∷ rpcs) le = (le, omega arith, rises-said high high rpcs (omega arith))

rises-more : (low high : ℕ) (ws : List Waiting) (rpcs : List Rpc) → low ≤ high → Rises low high ws
    → Rises low high (ws ++ map (wait high) rpcs)
rises-more low high [] rpcs le r = rises-said low high rpcs le
rises-more low high (w ∷ ws) rpcs le r = (r.0, r.1, rises-more w.op high ws rpcs r.1 r.2)

rises-still : (low high op : ℕ) (ws : List Waiting) → Rises low high ws → Rises (op + 1) high (still_waiting op ws)
rises-still low high op [] r = tt
rises-still low high op (w ∷ ws) r =
    cond_both (leb w.op op) (still_waiting op ws) (w ∷ ws) (Rises (op + 1) high)
    (λ _. rises-still w.op high op ws r.2)
    (λ e. (let lt = leb-false w.op op e in omega (arith, lt), r.1, r.2))

-- where all is noticed nothing waits
pub none-waits : (high : ℕ) (ws : List Waiting) → Rises (high + 1) high ws → ws ≡ []
none-waits high [] r = refl
none-waits high (w ∷ ws) r =
    let low : high + 1 ≤ w.op = r.0 in
    let most : w.op ≤ high = r.1 in
    absurd (omega (arith, low, most))

-- ---- changes

either : (b : Bool) (s t : Server) → WaitsLater s → WaitsLater t → WaitsLater (cond b s t)
either true s t p q = p
either false s t p q = q

change-waits : (term : Term) (vote : Option NodeId) (keep : ℕ) (entries : List Entry) (s : Server) → WaitsLater s
    → WaitsLater (change term vote keep entries s)
unfolding change
change-waits term vote keep entries s r = rises-high (s.noticed + 1) s.op (s.op + 1) s.waiting (omega arith) r

say-waits : (rpcs : List Rpc) (s : Server) → WaitsLater s → WaitsLater (say_all rpcs s)
unfolding say_all
say-waits rpcs s r =
    cond_both (leb s.op s.noticed) (record s { out = s.out ++ rpcs })
    (record s { waiting = s.waiting ++ map (wait s.op) rpcs }) WaitsLater (λ _. r)
    (λ e. rises-more (s.noticed + 1) s.op s.waiting rpcs (let lt = leb-false s.op s.noticed e in omega (arith, lt)) r)

enter-waits : (term : Term) (s : Server) → WaitsLater s → WaitsLater (enter term s)
unfolding enter
enter-waits term s r =
    either (ltb s.term.0 term.0) (follow None (change term None (last s) [] s)) s
    (change-waits term None (last s) [] s r) r

send-waits : (picks : Peer → Bool) (s : Server) → WaitsLater s → WaitsLater (send picks s)
unfolding send
send-waits picks s r = r

flush-waits : (n : ℕ) (s : Server) → WaitsLater s → WaitsLater (flush_within n s)
flush-waits zero s r = r
flush-waits (suc n) s r =
    let picks = lags (last s) in
    either (list_any picks s.peers) (flush_within n (send picks s)) s (flush-waits n (send picks s) (send-waits picks s r))
    r

add-waits : (entry : Entry) (s : Server) → WaitsLater s → WaitsLater (add_entry entry s)
unfolding add_entry
add-waits entry s r =
    send-waits everyone (append_entry entry s) (change-waits s.term s.vote (last s) (entry ∷ []) s r)

lead-waits : (s : Server) → WaitsLater s → WaitsLater (lead s)
unfolding lead
lead-waits s r =
    add-waits (noop s.term)
    (record s { role = Leader; leader = Some s.node; peers = map (start_peer (last s + 1)) s.peers }) r

lead_if-waits : (s : Server) → WaitsLater s → WaitsLater (lead_if_elected s)
unfolding lead_if_elected
lead_if-waits s r = either (is_elected s) (lead s) s (lead-waits s r) r

advance-waits : (s : Server) → WaitsLater s → WaitsLater (advance s)
unfolding advance
advance-waits s r =
    either (is_leader s.role) (record s { commit = commit_within s (last s - s.commit) }) s r r

stand-waits : (s : Server) → WaitsLater s → WaitsLater (stand s)
unfolding stand
stand-waits s r =
    let c = become_candidate s in
    say-waits (map (ask c) c.peers) c (change-waits (next_term s.term) (Some s.node) (last s) [] s r)

-- ---- messages

give-waits : (m : VoteMsg) (s : Server) → WaitsLater s → WaitsLater (give_vote m s)
unfolding give_vote
give-waits m s r =
    either (same_vote (vote_in m.term s) (Some m.from)) s
    (follow (leader_in m.term s) (change m.term (Some m.from) (last s) [] s)) r
    (change-waits m.term (Some m.from) (last s) [] s r)

vote-waits : (m : VoteMsg) (s : Server) → WaitsLater s → WaitsLater (receive_vote m s)
unfolding receive_vote
vote-waits m s r =
    either (may_grant m s) (say (voted m.from true (give_vote m s)) (give_vote m s))
    (say (voted m.from false (enter m.term s)) (enter m.term s))
    (say-waits (voted m.from true (give_vote m s) ∷ []) (give_vote m s) (give-waits m s r))
    (say-waits (voted m.from false (enter m.term s) ∷ []) (enter m.term s) (enter-waits m.term s r))

voted-waits : (m : VotedMsg) (s : Server) → WaitsLater s → WaitsLater (receive_voted m s)
unfolding receive_voted
voted-waits m s r =
    let t = enter m.term s in
    let now : WaitsLater t = enter-waits m.term s r in
    let counted = at_peer m.from grant_peer t in
    either (is_candidate t.role && m.granted) (lead_if_elected counted) t (lead_if-waits counted now) now

write-waits : (m : AppendMsg) (missing : List Entry) (s : Server) → WaitsLater s → WaitsLater (write m missing s)
write-waits m [] s r = enter-waits m.term s r
write-waits m (e ∷ es) s r =
    change-waits m.term (vote_in m.term s) (m.prev_index.0 + has_agreed m s.log) (e ∷ es) s r

take-waits : (m : AppendMsg) (s : Server) → WaitsLater s → WaitsLater (take_entries m s)
unfolding take_entries
take-waits m s r =
    let t = learn (min m.commit.0 (end m)) (write_missing m s) in
    say-waits (appended m.from true (end m) t ∷ []) t (write-waits m (drop (has_agreed m s.log) m.entries) s r)

refuse-entries-waits : (m : AppendMsg) (s : Server) → WaitsLater s → WaitsLater (refuse_entries m s)
unfolding refuse_entries
refuse-entries-waits m s r =
    let t = follow (Some m.from) (enter m.term s) in
    say-waits (appended m.from false (min (m.prev_index.0 - 1) (last s)) t ∷ []) t (enter-waits m.term s r)

append-waits : (m : AppendMsg) (s : Server) → WaitsLater s → WaitsLater (receive_append m s)
unfolding receive_append
append-waits m s r =
    either (is_match m s.log) (take_entries m s) (refuse_entries m s) (take-waits m s r) (refuse-entries-waits m s r)

ack-waits : (m : AppendedMsg) (s : Server) → WaitsLater s → WaitsLater (take_ack m s)
unfolding take_ack
ack-waits m s r =
    let t = at_peer m.from (match_peer m.index.0) s in
    advance-waits (send (lacks m.from (last s)) t) (send-waits (lacks m.from (last s)) t r)

back-waits : (m : AppendedMsg) (s : Server) → WaitsLater s → WaitsLater (step_back m s)
unfolding step_back
back-waits m s r = send-waits (is_peer m.from) (at_peer m.from (back_peer m.index.0) s) r

reply-waits : (m : AppendedMsg) (s : Server) → WaitsLater s → WaitsLater (take_reply m s)
reply-waits m s r =
    either (is_leader s.role) (cond m.ok (take_ack m s) (step_back m s)) s
    (either m.ok (take_ack m s) (step_back m s) (ack-waits m s r) (back-waits m s r)) r

appended-waits : (m : AppendedMsg) (s : Server) → WaitsLater s → WaitsLater (receive_appended m s)
unfolding receive_appended
appended-waits m s r = reply-waits m (enter m.term s) (enter-waits m.term s r)

refuse-waits : (rpc : Rpc) (s : Server) → WaitsLater s → WaitsLater (refuse rpc s)
unfolding refuse
refuse-waits (Vote m) s r = say-waits (voted m.from false s ∷ []) s r
refuse-waits (Append m) s r = say-waits (appended m.from false (last s) s ∷ []) s r
refuse-waits (Install m) s r = say-waits (installed m.from s.commit s ∷ []) s r
refuse-waits (Voted m) s r = r
refuse-waits (Appended m) s r = r
refuse-waits (Installed m) s r = r

accept-waits : (rpc : Rpc) (s : Server) → WaitsLater s → WaitsLater (accept rpc s)
unfolding accept
accept-waits (Vote m) s r = vote-waits m s r
accept-waits (Voted m) s r = voted-waits m s r
accept-waits (Append m) s r = append-waits m s r
accept-waits (Appended m) s r = appended-waits m s r
accept-waits (Install m) s r = enter-waits m.term s r
accept-waits (Installed m) s r = enter-waits m.term s r

-- ---- inputs

tick-waits : (s : Server) → WaitsLater s → WaitsLater (tick s)
unfolding tick
tick-waits s r =
    let again = record s { peers = map send_again s.peers } in
    either (is_leader s.role) (send everyone again) (stand s) (send-waits everyone again r) (stand-waits s r)

receive-waits : (rpc : Rpc) (s : Server) → WaitsLater s → WaitsLater (receive rpc s)
unfolding receive
receive-waits rpc s r =
    either (ltb (envelope rpc).term.0 s.term.0) (refuse rpc s) (accept rpc s) (refuse-waits rpc s r)
    (accept-waits rpc s r)

notice-waits : (op : ℕ) (s : Server) → WaitsLater s → WaitsLater (notice op s)
unfolding notice
notice-waits op s r =
    let n = greater s.noticed op in
    let t = take_notice n s in
    advance-waits (lead_if_elected t) (lead_if-waits t (rises-still (s.noticed + 1) s.op n s.waiting r))

pub step-waits : (s : Server) (input : Input) → WaitsLater s → WaitsLater (step s input)
unfolding submit add flush
step-waits s Tick r = tick-waits s r
step-waits s (Receive rpc) r = receive-waits rpc s r
step-waits s (Submit time command) r =
    let entry : Entry = record { term = s.term; time = time; command = command } in
    either (is_ready s) (add_entry entry s) s (add-waits entry s r) r
step-waits s (Add time command) r =
    let entry : Entry = record { term = s.term; time = time; command = command } in
    either (is_ready s) (append_entry entry s) s (change-waits s.term s.vote (last s) (entry ∷ []) s r) r
step-waits s Flush r =
    either (is_leader s.role) (flush_within (last s + 1) s) s (flush-waits (last s + 1) s r) r
step-waits s (Notice op) r = notice-waits op s r
