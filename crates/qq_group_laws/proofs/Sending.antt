-- What a server sends is from itself to one of its peers.
use Rattle.std.proofs.Common.{◌≡◌, ℕ, zero, suc, ◌+◌, ◌-◌, Bool, true, false, List, [], ◌∷◌, ◌++◌, map, Option, Some, None, refl, subst, ◌∙◌, inl, inr}
use Rattle.std.specs.Prelude.{◌&&◌, drop, filter, min, nat_le, nat_lt, if◌then◌else◌}
use Rattle.std.specs.List.{AllByRecursion, list_any}
use Rattle.std.proofs.lemmas.Bool.{cond_both}
use Rattle.qq_base.proofs.Lists.{AllByRecursion-append, AllByRecursion-filter, AllByRecursion-map}
use Rattle.qq_base.specs.declared.ids.NodeId.{NodeId}
use Rattle.qq_base.specs.declared.ids.Term.{Term}
use Rattle.qq_entry.specs.declared.command.Entry.{Entry}
use Rattle.qq_entry.specs.declared.command.Command.{Command}
use Rattle.qq_raft_protocol.specs.Facts.{In}
use Rattle.qq_raft_msg.specs.Rpc.{envelope}
use Rattle.qq_raft_msg.specs.declared.rpc.AppendMsg.{AppendMsg}
use Rattle.qq_raft_msg.specs.declared.rpc.AppendedMsg.{AppendedMsg}
use Rattle.qq_raft_msg.specs.declared.rpc.Rpc.{Rpc}
use Rattle.qq_raft_msg.specs.declared.rpc.Rpc.TheVariants.{Vote, Voted, Append, Appended, Install, Installed}
use Rattle.qq_raft_msg.specs.declared.rpc.VoteMsg.{VoteMsg}
use Rattle.qq_raft_msg.specs.declared.rpc.VotedMsg.{VotedMsg}
use Rattle.qq_raft_msg.specs.declared.state.Role.TheVariants.{Leader}
use Rattle.qq_log.specs.Same.{same_vote}
use Rattle.qq_raft_model.specs.Leading.{add_entry, advance, append_entry, commit_within, append_to, ask, become_candidate, clear_vote, everyone, flush, flush_within, is_elected, lags, lead, lead_if_elected, noop, pass, send, stand, start_peer}
use Rattle.qq_raft_model.specs.Server.{Input, accept, add, appended, at_peer, back_peer, end, free, give_vote, grant_peer, greater, has_agreed, installed, is_match, is_peer, is_ready, lacks, learn, match_peer, may_grant, notice, receive, receive_append, receive_appended, receive_vote, receive_voted, refuse, refuse_entries, say_voted, send_again, step, step_back, still_waiting, submit, take_ack, take_entries, take_notice, tick, voted, write, write_missing}
use Rattle.qq_raft_model.specs.State.{Server, change, enter, follow, is_candidate, is_leader, is_later, last, leader_in, say, say_all, vote_in, wait}
use Rattle.qq_raft_model.specs.declared.peer.Peer.{Peer}
use Rattle.qq_raft_model.specs.declared.peer.Waiting.{Waiting}

-- the peers' nodes
abbrev pub nodes_of : List Peer → List NodeId
nodes_of peers = map (λ (p : Peer). p.node) peers

pub record IsAddressed (node : NodeId) (rest : List NodeId) (rpc : Rpc) : Type 0 where
  pub from : (envelope rpc).from ≡ node
  pub to : In (envelope rpc).to rest

-- a server of this node and these peers, which has only such messages
pub record Keeps (node : NodeId) (rest : List NodeId) (s : Server) : Type 0 where
  pub node_is : s.node ≡ node
  pub rest_are : nodes_of s.peers ≡ rest
  pub out : AllByRecursion (IsAddressed node rest) s.out
  pub waiting : AllByRecursion (λ (w : Waiting). IsAddressed node rest w.rpc) s.waiting

-- ---- peers

map-nodes : (f : Peer → Peer) → ((p : Peer) → (f p).node ≡ p.node) → (ps : List Peer)
    → nodes_of (map f ps) ≡ nodes_of ps
map-nodes f same [] = refl
map-nodes f same (p ∷ ps) = λ i. same p i ∷ map-nodes f same ps i

in-nodes : (all : List NodeId) (ps : List Peer) → ((n : NodeId) → In n (nodes_of ps) → In n all)
    → AllByRecursion (λ (p : Peer). In p.node all) ps
in-nodes all [] there = tt
in-nodes all (p ∷ ps) there = (there p.node (inl refl), in-nodes all ps (λ n here. there n (inr here)))

peers-in : (ps : List Peer) (rest : List NodeId) → nodes_of ps ≡ rest → AllByRecursion (λ (p : Peer). In p.node rest) ps
peers-in ps rest is = subst (λ (all : List NodeId). AllByRecursion (λ (p : Peer). In p.node all) ps) is
    (in-nodes (nodes_of ps) ps (λ n here. here))

keeps-peers : {node : NodeId} {rest : List NodeId} (f : Peer → Peer) (s : Server)
    → ((p : Peer) → (f p).node ≡ p.node) → Keeps node rest s → Keeps node rest (record s { peers = map f s.peers })
keeps-peers f s same k = record {
  node_is = k.node_is;
  rest_are = map-nodes f same s.peers ∙ k.rest_are;
  out = k.out;
  waiting = k.waiting;
}

keeps-at : {node : NodeId} {rest : List NodeId} (n : NodeId) (f : Peer → Peer) (s : Server)
    → ((p : Peer) → (f p).node ≡ p.node) → Keeps node rest s → Keeps node rest (at_peer n f s)
keeps-at n f s same k =
    keeps-peers (λ (p : Peer). if is_peer n p then f p else p) s
    (λ p. cond_both (is_peer n p) (f p) p (λ (q : Peer). q.node ≡ p.node) (λ _. same p) (λ _. refl)) k

-- ---- rules that send nothing

keeps-change : {node : NodeId} {rest : List NodeId} (term : Term) (vote : Option NodeId) (keep : ℕ)
    (entries : List Entry) (s : Server) → Keeps node rest s → Keeps node rest (change term vote keep entries s)
unfolding change
keeps-change term vote keep entries s k =
    record { node_is = k.node_is; rest_are = k.rest_are; out = k.out; waiting = k.waiting }

keeps-follow : {node : NodeId} {rest : List NodeId} (leader : Option NodeId) (s : Server) → Keeps node rest s
    → Keeps node rest (follow leader s)
keeps-follow leader s k =
    record { node_is = k.node_is; rest_are = k.rest_are; out = k.out; waiting = k.waiting }

keeps-enter : {node : NodeId} {rest : List NodeId} (term : Term) (s : Server) → Keeps node rest s
    → Keeps node rest (enter term s)
unfolding enter
keeps-enter {node} {rest} term s k =
    cond_both (is_later term s) (follow None (change term None (last s) [] s)) s (Keeps node rest)
    (λ _. keeps-follow None (change term None (last s) [] s) (keeps-change term None (last s) [] s k)) (λ _. k)

keeps-commit : {node : NodeId} {rest : List NodeId} (commit : ℕ) (s : Server) → Keeps node rest s
    → Keeps node rest (record s { commit = commit })
keeps-commit commit s k =
    record { node_is = k.node_is; rest_are = k.rest_are; out = k.out; waiting = k.waiting }

keeps-advance : {node : NodeId} {rest : List NodeId} (s : Server) → Keeps node rest s → Keeps node rest (advance s)
unfolding advance
keeps-advance {node} {rest} s k =
    let index = commit_within s (last s - s.commit) in
    cond_both (is_leader s.role) (record s { commit = index }) s (Keeps node rest) (λ _. keeps-commit index s k) (λ _. k)

-- ---- what is said and sent

keeps-say : {node : NodeId} {rest : List NodeId} (rpcs : List Rpc) (s : Server)
    → AllByRecursion (IsAddressed node rest) rpcs → Keeps node rest s → Keeps node rest (say_all rpcs s)
unfolding say_all
keeps-say {node} {rest} rpcs s all k =
    cond_both (nat_le s.op s.noticed) (record s { out = s.out ++ rpcs })
    (record s { waiting = s.waiting ++ map (wait s.op) rpcs }) (Keeps node rest)
    (λ _. record {
      node_is = k.node_is;
      rest_are = k.rest_are;
      out = AllByRecursion-append (IsAddressed node rest) s.out rpcs k.out all;
      waiting = k.waiting;
    })
    (λ _. record {
      node_is = k.node_is;
      rest_are = k.rest_are;
      out = k.out;
      waiting = AllByRecursion-append (λ (w : Waiting). IsAddressed node rest w.rpc) s.waiting (map (wait s.op) rpcs)
          k.waiting (AllByRecursion-map (IsAddressed node rest) (λ (w : Waiting). IsAddressed node rest w.rpc) (wait s.op) rpcs
          (λ r a. a) all);
    })

-- an answer to somebody
keeps-answer : {node : NodeId} {rest : List NodeId} (rpc : Rpc) (s : Server) → (envelope rpc).from ≡ s.node
    → In (envelope rpc).to rest → Keeps node rest s → Keeps node rest (say rpc s)
keeps-answer rpc s from to k =
    keeps-say (rpc ∷ []) s (record { from = from ∙ k.node_is; to = to }, tt) k

keeps-send : {node : NodeId} {rest : List NodeId} (picks : Peer → Bool) (s : Server) → Keeps node rest s
    → Keeps node rest (send picks s)
unfolding send
keeps-send {node} {rest} picks s k = record {
  node_is = k.node_is;
  rest_are =
      map-nodes (λ (p : Peer). if picks p then pass s.log p else p)
      (λ p. cond_both (picks p) (pass s.log p) p (λ (q : Peer). q.node ≡ p.node) (λ _. refl) (λ _. refl)) s.peers
      ∙ k.rest_are;
  out =
      AllByRecursion-append (IsAddressed node rest) s.out (map (append_to s) (filter picks s.peers)) k.out
      (AllByRecursion-map (λ (p : Peer). In p.node rest) (IsAddressed node rest) (append_to s) (filter picks s.peers)
      (λ p here. record { from = k.node_is; to = here })
      (AllByRecursion-filter (λ (p : Peer). In p.node rest) picks s.peers (peers-in s.peers rest k.rest_are)));
  waiting = k.waiting;
}

keeps-add : {node : NodeId} {rest : List NodeId} (entry : Entry) (s : Server) → Keeps node rest s
    → Keeps node rest (add_entry entry s)
unfolding add_entry
keeps-add entry s k =
    keeps-send everyone (change s.term s.vote (last s) (entry ∷ []) s)
    (keeps-change s.term s.vote (last s) (entry ∷ []) s k)

-- ---- elections

keeps-stand : {node : NodeId} {rest : List NodeId} (s : Server) → Keeps node rest s → Keeps node rest (stand s)
unfolding stand
keeps-stand {node} {rest} s k =
    let changed = change (record { 0 = s.term.0 + 1 }) (Some s.node) (last s) [] s in
    let now : Keeps node rest changed = keeps-change (record { 0 = s.term.0 + 1 }) (Some s.node) (last s) [] s k in
    let t = become_candidate s in
    let asks : Keeps node rest t = record {
      node_is = now.node_is;
      rest_are = map-nodes clear_vote (λ p. refl) s.peers ∙ k.rest_are;
      out = now.out;
      waiting = now.waiting;
    } in
    keeps-say (map (ask t) t.peers) t
    (AllByRecursion-map (λ (p : Peer). In p.node rest) (IsAddressed node rest) (ask t) t.peers
    (λ p here. record { from = asks.node_is; to = here }) (peers-in t.peers rest asks.rest_are)) asks

keeps-lead : {node : NodeId} {rest : List NodeId} (s : Server) → Keeps node rest s → Keeps node rest (lead s)
unfolding lead
keeps-lead {node} {rest} s k =
    let t : Server = record s { role = Leader; leader = Some s.node; peers = map (start_peer (last s + 1)) s.peers } in
    let now : Keeps node rest t = record {
      node_is = k.node_is;
      rest_are = map-nodes (start_peer (last s + 1)) (λ p. refl) s.peers ∙ k.rest_are;
      out = k.out;
      waiting = k.waiting;
    } in
    keeps-add (noop s.term) t now

keeps-elected : {node : NodeId} {rest : List NodeId} (s : Server) → Keeps node rest s
    → Keeps node rest (lead_if_elected s)
unfolding lead_if_elected
keeps-elected {node} {rest} s k =
    cond_both (is_elected s) (lead s) s (Keeps node rest) (λ _. keeps-lead s k) (λ _. k)

-- ---- messages

keeps-refuse : {node : NodeId} {rest : List NodeId} (rpc : Rpc) (s : Server) → In (envelope rpc).from rest
    → Keeps node rest s → Keeps node rest (refuse rpc s)
unfolding refuse
keeps-refuse (Vote m) s from k = keeps-answer (voted m.from false s) s refl from k
keeps-refuse (Append m) s from k = keeps-answer (appended m.from false (last s) s) s refl from k
keeps-refuse (Install m) s from k = keeps-answer (installed m.from s.commit s) s refl from k
keeps-refuse (Voted m) s from k = k
keeps-refuse (Appended m) s from k = k
keeps-refuse (Installed m) s from k = k

keeps-give : {node : NodeId} {rest : List NodeId} (m : VoteMsg) (s : Server) → Keeps node rest s
    → Keeps node rest (give_vote m s)
unfolding give_vote
keeps-give {node} {rest} m s k =
    let t = change m.term (Some m.from) (last s) [] s in
    cond_both (same_vote (vote_in m.term s) (Some m.from)) s (follow (leader_in m.term s) t) (Keeps node rest) (λ _. k)
    (λ _. keeps-follow (leader_in m.term s) t (keeps-change m.term (Some m.from) (last s) [] s k))

keeps-vote : {node : NodeId} {rest : List NodeId} (m : VoteMsg) (s : Server) → In m.from rest → Keeps node rest s
    → Keeps node rest (receive_vote m s)
unfolding receive_vote
keeps-vote {node} {rest} m s from k =
    cond_both (may_grant m s) (say_voted m true (give_vote m s)) (say_voted m false (enter m.term s)) (Keeps node rest)
    (λ _. keeps-answer (voted m.from true (give_vote m s)) (give_vote m s) refl from (keeps-give m s k))
    (λ _. keeps-answer (voted m.from false (enter m.term s)) (enter m.term s) refl from (keeps-enter m.term s k))

keeps-voted : {node : NodeId} {rest : List NodeId} (m : VotedMsg) (s : Server) → Keeps node rest s
    → Keeps node rest (receive_voted m s)
unfolding receive_voted
keeps-voted {node} {rest} m s k =
    let t = enter m.term s in
    let now : Keeps node rest t = keeps-enter m.term s k in
    cond_both (is_candidate t.role && m.granted) (lead_if_elected (at_peer m.from grant_peer t)) t (Keeps node rest)
    (λ _. keeps-elected (at_peer m.from grant_peer t) (keeps-at m.from grant_peer t (λ p. refl) now)) (λ _. now)

keeps-write : {node : NodeId} {rest : List NodeId} (m : AppendMsg) (es : List Entry) (s : Server) → Keeps node rest s
    → Keeps node rest (write m es s)
keeps-write m [] s k = keeps-enter m.term s k
keeps-write m (e ∷ es) s k =
    keeps-change m.term (vote_in m.term s) (m.prev_index.0 + has_agreed m s.log) (e ∷ es) s k

keeps-take : {node : NodeId} {rest : List NodeId} (m : AppendMsg) (s : Server) → In m.from rest → Keeps node rest s
    → Keeps node rest (take_entries m s)
unfolding take_entries
keeps-take {node} {rest} m s from k =
    let es = drop (has_agreed m s.log) m.entries in
    let written : Keeps node rest (write_missing m s) =
    keeps-follow (Some m.from) (write m es s) (keeps-write m es s k) in
    let t = learn (min m.commit.0 (end m)) (write_missing m s) in
    let now : Keeps node rest t = keeps-commit _ (write_missing m s) written in
    keeps-answer (appended m.from true (end m) t) t refl from now

keeps-back : {node : NodeId} {rest : List NodeId} (m : AppendMsg) (s : Server) → In m.from rest → Keeps node rest s
    → Keeps node rest (refuse_entries m s)
unfolding refuse_entries
keeps-back m s from k =
    let t = follow (Some m.from) (enter m.term s) in
    keeps-answer (appended m.from false (min (m.prev_index.0 - 1) (last s)) t) t refl from
    (keeps-follow (Some m.from) (enter m.term s) (keeps-enter m.term s k))

keeps-append : {node : NodeId} {rest : List NodeId} (m : AppendMsg) (s : Server) → In m.from rest → Keeps node rest s
    → Keeps node rest (receive_append m s)
unfolding receive_append
keeps-append {node} {rest} m s from k =
    cond_both (is_match m s.log) (take_entries m s) (refuse_entries m s) (Keeps node rest)
    (λ _. keeps-take m s from k) (λ _. keeps-back m s from k)

keeps-ack : {node : NodeId} {rest : List NodeId} (m : AppendedMsg) (s : Server) → Keeps node rest s
    → Keeps node rest (take_ack m s)
unfolding take_ack
keeps-ack m s k =
    let t = at_peer m.from (match_peer m.index.0) s in
    keeps-advance (send (lacks m.from (last s)) t)
    (keeps-send (lacks m.from (last s)) t (keeps-at m.from (match_peer m.index.0) s (λ p. refl) k))

keeps-step_back : {node : NodeId} {rest : List NodeId} (m : AppendedMsg) (s : Server) → Keeps node rest s
    → Keeps node rest (step_back m s)
unfolding step_back
keeps-step_back m s k =
    keeps-send (is_peer m.from) (at_peer m.from (back_peer m.index.0) s)
    (keeps-at m.from (back_peer m.index.0) s (λ p. refl) k)

keeps-appended : {node : NodeId} {rest : List NodeId} (m : AppendedMsg) (s : Server) → Keeps node rest s
    → Keeps node rest (receive_appended m s)
unfolding receive_appended
keeps-appended {node} {rest} m s k =
    let t = enter m.term s in
    let now : Keeps node rest t = keeps-enter m.term s k in
    cond_both (is_leader t.role) (if m.ok then take_ack m t else step_back m t) t (Keeps node rest)
    (λ _. cond_both m.ok (take_ack m t) (step_back m t) (Keeps node rest) (λ _. keeps-ack m t now)
    (λ _. keeps-step_back m t now)) (λ _. now)

keeps-accept : {node : NodeId} {rest : List NodeId} (rpc : Rpc) (s : Server) → In (envelope rpc).from rest
    → Keeps node rest s → Keeps node rest (accept rpc s)
unfolding accept
keeps-accept (Vote m) s from k = keeps-vote m s from k
keeps-accept (Voted m) s from k = keeps-voted m s k
keeps-accept (Append m) s from k = keeps-append m s from k
keeps-accept (Appended m) s from k = keeps-appended m s k
keeps-accept (Install m) s from k = keeps-enter m.term s k
keeps-accept (Installed m) s from k = keeps-enter m.term s k

keeps-receive : {node : NodeId} {rest : List NodeId} (rpc : Rpc) (s : Server) → In (envelope rpc).from rest
    → Keeps node rest s → Keeps node rest (receive rpc s)
unfolding receive
keeps-receive {node} {rest} rpc s from k =
    cond_both (nat_lt (envelope rpc).term.0 s.term.0) (refuse rpc s) (accept rpc s) (Keeps node rest) (λ _. keeps-refuse rpc s from k)
    (λ _. keeps-accept rpc s from k)

-- ---- the other inputs

keeps-tick : {node : NodeId} {rest : List NodeId} (s : Server) → Keeps node rest s → Keeps node rest (tick s)
unfolding tick
keeps-tick {node} {rest} s k =
    cond_both (is_leader s.role) (send everyone (record s { peers = map send_again s.peers })) (stand s) (Keeps node rest)
    (λ _. keeps-send everyone (record s { peers = map send_again s.peers }) (keeps-peers send_again s (λ p. refl) k))
    (λ _. keeps-stand s k)

keeps-submit : {node : NodeId} {rest : List NodeId} (time : ℕ) (command : Command) (s : Server) → Keeps node rest s
    → Keeps node rest (submit time command s)
unfolding submit
keeps-submit {node} {rest} time command s k =
    cond_both (is_ready s) (add_entry (record { term = s.term; time = time; command = command }) s) s (Keeps node rest)
    (λ _. keeps-add (record { term = s.term; time = time; command = command }) s k) (λ _. k)

keeps-adding : {node : NodeId} {rest : List NodeId} (time : ℕ) (command : Command) (s : Server) → Keeps node rest s
    → Keeps node rest (add time command s)
unfolding add
keeps-adding {node} {rest} time command s k =
    let entry : Entry = record { term = s.term; time = time; command = command } in
    cond_both (is_ready s) (append_entry entry s) s (Keeps node rest)
    (λ _. keeps-change s.term s.vote (last s) (entry ∷ []) s k) (λ _. k)

keeps-within : {node : NodeId} {rest : List NodeId} (n : ℕ) (s : Server) → Keeps node rest s
    → Keeps node rest (flush_within n s)
keeps-within zero s k = k
keeps-within {node} {rest} (suc n) s k =
    let next = send (lags (last s)) s in
    cond_both (list_any (lags (last s)) s.peers) (flush_within n next) s (Keeps node rest)
    (λ _. keeps-within n next (keeps-send (lags (last s)) s k)) (λ _. k)

keeps-flush : {node : NodeId} {rest : List NodeId} (s : Server) → Keeps node rest s → Keeps node rest (flush s)
unfolding flush
keeps-flush {node} {rest} s k =
    cond_both (is_leader s.role) (flush_within (last s + 1) s) s (Keeps node rest)
    (λ _. keeps-within (last s + 1) s k) (λ _. k)

free-all : (P : Rpc → Type 0) (op : ℕ) (ws : List Waiting) → AllByRecursion (λ (w : Waiting). P w.rpc) ws
    → AllByRecursion P (free op ws)
free-all P op [] all = tt
free-all P op (w ∷ ws) all =
    cond_both (nat_le w.op op) (w.rpc ∷ free op ws) [] (AllByRecursion P) (λ _. (all.0, free-all P op ws all.1)) (λ _. tt)

wait-all : (P : Waiting → Type 0) (op : ℕ) (ws : List Waiting) → AllByRecursion P ws
    → AllByRecursion P (still_waiting op ws)
wait-all P op [] all = tt
wait-all P op (w ∷ ws) all =
    cond_both (nat_le w.op op) (still_waiting op ws) (w ∷ ws) (AllByRecursion P) (λ _. wait-all P op ws all.1) (λ _. all)

keeps-notice : {node : NodeId} {rest : List NodeId} (op : ℕ) (s : Server) → Keeps node rest s
    → Keeps node rest (notice op s)
unfolding notice
keeps-notice {node} {rest} op s k =
    let at = greater s.noticed op in
    let taken : Keeps node rest (take_notice at s) = record {
      node_is = k.node_is;
      rest_are = k.rest_are;
      out = AllByRecursion-append (IsAddressed node rest) s.out (free at s.waiting) k.out
          (free-all (IsAddressed node rest) at s.waiting k.waiting);
      waiting = wait-all (λ (w : Waiting). IsAddressed node rest w.rpc) at s.waiting k.waiting;
    } in
    keeps-advance (lead_if_elected (take_notice at s)) (keeps-elected (take_notice at s) taken)

-- what comes is from one of the peers
abbrev pub IsFromPeer : List NodeId → Input → Type 0
IsFromPeer rest (Input.Receive rpc) = In (envelope rpc).from rest
IsFromPeer rest _ = Unit {0}

pub keeps-step : {node : NodeId} {rest : List NodeId} (s : Server) (input : Input) → IsFromPeer rest input
    → Keeps node rest s → Keeps node rest (step s input)
keeps-step s Input.Tick from k = keeps-tick s k
keeps-step s (Input.Receive rpc) from k = keeps-receive rpc s from k
keeps-step s (Input.Submit time command) from k = keeps-submit time command s k
keeps-step s (Input.Add time command) from k = keeps-adding time command s k
keeps-step s Input.Flush from k = keeps-flush s k
keeps-step s (Input.Notice op) from k = keeps-notice op s k
