-- A step hands out one change at most, and with it the disk's state is what the server works on.
use Rattle.std.proofs.Common.{◌≡◌, ℕ, zero, suc, ◌+◌, ◌-◌, ◌≤◌, Bool, true, false, cond, ◌&&◌, eqb, ltb, leb, min, List, [], ◌∷◌, ◌++◌, length, map, take, drop, Option, Some, None, refl, sym, ap, subst, ◌∙◌, append_assoc, arith, inl, inr}
use Rattle.std.proofs.lemmas.Bool.{cond_both, cond-true, or_cases, and_parts, and_from, eq-eqb, eqb-true, le-leb, leb-true, ltb-false, ltb-true}
use Rattle.std.proofs.lemmas.List.{length-drop, length-map, map-append, take-map}
use Rattle.std.proofs.lemmas.Grind.{fold-append}
use Rattle.std.specs.Prelude.{option_map}
use Rattle.std.specs.List.{list_any}
use Rattle.qq_base.specs.declared.ids.NodeId.{NodeId}
use Rattle.qq_base.specs.declared.ids.QueueId.{QueueId}
use Rattle.qq_base.specs.declared.ids.Term.{Term}
use Rattle.qq_entry.specs.declared.command.Entry.{Entry}
use Rattle.qq_log.specs.declared.op.Op.{Op}
use Rattle.qq_log.specs.declared.op.Op.TheVariants.{Change}
use Rattle.qq_log.specs.Same.{same_vote}
use Rattle.qq_log.specs.Stable.{Stable, new_state, act, apply_op, change as change_state, known_entries, last_index, may_keep, stable, then_apply}
use Rattle.qq_raft_protocol.specs.World.{Lane}
use Rattle.qq_raft_msg.specs.declared.rpc.AppendMsg.{AppendMsg}
use Rattle.qq_raft_msg.specs.declared.rpc.AppendedMsg.{AppendedMsg}
use Rattle.qq_raft_msg.specs.declared.rpc.Rpc.{Rpc}
use Rattle.qq_raft_msg.specs.declared.rpc.Rpc.TheVariants.{Vote, Voted, Append, Appended, Install, Installed}
use Rattle.qq_raft_msg.specs.declared.rpc.VoteMsg.{VoteMsg}
use Rattle.qq_raft_msg.specs.declared.rpc.VotedMsg.{VotedMsg}
use Rattle.qq_raft_msg.specs.declared.state.Role.TheVariants.{Leader}
use Rattle.qq_raft_msg.specs.Rpc.{envelope}
use Rattle.qq_raft_model.specs.declared.peer.Peer.{Peer}
use Rattle.qq_raft_model.specs.Handing.{plain_state, state_of, lane_in, Rests, peer_number, Continues}
use Rattle.qq_raft_model.specs.Refines.{number, lane_of}
use Rattle.qq_raft_model.specs.Leading.{add_entry, advance, append_entry, ask, become_candidate, clear_vote, commit_within, everyone, flush, flush_within, is_elected, lags, lead, lead_if_elected, next_term, noop, pass, send, stand, start_peer}
use Rattle.qq_raft_model.specs.Server.{Input, accept, add, agreed, appended, at_peer, back_peer, end, give_vote, grant_peer, greater, has_agreed, installed, is_match, is_peer, is_ready, lacks, learn, match_peer, may_grant, notice, receive, receive_append, receive_appended, receive_vote, receive_voted, refuse, refuse_entries, send_again, step, step_back, submit, take_ack, take_entries, take_notice, take_reply, tick, voted, write}
use Rattle.qq_raft_model.specs.Server.Input.{Tick, Receive, Submit, Add, Flush, Notice}
use Rattle.qq_raft_model.specs.State.{Server, last, term_at, is_candidate, is_leader, change, enter, follow, leader_in, say, say_all, vote_in}

-- ---- a change on the disk

more_entries : (keep : ℕ) (log entries : List Entry)
    → take (keep - 0) (map (λ (e : Entry). Some e) log) ++ map (λ (e : Entry). Some e) entries
    ≡ map (λ (e : Entry). Some e) (take keep log ++ entries)
more_entries keep log entries =
    let some : Entry → Option Entry = λ (e : Entry). Some e in
    let same : keep - 0 ≡ keep = omega arith in
    ap (λ (n : ℕ). take n (map some log) ++ map some entries) same
    ∙ ap (λ (t : List (Option Entry)). t ++ map some entries) (take-map some keep log)
    ∙ sym (map-append some (take keep log) entries)

changed : (queue : QueueId) (op : ℕ) (was term : Term) (had vote : Option NodeId) (keep : ℕ) (log entries : List Entry)
    → keep ≤ length log
    → apply_op (plain_state op was had log) (Change queue (op + 1) term vote (record { 0 = keep }) entries)
    ≡ Some (plain_state (op + 1) term vote (take keep log ++ entries))
unfolding apply_op change_state
changed queue op was term had vote keep log entries le =
    let s : Stable = plain_state op was had log in
    let next : Stable = plain_state (op + 1) was had log in
    let o : Op = Change queue (op + 1) term vote (record { 0 = keep }) entries in
    let long : length (map (λ (e : Entry). Some e) log) ≡ length log = length-map log (λ (e : Entry). Some e) in
    let keeps : may_keep next keep ≡ true =
    and_from (leb 0 keep) (leb keep (last_index next)) (le-leb 0 keep (omega arith))
    (le-leb keep (last_index next) (omega (arith, le, long))) in
    cond-true (eqb (op + 1) (op + 1)) (act next o) None (eq-eqb (op + 1) (op + 1) refl)
    ∙ cond-true (may_keep next keep) (Some (change_state next term vote keep entries)) None keeps
    ∙ ap (λ (l : List (Option Entry)). Some (record {
      op = op + 1;
      term = term;
      vote = vote;
      base = next.base;
      snapshot = 0;
      log = l;
      segments = [];
    })) (more_entries keep log entries)

-- all entries of a log that was made of entries are known
pub known-all : (log : List Entry) → known_entries (map Some log) ≡ log
known-all [] = refl
known-all (e ∷ log) = ap (λ (l : List Entry). e ∷ l) (known-all log)

-- the disk's state tells the protocol's lane
pub same-lane : (s : Server) → lane_in (state_of s) ≡ lane_of s
same-lane s =
    let with_log : List Entry → Lane =
    λ (log : List Entry). record { op = s.op; term = s.term.0; vote = option_map number s.vote; log = log } in
    ap with_log (known-all s.log)

-- ---- what stays

pub record Stays (s t : Server) : Type 0 where
  pub node : t.node ≡ s.node
  pub nodes : map peer_number t.peers ≡ map peer_number s.peers
  pub rests : Rests s t

stays-refl : (s : Server) → Stays s s
stays-refl s = record { node = refl; nodes = refl; rests = record { ops = refl; state = refl } }

stays-stays : {s t u : Server} → Stays s t → Stays t u → Stays s u
stays-stays f g = record {
  node = g.node ∙ f.node;
  nodes = g.nodes ∙ f.nodes;
  rests = record { ops = g.rests.ops ∙ f.rests.ops; state = g.rests.state ∙ f.rests.state };
}

same-term : {s t : Server} → Stays s t → t.term.0 ≡ s.term.0
same-term f = ap (λ (x : Stable). x.term.0) f.rests.state

stays-is : {s t : Server} → Stays s t → Continues s t
stays-is {s = s} {t = t} f =
    let same : t.term.0 ≡ s.term.0 = same-term f in
    record { node = f.node; term = omega (arith, same); nodes = f.nodes; hands = inl f.rests }

continues-refl : (s : Server) → Continues s s
continues-refl s = stays-is (stays-refl s)

stays-continues : {s t u : Server} → Stays s t → Continues t u → Continues s u
stays-continues {s = s} {t = t} {u = u} f g = record {
  node = g.node ∙ f.node;
  term = subst (λ (i : ℕ). i ≤ u.term.0) (same-term f) g.term;
  nodes = g.nodes ∙ f.nodes;
  hands = elim g.hands [
    | inl r ↦ inl (record { ops = r.ops ∙ f.rests.ops; state = r.state ∙ f.rests.state })
    | inr c ↦ inr (record {
      op = c.op;
      next = c.next ∙ ap (λ (x : Stable). x.op + 1) f.rests.state;
      ops = c.ops ∙ ap (λ (t : List Op). t ++ c.op ∷ []) f.rests.ops;
      is = ap (λ (x : Stable). apply_op x c.op) (sym f.rests.state) ∙ c.is;
    })
  ];
}

continues-stays : {s t u : Server} → Continues s t → Stays t u → Continues s u
continues-stays {s = s} {t = t} {u = u} f g = record {
  node = g.node ∙ f.node;
  term = subst (λ (i : ℕ). s.term.0 ≤ i) (sym (same-term g)) f.term;
  nodes = g.nodes ∙ f.nodes;
  hands = elim f.hands [
    | inl r ↦ inl (record { ops = g.rests.ops ∙ r.ops; state = g.rests.state ∙ r.state })
    | inr c ↦ inr (record {
      op = c.op;
      next = ap (λ (x : Stable). x.op) g.rests.state ∙ c.next;
      ops = g.rests.ops ∙ c.ops;
      is = c.is ∙ ap (λ (x : Stable). Some x) (sym g.rests.state);
    })
  ];
}

-- ---- peers, messages and roles

nodes-map : (f : Peer → Peer) → ((p : Peer) → (f p).node.0 ≡ p.node.0) → (ps : List Peer)
    → map peer_number (map f ps) ≡ map peer_number ps
nodes-map f same [] = refl
nodes-map f same (p ∷ ps) =
    ap (λ (n : ℕ). n ∷ map peer_number (map f ps)) (same p)
    ∙ ap (λ (t : List ℕ). p.node.0 ∷ t) (nodes-map f same ps)

stays-peers : (f : Peer → Peer) (s : Server) → ((p : Peer) → (f p).node.0 ≡ p.node.0)
    → Stays s (record s { peers = map f s.peers })
stays-peers f s same =
    record { node = refl; nodes = nodes-map f same s.peers; rests = record { ops = refl; state = refl } }

picked : (b : Bool) (q p : Peer) → q.node.0 ≡ p.node.0 → (cond b q p).node.0 ≡ p.node.0
picked b q p same = cond_both b q p (λ (y : Peer). y.node.0 ≡ p.node.0) (λ _. same) (λ _. refl)

stays-at_peer : (node : NodeId) (f : Peer → Peer) (s : Server) → ((p : Peer) → (f p).node.0 ≡ p.node.0)
    → Stays s (at_peer node f s)
stays-at_peer node f s same =
    stays-peers (λ (p : Peer). cond (is_peer node p) (f p) p) s (λ p. picked (is_peer node p) (f p) p (same p))

stays-send : (picks : Peer → Bool) (s : Server) → Stays s (send picks s)
unfolding send
stays-send picks s =
    record {
      node = refl;
      nodes =
          nodes-map (λ (p : Peer). cond (picks p) (pass s.log p) p)
          (λ p. picked (picks p) (pass s.log p) p refl) s.peers;
      rests = record { ops = refl; state = refl };
    }

stays-say_all : (rpcs : List Rpc) (s : Server) → Stays s (say_all rpcs s)
unfolding say_all
stays-say_all rpcs s =
    cond_both (leb s.op s.noticed) (record s { out = s.out ++ rpcs })
    (record s { waiting = s.waiting ++ map (λ r. record { op = s.op; rpc = r }) rpcs }) (Stays s)
    (λ _. record { node = refl; nodes = refl; rests = record { ops = refl; state = refl } })
    (λ _. record { node = refl; nodes = refl; rests = record { ops = refl; state = refl } })

stays-say : (rpc : Rpc) (s : Server) → Stays s (say rpc s)
stays-say rpc s = stays-say_all (rpc ∷ []) s

stays-follow : (leader : Option NodeId) (s : Server) → Stays s (follow leader s)
stays-follow leader s = record { node = refl; nodes = refl; rests = record { ops = refl; state = refl } }

stays-advance : (s : Server) → Stays s (advance s)
unfolding advance
stays-advance s =
    cond_both (is_leader s.role) (record s { commit = commit_within s (last s - s.commit) }) s (Stays s)
    (λ _. record { node = refl; nodes = refl; rests = record { ops = refl; state = refl } })
    (λ _. stays-refl s)

-- ---- changes

continues-change : (term : Term) (vote : Option NodeId) (keep : ℕ) (entries : List Entry) (s : Server)
    → s.term.0 ≤ term.0 → keep ≤ last s → Continues s (change term vote keep entries s)
unfolding change
continues-change term vote keep entries s rises le =
    record {
      node = refl;
      term = rises;
      nodes = refl;
      hands = inr (record {
        op = Change s.queue (s.op + 1) term vote (record { 0 = keep }) entries;
        next = refl;
        ops = refl;
        is = changed s.queue s.op s.term term s.vote vote keep s.log entries le;
      });
    }

-- a term or a vote, and a follower
continues-write : (leader : Option NodeId) (term : Term) (vote : Option NodeId) (s : Server)
    → s.term.0 ≤ term.0 → Continues s (follow leader (change term vote (last s) [] s))
continues-write leader term vote s rises =
    continues-stays (continues-change term vote (last s) [] s rises (omega arith))
    (stays-follow leader (change term vote (last s) [] s))

continues-enter : (term : Term) (s : Server) → Continues s (enter term s)
unfolding enter
continues-enter term s =
    cond_both (ltb s.term.0 term.0) (follow None (change term None (last s) [] s)) s (Continues s)
    (λ e. let lt = ltb-true s.term.0 term.0 e in continues-write None term None s (omega (arith, lt)))
    (λ _. continues-refl s)

continues-entry : (entry : Entry) (s : Server) → Continues s (append_entry entry s)
continues-entry entry s = continues-change s.term s.vote (last s) (entry ∷ []) s (omega arith) (omega arith)

continues-add : (entry : Entry) (s : Server) → Continues s (add_entry entry s)
unfolding add_entry
continues-add entry s = continues-stays (continues-entry entry s) (stays-send everyone (append_entry entry s))

stays-flush : (n : ℕ) (s : Server) → Stays s (flush_within n s)
stays-flush zero s = stays-refl s
stays-flush (suc n) s =
    let next = send (lags (last s)) s in
    cond_both (list_any (lags (last s)) s.peers) (flush_within n next) s (Stays s)
    (λ _. stays-stays (stays-send (lags (last s)) s) (stays-flush n next)) (λ _. stays-refl s)

continues-lead : (s : Server) → Continues s (lead s)
unfolding lead
continues-lead s =
    let t : Server =
    record s { role = Leader; leader = Some s.node; peers = map (start_peer (last s + 1)) s.peers } in
    let first : Stays s t = record {
      node = refl;
      nodes = nodes-map (start_peer (last s + 1)) (λ p. refl) s.peers;
      rests = record { ops = refl; state = refl };
    } in
    stays-continues first (continues-add (noop s.term) t)

continues-lead_if : (s : Server) → Continues s (lead_if_elected s)
unfolding lead_if_elected
continues-lead_if s =
    cond_both (is_elected s) (lead s) s (Continues s) (λ _. continues-lead s) (λ _. continues-refl s)

candidate-stays : (s : Server) → Stays (change (next_term s.term) (Some s.node) (last s) [] s) (become_candidate s)
unfolding change
candidate-stays s =
    record {
      node = refl;
      nodes = nodes-map clear_vote (λ p. refl) s.peers;
      rests = record { ops = refl; state = refl };
    }

continues-stand : (s : Server) → Continues s (stand s)
unfolding stand
continues-stand s =
    let c = become_candidate s in
    continues-stays
    (continues-stays (continues-change (next_term s.term) (Some s.node) (last s) [] s (omega arith) (omega arith))
    (candidate-stays s)) (stays-say_all (map (ask c) c.peers) c)

-- ---- messages

continues-vote : (m : VoteMsg) (s : Server) → s.term.0 ≤ m.term.0 → Continues s (receive_vote m s)
unfolding receive_vote give_vote
continues-vote m s rises =
    let given : Continues s (give_vote m s) =
    cond_both (same_vote (vote_in m.term s) (Some m.from)) s
    (follow (leader_in m.term s) (change m.term (Some m.from) (last s) [] s)) (Continues s)
    (λ _. continues-refl s) (λ _. continues-write (leader_in m.term s) m.term (Some m.from) s rises) in
    cond_both (may_grant m s) (say (voted m.from true (give_vote m s)) (give_vote m s))
    (say (voted m.from false (enter m.term s)) (enter m.term s)) (Continues s)
    (λ _. continues-stays given (stays-say (voted m.from true (give_vote m s)) (give_vote m s)))
    (λ _.
    continues-stays (continues-enter m.term s) (stays-say (voted m.from false (enter m.term s)) (enter m.term s)))

continues-voted : (m : VotedMsg) (s : Server) → Continues s (receive_voted m s)
unfolding receive_voted enter
continues-voted m s =
    let counted = at_peer m.from grant_peer s in
    cond_both (ltb s.term.0 m.term.0) (follow None (change m.term None (last s) [] s)) s
    (λ (t : Server). Continues s
    (cond (is_candidate t.role && m.granted) (lead_if_elected (at_peer m.from grant_peer t)) t))
    (λ e. let lt = ltb-true s.term.0 m.term.0 e in continues-write None m.term None s (omega (arith, lt)))
    (λ _. cond_both (is_candidate s.role && m.granted) (lead_if_elected counted) s (Continues s)
    (λ _. stays-continues (stays-at_peer m.from grant_peer s (λ p. refl)) (continues-lead_if counted))
    (λ _. continues-refl s))

agreed-length : (es own : List Entry) → agreed es own ≤ length own
agreed-length [] own = omega arith
agreed-length (e ∷ es) [] = omega arith
agreed-length (e ∷ es) (f ∷ fs) =
    let rest = agreed-length es fs in
    cond_both (eqb e.term.0 f.term.0) (suc (agreed es fs)) 0 (λ n. n ≤ length (f ∷ fs))
    (λ _. omega (arith, rest)) (λ _. omega arith)

-- what is kept of a log is of it
keeps-within : (m : AppendMsg) (log : List Entry) → is_match m log ≡ true
    → m.prev_index.0 + has_agreed m log ≤ length log
keeps-within m log matches =
    let few = agreed-length m.entries (drop m.prev_index.0 log) in
    let left = length-drop m.prev_index.0 log in
    elim (or_cases (eqb m.prev_index.0 0)
    (leb m.prev_index.0 (length log) && eqb (term_at log m.prev_index.0) m.prev_term.0) matches) [
      | inl start ↦
          let zero : m.prev_index.0 ≡ 0 = eqb-true m.prev_index.0 0 start in
          omega (arith, few, left, zero)
      | inr both ↦
          let le = leb-true m.prev_index.0 (length log)
          (and_parts (leb m.prev_index.0 (length log)) (eqb (term_at log m.prev_index.0) m.prev_term.0) both).0 in
          omega (arith, few, left, le)
    ]

continues-missing : (m : AppendMsg) (missing : List Entry) (s : Server) → s.term.0 ≤ m.term.0
    → is_match m s.log ≡ true → Continues s (write m missing s)
continues-missing m [] s rises matches = continues-enter m.term s
continues-missing m (e ∷ es) s rises matches =
    continues-change m.term (vote_in m.term s) (m.prev_index.0 + has_agreed m s.log) (e ∷ es) s rises
    (keeps-within m s.log matches)

continues-take : (m : AppendMsg) (s : Server) → s.term.0 ≤ m.term.0 → is_match m s.log ≡ true
    → Continues s (take_entries m s)
unfolding take_entries
continues-take m s rises matches =
    let missing = drop (has_agreed m s.log) m.entries in
    let written = write m missing s in
    let followed = follow (Some m.from) written in
    let learnt = learn (min m.commit.0 (end m)) followed in
    let learns : Stays followed learnt =
    record { node = refl; nodes = refl; rests = record { ops = refl; state = refl } } in
    continues-stays (continues-missing m missing s rises matches)
    (stays-stays (stays-follow (Some m.from) written)
    (stays-stays learns (stays-say (appended m.from true (end m) learnt) learnt)))

continues-refuse : (m : AppendMsg) (s : Server) → Continues s (refuse_entries m s)
unfolding refuse_entries
continues-refuse m s =
    let entered = enter m.term s in
    let followed = follow (Some m.from) entered in
    continues-stays (continues-enter m.term s)
    (stays-stays (stays-follow (Some m.from) entered)
    (stays-say (appended m.from false (min (m.prev_index.0 - 1) (last s)) followed) followed))

continues-append : (m : AppendMsg) (s : Server) → s.term.0 ≤ m.term.0 → Continues s (receive_append m s)
unfolding receive_append
continues-append m s rises =
    cond_both (is_match m s.log) (take_entries m s) (refuse_entries m s) (Continues s)
    (λ matches. continues-take m s rises matches) (λ _. continues-refuse m s)

stays-ack : (m : AppendedMsg) (s : Server) → Stays s (take_ack m s)
unfolding take_ack
stays-ack m s =
    let t = at_peer m.from (match_peer m.index.0) s in
    let u = send (lacks m.from (last s)) t in
    stays-stays (stays-at_peer m.from (match_peer m.index.0) s (λ p. refl))
    (stays-stays (stays-send (lacks m.from (last s)) t) (stays-advance u))

stays-back : (m : AppendedMsg) (s : Server) → Stays s (step_back m s)
unfolding step_back
stays-back m s =
    let t = at_peer m.from (back_peer m.index.0) s in
    stays-stays (stays-at_peer m.from (back_peer m.index.0) s (λ p. refl)) (stays-send (is_peer m.from) t)

stays-reply : (m : AppendedMsg) (s : Server) → Stays s (take_reply m s)
stays-reply m s =
    cond_both (is_leader s.role) (cond m.ok (take_ack m s) (step_back m s)) s (Stays s)
    (λ _. cond_both m.ok (take_ack m s) (step_back m s) (Stays s) (λ _. stays-ack m s) (λ _. stays-back m s))
    (λ _. stays-refl s)

continues-appended : (m : AppendedMsg) (s : Server) → Continues s (receive_appended m s)
unfolding receive_appended
continues-appended m s = continues-stays (continues-enter m.term s) (stays-reply m (enter m.term s))

stays-refuse : (rpc : Rpc) (s : Server) → Stays s (refuse rpc s)
unfolding refuse
stays-refuse (Vote m) s = stays-say (voted m.from false s) s
stays-refuse (Append m) s = stays-say (appended m.from false (last s) s) s
stays-refuse (Install m) s = stays-say (installed m.from s.commit s) s
stays-refuse (Voted m) s = stays-refl s
stays-refuse (Appended m) s = stays-refl s
stays-refuse (Installed m) s = stays-refl s

continues-accept : (rpc : Rpc) (s : Server) → s.term.0 ≤ (envelope rpc).term.0 → Continues s (accept rpc s)
unfolding accept
continues-accept (Vote m) s rises = continues-vote m s rises
continues-accept (Voted m) s rises = continues-voted m s
continues-accept (Append m) s rises = continues-append m s rises
continues-accept (Appended m) s rises = continues-appended m s
continues-accept (Install m) s rises = continues-enter m.term s
continues-accept (Installed m) s rises = continues-enter m.term s

-- ---- the inputs

continues-tick : (s : Server) → Continues s (tick s)
unfolding tick
continues-tick s =
    let again = record s { peers = map send_again s.peers } in
    cond_both (is_leader s.role) (send everyone again) (stand s) (Continues s)
    (λ _. stays-is (stays-stays (stays-peers send_again s (λ p. refl)) (stays-send everyone again)))
    (λ _. continues-stand s)

continues-receive : (rpc : Rpc) (s : Server) → Continues s (receive rpc s)
unfolding receive
continues-receive rpc s =
    cond_both (ltb (envelope rpc).term.0 s.term.0) (refuse rpc s) (accept rpc s) (Continues s)
    (λ _. stays-is (stays-refuse rpc s))
    (λ e. continues-accept rpc s (ltb-false (envelope rpc).term.0 s.term.0 e))

continues-notice : (op : ℕ) (s : Server) → Continues s (notice op s)
unfolding notice
continues-notice op s =
    let t = take_notice (greater s.noticed op) s in
    let taken : Stays s t = record { node = refl; nodes = refl; rests = record { ops = refl; state = refl } } in
    stays-continues taken (continues-stays (continues-lead_if t) (stays-advance (lead_if_elected t)))

pub continues-step : (s : Server) (input : Input) → Continues s (step s input)
unfolding submit add flush
continues-step s Tick = continues-tick s
continues-step s (Receive rpc) = continues-receive rpc s
continues-step s (Submit time command) =
    let entry : Entry = record { term = s.term; time = time; command = command } in
    cond_both (is_ready s) (add_entry entry s) s (Continues s)
    (λ _. continues-add entry s) (λ _. continues-refl s)
continues-step s (Add time command) =
    let entry : Entry = record { term = s.term; time = time; command = command } in
    cond_both (is_ready s) (append_entry entry s) s (Continues s)
    (λ _. continues-entry entry s) (λ _. continues-refl s)
continues-step s Flush =
    cond_both (is_leader s.role) (flush_within (last s + 1) s) s (Continues s)
    (λ _. stays-is (stays-flush (last s + 1) s)) (λ _. continues-refl s)
continues-step s (Notice op) = continues-notice op s

-- ---- what the ops come to

pub stable-more : (ops : List Op) (op : Op) → stable (ops ++ op ∷ []) ≡ then_apply (stable ops) op
stable-more ops op = fold-append then_apply (Some new_state) ops (op ∷ [])

pub comes-to : (ops : List Op) (s t : Server) → Continues s t → stable (ops ++ s.ops) ≡ Some (state_of s)
    → stable (ops ++ t.ops) ≡ Some (state_of t)
comes-to ops s t next is =
    elim next.hands [
      | inl r ↦
          ap (λ (x : List Op). stable (ops ++ x)) r.ops ∙ is ∙ ap (λ (x : Stable). Some x) (sym r.state)
      | inr c ↦
          ap (λ (x : List Op). stable (ops ++ x)) c.ops
          ∙ ap stable (sym (append_assoc ops s.ops (c.op ∷ [])))
          ∙ stable-more (ops ++ s.ops) c.op
          ∙ ap (λ (x : Option Stable). then_apply x c.op) is
          ∙ c.is
    ]
