-- What a server knows to be committed only rises.
use Rattle.std.proofs.Common.{◌≤◌, ◌<◌, ◌⊎◌, inl, inr, ◌+◌, ◌-◌, ℕ, zero, suc, Bool, true, false, List, [], ◌∷◌, ◌++◌, drop, map, min, None, Some, arith}
use Rattle.std.specs.Prelude.{nat_le, nat_lt, ◌&&◌, if◌then◌else◌}
use Rattle.std.proofs.lemmas.Bool.{cases_lt, le-leb, lt-leb}
use Rattle.qq_base.specs.declared.ids.Term.{Term}
use Rattle.qq_entry.specs.declared.command.Entry.{Entry}
use Rattle.qq_log.specs.Same.{same_vote}
use Rattle.qq_raft_msg.specs.Rpc.{envelope}
use Rattle.qq_raft_msg.specs.declared.rpc.AppendMsg.{AppendMsg}
use Rattle.qq_raft_msg.specs.declared.rpc.AppendedMsg.{AppendedMsg}
use Rattle.qq_raft_msg.specs.declared.rpc.Rpc.{Rpc}
use Rattle.qq_raft_msg.specs.declared.rpc.Rpc.TheVariants.{Vote, Voted, Append, Appended, Install, Installed}
use Rattle.qq_raft_msg.specs.declared.rpc.VoteMsg.{VoteMsg}
use Rattle.qq_raft_msg.specs.declared.rpc.VotedMsg.{VotedMsg}
use Rattle.qq_raft_model.specs.Leading.{send, add_entry, lead, lead_if_elected, is_elected, may_commit, commit_within, advance}
use Rattle.qq_raft_model.specs.Server.{refuse, voted, appended, installed, may_grant, give_vote, say_voted, receive_vote, at_peer, grant_peer, count_vote, receive_voted, is_match, has_agreed, write, end, learn, write_missing, take_entries, refuse_entries, receive_append, match_peer, lacks, take_ack, step_back, take_reply, receive_appended, accept, receive, greater, take_notice, notice}
use Rattle.qq_raft_model.specs.State.{Server, last, is_leader, is_candidate, follow, wait, change, is_later, vote_in, leader_in, enter, say_all}

either : (n : ℕ) (b : Bool) (x y : Server) → n ≤ x.commit → n ≤ y.commit → n ≤ (if b then x else y).commit
either n true x y f g = f
either n false x y f g = g

enter-rises : (term : Term) (s : Server) → s.commit ≤ (enter term s).commit
unfolding enter change
enter-rises term s =
    either s.commit (is_later term s) (follow None (change term None (last s) [] s)) s (omega arith) (omega arith)

say-rises : (rpcs : List Rpc) (s : Server) → s.commit ≤ (say_all rpcs s).commit
unfolding say_all
say-rises rpcs s =
    either s.commit (nat_le s.op s.noticed) (record s { out = s.out ++ rpcs })
    (record s { waiting = s.waiting ++ map (wait s.op) rpcs }) (omega arith) (omega arith)

lead-rises : (s : Server) → s.commit ≤ (lead s).commit
unfolding lead add_entry send change
lead-rises s = omega arith

elected-rises : (s : Server) → s.commit ≤ (lead_if_elected s).commit
unfolding lead_if_elected
elected-rises s = either s.commit (is_elected s) (lead s) s (lead-rises s) (omega arith)

within-rises : (s : Server) (n : ℕ) → s.commit ≤ commit_within s n
within-rises s zero = omega arith
within-rises s (suc n) = by (may_commit s (s.commit + suc n)) (within-rises s n)
  where
    by : (b : Bool) → s.commit ≤ commit_within s n
        → s.commit ≤ (if b then s.commit + suc n else commit_within s n)
    by true le = omega arith
    by false le = le

advance-rises : (s : Server) → s.commit ≤ (advance s).commit
unfolding advance
advance-rises s =
    either s.commit (is_leader s.role) (record s { commit = commit_within s (last s - s.commit) }) s
    (within-rises s (last s - s.commit)) (omega arith)

-- ---- messages

refuse-rises : (rpc : Rpc) (s : Server) → s.commit ≤ (refuse rpc s).commit
unfolding refuse
refuse-rises (Vote m) s = say-rises (voted m.from false s ∷ []) s
refuse-rises (Append m) s = say-rises (appended m.from false (last s) s ∷ []) s
refuse-rises (Install m) s = say-rises (installed m.from s.commit s ∷ []) s
refuse-rises (Voted m) s = omega arith
refuse-rises (Appended m) s = omega arith
refuse-rises (Installed m) s = omega arith

give-rises : (m : VoteMsg) (s : Server) → s.commit ≤ (give_vote m s).commit
unfolding give_vote change
give-rises m s =
    either s.commit (same_vote (vote_in m.term s) (Some m.from)) s
    (follow (leader_in m.term s) (change m.term (Some m.from) (last s) [] s)) (omega arith) (omega arith)

vote-rises : (m : VoteMsg) (s : Server) → s.commit ≤ (receive_vote m s).commit
unfolding receive_vote
vote-rises m s =
    let given = give_vote m s in
    let entered = enter m.term s in
    either s.commit (may_grant m s) (say_voted m true given) (say_voted m false entered)
    (omega (arith, give-rises m s, say-rises (voted m.from true given ∷ []) given))
    (omega (arith, enter-rises m.term s, say-rises (voted m.from false entered ∷ []) entered))

count-rises : (m : VotedMsg) (s : Server) → s.commit ≤ (count_vote m s).commit
count-rises m s =
    either s.commit (is_candidate s.role && m.granted) (lead_if_elected (at_peer m.from grant_peer s)) s
    (elected-rises (at_peer m.from grant_peer s)) (omega arith)

voted-rises : (m : VotedMsg) (s : Server) → s.commit ≤ (receive_voted m s).commit
unfolding receive_voted
voted-rises m s = omega (arith, enter-rises m.term s, count-rises m (enter m.term s))

write-rises : (m : AppendMsg) (es : List Entry) (s : Server) → s.commit ≤ (write m es s).commit
unfolding change
write-rises m [] s = enter-rises m.term s
write-rises m (e ∷ es) s = omega arith

learn-rises : (index : ℕ) (s : Server) → s.commit ≤ (learn index s).commit
learn-rises index s = by (cases_lt s.commit index)
  where
    by : ((s.commit < index) ⊎ (index ≤ s.commit)) → s.commit ≤ (if nat_lt s.commit index then index else s.commit)
    by (inl lt) = rw (le-leb (suc s.commit) index (omega (arith, lt))) (omega (arith, lt))
    by (inr ge) = rw (lt-leb (suc s.commit) index (omega (arith, ge))) (omega arith)

take-rises : (m : AppendMsg) (s : Server) → s.commit ≤ (take_entries m s).commit
unfolding take_entries
take-rises m s =
    let wrote = write_missing m s in
    let knows = learn (min m.commit.0 (end m)) wrote in
    omega (
      arith,
      write-rises m (drop (has_agreed m s.log) m.entries) s,
      learn-rises (min m.commit.0 (end m)) wrote,
      say-rises (appended m.from true (end m) knows ∷ []) knows,
    )

refused-rises : (m : AppendMsg) (s : Server) → s.commit ≤ (refuse_entries m s).commit
unfolding refuse_entries
refused-rises m s =
    let follows = follow (Some m.from) (enter m.term s) in
    omega (
      arith,
      enter-rises m.term s,
      say-rises (appended m.from false (min (m.prev_index.0 - 1) (last s)) follows ∷ []) follows,
    )

append-rises : (m : AppendMsg) (s : Server) → s.commit ≤ (receive_append m s).commit
unfolding receive_append
append-rises m s =
    either s.commit (is_match m s.log) (take_entries m s) (refuse_entries m s) (take-rises m s) (refused-rises m s)

ack-rises : (m : AppendedMsg) (s : Server) → s.commit ≤ (take_ack m s).commit
unfolding take_ack send
ack-rises m s = advance-rises (send (lacks m.from (last s)) (at_peer m.from (match_peer m.index.0) s))

back-rises : (m : AppendedMsg) (s : Server) → s.commit ≤ (step_back m s).commit
unfolding step_back send
back-rises m s = omega arith

reply-rises : (m : AppendedMsg) (s : Server) → s.commit ≤ (take_reply m s).commit
reply-rises m s =
    either s.commit (is_leader s.role) (if m.ok then take_ack m s else step_back m s) s
    (either s.commit m.ok (take_ack m s) (step_back m s) (ack-rises m s) (back-rises m s)) (omega arith)

appended-rises : (m : AppendedMsg) (s : Server) → s.commit ≤ (receive_appended m s).commit
unfolding receive_appended
appended-rises m s = omega (arith, enter-rises m.term s, reply-rises m (enter m.term s))

accept-rises : (rpc : Rpc) (s : Server) → s.commit ≤ (accept rpc s).commit
unfolding accept
accept-rises (Vote m) s = vote-rises m s
accept-rises (Voted m) s = voted-rises m s
accept-rises (Append m) s = append-rises m s
accept-rises (Appended m) s = appended-rises m s
accept-rises (Install m) s = enter-rises m.term s
accept-rises (Installed m) s = enter-rises m.term s

pub receive-rises : (rpc : Rpc) (s : Server) → s.commit ≤ (receive rpc s).commit
unfolding receive
receive-rises rpc s =
    either s.commit (nat_lt (envelope rpc).term.0 s.term.0) (refuse rpc s) (accept rpc s) (refuse-rises rpc s)
    (accept-rises rpc s)

pub notice-rises : (op : ℕ) (s : Server) → s.commit ≤ (notice op s).commit
unfolding notice
notice-rises op s =
    let noticed = take_notice (greater s.noticed op) s in
    omega (arith, elected-rises noticed, advance-rises (lead_if_elected noticed))
