-- A member hands out changes of its own queue.
use Rattle.std.specs.List.{AllByRecursion, list_any}
use Rattle.std.specs.Prelude.{nat_le}
use Rattle.std.proofs.Common.{◌≡◌, ◌+◌, ◌-◌, ℕ, zero, suc, Bool, true, false, cond, ◌&&◌, ltb, leb, List, [], ◌∷◌, ◌++◌, map, drop, take, length, Option, Some, None, refl, subst}
use Rattle.std.proofs.lemmas.Bool.{cond_both}
use Rattle.qq_base.proofs.Fronts.{all-front, front-take}
use Rattle.qq_base.proofs.Lists.{AllByRecursion-append}
use Rattle.qq_base.proofs.Puts.{put-each}
use Rattle.qq_base.specs.Fronts.{put}
use Rattle.qq_base.specs.declared.ids.NodeId.{NodeId}
use Rattle.qq_base.specs.declared.ids.QueueId.{QueueId}
use Rattle.qq_base.specs.declared.ids.Term.{Term}
use Rattle.qq_entry.specs.declared.command.Entry.{Entry}
use Rattle.qq_log.specs.Same.{same_vote}
use Rattle.qq_log.specs.Stable.{Stable, stable}
use Rattle.qq_log.specs.declared.op.Op.{Op}
use Rattle.qq_log.specs.declared.op.Op.TheVariants.{Change}
use Rattle.qq_raft_msg.specs.declared.rpc.AppendMsg.{AppendMsg}
use Rattle.qq_raft_msg.specs.declared.rpc.AppendedMsg.{AppendedMsg}
use Rattle.qq_raft_msg.specs.declared.rpc.Rpc.{Rpc}
use Rattle.qq_raft_msg.specs.declared.rpc.Rpc.TheVariants.{Vote, Voted, Append, Appended, Install, Installed}
use Rattle.qq_raft_msg.specs.declared.rpc.VoteMsg.{VoteMsg}
use Rattle.qq_raft_msg.specs.declared.rpc.VotedMsg.{VotedMsg}
use Rattle.qq_raft_msg.specs.Rpc.{envelope}
use Rattle.qq_raft_msg.specs.declared.state.Role.TheVariants.{Leader}
use Rattle.qq_raft_model.specs.declared.peer.Peer.{Peer}
use Rattle.qq_raft_model.specs.Group.{Event as Move, Group, Seat, deliver_by, feed, feed_by, group_after, happens as moved, lane_with, may_restart, restart_by, take_by, take_op}
use Rattle.qq_raft_model.specs.Group.Event.{Tick as TickMove, Submit as SubmitMove, Add as AddMove, Flush as FlushMove, Deliver as DeliverMove, Lose as LoseMove, Copy as CopyMove, Take as TakeMove, Notice as NoticeMove, Crash as CrashMove, Restart as RestartMove}
use Rattle.qq_raft_model.specs.Leading.{add_entry, advance, append_entry, ask, become_candidate, commit_within, everyone, flush, flush_within, is_elected, lags, lead, lead_if_elected, next_term, noop, send, stand, start_peer}
use Rattle.qq_raft_model.specs.Server.{Input, accept, add, at_peer, back_peer, give_vote, grant_peer, greater, has_agreed, is_match, is_peer, is_ready, lacks, match_peer, may_grant, notice, receive, receive_append, receive_appended, receive_vote, receive_voted, refuse, refuse_entries, restart, send_again, step, step_back, submit, take_ack, take_entries, take_notice, take_reply, tick, voted, write}
use Rattle.qq_raft_model.specs.Server.Input.{Tick, Receive, Submit, Add, Flush, Notice}
use Rattle.qq_raft_model.specs.State.{Server, last, is_candidate, is_leader, change, enter, follow, leader_in, say, say_all, vote_in, wait}
use Rattle.qq_cluster_laws.specs.Waiting.{IsChangeOf}

-- a server is of this queue, and holds changes of it
abbrev pub Owns : QueueId → Server → Type 0
Owns id s = (s.queue ≡ id) × AllByRecursion (IsChangeOf id) s.ops

-- a log was handed changes of the queue, and its server is of it
pub record IsOwnSeat (id : QueueId) (seat : Seat) : Type 0 where
  pub ops : AllByRecursion (IsChangeOf id) seat.ops
  pub server : (s : Server) → seat.server ≡ Some s → Owns id s

pub record IsOwnGroup (id : QueueId) (g : Group) : Type 0 where
  pub queue : g.queue ≡ id
  pub seats : (k : ℕ) → IsOwnSeat id (g.seat k)

module _ (id : QueueId) where
  either : (b : Bool) (s t : Server) → Owns id s → Owns id t → Owns id (cond b s t)
  either true s t p q = p
  either false s t p q = q

  say-own : (rpcs : List Rpc) (s : Server) → Owns id s → Owns id (say_all rpcs s)
  unfolding say_all
  say-own rpcs s own =
      either (leb s.op s.noticed) (record s { out = s.out ++ rpcs })
      (record s { waiting = s.waiting ++ map (wait s.op) rpcs }) own own

  send-own : (picks : Peer → Bool) (s : Server) → Owns id s → Owns id (send picks s)
  unfolding send
  send-own picks s own = own

  flush-own : (n : ℕ) (s : Server) → Owns id s → Owns id (flush_within n s)
  flush-own zero s own = own
  flush-own (suc n) s own =
      let picks = lags (last s) in
      either (list_any picks s.peers) (flush_within n (send picks s)) s
      (flush-own n (send picks s) (send-own picks s own)) own

  change-own : (term : Term) (vote : Option NodeId) (keep : ℕ) (entries : List Entry) (s : Server) → Owns id s
      → Owns id (change term vote keep entries s)
  unfolding change
  change-own term vote keep entries s own = (
    own.0,
    AllByRecursion-append (IsChangeOf id) s.ops
        (Change s.queue (s.op + 1) term vote (record { 0 = keep }) entries ∷ []) own.1 (own.0, tt),
  )

  enter-own : (term : Term) (s : Server) → Owns id s → Owns id (enter term s)
  unfolding enter
  enter-own term s own =
      either (ltb s.term.0 term.0) (follow None (change term None (last s) [] s)) s
      (change-own term None (last s) [] s own) own

  add-own : (entry : Entry) (s : Server) → Owns id s → Owns id (add_entry entry s)
  unfolding add_entry
  add-own entry s own =
      send-own everyone (change s.term s.vote (last s) (entry ∷ []) s)
      (change-own s.term s.vote (last s) (entry ∷ []) s own)

  lead-own : (s : Server) → Owns id s → Owns id (lead s)
  unfolding lead
  lead-own s own =
      add-own (noop s.term)
      (record s { role = Leader; leader = Some s.node; peers = map (start_peer (last s + 1)) s.peers }) own

  lead_if-own : (s : Server) → Owns id s → Owns id (lead_if_elected s)
  unfolding lead_if_elected
  lead_if-own s own = either (is_elected s) (lead s) s (lead-own s own) own

  advance-own : (s : Server) → Owns id s → Owns id (advance s)
  unfolding advance
  advance-own s own =
      either (is_leader s.role) (record s { commit = commit_within s (last s - s.commit) }) s own own

  stand-own : (s : Server) → Owns id s → Owns id (stand s)
  unfolding stand
  stand-own s own =
      let c = become_candidate s in
      say-own (map (ask c) c.peers) c (change-own (next_term s.term) (Some s.node) (last s) [] s own)

  give-own : (m : VoteMsg) (s : Server) → Owns id s → Owns id (give_vote m s)
  unfolding give_vote
  give-own m s own =
      either (same_vote (vote_in m.term s) (Some m.from)) s
      (follow (leader_in m.term s) (change m.term (Some m.from) (last s) [] s)) own
      (change-own m.term (Some m.from) (last s) [] s own)

  vote-own : (m : VoteMsg) (s : Server) → Owns id s → Owns id (receive_vote m s)
  unfolding receive_vote
  vote-own m s own =
      either (may_grant m s) (say (voted m.from true (give_vote m s)) (give_vote m s))
      (say (voted m.from false (enter m.term s)) (enter m.term s))
      (say-own (voted m.from true (give_vote m s) ∷ []) (give_vote m s) (give-own m s own))
      (say-own (voted m.from false (enter m.term s) ∷ []) (enter m.term s) (enter-own m.term s own))

  voted-own : (m : VotedMsg) (s : Server) → Owns id s → Owns id (receive_voted m s)
  unfolding receive_voted
  voted-own m s own =
      let t = enter m.term s in
      let counted = at_peer m.from grant_peer t in
      either (is_candidate t.role && m.granted) (lead_if_elected counted) t
      (lead_if-own counted (enter-own m.term s own)) (enter-own m.term s own)

  write-own : (m : AppendMsg) (missing : List Entry) (s : Server) → Owns id s → Owns id (write m missing s)
  write-own m [] s own = enter-own m.term s own
  write-own m (e ∷ es) s own =
      change-own m.term (vote_in m.term s) (m.prev_index.0 + has_agreed m s.log) (e ∷ es) s own

  take-own : (m : AppendMsg) (s : Server) → Owns id s → Owns id (take_entries m s)
  unfolding take_entries
  take-own m s own = say-own _ _ (write-own m (drop (has_agreed m s.log) m.entries) s own)

  refuse-entries-own : (m : AppendMsg) (s : Server) → Owns id s → Owns id (refuse_entries m s)
  unfolding refuse_entries
  refuse-entries-own m s own = say-own _ _ (enter-own m.term s own)

  append-own : (m : AppendMsg) (s : Server) → Owns id s → Owns id (receive_append m s)
  unfolding receive_append
  append-own m s own =
      either (is_match m s.log) (take_entries m s) (refuse_entries m s) (take-own m s own) (refuse-entries-own m s own)

  ack-own : (m : AppendedMsg) (s : Server) → Owns id s → Owns id (take_ack m s)
  unfolding take_ack
  ack-own m s own =
      let t = at_peer m.from (match_peer m.index.0) s in
      advance-own (send (lacks m.from (last s)) t) (send-own (lacks m.from (last s)) t own)

  back-own : (m : AppendedMsg) (s : Server) → Owns id s → Owns id (step_back m s)
  unfolding step_back
  back-own m s own = send-own (is_peer m.from) (at_peer m.from (back_peer m.index.0) s) own

  reply-own : (m : AppendedMsg) (s : Server) → Owns id s → Owns id (take_reply m s)
  reply-own m s own =
      either (is_leader s.role) (cond m.ok (take_ack m s) (step_back m s)) s
      (either m.ok (take_ack m s) (step_back m s) (ack-own m s own) (back-own m s own)) own

  appended-own : (m : AppendedMsg) (s : Server) → Owns id s → Owns id (receive_appended m s)
  unfolding receive_appended
  appended-own m s own = reply-own m (enter m.term s) (enter-own m.term s own)

  refuse-own : (rpc : Rpc) (s : Server) → Owns id s → Owns id (refuse rpc s)
  unfolding refuse
  refuse-own (Vote m) s own = say-own _ s own
  refuse-own (Append m) s own = say-own _ s own
  refuse-own (Install m) s own = say-own _ s own
  refuse-own (Voted m) s own = own
  refuse-own (Appended m) s own = own
  refuse-own (Installed m) s own = own

  accept-own : (rpc : Rpc) (s : Server) → Owns id s → Owns id (accept rpc s)
  unfolding accept
  accept-own (Vote m) s own = vote-own m s own
  accept-own (Voted m) s own = voted-own m s own
  accept-own (Append m) s own = append-own m s own
  accept-own (Appended m) s own = appended-own m s own
  accept-own (Install m) s own = enter-own m.term s own
  accept-own (Installed m) s own = enter-own m.term s own

  tick-own : (s : Server) → Owns id s → Owns id (tick s)
  unfolding tick
  tick-own s own =
      let again = record s { peers = map send_again s.peers } in
      either (is_leader s.role) (send everyone again) (stand s) (send-own everyone again own) (stand-own s own)

  receive-own : (rpc : Rpc) (s : Server) → Owns id s → Owns id (receive rpc s)
  unfolding receive
  receive-own rpc s own =
      either (ltb (envelope rpc).term.0 s.term.0) (refuse rpc s) (accept rpc s) (refuse-own rpc s own)
      (accept-own rpc s own)

  notice-own : (op : ℕ) (s : Server) → Owns id s → Owns id (notice op s)
  unfolding notice
  notice-own op s own =
      let t = take_notice (greater s.noticed op) s in
      advance-own (lead_if_elected t) (lead_if-own t own)

  step-own : (s : Server) (input : Input) → Owns id s → Owns id (step s input)
  unfolding submit add flush
  step-own s Tick own = tick-own s own
  step-own s (Receive rpc) own = receive-own rpc s own
  step-own s (Submit time command) own =
      let entry : Entry = record { term = s.term; time = time; command = command } in
      either (is_ready s) (add_entry entry s) s (add-own entry s own) own
  step-own s (Add time command) own =
      let entry : Entry = record { term = s.term; time = time; command = command } in
      either (is_ready s) (append_entry entry s) s (change-own s.term s.vote (last s) (entry ∷ []) s own) own
  step-own s Flush own =
      either (is_leader s.role) (flush_within (last s + 1) s) s (flush-own (last s + 1) s own) own
  step-own s (Notice op) own = notice-own op s own

  -- ---- groups

  one-seat : (k : ℕ) (seat : Seat) (old : ℕ → Seat) → IsOwnSeat id seat → ((i : ℕ) → IsOwnSeat id (old i)) → (i : ℕ)
      → IsOwnSeat id (put k seat old i)
  one-seat k seat old new own = put-each (λ (i : ℕ) (x : Seat). IsOwnSeat id x) k seat old new (λ i other. own i)

  same-server : (s t : Server) → Some s ≡ Some t → Owns id s → Owns id t
  same-server s t is own = subst (Owns id) (let same : s ≡ t = cc in same) own

  own-feed : (k : ℕ) (input : Input) (g : Group) → IsOwnGroup id g → IsOwnGroup id (feed k input g)
  own-feed k input g own = by (g.seat k).server refl
    where
      by : (o : Option Server) → (g.seat k).server ≡ o → IsOwnGroup id (feed_by k input o g)
      by None is = own
      by (Some s) is = record {
        queue = own.queue;
        seats = one-seat k (record {
          server = Some (record (step s input) { out = [] });
          ops = (g.seat k).ops;
          noticed = (step s input).noticed;
        }) g.seat (record {
          ops = (own.seats k).ops;
          server = λ t e. same-server (record (step s input) { out = [] }) t e (step-own s input ((own.seats k).server s is));
        }) own.seats;
      }

  own-deliver : (before rest : List Rpc) (g : Group) → IsOwnGroup id g → IsOwnGroup id (deliver_by before rest g)
  own-deliver before [] g own = own
  own-deliver before (rpc ∷ rest) g own =
      own-feed (envelope rpc).to.0 (Input.Receive rpc) (record g { bag = before ++ rest })
      (record { queue = own.queue; seats = own.seats })

  own-take : (k : ℕ) (g : Group) → IsOwnGroup id g → IsOwnGroup id (take_op k (g.seat k).server g)
  own-take k g own = by (g.seat k).server refl
    where
      of : (s : Server) → Owns id s → (all : List Op) → AllByRecursion (IsChangeOf id) all → IsOwnGroup id (take_by k s all g)
      of s of-id [] each = own
      of s of-id (op ∷ all) each = record {
        queue = own.queue;
        seats = one-seat k (record {
          server = Some (record s { ops = all });
          ops = (g.seat k).ops ++ op ∷ [];
          noticed = (g.seat k).noticed;
        }) g.seat (record {
          ops = AllByRecursion-append (IsChangeOf id) (g.seat k).ops (op ∷ []) (own.seats k).ops (each.0, tt);
          server = λ t e. same-server (record s { ops = all }) t e (of-id.0, each.1);
        }) own.seats;
      }

      by : (o : Option Server) → (g.seat k).server ≡ o → IsOwnGroup id (take_op k o g)
      by None is = own
      by (Some s) is = let so = (own.seats k).server s is in of s so s.ops so.1

  own-crash : (k : ℕ) (g : Group) → IsOwnGroup id g → IsOwnGroup id (moved (CrashMove k) g)
  own-crash k g own = record {
    queue = own.queue;
    seats = one-seat k (record { server = None; ops = (g.seat k).ops; noticed = (g.seat k).noticed }) g.seat (record {
      ops = (own.seats k).ops;
      server = λ s e. absurd (let none : None ≡ Some s = e in cc);
    }) own.seats;
  }

  own-restart : (k op : ℕ) (g : Group) → IsOwnGroup id g → IsOwnGroup id (moved (RestartMove k op) g)
  own-restart k op g own =
      cond_both (may_restart k op g) (restart_by k op (stable (take op (g.seat k).ops)) g) g (IsOwnGroup id)
      (λ _. by (stable (take op (g.seat k).ops))) (λ _. own)
    where
      taken : AllByRecursion (IsChangeOf id) (take op (g.seat k).ops)
      taken =
          let front = front-take op (g.seat k).ops in
          all-front (IsChangeOf id) (take op (g.seat k).ops) front.rest
          (subst (AllByRecursion (IsChangeOf id)) front.is (own.seats k).ops)

      by : (o : Option Stable) → IsOwnGroup id (restart_by k op o g)
      by None = own
      by (Some state) = record {
        queue = own.queue;
        seats = one-seat k (record {
          server = Some (restart (record { 0 = k }) g.nodes (lane_with g.queue state));
          ops = take op (g.seat k).ops;
          noticed = op;
        }) g.seat (record {
          ops = taken;
          server = λ s e.
              same-server (restart (record { 0 = k }) g.nodes (lane_with g.queue state)) s e (own.queue, tt);
        }) own.seats;
      }

  own-move : (move : Move) (g : Group) → IsOwnGroup id g → IsOwnGroup id (moved move g)
  own-move (TickMove k) g own = own-feed k Input.Tick g own
  own-move (SubmitMove k time command) g own = own-feed k (Input.Submit time command) g own
  own-move (AddMove k time command) g own = own-feed k (Input.Add time command) g own
  own-move (FlushMove k) g own = own-feed k Input.Flush g own
  own-move (DeliverMove at) g own = own-deliver (take at g.bag) (drop at g.bag) g own
  own-move (LoseMove at) g own = record { queue = own.queue; seats = own.seats }
  own-move (CopyMove at) g own = record { queue = own.queue; seats = own.seats }
  own-move (TakeMove k) g own = own-take k g own
  own-move (NoticeMove k op) g own =
      cond_both (nat_le op (length (g.seat k).ops)) (feed k (Input.Notice op) g) g (IsOwnGroup id)
      (λ _. own-feed k (Input.Notice op) g own) (λ _. own)
  own-move (CrashMove k) g own = own-crash k g own
  own-move (RestartMove k op) g own = own-restart k op g own

  pub own-moves : (all : List Move) (g : Group) → IsOwnGroup id g → IsOwnGroup id (group_after g all)
  own-moves [] g own = own
  own-moves (move ∷ more) g own = own-moves more (moved move g) (own-move move g own)
