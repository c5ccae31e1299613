-- A leader that is ticked sends again, and a ready one adds a client's command.
use Rattle.std.proofs.Common.{◌≡◌, ◌⊎◌, ℕ, zero, suc, ◌+◌, ◌≤◌, true, List, map, refl, sym, ap, subst, ◌∙◌, arith, inl, inr}
use Rattle.std.specs.List.{list_any}
use Rattle.std.proofs.lemmas.Bool.{cond_both, cond-true, and_parts, false≢true}
use Rattle.qq_base.specs.Fronts.{IsFront}
use Rattle.qq_entry.specs.declared.command.Command.{Command}
use Rattle.qq_entry.specs.declared.command.Entry.{Entry}
use Rattle.qq_raft_protocol.specs.Moves.{run}
use Rattle.qq_raft_protocol.specs.World.{Lane, World}
use Rattle.qq_raft_protocol.proofs.Lists.{In-map}
use Rattle.qq_raft_msg.specs.declared.state.Role.{Role}
use Rattle.qq_raft_msg.specs.declared.state.Role.TheVariants.{Leader, Candidate, Follower}
use Rattle.qq_raft_model.specs.declared.peer.Peer.{Peer}
use Rattle.qq_raft_model.specs.State.{Server, last, is_leader}
use Rattle.qq_raft_model.specs.Leading.{add_entry, append_entry, everyone, flush, flush_within, lags, send, stand}
use Rattle.qq_raft_model.specs.Server.{add, is_ready, send_again, submit, tick}
use Rattle.qq_raft_model.specs.Server.Input.{Add, Submit}
use Rattle.qq_raft_model.specs.Refines.{entry_of, Adds, HasMatched, IsReached, Refines, RefinesBy, Stands}
use Rattle.qq_raft_model.proofs.Leads.{add-refines as added-refines, append-refines}
use Rattle.qq_raft_model.proofs.Reached.{safe-there, then-reached}
use Rattle.qq_raft_model.proofs.Refining.{refines-also, refines-refl}
use Rattle.qq_raft_model.proofs.Sending.{leader_asks, send-refines}

pub is_leader_of : (r : Role) → is_leader r ≡ true → r ≡ Leader
is_leader_of Leader e = refl
is_leader_of Candidate e = absurd (false≢true e)
is_leader_of Follower e = absurd (false≢true e)

-- what a server knows to be committed begins its log
pub done-front : {members : List ℕ} {w : World} {k : ℕ} {s : Server} → IsReached members w → Stands w k s
    → IsFront (w.done k) s.log
done-front {members} {w} {k} {s} reached st =
    subst (λ (l : Lane). IsFront (w.done k) l.log) st.lane ((safe-there members w reached).done k).1

again-stands : {w : World} {k : ℕ} {s : Server} → Stands w k s → s.role ≡ Leader
    → Stands w k (record s { peers = map send_again s.peers })
again-stands {w = w} {k = k} {s = s} st leads = record {
  node = st.node;
  lane = st.lane;
  noticed = st.noticed;
  role = st.role;
  commit = st.commit;
  own_vote = λ is. absurd (leader_asks (sym leads ∙ is));
  votes = λ is. absurd (leader_asks (sym leads ∙ is));
  matches = λ is p here.
      let m = In-map send_again p s.peers here in
      subst (λ (y : Peer). (y.matched ≡ 0) ⊎ HasMatched w s.term.0 y) (sym m.is)
      (elim (st.matches is m.item m.here) [
        | inl none ↦ inl none
        | inr x ↦ inr (record {
          ack = x.ack;
          said = x.said;
          from = x.from;
          term_is = x.term_is;
          upto = x.upto;
          durable = x.durable;
        })
      ]);
  within = λ is p here.
      let m = In-map send_again p s.peers here in
      let next : p.next ≡ m.item.matched + 1 = ap (λ (x : Peer). x.next) m.is in
      let matched : p.matched ≡ m.item.matched = ap (λ (x : Peer). x.matched) m.is in
      let le : m.item.matched ≤ last s = (st.within is m.item m.here).1 in
      (omega (arith, next, le), omega (arith, matched, le));
  itself = st.itself;
  waiting = st.waiting;
  out = st.out;
}

pub leader_tick-refines : {members : List ℕ} {w : World} {k : ℕ} {s : Server} → IsReached members w
    → Stands w k s → is_leader s.role ≡ true → Refines members w k (tick s)
unfolding tick
leader_tick-refines {members} {w} {k} {s} reached st e =
    let leads = is_leader_of s.role e in
    let again = record s { peers = map send_again s.peers } in
    subst (Refines members w k) (sym (cond-true (is_leader s.role) (send everyone again) (stand s) e))
    (send-refines {members = members} everyone (again-stands st leads) leads (done-front reached st))

pub submit-refines : {members : List ℕ} {w : World} {k : ℕ} {s : Server} (time : ℕ) (command : Command)
    → IsReached members w → Stands w k s → RefinesBy members w k s (Submit time command)
unfolding submit
submit-refines {members} {w} {k} {s} time command reached st =
    let entry : Entry = entry_of time command s in
    cond_both (is_ready s) (add_entry entry s) s
    (λ (t : Server). Refines members w k t ⊎ ((is_ready s ≡ true) × Adds members w k entry t))
    (λ e.
    let leads = is_leader_of s.role (and_parts (is_leader s.role) _ e).0 in
    inr (e, added-refines {members = members} entry st leads refl (done-front reached st)))
    (λ _. inl (refines-refl st))

pub add-refines : {members : List ℕ} {w : World} {k : ℕ} {s : Server} (time : ℕ) (command : Command)
    → Stands w k s → RefinesBy members w k s (Add time command)
unfolding add
add-refines {members} {w} {k} {s} time command st =
    let entry : Entry = entry_of time command s in
    cond_both (is_ready s) (append_entry entry s) s
    (λ (t : Server). Refines members w k t ⊎ ((is_ready s ≡ true) × Adds members w k entry t))
    (λ e.
    let leads = is_leader_of s.role (and_parts (is_leader s.role) _ e).0 in
    inr (e, append-refines {members = members} entry st leads refl)) (λ _. inl (refines-refl st))

within-refines : {members : List ℕ} {k : ℕ} (n : ℕ) (w : World) (s : Server) → IsReached members w → Stands w k s
    → s.role ≡ Leader → Refines members w k (flush_within n s)
unfolding send
within-refines zero w s reached st leads = refines-refl st
within-refines {members} {k} (suc n) w s reached st leads =
    let picks = lags (last s) in
    let next = send picks s in
    let first : Refines members w k next =
    send-refines {members = members} picks st leads (done-front {members = members} reached st) in
    let there : IsReached members (run w first.moves) = then-reached first.moves reached first.allowed in
    cond_both (list_any picks s.peers) (flush_within n next) s (Refines members w k)
    (λ _. refines-also first (within-refines n (run w first.moves) next there first.stands leads))
    (λ _. refines-refl st)

pub flush-refines : {members : List ℕ} {w : World} {k : ℕ} {s : Server} → IsReached members w → Stands w k s
    → Refines members w k (flush s)
unfolding flush
flush-refines {members} {w} {k} {s} reached st =
    cond_both (is_leader s.role) (flush_within (last s + 1) s) s (Refines members w k)
    (λ e. within-refines (last s + 1) w s reached st (is_leader_of s.role e)) (λ _. refines-refl st)
