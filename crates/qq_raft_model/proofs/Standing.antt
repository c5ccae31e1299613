-- A server stands for election.
use Rattle.std.proofs.Common.{◌≡◌, ℕ, ◌+◌, false, List, [], ◌∷◌, length, map, Some, refl, sym, ap, subst, ◌∙◌, arith, inl, inr}
use Rattle.std.proofs.lemmas.Bool.{cond-false, false≢true}
use Rattle.qq_base.proofs.Puts.{put-same, put-other}
use Rattle.qq_entry.specs.declared.command.Entry.{Entry}
use Rattle.qq_raft_protocol.specs.Moves.{after, push, next_lane, last_term}
use Rattle.qq_raft_protocol.specs.Moves.Move.{Stand}
use Rattle.qq_raft_protocol.specs.World.{Role as ModelRole, Lane, World}
use Rattle.qq_raft_protocol.proofs.Lists.{In-map}
use Rattle.qq_raft_msg.specs.declared.state.Role.TheVariants.{Leader, Candidate}
use Rattle.qq_raft_model.specs.declared.peer.Peer.{Peer}
use Rattle.qq_raft_model.specs.State.{Server, is_leader, change}
use Rattle.qq_raft_model.specs.Leading.{ask, clear_vote, become_candidate, stand, send, everyone}
use Rattle.qq_raft_model.specs.Server.{send_again, tick}
use Rattle.qq_raft_model.specs.Refines.{IsSaid, Stands, OnlyMoves, Refines}
use Rattle.qq_raft_model.proofs.Later.{said-later, way-later}
use Rattle.qq_raft_model.proofs.Moving.{push-noticed, pushed-lanes, say_all-stands}
use Rattle.qq_raft_model.proofs.Refining.{kept_log}

candidate_leads : Candidate ≡ Leader → ⊥
candidate_leads e = absurd cc

stood : World → ℕ → Lane
stood w k =
    let m = w.member k in
    next_lane m (m.mine.term + 1) (Some k) m.mine.log

stand-only : (w : World) (k : ℕ) → OnlyMoves k w (after w (Stand k))
unfolding stood
stand-only w k =
    record {
      later = record {
        asks = λ x here. inr here;
        grants = λ x here. inr here;
        acks = λ x here. here;
        sents = λ x here. here;
        noticed = λ q. let same = push-noticed w k (stood w k) q in omega (arith, same);
      };
      lanes = λ l here le. pushed-lanes w k (stood w k) l here;
      member = λ q other. put-other k (push (w.member k) (stood w k)) w.member q other;
      role = λ q other. put-other k ModelRole.Candidate w.role q other;
      done = λ q other. refl;
    }

become-stands : {w : World} {k : ℕ} {s : Server} → Stands w k s
    → Stands (after w (Stand k)) k (become_candidate s)
unfolding change stood
become-stands {w = w} {k = k} {s = s} st =
    let g = (stand-only w k).later in
    let mine : Lane → Lane =
    λ (l : Lane). record { op = l.op + 1; term = l.term + 1; vote = Some k; log = l.log } in
    record {
      node = st.node;
      lane =
          ap (λ x. x.mine) (put-same k (push (w.member k) (stood w k)) w.member)
          ∙ ap mine st.lane
          ∙ ap (λ (i : ℕ). record { op = s.op + 1; term = s.term.0 + 1; vote = Some i; log = s.log }) (sym st.node)
          ∙ ap (λ (log : List Entry).
          record { op = s.op + 1; term = s.term.0 + 1; vote = Some s.node.0; log = log }) (sym (kept_log s.log));
      noticed = ap (λ x. x.noticed) (put-same k (push (w.member k) (stood w k)) w.member) ∙ st.noticed;
      role = put-same k ModelRole.Candidate w.role;
      commit = st.commit;
      own_vote = λ is. record {
        item = record {
          from = k;
          to = k;
          term = (w.member k).mine.term + 1;
          op = (w.member k).mine.op + 1;
          log = (w.member k).mine.log;
        };
        here = inl refl;
        is = record {
          from = refl;
          to = refl;
          term_is = ap (λ (l : Lane). l.term + 1) st.lane;
          op_is = ap (λ (l : Lane). l.op + 1) st.lane;
        };
      };
      votes = λ is p here granted.
          let m = In-map clear_vote p s.peers here in
          absurd (false≢true (sym (ap (λ (x : Peer). x.granted) m.is) ∙ granted));
      matches = λ is. absurd (candidate_leads is);
      within = λ is. absurd (candidate_leads is);
      itself = λ is. absurd (candidate_leads is);
      waiting = λ x here. said-later g (st.waiting x here);
      out = λ r here. way-later g (st.out r here);
    }

asks-said : {w : World} {k : ℕ} {s : Server} → Stands w k s → (p : Peer)
    → IsSaid (after w (Stand k)) k (s.op + 1) (ask (become_candidate s) p)
unfolding change
asks-said {w = w} {k = k} {s = s} st p =
    record {
      from = st.node;
      says = record {
        item = record {
          from = k;
          term = (w.member k).mine.term + 1;
          op = (w.member k).mine.op + 1;
          log = (w.member k).mine.log;
        };
        here = inl refl;
        is = record {
          from = sym st.node;
          term = ap (λ (l : Lane). l.term + 1) st.lane;
          op_is = ap (λ (l : Lane). l.op + 1) st.lane;
          last_index = ap (λ (l : Lane). length l.log) st.lane ∙ ap length (sym (kept_log s.log));
          last = ap (λ (l : Lane). last_term l.log) st.lane ∙ ap last_term (sym (kept_log s.log));
        };
      };
    }

pub stand-refines : {members : List ℕ} {w : World} {k : ℕ} {s : Server} → Stands w k s
    → Refines members w k (stand s)
unfolding stand change
stand-refines {w = w} {k = k} {s = s} st =
    let c = become_candidate s in
    record {
      moves = Stand k ∷ [];
      allowed = (tt, tt);
      quiet = (tt, tt);
      stands =
          say_all-stands (map (ask c) c.peers) (become-stands st) (λ r here.
          let m = In-map (ask c) r c.peers here in
          subst (IsSaid (after w (Stand k)) k (s.op + 1)) (sym m.is) (asks-said st m.item));
      only = stand-only w k;
    }

pub tick-refines : {members : List ℕ} {w : World} {k : ℕ} {s : Server} → Stands w k s
    → is_leader s.role ≡ false → Refines members w k (tick s)
unfolding tick
tick-refines {members} {w} {k} {s} st other =
    subst (Refines members w k)
    (sym (cond-false (is_leader s.role) (send everyone (record s { peers = map send_again s.peers })) (stand s) other))
    (stand-refines st)
