-- A leader sends: each message is one move.
use Rattle.std.proofs.Common.{◌≡◌, ◌⊎◌, ℕ, zero, suc, ◌+◌, ◌-◌, ◌≤◌, Bool, cond, leb, List, [], ◌∷◌, ◌++◌, length, map, filter, take, drop, refl, sym, ap, subst, ◌∙◌, append_assoc, arith, inl, inr}
use Rattle.std.proofs.lemmas.Bool.{cond_both}
use Rattle.std.proofs.lemmas.List.{length-drop, length-take-le, take-append-drop}
use Rattle.qq_base.specs.Fronts.{IsFront}
use Rattle.qq_base.proofs.Fronts.{front-refl, front-length, front-compare}
use Rattle.qq_entry.specs.declared.command.Entry.{Entry}
use Rattle.qq_raft_protocol.specs.Facts.{In}
use Rattle.qq_raft_protocol.specs.Moves.{Move, AreAllowed, after, run}
use Rattle.qq_raft_protocol.specs.Moves.Move.{Send}
use Rattle.qq_raft_protocol.specs.World.{Role as ModelRole, Lane, World}
use Rattle.qq_raft_protocol.proofs.Lists.{In-append, In-filter, In-map}
use Rattle.qq_raft_msg.specs.declared.state.Role.TheVariants.{Leader, Candidate}
use Rattle.qq_raft_model.specs.declared.limits.TheConstants.{BATCH_BYTES, BATCH_ENTRIES}
use Rattle.qq_raft_model.specs.declared.peer.Peer.{Peer}
use Rattle.qq_raft_model.specs.State.{Server, last}
use Rattle.qq_raft_model.specs.Leading.{weight, fit, batch, batch_from, append_to, pass, send}
use Rattle.qq_raft_model.specs.Refines.{AreQuiet, role_of, IsOnItsWay, HasMatched, Stands, OnlyMoves, Refines}
use Rattle.qq_raft_model.proofs.Later.{only-refl, only-trans, way-later, stands-later}

pub leader_asks : Leader ≡ Candidate → ⊥
leader_asks e = absurd cc

-- ---- a batch begins what is left

fit-front : (count room : ℕ) (es : List Entry) → IsFront (fit count room es) es
fit-front zero room es = record { rest = es; is = refl }
fit-front (suc count) room [] = record { rest = []; is = refl }
fit-front (suc count) room (e ∷ es) =
    let p = fit-front count (room - weight e) es in
    cond_both (leb (weight e) room) (e ∷ fit count (room - weight e) es) [] (λ x. IsFront x (e ∷ es))
    (λ _. record { rest = p.rest; is = ap (λ t. e ∷ t) p.is })
    (λ _. record { rest = e ∷ es; is = refl })

batch-front : (es : List Entry) → IsFront (batch es) es
batch-front [] = record { rest = []; is = refl }
batch-front (e ∷ es) =
    let p = fit-front (BATCH_ENTRIES - 1) (BATCH_BYTES - weight e) es in
    record { rest = p.rest; is = ap (λ t. e ∷ t) p.is }

-- ---- one message

send-only : (w : World) (k : ℕ) (front done : List Entry) → OnlyMoves k w (after w (Send k front done))
send-only w k front done = record {
  later = record {
    asks = λ x here. here;
    grants = λ x here. here;
    acks = λ x here. here;
    sents = λ x here. inr here;
    noticed = λ q. omega arith;
  };
  lanes = λ l here le. here;
  member = λ q other. refl;
  role = λ q other. refl;
  done = λ q other. refl;
}

sent_front : Server → Peer → List Entry
sent_front s p = take (p.next - 1) s.log ++ batch_from p.next s.log

sent_is_front : (s : Server) (p : Peer) → IsFront (sent_front s p) s.log
unfolding sent_front
sent_is_front s p =
    let b = batch-front (drop (p.next - 1) s.log) in
    record {
      rest = b.rest;
      is =
          sym (take-append-drop (p.next - 1) s.log) ∙ ap (λ t. take (p.next - 1) s.log ++ t) b.is
          ∙ sym (append_assoc (take (p.next - 1) s.log) (batch_from p.next s.log) b.rest);
    }

sent-way : {w : World} {k : ℕ} {s : Server} (p : Peer) → Stands w k s → IsFront (w.done k) s.log
    → p.next - 1 ≤ last s → IsOnItsWay (after w (Send k (sent_front s p) (w.done k))) (append_to s p)
unfolding sent_front
sent-way {w = w} {k = k} {s = s} p st done le =
    record {
      node = k;
      op = 0;
      said = record {
        from = st.node;
        says = record {
          item = record {
            from = k;
            term = (w.member k).mine.term;
            front = sent_front s p;
            done = w.done k;
          };
          here = inl refl;
          is = record {
            from = sym st.node;
            term = ap (λ (l : Lane). l.term) st.lane;
            before = take (p.next - 1) s.log;
            front = refl;
            prev_index = length-take-le (p.next - 1) s.log le;
            prev_term = refl;
            commit = st.commit;
            agree = front-compare done (sent_is_front s p);
          };
        };
      };
      durable = omega arith;
    }

-- ---- all messages

pub record HasSentAll (members : List ℕ) (w : World) (k : ℕ) (s : Server) (ps : List Peer) : Type 0 where
  pub moves : List Move
  pub allowed : AreAllowed members w moves
  pub quiet : AreQuiet moves
  pub stands : Stands (run w moves) k s
  pub only : OnlyMoves k w (run w moves)
  pub way : (p : Peer) → In p ps → IsOnItsWay (run w moves) (append_to s p)

pub send-all : {members : List ℕ} {k : ℕ} {s : Server} (ps : List Peer) (w : World) → Stands w k s
    → s.role ≡ Leader → IsFront (w.done k) s.log → ((p : Peer) → In p ps → p.next - 1 ≤ last s)
    → HasSentAll members w k s ps
send-all {members} {k} {s} [] w st leads done each =
    record {
      moves = [];
      allowed = tt;
      quiet = tt;
      stands = st;
      only = only-refl k w;
      way = λ p here. absurd here;
    }
send-all {members} {k} {s} (p ∷ ps) w st leads done each =
    let front = sent_front s p in
    let v = after w (Send k front (w.done k)) in
    let step : OnlyMoves k w v = send-only w k front (w.done k) in
    let there : Stands v k s = stands-later step.later refl refl refl st in
    let rest : HasSentAll members v k s ps =
    send-all {members = members} {k = k} {s = s} ps v there leads done (λ x here. each x (inr here)) in
    let role : w.role k ≡ ModelRole.Leader = st.role ∙ ap role_of leads in
    let own : IsFront front (w.member k).mine.log =
    subst (λ (l : Lane). IsFront front l.log) (sym st.lane) (sent_is_front s p) in
    record {
      moves = Send k front (w.done k) ∷ rest.moves;
      allowed = ((role, own, front-refl (w.done k)), rest.allowed);
      quiet = (tt, rest.quiet);
      stands = rest.stands;
      only = only-trans step rest.only;
      way = λ x here. elim here [
        | inl same ↦
            way-later rest.only.later
            (subst (λ y. IsOnItsWay v (append_to s y)) (sym same) (sent-way p st done (each p (inl refl))))
        | inr later ↦ rest.way x later
      ];
    }

-- what is sent ends within the log
passed-within : (s : Server) (p : Peer) → p.next ≤ last s + 1 → (pass s.log p).next ≤ last s + 1
passed-within s p next =
    let left = drop (p.next - 1) s.log in
    let few : length (batch_from p.next s.log) ≤ length left = front-length (batch-front left) in
    omega (arith, next, few, length-drop (p.next - 1) s.log)

-- sending moves the next entries alone
pub send-refines : {members : List ℕ} {w : World} {k : ℕ} {s : Server} (picks : Peer → Bool) → Stands w k s
    → s.role ≡ Leader → IsFront (w.done k) s.log → Refines members w k (send picks s)
unfolding send
send-refines {members} {w} {k} {s} picks st leads done =
    let ps = filter picks s.peers in
    let sent : HasSentAll members w k s ps =
    send-all {members = members} {k = k} {s = s} ps w st leads done
    (λ p here.
    let next : p.next ≤ last s + 1 = (st.within leads p (In-filter picks p s.peers here).0).0 in
    omega (arith, next)) in
    let v = run w sent.moves in
    let moved : Peer → Peer = λ (p : Peer). cond (picks p) (pass s.log p) p in
    record {
      moves = sent.moves;
      allowed = sent.allowed;
      quiet = sent.quiet;
      stands = record {
        node = sent.stands.node;
        lane = sent.stands.lane;
        noticed = sent.stands.noticed;
        role = sent.stands.role;
        commit = sent.stands.commit;
        own_vote = λ is. absurd (leader_asks (sym leads ∙ is));
        votes = λ is. absurd (leader_asks (sym leads ∙ is));
        matches = λ is p here.
            let m = In-map moved p s.peers here in
            let old = sent.stands.matches is m.item m.here in
            subst (λ (y : Peer). (y.matched ≡ 0) ⊎ HasMatched v s.term.0 y) (sym m.is)
            (cond_both (picks m.item) (pass s.log m.item) m.item
            (λ (y : Peer). (y.matched ≡ 0) ⊎ HasMatched v s.term.0 y) (λ _. elim old [
              | inl start ↦ inl start
              | inr x ↦ inr (record {
                ack = x.ack;
                said = x.said;
                from = x.from;
                term_is = x.term_is;
                upto = x.upto;
                durable = x.durable;
              })
            ]) (λ _. old));
        within = λ is p here.
            let m = In-map moved p s.peers here in
            let old = st.within is m.item m.here in
            subst (λ (y : Peer). (y.next ≤ last s + 1) × (y.matched ≤ last s)) (sym m.is)
            (cond_both (picks m.item) (pass s.log m.item) m.item
            (λ (y : Peer). (y.next ≤ last s + 1) × (y.matched ≤ last s))
            (λ _. (passed-within s m.item old.0, old.1)) (λ _. old));
        itself = sent.stands.itself;
        waiting = sent.stands.waiting;
        out = λ r here. elim (In-append r s.out (map (append_to s) ps) here) [
          | inl old ↦ sent.stands.out r old
          | inr new ↦
              let m = In-map (append_to s) r ps new in
              subst (IsOnItsWay v) (sym m.is) (sent.way m.item m.here)
        ];
      };
      only = sent.only;
    }
