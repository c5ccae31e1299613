-- A request for a vote, answered: the vote is written, and then given.
use Rattle.std.proofs.Common.{◌≡◌, ◌⊎◌, ℕ, ◌≤◌, true, false, ◌&&◌, eqb, ltb, leb, List, [], ◌∷◌, length, Option, Some, None, refl, sym, ap, subst, ◌∙◌, arith, inl, inr}
use Rattle.std.proofs.lemmas.Bool.{cond_both, cond-true, cond-false, cases_Bool, or_cases, and_parts, ltb-true, ltb-false, leb-true, eqb-true, false≢true}
use Rattle.std.specs.Prelude.{option_map}
use Rattle.qq_base.specs.declared.ids.NodeId.{NodeId}
use Rattle.qq_base.specs.declared.ids.Term.{Term}
use Rattle.qq_entry.specs.declared.command.Entry.{Entry}
use Rattle.qq_log.specs.Same.{same_vote}
use Rattle.qq_raft_protocol.specs.Moves.{MayVote, IsCurrent, last_term}
use Rattle.qq_raft_protocol.specs.Moves.Move.{Vote as Give}
use Rattle.qq_raft_protocol.specs.World.{Lane, World}
use Rattle.qq_raft_msg.specs.declared.rpc.Rpc.TheVariants.{Vote}
use Rattle.qq_raft_msg.specs.declared.rpc.VoteMsg.{VoteMsg}
use Rattle.qq_raft_model.specs.State.{Server, last, change, follow, enter, vote_in, leader_in}
use Rattle.qq_raft_model.specs.Server.{voted, is_current, is_free, may_grant, give_vote, say_voted, receive_vote, refuse, accept, receive}
use Rattle.qq_raft_model.specs.Refines.{number, IsSaid, IsOnItsWay, Stands, Refines}
use Rattle.qq_raft_model.proofs.Later.{way-later}
use Rattle.qq_raft_model.proofs.Moving.{say-stands, vote-only, vote-stands}
use Rattle.qq_raft_model.proofs.Refining.{kept_log, refines-refl, refines-then, refines-say, refines-change, refines-enter}

-- ---- what the tests tell

vote_same : (a : Option NodeId) (n : NodeId) → same_vote a (Some n) ≡ true → option_map number a ≡ Some n.0
vote_same None n e = absurd (false≢true e)
vote_same (Some a) n e = ap (λ (i : ℕ). Some i) (eqb-true a.0 n.0 e)

vote_free : (a : Option NodeId) (n : NodeId) → is_free a n ≡ true
    → (option_map number a ≡ Some n.0) ⊎ (option_map number a ≡ None)
vote_free None n e = inr refl
vote_free (Some a) n e = inl (vote_same (Some a) n e)

current_is : (own log : List Entry) (m : VoteMsg) → length log ≡ m.last_index.0 → last_term log ≡ m.last_term.0
    → is_current own m ≡ true → IsCurrent own log
current_is own log m long same e =
    elim (or_cases (ltb (last_term own) m.last_term.0)
    (eqb (last_term own) m.last_term.0 && leb (length own) m.last_index.0) e) [
      | inl later ↦
          let lt = ltb-true (last_term own) m.last_term.0 later in
          inl (omega (arith, lt, same))
      | inr both ↦
          let parts = and_parts (eqb (last_term own) m.last_term.0) (leb (length own) m.last_index.0) both in
          let term = eqb-true (last_term own) m.last_term.0 parts.0 in
          let le = leb-true (length own) m.last_index.0 parts.1 in
          inr (term ∙ sym same, omega (arith, le, long))
    ]

-- in the own term the vote is the own one
pub vote_there : (term : Term) (s : Server) → s.term.0 ≡ term.0 → vote_in term s ≡ s.vote
vote_there term s same =
    elim (cases_Bool (ltb s.term.0 term.0)) [
      | inl later ↦ let lt = ltb-true s.term.0 term.0 later in absurd (omega (arith, lt, same))
      | inr own ↦ cond-false (ltb s.term.0 term.0) None s.vote own
    ]

-- ---- the vote is given

-- the server that gave it
record HasGiven (m : VoteMsg) (s t : Server) : Type 0 where
  term : t.term.0 ≡ m.term.0
  vote : option_map number t.vote ≡ Some m.from.0
  current : is_current t.log m ≡ true

given_before : (m : VoteMsg) (s : Server) → s.term.0 ≤ m.term.0 → is_current s.log m ≡ true
    → same_vote (vote_in m.term s) (Some m.from) ≡ true → HasGiven m s s
given_before m s le current e =
    elim (cases_Bool (ltb s.term.0 m.term.0)) [
      | inl later ↦
          let none = cond-true (ltb s.term.0 m.term.0) None s.vote later in
          absurd (false≢true (ap (λ v. same_vote v (Some m.from)) (sym none) ∙ e))
      | inr own ↦
          let ge = ltb-false s.term.0 m.term.0 own in
          let there = cond-false (ltb s.term.0 m.term.0) None s.vote own in
          record {
            term = omega (arith, le, ge);
            vote = vote_same s.vote m.from (ap (λ v. same_vote v (Some m.from)) (sym there) ∙ e);
            current = current;
          }
    ]

has_given : (m : VoteMsg) (s : Server) → s.term.0 ≤ m.term.0 → is_current s.log m ≡ true
    → HasGiven m s (give_vote m s)
unfolding give_vote change
has_given m s le current =
    cond_both (same_vote (vote_in m.term s) (Some m.from)) s
    (follow (leader_in m.term s) (change m.term (Some m.from) (last s) [] s)) (HasGiven m s)
    (λ e. given_before m s le current e)
    (λ _. record {
      term = refl;
      vote = refl;
      current = ap (λ l. is_current l m) (kept_log s.log) ∙ current;
    })

refines-give : {members : List ℕ} {w : World} {k : ℕ} {s : Server} (m : VoteMsg) → Stands w k s
    → s.term.0 ≤ m.term.0 → is_free (vote_in m.term s) m.from ≡ true → Refines members w k (give_vote m s)
unfolding give_vote
refines-give {members} {w} {k} {s} m st le free =
    cond_both (same_vote (vote_in m.term s) (Some m.from)) s
    (follow (leader_in m.term s) (change m.term (Some m.from) (last s) [] s)) (Refines members w k)
    (λ _. refines-refl st)
    (λ _.
    refines-change (leader_in m.term s) m.term (Some m.from) st le
    (λ same. vote_free s.vote m.from (ap (λ v. is_free v m.from) (sym (vote_there m.term s same)) ∙ free)))

may_give : {w : World} {k : ℕ} {s t : Server} (m : VoteMsg) (x : IsOnItsWay w (Vote m)) → Stands w k t
    → HasGiven m s t → MayVote w (w.member k).mine x.said.says.item
may_give {w = w} {t = t} m x st given =
    let a = x.said.says in
    let le : x.op ≤ (w.member x.node).noticed = x.durable in
    let op : a.item.op ≡ x.op = a.is.op_is in
    let node : (w.member a.item.from).noticed ≡ (w.member x.node).noticed = ap (λ i. (w.member i).noticed)
    (a.is.from ∙ x.said.from) in
    subst (λ (l : Lane). MayVote w l a.item) (sym st.lane) (record {
      asked = a.here;
      may_leave = omega (arith, le, op, node);
      term_is = given.term ∙ sym a.is.term;
      vote_is = given.vote ∙ ap (λ (i : ℕ). Some i) (sym a.is.from);
      current = current_is t.log a.item.log m a.is.last_index a.is.last given.current;
    })

-- ---- the answers

give-answers : {members : List ℕ} {w : World} {k : ℕ} {s : Server} (m : VoteMsg) → Stands w k s
    → IsOnItsWay w (Vote m) → s.term.0 ≤ m.term.0 → may_grant m s ≡ true
    → Refines members w k (say_voted m true (give_vote m s))
give-answers {members} {w} {k} {s} m st x le may =
    let parts = and_parts (is_free (vote_in m.term s) m.from) (is_current s.log m) may in
    let given = has_given m s le parts.1 in
    refines-then (refines-give m st le parts.0) (λ v there only.
    let y = way-later only.later x in
    let a = y.said.says in
    record {
      moves = Give k a.item ∷ [];
      allowed = (may_give m y there given, tt);
      quiet = (tt, tt);
      stands =
          say-stands (voted m.from true (give_vote m s)) (vote-stands a.item there) (record {
            from = there.node;
            says = λ _. record {
              item = record {
                from = k;
                to = a.item.from;
                term = a.item.term;
                op = (v.member k).mine.op;
                log = a.item.log;
              };
              here = inl refl;
              is = record {
                from = sym there.node;
                to = a.is.from;
                term = a.is.term ∙ sym given.term;
                op_is = ap (λ (l : Lane). l.op) there.lane;
              };
            };
          });
      only = vote-only v k a.item;
    })

no_vote : {w : World} {k : ℕ} {s : Server} (to : NodeId) → Stands w k s → IsSaid w k s.op (voted to false s)
no_vote to st = record { from = st.node; says = λ e. absurd (false≢true e) }

deny-answers : {members : List ℕ} {w : World} {k : ℕ} {s : Server} (m : VoteMsg) → Stands w k s
    → Refines members w k (say_voted m false (enter m.term s))
deny-answers {s = s} m st =
    refines-then (refines-enter m.term st) (λ v there only.
    refines-say (voted m.from false (enter m.term s)) there (no_vote m.from there))

pub vote-refines : {members : List ℕ} {w : World} {k : ℕ} {s : Server} (m : VoteMsg) → Stands w k s
    → IsOnItsWay w (Vote m) → Refines members w k (receive (Vote m) s)
unfolding receive accept refuse receive_vote
vote-refines {members} {w} {k} {s} m st x =
    cond_both (ltb m.term.0 s.term.0) (refuse (Vote m) s) (accept (Vote m) s) (Refines members w k)
    (λ _. refines-say (voted m.from false s) st (no_vote m.from st))
    (λ e.
    let le = ltb-false m.term.0 s.term.0 e in
    cond_both (may_grant m s) (say_voted m true (give_vote m s)) (say_voted m false (enter m.term s))
    (Refines members w k) (λ may. give-answers m st x le may) (λ _. deny-answers m st))
