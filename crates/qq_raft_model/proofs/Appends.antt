-- What a leader sent, taken up: it is written, acknowledged, and what is committed of it is learnt.
use Rattle.std.proofs.Common.{◌≡◌, ℕ, ◌+◌, ◌≤◌, true, false, ltb, min, ◌-◌, List, [], ◌∷◌, ◌++◌, length, take, drop, Some, None, refl, sym, ap, subst, ◌∙◌, arith, inl, inr}
use Rattle.std.proofs.lemmas.Bool.{cond_both, ltb-false, false≢true}
use Rattle.std.proofs.lemmas.List.{length-append, length-take-le}
use Rattle.std.proofs.Math.Nat.{min-le_left, min-le_right}
use Rattle.std.specs.Prelude.{option_map}
use Rattle.qq_base.specs.declared.ids.NodeId.{NodeId}
use Rattle.qq_base.specs.declared.ids.Term.{Term}
use Rattle.qq_base.specs.Fronts.{IsFront}
use Rattle.qq_base.proofs.Fronts.{front-refl, front-trans, front-shorter}
use Rattle.qq_entry.specs.declared.command.Entry.{Entry}
use Rattle.qq_raft_protocol.specs.Facts.{In}
use Rattle.qq_raft_protocol.specs.Moves.{HasSent, MayWrite, after}
use Rattle.qq_raft_protocol.specs.Moves.Move.{Write, Reply, Learn}
use Rattle.qq_raft_protocol.specs.World.{Lane, Sent, World}
use Rattle.qq_raft_msg.specs.declared.rpc.AppendMsg.{AppendMsg}
use Rattle.qq_raft_msg.specs.declared.rpc.Rpc.TheVariants.{Append}
use Rattle.qq_raft_model.specs.State.{Server, last, change, follow, enter, vote_in}
use Rattle.qq_raft_model.specs.Server.{appended, is_match, has_agreed, write, end, learn, say_appended, take_entries, refuse_entries, receive_append, refuse, accept, receive}
use Rattle.qq_raft_model.specs.Refines.{number, Sends, IsSaid, IsOnItsWay, Stands, Refines, IsReached}
use Rattle.qq_raft_model.proofs.Fits.{own_is, all_there, becomes, differs}
use Rattle.qq_raft_model.proofs.Later.{only-trans}
use Rattle.qq_raft_model.proofs.Learning.{reply-only, reply-stands, learn-only, learn-stands}
use Rattle.qq_raft_model.proofs.Matches.{Match, sent-matches, take-front}
use Rattle.qq_raft_model.proofs.Moving.{say-stands, write-only, write-stands}
use Rattle.qq_raft_model.proofs.Refining.{kept_log, refines-then, refines-say, refines-enter, refines-follow}
use Rattle.qq_raft_model.proofs.Votes.{vote_there}

-- ---- entering a term

entered_log : (term : Term) (s : Server) → (enter term s).log ≡ s.log
unfolding enter change
entered_log term s =
    cond_both (ltb s.term.0 term.0) (follow None (change term None (last s) [] s)) s
    (λ (t : Server). t.log ≡ s.log) (λ _. kept_log s.log) (λ _. refl)

entered_term : (term : Term) (s : Server) → s.term.0 ≤ term.0 → (enter term s).term.0 ≡ term.0
unfolding enter change
entered_term term s le =
    cond_both (ltb s.term.0 term.0) (follow None (change term None (last s) [] s)) s
    (λ (t : Server). t.term.0 ≡ term.0) (λ _. refl)
    (λ e. let ge = ltb-false s.term.0 term.0 e in omega (arith, le, ge))

-- ---- what is written

-- a server that has what was sent
record HasTaken (m : AppendMsg) (x : Sent) (t : Server) : Type 0 where
  term : t.term.0 ≡ m.term.0
  front : IsFront x.front t.log

module _ (m : AppendMsg) (x : Sent) (s : Server) (sends : Sends m x) (match : Match s.log x.front)
    (matches : is_match m s.log ≡ true) (le : s.term.0 ≤ m.term.0) where
  taken_by : (missing : List Entry) → drop (has_agreed m s.log) m.entries ≡ missing
      → HasTaken m x (follow (Some m.from) (write m missing s))
  unfolding change
  taken_by [] is =
      record {
        term = entered_term m.term s le;
        front = subst (IsFront x.front) (sym (entered_log m.term s)) (all_there m x s.log sends match matches is);
      }
  taken_by (e ∷ es) is =
      record {
        term = refl;
        front =
            subst (IsFront x.front) (sym (becomes m x s.log sends match matches (e ∷ es) is))
            (front-refl x.front);
      }

  write_by : {members : List ℕ} {w : World} {k : ℕ} → Stands w k s → In x w.sents → (missing : List Entry)
      → drop (has_agreed m s.log) m.entries ≡ missing
      → Refines members w k (follow (Some m.from) (write m missing s))
  write_by st said [] is =
      refines-then (refines-enter m.term st) (λ v there only. refines-follow (Some m.from) there)
  write_by {members} {w} {k} st said (e ∷ es) is =
      let keep = m.prev_index.0 + has_agreed m s.log in
      let vote = option_map number (vote_in m.term s) in
      let log = take keep s.log ++ e ∷ es in
      let same : log ≡ x.front = becomes m x s.log sends match matches (e ∷ es) is in
      let may : MayWrite w (w.member k).mine m.term.0 vote log =
      subst (λ (l : Lane). MayWrite w l m.term.0 vote log) (sym st.lane) (record {
        term_rises = le;
        vote_stays = λ own. inl (ap (option_map number) (sym (vote_there m.term s own)));
        log_is = inr (record {
          sent = x;
          said = said;
          term_is = sends.term;
          log_is = sym same;
          differs = λ p.
              differs m x s.log sends (own_is m x s.log sends match matches) e es is
              (subst (λ t. IsFront t s.log) same p);
        });
      }) in
      record {
        moves = Write k m.term.0 vote log ∷ [];
        allowed = (may, tt);
        quiet = (tt, tt);
        stands = write-stands (Some m.from) m.term (vote_in m.term s) keep (e ∷ es) st;
        only = write-only w k m.term.0 vote log;
      }

-- ---- what is learnt

-- what is known to be committed by then
known : (m : AppendMsg) (x : Sent) → List Entry
known m x = take (min m.commit.0 (end m)) x.front

known_length : (m : AppendMsg) (x : Sent) → Sends m x → length (known m x) ≡ min m.commit.0 (end m)
unfolding known
known_length m x sends =
    let long : length x.front ≡ length (sends.before ++ m.entries) = ap length sends.front in
    let le = min-le_right m.commit.0 (end m) in
    length-take-le (min m.commit.0 (end m)) x.front
    (omega (arith, le, long, length-append sends.before m.entries, sends.prev_index))

known_done : (m : AppendMsg) (x : Sent) → Sends m x → IsFront (known m x) x.done
unfolding known
known_done m x sends =
    let front : IsFront (known m x) x.front = take-front (min m.commit.0 (end m)) x.front in
    let le = min-le_left m.commit.0 (end m) in
    let long : length (known m x) ≡ min m.commit.0 (end m) = known_length m x sends in
    elim sends.agree [
      | inl done ↦ front-shorter front done (omega (arith, le, long, sends.commit))
      | inr whole ↦ front-trans front whole
    ]

has_sent : {w : World} {k : ℕ} {t : Server} (m : AppendMsg) (x : Sent) → Stands w k t → In x w.sents → Sends m x
    → HasTaken m x t → HasSent w (w.member k).mine x
has_sent {w = w} m x st said sends taken =
    subst (λ (l : Lane). HasSent w l x) (sym st.lane)
    (record { said = said; term_is = sends.term ∙ sym taken.term; front = taken.front })

acknowledge : {members : List ℕ} {w : World} {k : ℕ} {t : Server} (m : AppendMsg) (x : Sent) → Stands w k t
    → In x w.sents → Sends m x → HasTaken m x t
    → Refines members w k (say_appended m true (end m) (learn (min m.commit.0 (end m)) t))
unfolding known
acknowledge {members} {w} {k} {t} m x st said sends taken =
    let z = known m x in
    let index = min m.commit.0 (end m) in
    let v = after w (Reply k x) in
    let u = after v (Learn k x z) in
    let has : HasSent w (w.member k).mine x = has_sent m x st said sends taken in
    let still : HasSent v (v.member k).mine x =
    record { said = has.said; term_is = has.term_is; front = has.front } in
    let long : length x.front ≡ length (sends.before ++ m.entries) = ap length sends.front in
    let learnt : Stands u k (learn index t) =
    learn-stands x z index (reply-stands x st) (known_length m x sends) in
    record {
      moves = Reply k x ∷ Learn k x z ∷ [];
      allowed = (has, ((still, take-front index x.front, known_done m x sends), tt));
      quiet = (tt, (tt, tt));
      stands =
          say-stands (appended m.from true (end m) (learn index t)) learnt (record {
            from = st.node;
            says = λ _. record {
              item = record { from = k; term = x.term; upto = length x.front; op = (w.member k).mine.op };
              here = inl refl;
              is = record {
                from = sym st.node;
                term = sends.term ∙ sym taken.term;
                upto = omega (arith, long, length-append sends.before m.entries, sends.prev_index);
                op_is = ap (λ (l : Lane). l.op) st.lane;
              };
            };
          });
      only = only-trans (reply-only w k x) (learn-only v k x z);
    }

-- ---- the answers

take-answers : {members : List ℕ} {w : World} {k : ℕ} {s : Server} (m : AppendMsg)
    → IsReached members w → Stands w k s → IsOnItsWay w (Append m) → s.term.0 ≤ m.term.0
    → is_match m s.log ≡ true → Refines members w k (take_entries m s)
unfolding take_entries
take-answers {members} {w} {k} {s} m reached st way le matches =
    let t = way.said.says in
    let x = t.item in
    let own : Match (w.member k).mine.log x.front = sent-matches k x reached t.here in
    let match : Match s.log x.front = subst (λ (l : Lane). Match l.log x.front) st.lane own in
    let missing = drop (has_agreed m s.log) m.entries in
    refines-then (write_by m x s t.is match matches le st t.here missing refl) (λ v there only.
    acknowledge m x there (only.later.sents x t.here) t.is (taken_by m x s t.is match matches le missing refl))

no_ack : {w : World} {k : ℕ} {s : Server} (to : NodeId) (index : ℕ) → Stands w k s
    → IsSaid w k s.op (appended to false index s)
no_ack to index st = record { from = st.node; says = λ e. absurd (false≢true e) }

refuse-answers : {members : List ℕ} {w : World} {k : ℕ} {s : Server} (m : AppendMsg) → Stands w k s
    → Refines members w k (refuse_entries m s)
unfolding refuse_entries
refuse-answers {s = s} m st =
    let index = min (m.prev_index.0 - 1) (last s) in
    let there = follow (Some m.from) (enter m.term s) in
    refines-then (refines-enter m.term st) (λ v entered only.
    refines-then (refines-follow (Some m.from) entered) (λ u followed only.
    refines-say (appended m.from false index there) followed (no_ack m.from index followed)))

pub append-refines : {members : List ℕ} {w : World} {k : ℕ} {s : Server} (m : AppendMsg)
    → IsReached members w → Stands w k s → IsOnItsWay w (Append m) → Refines members w k (receive (Append m) s)
unfolding receive accept refuse receive_append
append-refines {members} {w} {k} {s} m reached st way =
    cond_both (ltb m.term.0 s.term.0) (refuse (Append m) s) (accept (Append m) s) (Refines members w k)
    (λ _. refines-say (appended m.from false (last s) s) st (no_ack m.from (last s) st))
    (λ e.
    let le = ltb-false m.term.0 s.term.0 e in
    cond_both (is_match m s.log) (take_entries m s) (refuse_entries m s) (Refines members w k)
    (λ matches. take-answers m reached st way le matches) (λ _. refuse-answers m st))
