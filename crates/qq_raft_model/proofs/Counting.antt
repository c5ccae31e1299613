-- A leader takes an acknowledgement: it sends what is left, and commits what a majority has.
use Rattle.std.proofs.Common.{◌≡◌, ◌⊎◌, ℕ, zero, suc, ◌+◌, ◌-◌, ◌≤◌, ◌<◌, Bool, true, cond, eqb, ltb, leb, min, List, [], ◌∷◌, length, map, filter, count_by, take, None, refl, sym, ap, subst, ◌∙◌, arith, inl, inr}
use Rattle.std.proofs.lemmas.Bool.{cond_both, cond-true, cond-false, and_parts, cases_Bool, ltb-true, ltb-false, leb-true, eqb-true, lt-ltb}
use Rattle.std.proofs.lemmas.List.{length-append, length-map, length-take-le}
use Rattle.std.proofs.lemmas.List.Sums.{length-filter}
use Rattle.std.proofs.Math.Nat.{min-le_left}
use Rattle.qq_base.specs.Fronts.{IsFront}
use Rattle.qq_base.proofs.Lists.{filter-map}
use Rattle.qq_base.specs.declared.ids.NodeId.{NodeId}
use Rattle.qq_base.proofs.Puts.{put-same, put-other}
use Rattle.qq_base.proofs.Fronts.{front-length}
use Rattle.qq_entry.specs.declared.command.Entry.{Entry}
use Rattle.qq_raft_protocol.specs.Facts.{add, In, Committed}
use Rattle.qq_raft_protocol.specs.Moves.{after, longer, last_term}
use Rattle.qq_raft_protocol.specs.Moves.Move.{Commit}
use Rattle.qq_raft_protocol.specs.World.{Role as ModelRole, Lane, Ack, World}
use Rattle.qq_raft_protocol.proofs.Logs.{last_of, last_term-add}
use Rattle.qq_raft_protocol.proofs.Shades.{shaded-acks}
use Rattle.qq_raft_protocol.proofs.Lists.{In-map}
use Rattle.qq_raft_msg.specs.declared.rpc.AppendedMsg.{AppendedMsg}
use Rattle.qq_raft_msg.specs.declared.rpc.Rpc.TheVariants.{Appended}
use Rattle.qq_raft_msg.specs.declared.state.Role.TheVariants.{Leader}
use Rattle.qq_raft_model.specs.declared.peer.Peer.{Peer}
use Rattle.qq_raft_model.specs.State.{Server, last, term_at, is_leader, change, follow, enter}
use Rattle.qq_raft_model.specs.Leading.{one_if, pass, send, is_majority, durable, may_commit, commit_within, advance}
use Rattle.qq_raft_model.specs.Server.{is_peer, at_peer, greater, match_peer, back_peer, lacks, take_ack, step_back, take_reply, receive_appended, refuse, accept, receive}
use Rattle.qq_raft_model.specs.Refines.{role_of, IsOnItsWay, HasMatched, IsGroup, IsReached, IsWithinLog, HasOwnAck, Stands, OnlyMoves, Refines}
use Rattle.qq_raft_model.proofs.Adding.{is_leader_of, done-front}
use Rattle.qq_raft_model.proofs.Electing.{majority}
use Rattle.qq_raft_model.proofs.Later.{there-later, said-later, way-later, elects-later, matched-later}
use Rattle.qq_raft_model.proofs.Learning.{longer-length}
use Rattle.qq_raft_model.proofs.Matches.{take-front}
use Rattle.qq_raft_model.proofs.Reached.{shaded-there}
use Rattle.qq_raft_model.proofs.Refining.{refines-refl, refines-then, refines-change}
use Rattle.qq_raft_model.proofs.Sending.{leader_asks, send-refines}

-- ---- a commit

commit-only : (w : World) (k : ℕ) (a : List Entry) (e : Entry) → OnlyMoves k w (after w (Commit k a e))
commit-only w k a e = record {
  later = record {
    asks = λ y here. here;
    grants = λ y here. here;
    acks = λ y here. here;
    sents = λ y here. here;
    noticed = λ q. omega arith;
  };
  lanes = λ l here le. here;
  member = λ q other. refl;
  role = λ q other. refl;
  done = λ q other. put-other k (longer (w.done k) (add a e)) w.done q other;
}

commit-stands : {w : World} {k : ℕ} {s : Server} (a : List Entry) (e : Entry) (index : ℕ) → Stands w k s
    → length (add a e) ≡ index → s.commit < index → Stands (after w (Commit k a e)) k (record s { commit = index })
commit-stands {w = w} {k = k} {s = s} a e index st long lt =
    let g = (commit-only w k a e).later in
    record {
      node = st.node;
      lane = st.lane;
      noticed = st.noticed;
      role = st.role;
      commit =
          ap length (put-same k (longer (w.done k) (add a e)) w.done)
          ∙ longer-length (w.done k) (add a e) s.commit index st.commit long
          ∙ cond-true (ltb s.commit index) index s.commit (lt-ltb s.commit index lt);
      own_vote = λ is. there-later g.grants (st.own_vote is);
      votes = λ is p here granted. elects-later g (st.votes is p here granted);
      matches = λ is p here. elim (st.matches is p here) [ inl start ↦ inl start | inr y ↦ inr (matched-later g y) ];
      within = st.within;
      itself = st.itself;
      waiting = λ y here. said-later g (st.waiting y here);
      out = λ r here. way-later g (st.out r here);
    }

-- ---- what may be committed is

committed : {members : List ℕ} {w : World} {k : ℕ} {s : Server} (a : List Entry) (e : Entry)
    → IsGroup members k s.peers → Stands w k s → s.role ≡ Leader → IsFront (add a e) s.log
    → e.term.0 ≡ s.term.0
    → is_majority (leb (length a + 1) (durable s)) (λ p. leb (length a + 1) p.matched) s.peers ≡ true
    → Committed members w a e
committed {members} {w} {k} {s} a e group st leads front own most =
    majority (leb (length a + 1) (durable s)) (λ p. leb (length a + 1) p.matched) k s.peers group most
    (λ yes_own.
    let x : HasOwnAck w.acks k s.term.0 (last s) s.op a = st.itself leads a e front own in
    let le = leb-true (length a + 1) (durable s) yes_own in
    let same : (w.member k).noticed ≡ s.noticed = st.noticed in
    let op : x.ack.op + last s ≤ s.op + (length a + 1) = x.op_is in
    record {
      acked = record {
        ack = x.ack;
        said = x.said;
        from = x.from;
        term = x.term_is ∙ sym own;
        reaches = x.upto;
      };
      durable = omega (arith, le, same, op);
    })
    (λ p here has.
    let le = leb-true (length a + 1) p.matched has in
    elim (st.matches leads p here) [
      | inl start ↦ absurd (omega (arith, le, start))
      | inr x ↦
          let upto : p.matched ≤ x.ack.upto = x.upto in
          record {
            acked = record {
              ack = x.ack;
              said = x.said;
              from = x.from;
              term = x.term_is ∙ sym own;
              reaches = omega (arith, le, upto);
            };
            durable = subst (λ (i : ℕ). x.ack.op ≤ (w.member i).noticed) x.from x.durable;
          }
    ])

-- the commit that is found
record FoundAt (s : Server) (n c : ℕ) : Type 0 where
  later : s.commit < c
  within : c ≤ s.commit + n
  may : may_commit s c ≡ true

found : (s : Server) (n : ℕ) → (commit_within s n ≡ s.commit) ⊎ FoundAt s n (commit_within s n)
found s zero = inl refl
found s (suc n) =
    let i = s.commit + suc n in
    cond_both (may_commit s i) i (commit_within s n) (λ (c : ℕ). (c ≡ s.commit) ⊎ FoundAt s (suc n) c)
    (λ e. inr (record { later = omega arith; within = omega arith; may = e }))
    (λ _. elim (found s n) [
      | inl same ↦ inl same
      | inr f ↦
          let within = f.within in
          inr (record { later = f.later; within = omega (arith, within); may = f.may })
    ])

same-commit : {members : List ℕ} {w : World} {k : ℕ} {s : Server} (c : ℕ) → Stands w k s → c ≡ s.commit
    → Refines members w k (record s { commit = c })
same-commit {members} {w} {k} {s} c st same =
    refines-refl (record {
      node = st.node;
      lane = st.lane;
      noticed = st.noticed;
      role = st.role;
      commit = st.commit ∙ sym same;
      own_vote = st.own_vote;
      votes = st.votes;
      matches = st.matches;
      within = st.within;
      itself = st.itself;
      waiting = st.waiting;
      out = st.out;
    })

-- the entry at a place is the last one up to there
found-refines : {members : List ℕ} {w : World} {k : ℕ} {s : Server} (n c : ℕ) → IsGroup members k s.peers
    → Stands w k s → s.role ≡ Leader → s.commit + n ≤ last s → FoundAt s n c
    → Refines members w k (record s { commit = c })
found-refines {members} {w} {k} {s} n c group st leads le f =
    let within : c ≤ s.commit + n = f.within in
    let later : s.commit < c = f.later in
    let long : length (take c s.log) ≡ c = length-take-le c s.log (omega (arith, within, le)) in
    let parts = and_parts (eqb (term_at s.log c) s.term.0)
    (is_majority (leb c (durable s)) (λ p. leb c p.matched) s.peers) f.may in
    let term : last_term (take c s.log) ≡ s.term.0 = eqb-true (term_at s.log c) s.term.0 parts.0 in
    elim (last_of (take c s.log)) [
      | inl nothing ↦ absurd (omega (arith, long, later, ap length nothing))
      | inr l ↦
          let a = l.before in
          let e = l.entry in
          let front : IsFront (add a e) s.log = subst (λ x. IsFront x s.log) l.is (take-front c s.log) in
          let size : length (add a e) ≡ c = sym (ap length l.is) ∙ long in
          let place : length a + 1 ≡ c = omega (arith, size, length-append a (e ∷ [])) in
          let own : e.term.0 ≡ s.term.0 = sym (ap last_term l.is ∙ last_term-add a e) ∙ term in
          let most : is_majority (leb (length a + 1) (durable s)) (λ p. leb (length a + 1) p.matched) s.peers ≡ true =
          subst (λ (i : ℕ). is_majority (leb i (durable s)) (λ p. leb i p.matched) s.peers ≡ true) (sym place)
          parts.1 in
          let role : w.role k ≡ ModelRole.Leader = st.role ∙ ap role_of leads in
          let mine : IsFront (add a e) (w.member k).mine.log =
          subst (λ (x : Lane). IsFront (add a e) x.log) (sym st.lane) front in
          record {
            moves = Commit k a e ∷ [];
            quiet = (tt, tt);
            allowed = (
              (
                role,
                mine,
                own ∙ sym (ap (λ (x : Lane). x.term) st.lane),
                committed a e group st leads front own most,
              ),
              tt,
            );
            stands = commit-stands a e c st size later;
            only = commit-only w k a e;
          }
    ]

pub advance-refines : {members : List ℕ} {w : World} {k : ℕ} {s : Server} → IsGroup members k s.peers
    → Stands w k s → s.role ≡ Leader → s.commit ≤ last s → Refines members w k (advance s)
unfolding advance
advance-refines {members} {w} {k} {s} group st leads le =
    let n = last s - s.commit in
    subst (Refines members w k)
    (sym (cond-true (is_leader s.role) (record s { commit = commit_within s n }) s (ap is_leader leads)))
    (elim (found s n) [
      | inl same ↦ same-commit (commit_within s n) st same
      | inr f ↦ found-refines n (commit_within s n) group st leads (omega (arith, le)) f
    ])

-- ---- peers

pub mapped-group : {members : List ℕ} {k : ℕ} (f : Peer → Peer) (peers : List Peer)
    → ((p : Peer) → (f p).node.0 ≡ p.node.0) → IsGroup members k peers → IsGroup members k (map f peers)
mapped-group {members} {k} f peers same_node group =
    record {
      count = group.count ∙ ap (λ n. n + 1) (sym (length-map peers f));
      each = λ test.
          let t : Peer → Bool = λ (p : Peer). test p.node.0 in
          let same : count_by t (map f peers) ≡ count_by t peers =
          sym (length-filter t (map f peers))
          ∙ ap length (filter-map t f peers (λ p. ap test (same_node p)))
          ∙ length-map (filter t peers) f ∙ length-filter t peers in
          group.each test ∙ ap (λ n. one_if (test k) + n) (sym same);
    }

greater_most : (a b c : ℕ) → a ≤ c → b ≤ c → greater a b ≤ c
greater_most a b c p q = cond_both (ltb a b) b a (λ n. n ≤ c) (λ _. q) (λ _. p)

-- one peer is changed, and has what the acknowledgement says
matched-peer : {w : World} {k : ℕ} {s : Server} (m : AppendedMsg) → Stands w k s → s.role ≡ Leader
    → s.term.0 ≡ m.term.0 → m.ok ≡ true → IsOnItsWay w (Appended m) → (p : Peer) → In p s.peers
    → ((cond (is_peer m.from p) (match_peer m.index.0 p) p).matched ≡ 0)
    ⊎ HasMatched w s.term.0 (cond (is_peer m.from p) (match_peer m.index.0 p) p)
matched-peer {w = w} {s = s} m st leads term ok way p here =
    let old = st.matches leads p here in
    cond_both (is_peer m.from p) (match_peer m.index.0 p) p
    (λ (y : Peer). (y.matched ≡ 0) ⊎ HasMatched w s.term.0 y)
    (λ same.
    let from : p.node.0 ≡ m.from.0 = eqb-true p.node.0 m.from.0 same in
    let a = way.said.says ok in
    let le : way.op ≤ (w.member way.node).noticed = way.durable in
    let op : a.item.op ≡ way.op = a.is.op_is in
    let upto : m.index.0 ≤ a.item.upto = a.is.upto in
    let there : (w.member a.item.from).noticed ≡ (w.member way.node).noticed =
    ap (λ i. (w.member i).noticed) (a.is.from ∙ way.said.from) in
    elim (cases_Bool (ltb p.matched m.index.0)) [
      | inl further ↦
          let is : greater p.matched m.index.0 ≡ m.index.0 =
          cond-true (ltb p.matched m.index.0) m.index.0 p.matched further in
          inr (record {
            ack = a.item;
            said = a.here;
            from = a.is.from ∙ sym from;
            term_is = a.is.term ∙ sym term;
            upto = omega (arith, is, upto);
            durable = omega (arith, le, op, there);
          })
      | inr before ↦
          let is : greater p.matched m.index.0 ≡ p.matched =
          cond-false (ltb p.matched m.index.0) m.index.0 p.matched before in
          elim old [
            | inl start ↦ inl (is ∙ start)
            | inr x ↦
                let reaches : p.matched ≤ x.ack.upto = x.upto in
                inr (record {
                  ack = x.ack;
                  said = x.said;
                  from = x.from;
                  term_is = x.term_is;
                  upto = omega (arith, is, reaches);
                  durable = x.durable;
                })
          ]
    ])
    (λ _. old)

abbrev IsPeerWithin : ℕ → Peer → Type 0
IsPeerWithin last p = (p.next ≤ last + 1) × (p.matched ≤ last)

-- a leader whose peers are changed
peers-stand : {w : World} {k : ℕ} {s : Server} (f : Peer → Peer) → Stands w k s → s.role ≡ Leader
    → ((p : Peer) → In p s.peers → ((f p).matched ≡ 0) ⊎ HasMatched w s.term.0 (f p))
    → ((p : Peer) → In p s.peers → IsPeerWithin (last s) (f p))
    → Stands w k (record s { peers = map f s.peers })
peers-stand {w = w} {k = k} {s = s} f st leads each within = record {
  node = st.node;
  lane = st.lane;
  noticed = st.noticed;
  role = st.role;
  commit = st.commit;
  own_vote = λ is. absurd (leader_asks (sym leads ∙ is));
  votes = λ is. absurd (leader_asks (sym leads ∙ is));
  matches = λ is p here.
      let m = In-map f p s.peers here in
      subst (λ (y : Peer). (y.matched ≡ 0) ⊎ HasMatched w s.term.0 y) (sym m.is) (each m.item m.here);
  within = λ is p here.
      let m = In-map f p s.peers here in
      subst (IsPeerWithin (last s)) (sym m.is) (within m.item m.here);
  itself = st.itself;
  waiting = st.waiting;
  out = st.out;
}

same-peer : (node : NodeId) (g : Peer → Peer) (p : Peer) → (g p).node.0 ≡ p.node.0
    → (cond (is_peer node p) (g p) p).node.0 ≡ p.node.0
same-peer node g p same =
    cond_both (is_peer node p) (g p) p (λ (y : Peer). y.node.0 ≡ p.node.0) (λ _. same) (λ _. refl)

-- ---- an acknowledgement

matched-within : (s : Server) (index : ℕ) (node : NodeId) → IsWithinLog s → index ≤ last s → (p : Peer)
    → In p s.peers → IsPeerWithin (last s) (cond (is_peer node p) (match_peer index p) p)
matched-within s index node within le p here =
    let next : p.next ≤ last s + 1 = (within p here).0 in
    let matched : p.matched ≤ last s = (within p here).1 in
    let most : greater p.matched index ≤ last s = greater_most p.matched index (last s) matched le in
    cond_both (is_peer node p) (match_peer index p) p (IsPeerWithin (last s))
    (λ _. (greater_most p.next (greater p.matched index + 1) (last s + 1) next (omega (arith, most)), most))
    (λ _. (next, matched))

-- an acknowledgement of a leader's term is of an entry of its log
pub acks-within : {members : List ℕ} {w : World} {k : ℕ} {s : Server} (x : Ack) → IsReached members w
    → Stands w k s → s.role ≡ Leader → In x w.acks → x.term ≡ s.term.0 → x.upto ≤ last s
acks-within {members} {w} {k} {s} x reached st leads here same =
    let term : x.term ≡ (w.member k).mine.term = same ∙ sym (ap (λ (l : Lane). l.term) st.lane) in
    let le : x.upto ≤ length (w.member k).mine.log =
    shaded-acks (shaded-there members w reached) k x (st.role ∙ ap role_of leads) here term in
    let long : length (w.member k).mine.log ≡ last s = ap (λ (l : Lane). length l.log) st.lane in
    omega (arith, le, long)

acked-within : {members : List ℕ} {w : World} {k : ℕ} {s : Server} (m : AppendedMsg) → IsReached members w
    → Stands w k s → s.role ≡ Leader → s.term.0 ≡ m.term.0 → m.ok ≡ true → IsOnItsWay w (Appended m)
    → m.index.0 ≤ last s
acked-within {members} {w} {k} {s} m reached st leads term ok way =
    let a = way.said.says ok in
    let upto : m.index.0 ≤ a.item.upto = a.is.upto in
    let le : a.item.upto ≤ last s =
    acks-within {members = members} a.item reached st leads a.here (a.is.term ∙ sym term) in
    omega (arith, upto, le)

ack-refines : {members : List ℕ} {w : World} {k : ℕ} {s : Server} (m : AppendedMsg)
    → IsReached members w → IsGroup members k s.peers → Stands w k s → s.role ≡ Leader → s.term.0 ≡ m.term.0
    → m.ok ≡ true → IsOnItsWay w (Appended m) → Refines members w k (take_ack m s)
unfolding take_ack send
ack-refines {members} {w} {k} {s} m reached group st leads term ok way =
    let f : Peer → Peer = λ (p : Peer). cond (is_peer m.from p) (match_peer m.index.0 p) p in
    let picks = lacks m.from (last s) in
    let g : Peer → Peer = λ (p : Peer). cond (picks p) (pass s.log p) p in
    let t : Server = at_peer m.from (match_peer m.index.0) s in
    let le : m.index.0 ≤ last s = acked-within m reached st leads term ok way in
    let matched : Stands w k t =
    peers-stand f st leads (λ p here. matched-peer m st leads term ok way p here)
    (matched-within s m.index.0 m.from (st.within leads) le) in
    let done : IsFront (w.done k) s.log = done-front reached st in
    let known : length (w.done k) ≤ length s.log = front-length done in
    let commit : length (w.done k) ≡ s.commit = st.commit in
    let sent : Refines members w k (send picks t) =
    send-refines {members = members} picks matched leads done in
    let whole : IsGroup members k (map g (map f s.peers)) =
    mapped-group g (map f s.peers)
    (λ p. cond_both (picks p) (pass s.log p) p (λ (y : Peer). y.node.0 ≡ p.node.0) (λ _. refl) (λ _. refl))
    (mapped-group f s.peers (λ p. same-peer m.from (match_peer m.index.0) p refl) group) in
    refines-then sent (λ v there only.
    advance-refines {members = members} whole there leads (omega (arith, known, commit)))

back-within : (s : Server) (index : ℕ) (node : NodeId) → IsWithinLog s → (p : Peer) → In p s.peers
    → IsPeerWithin (last s) (cond (is_peer node p) (back_peer index p) p)
back-within s index node within p here =
    let next : p.next ≤ last s + 1 = (within p here).0 in
    let matched : p.matched ≤ last s = (within p here).1 in
    let least = min-le_left (p.next - 1) (index + 1) in
    cond_both (is_peer node p) (back_peer index p) p (IsPeerWithin (last s))
    (λ _. (
      greater_most (p.matched + 1) (min (p.next - 1) (index + 1)) (last s + 1) (omega (arith, matched))
          (omega (arith, least, next)),
      matched,
    ))
    (λ _. (next, matched))

back-peer : {w : World} {k : ℕ} {s : Server} (index : ℕ) (node : NodeId) → Stands w k s → s.role ≡ Leader
    → (p : Peer) → In p s.peers → ((cond (is_peer node p) (back_peer index p) p).matched ≡ 0)
    ⊎ HasMatched w s.term.0 (cond (is_peer node p) (back_peer index p) p)
back-peer {w = w} {s = s} index node st leads p here =
    let old = st.matches leads p here in
    cond_both (is_peer node p) (back_peer index p) p
    (λ (y : Peer). (y.matched ≡ 0) ⊎ HasMatched w s.term.0 y)
    (λ _. elim old [
      | inl start ↦ inl start
      | inr x ↦ inr (record {
        ack = x.ack;
        said = x.said;
        from = x.from;
        term_is = x.term_is;
        upto = x.upto;
        durable = x.durable;
      })
    ])
    (λ _. old)

back-refines : {members : List ℕ} {w : World} {k : ℕ} {s : Server} (m : AppendedMsg)
    → IsReached members w → Stands w k s → s.role ≡ Leader → Refines members w k (step_back m s)
unfolding step_back
back-refines {members} {w} {k} {s} m reached st leads =
    let f : Peer → Peer = λ (p : Peer). cond (is_peer m.from p) (back_peer m.index.0 p) p in
    let there : Stands w k (at_peer m.from (back_peer m.index.0) s) =
    peers-stand f st leads (λ p here. back-peer m.index.0 m.from st leads p here)
    (back-within s m.index.0 m.from (st.within leads)) in
    send-refines {members = members} (is_peer m.from) there leads (done-front reached st)

reply-refines : {members : List ℕ} {w : World} {k : ℕ} {s : Server} (m : AppendedMsg)
    → IsReached members w → IsGroup members k s.peers → Stands w k s → s.term.0 ≡ m.term.0
    → IsOnItsWay w (Appended m) → Refines members w k (take_reply m s)
reply-refines {members} {w} {k} {s} m reached group st term way =
    cond_both (is_leader s.role) (cond m.ok (take_ack m s) (step_back m s)) s (Refines members w k)
    (λ e.
    let leads = is_leader_of s.role e in
    cond_both m.ok (take_ack m s) (step_back m s) (Refines members w k)
    (λ ok. ack-refines m reached group st leads term ok way)
    (λ _. back-refines m reached st leads))
    (λ _. refines-refl st)

pub appended-refines : {members : List ℕ} {w : World} {k : ℕ} {s : Server} (m : AppendedMsg)
    → IsReached members w → IsGroup members k s.peers → Stands w k s → IsOnItsWay w (Appended m)
    → Refines members w k (receive (Appended m) s)
unfolding receive accept refuse receive_appended enter
appended-refines {members} {w} {k} {s} m reached group st way =
    cond_both (ltb m.term.0 s.term.0) s (accept (Appended m) s) (Refines members w k) (λ _. refines-refl st)
    (λ e.
    let le = ltb-false m.term.0 s.term.0 e in
    cond_both (ltb s.term.0 m.term.0) (follow None (change m.term None (last s) [] s)) s
    (λ (t : Server). Refines members w k (take_reply m t))
    (λ later.
    let lt = ltb-true s.term.0 m.term.0 later in
    refines-change None m.term None st le (λ same. absurd (omega (arith, lt, same))))
    (λ own.
    let ge = ltb-false s.term.0 m.term.0 own in
    reply-refines m reached group st (omega (arith, le, ge)) way))
