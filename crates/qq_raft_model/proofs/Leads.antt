-- A candidate that has a majority of votes leads, adds the first entry of its term, and sends it.
use Rattle.std.proofs.Common.{◌≡◌, ℕ, ◌+◌, ◌≤◌, Bool, true, cond, ◌&&◌, ltb, leb, List, [], ◌∷◌, ◌++◌, length, map, filter, count_by, take, Some, None, refl, sym, ap, subst, ◌∙◌, arith, inl, inr}
use Rattle.std.proofs.lemmas.Bool.{cond_both, and_parts, ltb-true, ltb-false, leb-true, eqb-true, cases_Bool, false≢true}
use Rattle.std.proofs.lemmas.List.{length-map, take_all}
use Rattle.std.proofs.lemmas.List.Sums.{length-filter}
use Rattle.qq_base.specs.Fronts.{IsFront}
use Rattle.qq_base.proofs.Lists.{filter-map}
use Rattle.std.specs.Prelude.{option_map}
use Rattle.qq_base.specs.declared.ids.NodeId.{NodeId}
use Rattle.qq_base.proofs.Puts.{put-same, put-other}
use Rattle.qq_base.proofs.Fronts.{front-trans}
use Rattle.qq_entry.specs.declared.command.Entry.{Entry}
use Rattle.qq_raft_protocol.specs.Facts.{add, Most, Elects}
use Rattle.qq_raft_protocol.specs.Moves.{after, push, next_lane}
use Rattle.qq_raft_protocol.specs.Moves.Move.{Lead, Append}
use Rattle.qq_raft_protocol.specs.World.{Role as ModelRole, Lane, World}
use Rattle.qq_raft_protocol.proofs.Shades.{shaded-first}
use Rattle.qq_raft_protocol.proofs.Lists.{In-map}
use Rattle.qq_raft_protocol.proofs.Logs.{length-add, front-of_add}
use Rattle.qq_raft_msg.specs.declared.rpc.Rpc.TheVariants.{Voted}
use Rattle.qq_raft_msg.specs.declared.rpc.VotedMsg.{VotedMsg}
use Rattle.qq_raft_msg.specs.declared.state.Role.{Role}
use Rattle.qq_raft_msg.specs.declared.state.Role.TheVariants.{Leader, Candidate, Follower}
use Rattle.qq_raft_model.specs.declared.peer.Peer.{Peer}
use Rattle.qq_raft_model.specs.State.{Server, last, is_candidate, change, follow, enter}
use Rattle.qq_raft_model.specs.Leading.{add_entry, append_entry, everyone, is_elected, is_majority, lead, lead_if_elected, noop, one_if, send, start_peer}
use Rattle.qq_raft_model.specs.Server.{is_peer, grant_peer, at_peer, count_vote, receive_voted, refuse, accept, receive}
use Rattle.qq_raft_model.specs.Refines.{number, lane_of, role_of, IsOnItsWay, IsGroup, HasOwnAck, AcksItself, Stands, OnlyMoves, Adds, Refines, IsReached}
use Rattle.qq_raft_model.proofs.Electing.{majority}
use Rattle.qq_raft_model.proofs.Later.{said-later, way-later, matched-later, only-trans}
use Rattle.qq_raft_model.proofs.Moving.{push-noticed, pushed-lanes}
use Rattle.qq_raft_model.proofs.Reached.{safe-there, shaded-there}
use Rattle.qq_raft_model.proofs.Refining.{refines-change, refines-refl}
use Rattle.qq_raft_model.proofs.Sending.{leader_asks, send-refines}

is_candidate_of : (r : Role) → is_candidate r ≡ true → r ≡ Candidate
is_candidate_of Leader e = absurd (false≢true e)
is_candidate_of Candidate e = refl
is_candidate_of Follower e = absurd (false≢true e)

-- ---- an entry more

added : World → ℕ → Entry → Lane
added w k e =
    let m = w.member k in
    next_lane m m.mine.term m.mine.vote (add m.mine.log e)

append-only : (w : World) (k : ℕ) (e : Entry) → OnlyMoves k w (after w (Append k e))
unfolding added
append-only w k e =
    record {
      later = record {
        asks = λ x here. here;
        grants = λ x here. here;
        acks = λ x here. inr here;
        sents = λ x here. here;
        noticed = λ q. let same = push-noticed w k (added w k e) q in omega (arith, same);
      };
      lanes = λ l here le. pushed-lanes w k (added w k e) l here;
      member = λ q other. put-other k (push (w.member k) (added w k e)) w.member q other;
      role = λ q other. refl;
      done = λ q other. refl;
    }

pub whole : (log : List Entry) (e : Entry) → log ++ e ∷ [] ≡ take (length log) log ++ e ∷ []
whole log e = ap (λ (t : List Entry). t ++ e ∷ []) (sym (take_all (length log) log (omega arith)))

-- the entry is acknowledged by the leader itself, as those before it are
added-itself : {w : World} {k : ℕ} {s : Server} (e : Entry) → Stands w k s → s.role ≡ Leader
    → AcksItself (after w (Append k e)).acks k (change s.term s.vote (last s) (e ∷ []) s)
unfolding change
added-itself {w = w} {k = k} {s = s} e st leads a f front own =
    let mine = (w.member k).mine in
    let log = take (length s.log) s.log ++ e ∷ [] in
    let long : length (add s.log e) ≡ length log = ap length (whole s.log e) in
    let there : IsFront (add a f) (add s.log e) = subst (λ x. IsFront (add a f) x) (sym (whole s.log e)) front in
    let op : mine.op ≡ s.op = ap (λ (l : Lane). l.op) st.lane in
    let size : length mine.log ≡ length s.log = ap (λ (l : Lane). length l.log) st.lane in
    elim (front-of_add (add a f) s.log e there) [
      | inl old ↦
          let x : HasOwnAck w.acks k s.term.0 (last s) s.op a = st.itself leads a f old own in
          let before : x.ack.op + last s ≤ s.op + (length a + 1) = x.op_is in
          record {
            ack = x.ack;
            said = inr x.said;
            from = x.from;
            term_is = x.term_is;
            upto = x.upto;
            op_is = omega (arith, before, long, length-add s.log e);
          }
      | inr new ↦
          let same : length (add a f) ≡ length (add s.log e) = ap length new in
          record {
            ack = record { from = k; term = mine.term; upto = length (add mine.log e); op = mine.op + 1 };
            said = inl refl;
            from = refl;
            term_is = ap (λ (l : Lane). l.term) st.lane;
            upto = omega (arith, same, size, length-add a f, length-add s.log e, length-add mine.log e);
            op_is = omega (arith, op, long, same, length-add a f, length-add s.log e);
          }
    ]

append-stands : {w : World} {k : ℕ} {s : Server} (e : Entry) → Stands w k s → s.role ≡ Leader
    → Stands (after w (Append k e)) k (change s.term s.vote (last s) (e ∷ []) s)
unfolding change added
append-stands {w = w} {k = k} {s = s} e st leads =
    let g = (append-only w k e).later in
    record {
      node = st.node;
      lane =
          ap (λ x. x.mine) (put-same k (push (w.member k) (added w k e)) w.member)
          ∙ ap (λ (l : Lane). record { op = l.op + 1; term = l.term; vote = l.vote; log = add l.log e }) st.lane
          ∙ ap (λ (log : List Entry).
          record { op = s.op + 1; term = s.term.0; vote = option_map number s.vote; log = log }) (whole s.log e);
      noticed = ap (λ x. x.noticed) (put-same k (push (w.member k) (added w k e)) w.member) ∙ st.noticed;
      role = st.role;
      commit = st.commit;
      own_vote = λ is. absurd (leader_asks (sym leads ∙ is));
      votes = λ is. absurd (leader_asks (sym leads ∙ is));
      matches = λ is p here. elim (st.matches is p here) [ inl zero ↦ inl zero | inr x ↦ inr (matched-later g x) ];
      within = λ is p here.
          let old = st.within is p here in
          let next : p.next ≤ last s + 1 = old.0 in
          let matched : p.matched ≤ last s = old.1 in
          let long : length (add s.log e) ≡ length (take (length s.log) s.log ++ e ∷ []) = ap length (whole s.log e) in
          (omega (arith, next, long, length-add s.log e), omega (arith, matched, long, length-add s.log e));
      itself = λ is. added-itself e st is;
      waiting = λ x here. said-later g (st.waiting x here);
      out = λ r here. way-later g (st.out r here);
    }

-- the entry is added
pub append-refines : {members : List ℕ} {w : World} {k : ℕ} {s : Server} (e : Entry) → Stands w k s → s.role ≡ Leader
    → e.term.0 ≡ s.term.0 → Adds members w k e (append_entry e s)
unfolding change
append-refines {members} {w} {k} {s} e st leads own =
    let role : w.role k ≡ ModelRole.Leader = st.role ∙ ap role_of leads in
    let term : e.term.0 ≡ (w.member k).mine.term = own ∙ sym (ap (λ (l : Lane). l.term) st.lane) in
    record {
      moves = [];
      allowed = ((role, term), tt);
      quiet = tt;
      stands = append-stands e st leads;
      only = append-only w k e;
    }

-- the entry is added, and sent with all that the peers lack
pub add-refines : {members : List ℕ} {w : World} {k : ℕ} {s : Server} (e : Entry) → Stands w k s → s.role ≡ Leader
    → e.term.0 ≡ s.term.0 → IsFront (w.done k) s.log → Adds members w k e (add_entry e s)
unfolding add_entry change
add-refines {members} {w} {k} {s} e st leads own done =
    let t = change s.term s.vote (last s) (e ∷ []) s in
    let role : w.role k ≡ ModelRole.Leader = st.role ∙ ap role_of leads in
    let term : e.term.0 ≡ (w.member k).mine.term = own ∙ sym (ap (λ (l : Lane). l.term) st.lane) in
    let longer : IsFront s.log t.log = record { rest = e ∷ []; is = sym (whole s.log e) } in
    let second : Refines members (after w (Append k e)) k (send everyone t) =
    send-refines {members = members} everyone (append-stands e st leads) leads (front-trans done longer) in
    record {
      moves = second.moves;
      allowed = ((role, term), second.allowed);
      quiet = second.quiet;
      stands = second.stands;
      only = only-trans (append-only w k e) second.only;
    }

-- ---- leading

lead-only : (w : World) (k : ℕ) → OnlyMoves k w (after w (Lead k))
lead-only w k = record {
  later = record {
    asks = λ x here. here;
    grants = λ x here. here;
    acks = λ x here. here;
    sents = λ x here. here;
    noticed = λ q. omega arith;
  };
  lanes = λ l here le. here;
  member = λ q other. refl;
  role = λ q other. put-other k ModelRole.Leader w.role q other;
  done = λ q other. refl;
}

-- what it is when it leads, before its first entry
leading : Server → Server
leading s = record s { role = Leader; leader = Some s.node; peers = map (start_peer (last s + 1)) s.peers }

-- no entry of the log has the server's term
abbrev IsBefore : Lane → Type 0
IsBefore l = (a : List Entry) (e : Entry) → IsFront (add a e) l.log → e.term.0 ≡ l.term → ⊥

lead-stands : {w : World} {k : ℕ} {s : Server} → Stands w k s → IsBefore (lane_of s)
    → Stands (after w (Lead k)) k (leading s)
unfolding leading
lead-stands {w = w} {k = k} {s = s} st first =
    let g = (lead-only w k).later in
    record {
      node = st.node;
      lane = st.lane;
      noticed = st.noticed;
      role = put-same k ModelRole.Leader w.role;
      commit = st.commit;
      own_vote = λ is. absurd (leader_asks is);
      votes = λ is. absurd (leader_asks is);
      matches = λ is p here.
          let m = In-map (start_peer (last s + 1)) p s.peers here in
          inl (ap (λ (x : Peer). x.matched) m.is);
      within = λ is p here.
          let m = In-map (start_peer (last s + 1)) p s.peers here in
          let next : p.next ≡ last s + 1 = ap (λ (x : Peer). x.next) m.is in
          let matched : p.matched ≡ 0 = ap (λ (x : Peer). x.matched) m.is in
          (omega (arith, next), omega (arith, matched));
      itself = λ is a e front own. absurd (first a e front own);
      waiting = λ x here. said-later g (st.waiting x here);
      out = λ r here. way-later g (st.out r here);
    }

-- a majority of votes is durable
elected : {members : List ℕ} {w : World} {k : ℕ} {s : Server} → IsGroup members k s.peers → Stands w k s
    → is_elected s ≡ true → Most members (Elects w s.term.0 k)
elected {members} {w} {k} {s} group st e =
    let parts = and_parts (is_candidate s.role)
    (is_majority (leb s.op s.noticed) (λ p. p.granted) s.peers) e in
    let is : s.role ≡ Candidate = is_candidate_of s.role parts.0 in
    majority (leb s.op s.noticed) (λ p. p.granted) k s.peers group parts.1 (λ own.
    let v = st.own_vote is in
    let le = leb-true s.op s.noticed own in
    let op : v.item.op ≡ s.op = v.is.op_is in
    let same : (w.member k).noticed ≡ s.noticed = st.noticed in
    record {
      grant = v.item;
      said = v.here;
      from = v.is.from;
      to = v.is.to;
      term = v.is.term_is;
      durable = omega (arith, le, op, same);
    }) (λ p here granted. st.votes is p here granted)

lead-refines : {members : List ℕ} {w : World} {k : ℕ} {s : Server} → IsReached members w
    → IsGroup members k s.peers → Stands w k s → is_elected s ≡ true → Refines members w k (lead s)
unfolding lead leading
lead-refines {members} {w} {k} {s} reached group st e =
    let parts = and_parts (is_candidate s.role)
    (is_majority (leb s.op s.noticed) (λ p. p.granted) s.peers) e in
    let is : s.role ≡ Candidate = is_candidate_of s.role parts.0 in
    let role : w.role k ≡ ModelRole.Candidate = st.role ∙ ap role_of is in
    let most : Most members (Elects w (w.member k).mine.term k) =
    subst (λ (l : Lane). Most members (Elects w l.term k)) (sym st.lane) (elected group st e) in
    let done : IsFront (w.done k) s.log =
    subst (λ (l : Lane). IsFront (w.done k) l.log) st.lane ((safe-there members w reached).done k).1 in
    let first : IsBefore (lane_of s) =
    subst IsBefore st.lane (shaded-first (shaded-there members w reached) k role most) in
    let rest : Adds members (after w (Lead k)) k (noop s.term) (add_entry (noop s.term) (leading s)) =
    add-refines {members = members} (noop s.term) (lead-stands st first) refl refl done in
    record {
      moves = Lead k ∷ Append k (noop s.term) ∷ rest.moves;
      allowed = ((role, most), rest.allowed);
      quiet = (tt, (refl, rest.quiet));
      stands = rest.stands;
      only = only-trans (lead-only w k) rest.only;
    }

pub lead_if-refines : {members : List ℕ} {w : World} {k : ℕ} {s : Server} → IsReached members w
    → IsGroup members k s.peers → Stands w k s → Refines members w k (lead_if_elected s)
unfolding lead_if_elected
lead_if-refines {members} {w} {k} {s} reached group st =
    cond_both (is_elected s) (lead s) s (Refines members w k)
    (λ e. lead-refines reached group st e) (λ _. refines-refl st)

-- ---- a vote is counted

same_nodes : (node : NodeId) (p : Peer) → (cond (is_peer node p) (grant_peer p) p).node.0 ≡ p.node.0
same_nodes node p =
    cond_both (is_peer node p) (grant_peer p) p (λ (x : Peer). x.node.0 ≡ p.node.0) (λ _. refl) (λ _. refl)

counted-stands : {w : World} {k : ℕ} {s : Server} (m : VotedMsg) → Stands w k s → s.role ≡ Candidate
    → s.term.0 ≡ m.term.0 → m.to.0 ≡ k → m.granted ≡ true → IsOnItsWay w (Voted m)
    → Stands w k (at_peer m.from grant_peer s)
counted-stands {w = w} {k = k} {s = s} m st is term to granted x =
    let f : Peer → Peer = λ (p : Peer). cond (is_peer m.from p) (grant_peer p) p in
    let a = x.said.says granted in
    let le : x.op ≤ (w.member x.node).noticed = x.durable in
    let op : a.item.op ≡ x.op = a.is.op_is in
    record {
      node = st.node;
      lane = st.lane;
      noticed = st.noticed;
      role = st.role;
      commit = st.commit;
      own_vote = st.own_vote;
      votes = λ c p here has.
          let y = In-map f p s.peers here in
          let there : (f y.item).granted ≡ true = sym (ap (λ (z : Peer). z.granted) y.is) ∙ has in
          let node : (f y.item).node.0 ≡ y.item.node.0 = same_nodes m.from y.item in
          subst (λ (i : ℕ). Elects w s.term.0 k i)
          (sym (ap (λ (z : Peer). z.node.0) y.is ∙ node))
          (elim (cases_Bool (is_peer m.from y.item)) [
            | inl same ↦
                let from : y.item.node.0 ≡ m.from.0 = eqb-true y.item.node.0 m.from.0 same in
                let here_is : (w.member y.item.node.0).noticed ≡ (w.member x.node).noticed =
                ap (λ i. (w.member i).noticed) (from ∙ x.said.from) in
                record {
                  grant = a.item;
                  said = a.here;
                  from = a.is.from ∙ sym from;
                  to = a.is.to ∙ to;
                  term = a.is.term ∙ sym term;
                  durable = omega (arith, le, op, here_is);
                }
            | inr other ↦
                st.votes c y.item y.here
                (subst (λ b. (cond b (grant_peer y.item) y.item).granted ≡ true) other there)
          ]);
      matches = λ leads. absurd (leader_asks (sym leads ∙ is));
      within = λ leads. absurd (leader_asks (sym leads ∙ is));
      itself = λ leads. absurd (leader_asks (sym leads ∙ is));
      waiting = st.waiting;
      out = st.out;
    }

-- the server and its peers stay the group
counted-group : {members : List ℕ} {k : ℕ} (node : NodeId) (peers : List Peer) → IsGroup members k peers
    → IsGroup members k (map (λ p. cond (is_peer node p) (grant_peer p) p) peers)
counted-group {members} {k} node peers group =
    let f : Peer → Peer = λ (p : Peer). cond (is_peer node p) (grant_peer p) p in
    record {
      count = group.count ∙ ap (λ n. n + 1) (sym (length-map peers f));
      each = λ test.
          let t : Peer → Bool = λ (p : Peer). test p.node.0 in
          let same : count_by t (map f peers) ≡ count_by t peers =
          sym (length-filter t (map f peers))
          ∙ ap length (filter-map t f peers (λ p. ap test (same_nodes node p)))
          ∙ length-map (filter t peers) f ∙ length-filter t peers in
          group.each test ∙ ap (λ n. one_if (test k) + n) (sym same);
    }

count-refines : {members : List ℕ} {w : World} {k : ℕ} {s : Server} (m : VotedMsg)
    → IsReached members w → IsGroup members k s.peers → Stands w k s → s.term.0 ≡ m.term.0 → m.to.0 ≡ k
    → IsOnItsWay w (Voted m) → Refines members w k (count_vote m s)
count-refines {members} {w} {k} {s} m reached group st term to x =
    let counted = at_peer m.from grant_peer s in
    cond_both (is_candidate s.role && m.granted) (lead_if_elected counted) s (Refines members w k)
    (λ e.
    let parts = and_parts (is_candidate s.role) m.granted e in
    let is = is_candidate_of s.role parts.0 in
    lead_if-refines reached (counted-group m.from s.peers group)
    (counted-stands m st is term to parts.1 x))
    (λ _. refines-refl st)

pub voted-refines : {members : List ℕ} {w : World} {k : ℕ} {s : Server} (m : VotedMsg)
    → IsReached members w → IsGroup members k s.peers → Stands w k s → m.to.0 ≡ k → IsOnItsWay w (Voted m)
    → Refines members w k (receive (Voted m) s)
unfolding receive accept refuse receive_voted enter
voted-refines {members} {w} {k} {s} m reached group st to x =
    cond_both (ltb m.term.0 s.term.0) s (accept (Voted m) s) (Refines members w k) (λ _. refines-refl st)
    (λ e.
    let le = ltb-false m.term.0 s.term.0 e in
    cond_both (ltb s.term.0 m.term.0) (follow None (change m.term None (last s) [] s)) s
    (λ (t : Server). Refines members w k (count_vote m t))
    (λ later.
    let lt = ltb-true s.term.0 m.term.0 later in
    refines-change None m.term None st le (λ same. absurd (omega (arith, lt, same))))
    (λ own.
    let ge = ltb-false s.term.0 m.term.0 own in
    count-refines m reached group st (omega (arith, le, ge)) to x))
