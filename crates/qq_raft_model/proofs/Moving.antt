-- What single moves leave of the rest, and what a server that says something stands for.
use Rattle.std.proofs.Common.{◌≡◌, ℕ, ◌+◌, ◌≤◌, Bool, true, false, cond, leb, List, [], ◌∷◌, ◌++◌, map, take, Option, refl, sym, ap, subst, ◌∙◌, arith, inl, inr}
use Rattle.std.proofs.lemmas.Bool.{cond_both, leb-true, eqb-true}
use Rattle.std.specs.Prelude.{option_map, nat_eq}
use Rattle.qq_base.specs.declared.ids.NodeId.{NodeId}
use Rattle.qq_base.specs.declared.ids.Term.{Term}
use Rattle.qq_base.specs.Fronts.{put}
use Rattle.qq_base.proofs.Puts.{put-same, put-other}
use Rattle.qq_entry.specs.declared.command.Entry.{Entry}
use Rattle.qq_raft_protocol.specs.Facts.{In}
use Rattle.qq_raft_protocol.specs.Moves.{after, push, next_lane}
use Rattle.qq_raft_protocol.specs.Moves.Move.{Write, Vote, Follow}
use Rattle.qq_raft_protocol.specs.World.{Role as ModelRole, Lane, Member, Ask, World, lanes}
use Rattle.qq_raft_protocol.proofs.Lists.{In-append, In-map}
use Rattle.qq_raft_msg.specs.declared.rpc.Rpc.{Rpc}
use Rattle.qq_raft_msg.specs.declared.state.Role.TheVariants.{Leader, Candidate, Follower}
use Rattle.qq_raft_model.specs.declared.peer.Waiting.{Waiting}
use Rattle.qq_raft_model.specs.State.{Server, change, follow, say, say_all, wait}
use Rattle.qq_raft_model.specs.Refines.{number, IsSaid, IsOnItsWay, Stands, OnlyMoves}
use Rattle.qq_raft_model.proofs.Later.{said-later, way-later, stands-later}

-- ---- what is said

said_out : {w : World} {k : ℕ} {s : Server} (rs : List Rpc) → Stands w k s
    → ((r : Rpc) → In r rs → IsOnItsWay w r) → Stands w k (record s { out = s.out ++ rs })
said_out {s = s} rs st way =
    record {
      node = st.node;
      lane = st.lane;
      noticed = st.noticed;
      role = st.role;
      commit = st.commit;
      own_vote = st.own_vote;
      votes = st.votes;
      matches = st.matches;
      within = st.within;
      itself = st.itself;
      waiting = st.waiting;
      out = λ x here. elim (In-append x s.out rs here) [ inl old ↦ st.out x old | inr new ↦ way x new ];
    }

said_later : {w : World} {k : ℕ} {s : Server} (rs : List Rpc) → Stands w k s
    → ((r : Rpc) → In r rs → IsSaid w k s.op r)
    → Stands w k (record s { waiting = s.waiting ++ map (wait s.op) rs })
said_later {w = w} {k = k} {s = s} rs st said = record {
  node = st.node;
  lane = st.lane;
  noticed = st.noticed;
  role = st.role;
  commit = st.commit;
  own_vote = st.own_vote;
  votes = st.votes;
  matches = st.matches;
  within = st.within;
  itself = st.itself;
  waiting = λ x here. elim (In-append x s.waiting (map (wait s.op) rs) here) [
    | inl old ↦ st.waiting x old
    | inr new ↦
        let m = In-map (wait s.op) x rs new in
        subst (λ (y : Waiting). IsSaid w k y.op y.rpc) (sym m.is) (said m.item m.here)
  ];
  out = st.out;
}

on_way : {w : World} {k : ℕ} {s : Server} → Stands w k s → s.op ≤ s.noticed → (r : Rpc) → IsSaid w k s.op r
    → IsOnItsWay w r
on_way {w = w} {k = k} {s = s} st le r said =
    let same : (w.member k).noticed ≡ s.noticed = st.noticed in
    record { node = k; op = s.op; said = said; durable = omega (arith, same, le) }

pub say_all-stands : {w : World} {k : ℕ} {s : Server} (rs : List Rpc) → Stands w k s
    → ((r : Rpc) → In r rs → IsSaid w k s.op r) → Stands w k (say_all rs s)
unfolding say_all
say_all-stands {w = w} {k = k} {s = s} rs st said =
    cond_both (leb s.op s.noticed) (record s { out = s.out ++ rs })
    (record s { waiting = s.waiting ++ map (wait s.op) rs }) (Stands w k)
    (λ e. said_out rs st (λ r here. on_way st (leb-true s.op s.noticed e) r (said r here)))
    (λ _. said_later rs st said)

pub say-stands : {w : World} {k : ℕ} {s : Server} (r : Rpc) → Stands w k s → IsSaid w k s.op r
    → Stands w k (say r s)
say-stands {w = w} {k = k} {s = s} r st said =
    say_all-stands (r ∷ []) st (λ x here. elim here [
      | inl is ↦ subst (IsSaid w k s.op) (sym is) said
      | inr nothing ↦ absurd nothing
    ])

-- ---- a change

follower_asks : Follower ≡ Candidate → ⊥
follower_asks e = absurd cc

follower_leads : Follower ≡ Leader → ⊥
follower_leads e = absurd cc

put_noticed : (k : ℕ) (x : Member) (f : ℕ → Member) → x.noticed ≡ (f k).noticed → (q : ℕ) → (b : Bool)
    → nat_eq q k ≡ b → (cond b x (f q)).noticed ≡ (f q).noticed
put_noticed k x f same q true e = same ∙ ap (λ i. (f i).noticed) (sym (eqb-true q k e))
put_noticed k x f same q false e = refl

-- a change makes nothing durable
pub push-noticed : (w : World) (k : ℕ) (lane : Lane) (q : ℕ)
    → (put k (push (w.member k) lane) w.member q).noticed ≡ (w.member q).noticed
unfolding put
push-noticed w k lane q = put_noticed k (push (w.member k) lane) w.member refl q (nat_eq q k) refl

-- and what the disk may hold it may hold still
pub pushed-lanes : (w : World) (k : ℕ) (lane l : Lane) → In l (lanes (w.member k))
    → In l (lanes (put k (push (w.member k) lane) w.member k))
pushed-lanes w k lane l here =
    subst (λ (m : Member). In l (lanes m)) (sym (put-same k (push (w.member k) lane) w.member)) (inr here)

pub write-only : (w : World) (k term : ℕ) (vote : Option ℕ) (log : List Entry)
    → OnlyMoves k w (after w (Write k term vote log))
write-only w k term vote log =
    let m = w.member k in
    let lane = next_lane m term vote log in
    record {
      later = record {
        asks = λ x here. here;
        grants = λ x here. here;
        acks = λ x here. here;
        sents = λ x here. here;
        noticed = λ q. let same = push-noticed w k lane q in omega (arith, same);
      };
      lanes = λ l here le. pushed-lanes w k lane l here;
      member = λ q other. put-other k (push m lane) w.member q other;
      role = λ q other. put-other k ModelRole.Follower w.role q other;
      done = λ q other. refl;
    }

pub write-stands : {w : World} {k : ℕ} {s : Server} (leader : Option NodeId) (term : Term) (vote : Option NodeId)
    (keep : ℕ) (entries : List Entry) → Stands w k s
    → Stands (after w (Write k term.0 (option_map number vote) (take keep s.log ++ entries))) k
    (follow leader (change term vote keep entries s))
unfolding change
write-stands {w = w} {k = k} {s = s} leader term vote keep entries st =
    let m = w.member k in
    let v_vote = option_map number vote in
    let log = take keep s.log ++ entries in
    let lane = next_lane m term.0 v_vote log in
    let g = (write-only w k term.0 v_vote log).later in
    record {
      node = st.node;
      lane =
          ap (λ x. x.mine) (put-same k (push m lane) w.member)
          ∙ ap (λ (l : Lane). record { op = l.op + 1; term = term.0; vote = v_vote; log = log }) st.lane;
      noticed = ap (λ x. x.noticed) (put-same k (push m lane) w.member) ∙ st.noticed;
      role = put-same k ModelRole.Follower w.role;
      commit = st.commit;
      own_vote = λ is. absurd (follower_asks is);
      votes = λ is. absurd (follower_asks is);
      matches = λ is. absurd (follower_leads is);
      within = λ is. absurd (follower_leads is);
      itself = λ is. absurd (follower_leads is);
      waiting = λ x here. said-later g (st.waiting x here);
      out = λ r here. way-later g (st.out r here);
    }

-- ---- a vote, and following

pub vote-only : (w : World) (k : ℕ) (ask : Ask) → OnlyMoves k w (after w (Vote k ask))
vote-only w k ask = record {
  later = record {
    asks = λ x here. here;
    grants = λ x here. inr here;
    acks = λ x here. here;
    sents = λ x here. here;
    noticed = λ q. omega arith;
  };
  lanes = λ l here le. here;
  member = λ q other. refl;
  role = λ q other. refl;
  done = λ q other. refl;
}

pub vote-stands : {w : World} {k : ℕ} {s : Server} (ask : Ask) → Stands w k s → Stands (after w (Vote k ask)) k s
vote-stands {w = w} {k = k} ask st = stands-later (vote-only w k ask).later refl refl refl st

pub follow-only : (w : World) (k : ℕ) → OnlyMoves k w (after w (Follow k))
follow-only w k = record {
  later = record {
    asks = λ x here. here;
    grants = λ x here. here;
    acks = λ x here. here;
    sents = λ x here. here;
    noticed = λ q. omega arith;
  };
  lanes = λ l here le. here;
  member = λ q other. refl;
  role = λ q other. put-other k ModelRole.Follower w.role q other;
  done = λ q other. refl;
}

pub follow-stands : {w : World} {k : ℕ} {s : Server} (leader : Option NodeId) → Stands w k s
    → Stands (after w (Follow k)) k (follow leader s)
follow-stands {w = w} {k = k} leader st = record {
  node = st.node;
  lane = st.lane;
  noticed = st.noticed;
  role = put-same k ModelRole.Follower w.role;
  commit = st.commit;
  own_vote = λ is. absurd (follower_asks is);
  votes = λ is. absurd (follower_asks is);
  matches = λ is. absurd (follower_leads is);
  within = λ is. absurd (follower_leads is);
  itself = λ is. absurd (follower_leads is);
  waiting = λ x here. said-later (follow-only w k).later (st.waiting x here);
  out = λ r here. way-later (follow-only w k).later (st.out r here);
}
