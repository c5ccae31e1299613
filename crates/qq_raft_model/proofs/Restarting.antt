-- A server that crashed restarts with a lane that its disk holds.
use Rattle.std.proofs.Common.{◌≡◌, ℕ, ◌≤◌, Bool, true, false, ◌||◌, not, eqb, leb, List, [], length, refl, sym, ap, subst, ◌∙◌, arith, inl, inr}
use Rattle.std.proofs.lemmas.Bool.{le-leb, eqb-true}
use Rattle.qq_base.specs.declared.ids.NodeId.{NodeId}
use Rattle.qq_base.proofs.Puts.{put-same, put-other}
use Rattle.qq_entry.specs.declared.command.Entry.{Entry}
use Rattle.qq_log.specs.declared.lane.Lane.{Lane as DiskLane}
use Rattle.qq_raft_protocol.specs.Facts.{Elects}
use Rattle.qq_raft_protocol.specs.Moves.{after, stays}
use Rattle.qq_raft_protocol.specs.Moves.Move.{Restart}
use Rattle.qq_raft_protocol.specs.World.{Role as ModelRole, Lane, Member, World}
use Rattle.qq_raft_protocol.proofs.Lists.{filter-In}
use Rattle.qq_raft_msg.specs.Rpc.{envelope}
use Rattle.qq_raft_msg.specs.declared.rpc.Rpc.{Rpc}
use Rattle.qq_raft_msg.specs.declared.rpc.Rpc.TheVariants.{Vote, Voted, Append, Appended, Install, Installed}
use Rattle.qq_raft_msg.specs.declared.state.Role.TheVariants.{Leader, Candidate, Follower}
use Rattle.qq_raft_model.specs.declared.peer.Peer.{Peer}
use Rattle.qq_raft_model.specs.State.{Server}
use Rattle.qq_raft_model.specs.Server.{restart}
use Rattle.qq_raft_model.specs.Refines.{disk_lane, Says, IsOnItsWay, HasMatched, Stands, OnlyRestarts}
use Rattle.qq_raft_model.proofs.Noticing.{put-noticed}

-- ---- what stays

stays_by : (noticed op : ℕ) (b : Bool) → (b ≡ true → op ≤ noticed) → (not b || leb op noticed) ≡ true
stays_by noticed op true f = le-leb op noticed (f refl)
stays_by noticed op false f = refl

stays-left : (k noticed from op : ℕ) → (from ≡ k → op ≤ noticed) → stays k noticed from op ≡ true
stays-left k noticed from op f = stays_by noticed op (eqb from k) (λ e. f (eqb-true from k e))

restarted : Lane → Member
restarted lane = record { mine = lane; older = []; noticed = lane.op }

pub restart-only : (w : World) (k : ℕ) (lane : Lane) → (w.member k).noticed ≤ lane.op
    → OnlyRestarts k w (after w (Restart k lane))
unfolding restarted
restart-only w k lane le =
    let noticed = (w.member k).noticed in
    record {
      asks = λ x here left.
          filter-In (λ y. stays k noticed y.from y.op) x w.asks (stays-left k noticed x.from x.op left) here;
      grants = λ x here left.
          filter-In (λ y. stays k noticed y.from y.op) x w.grants (stays-left k noticed x.from x.op left) here;
      acks = λ x here left.
          filter-In (λ y. stays k noticed y.from y.op) x w.acks (stays-left k noticed x.from x.op left) here;
      sents = λ x here. here;
      noticed = λ q. put-noticed w.member k (restarted lane) q le;
      member = λ q other. put-other k (restarted lane) w.member q other;
      role = λ q other. put-other k ModelRole.Follower w.role q other;
      done = λ q other. put-other k [] w.done q other;
    }

says-left : {k : ℕ} {w v : World} → OnlyRestarts k w v → (op : ℕ) (r : Rpc)
    → ((envelope r).from.0 ≡ k → op ≤ (w.member k).noticed) → Says w.asks w.grants w.acks w.sents op r
    → Says v.asks v.grants v.acks v.sents op r
says-left {w = w} g op (Vote m) left said =
    let is = said.is in
    record {
      item = said.item;
      here = g.asks said.item said.here (λ e. let le = left (sym is.from ∙ e) in omega (arith, le, is.op_is));
      is = is;
    }
says-left g op (Voted m) left said = λ granted.
    let x = said granted in
    let is = x.is in
    record {
      item = x.item;
      here = g.grants x.item x.here (λ e. let le = left (sym is.from ∙ e) in omega (arith, le, is.op_is));
      is = is;
    }
says-left g op (Append m) left said =
    record { item = said.item; here = g.sents said.item said.here; is = said.is }
says-left g op (Appended m) left said = λ ok.
    let x = said ok in
    let is = x.is in
    record {
      item = x.item;
      here = g.acks x.item x.here (λ e. let le = left (sym is.from ∙ e) in omega (arith, le, is.op_is));
      is = is;
    }
says-left g op (Install m) left said = tt
says-left g op (Installed m) left said = tt

pub way-left : {k : ℕ} {w v : World} {r : Rpc} → OnlyRestarts k w v → IsOnItsWay w r → IsOnItsWay v r
way-left {k = k} {w = w} {v = v} {r = r} g x =
    let le : x.op ≤ (w.member x.node).noticed = x.durable in
    let rises : (w.member x.node).noticed ≤ (v.member x.node).noticed = g.noticed x.node in
    record {
      node = x.node;
      op = x.op;
      said = record {
        from = x.said.from;
        says = says-left g x.op r (λ e.
            subst (λ (i : ℕ). x.op ≤ (w.member i).noticed) (sym x.said.from ∙ e) le) x.said.says;
      };
      durable = omega (arith, le, rises);
    }

elects-left : {k : ℕ} {w v : World} {t c q : ℕ} → OnlyRestarts k w v → Elects w t c q → Elects v t c q
elects-left {k} {w} {v} {t} {c} {q} g x =
    let le : x.grant.op ≤ (w.member q).noticed = x.durable in
    let rises : (w.member q).noticed ≤ (v.member q).noticed = g.noticed q in
    record {
      grant = x.grant;
      said = g.grants x.grant x.said (λ e.
          subst (λ (i : ℕ). x.grant.op ≤ (w.member i).noticed) (sym x.from ∙ e) le);
      from = x.from;
      to = x.to;
      term = x.term;
      durable = omega (arith, le, rises);
    }

matched-left : {k : ℕ} {w v : World} {t : ℕ} {p : Peer} → OnlyRestarts k w v → HasMatched w t p
    → HasMatched v t p
matched-left {k = k} {w = w} {v = v} g x =
    let le : x.ack.op ≤ (w.member x.ack.from).noticed = x.durable in
    let rises : (w.member x.ack.from).noticed ≤ (v.member x.ack.from).noticed = g.noticed x.ack.from in
    record {
      ack = x.ack;
      said = g.acks x.ack x.said (λ e. subst (λ (i : ℕ). x.ack.op ≤ (w.member i).noticed) e le);
      from = x.from;
      term_is = x.term_is;
      upto = x.upto;
      durable = omega (arith, le, rises);
    }

-- the others stand as they did
pub restart-others : {k q : ℕ} {w v : World} {s : Server} → OnlyRestarts k w v → (q ≡ k → ⊥) → Stands w q s
    → Stands v q s
restart-others {k} {q} {w} {v} {s} g other st = record {
  node = st.node;
  lane = ap (λ m. m.mine) (g.member q other) ∙ st.lane;
  noticed = ap (λ m. m.noticed) (g.member q other) ∙ st.noticed;
  role = g.role q other ∙ st.role;
  commit = ap length (g.done q other) ∙ st.commit;
  own_vote = λ is.
      let x = st.own_vote is in
      let own = x.is in
      record {
        item = x.item;
        here = g.grants x.item x.here (λ e. absurd (other (sym own.from ∙ e)));
        is = own;
      };
  votes = λ is p here granted. elects-left g (st.votes is p here granted);
  matches = λ is p here. elim (st.matches is p here) [ inl zero ↦ inl zero | inr x ↦ inr (matched-left g x) ];
  within = st.within;
  itself = λ is a e front own.
      let x = st.itself is a e front own in
      record {
        ack = x.ack;
        said = g.acks x.ack x.said (λ same. absurd (other (sym x.from ∙ same)));
        from = x.from;
        term_is = x.term_is;
        upto = x.upto;
        op_is = x.op_is;
      };
  waiting = λ x here.
      let said = st.waiting x here in
      record {
        from = said.from;
        says = says-left g x.op x.rpc (λ e. absurd (other (sym said.from ∙ e))) said.says;
      };
  out = λ r here. way-left g (st.out r here);
}

-- ---- the server itself

follower_asks : Follower ≡ Candidate → ⊥
follower_asks e = absurd cc

follower_leads : Follower ≡ Leader → ⊥
follower_leads e = absurd cc

pub restart-stands : (w : World) (k : ℕ) (node : NodeId) (nodes : List NodeId) (lane : DiskLane) → node.0 ≡ k
    → Stands (after w (Restart k (disk_lane lane))) k (restart node nodes lane)
unfolding restarted
restart-stands w k node nodes lane is =
    let m = restarted (disk_lane lane) in
    record {
      node = is;
      lane = ap (λ x. x.mine) (put-same k m w.member);
      noticed = ap (λ x. x.noticed) (put-same k m w.member);
      role = put-same k ModelRole.Follower w.role;
      commit = ap length (put-same {A = List Entry} k [] w.done);
      own_vote = λ e. absurd (follower_asks e);
      votes = λ e. absurd (follower_asks e);
      matches = λ e. absurd (follower_leads e);
      within = λ e. absurd (follower_leads e);
      itself = λ e. absurd (follower_leads e);
      waiting = λ x here. absurd here;
      out = λ r here. absurd here;
    }
