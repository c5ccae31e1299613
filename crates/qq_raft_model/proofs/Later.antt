-- What stays true of messages and of servers while others move.
use Rattle.std.proofs.Common.{◌≡◌, ℕ, ◌≤◌, List, length, refl, ap, ◌∙◌, arith, inl, inr}
use Rattle.qq_raft_protocol.specs.Facts.{In, Elects}
use Rattle.qq_raft_protocol.specs.World.{World}
use Rattle.qq_raft_msg.specs.declared.rpc.Rpc.{Rpc}
use Rattle.qq_raft_msg.specs.declared.rpc.Rpc.TheVariants.{Vote, Voted, Append, Appended, Install, Installed}
use Rattle.qq_raft_model.specs.declared.peer.Peer.{Peer}
use Rattle.qq_raft_model.specs.State.{Server}
use Rattle.qq_raft_model.specs.Refines.{There, Says, IsSaid, IsOnItsWay, HasMatched, AcksItself, Stands, Later, OnlyMoves}

pub later-refl : (w : World) → Later w w
later-refl w = record {
  asks = λ x here. here;
  grants = λ x here. here;
  acks = λ x here. here;
  sents = λ x here. here;
  noticed = λ q. omega arith;
}

pub later-trans : {u v w : World} → Later u v → Later v w → Later u w
later-trans f g = record {
  asks = λ x here. g.asks x (f.asks x here);
  grants = λ x here. g.grants x (f.grants x here);
  acks = λ x here. g.acks x (f.acks x here);
  sents = λ x here. g.sents x (f.sents x here);
  noticed = λ q. omega (arith, f.noticed q, g.noticed q);
}

pub only-refl : (k : ℕ) (w : World) → OnlyMoves k w w
only-refl k w = record {
  later = later-refl w;
  lanes = λ l here le. here;
  member = λ q other. refl;
  role = λ q other. refl;
  done = λ q other. refl;
}

pub only-trans : {k : ℕ} {u v w : World} → OnlyMoves k u v → OnlyMoves k v w → OnlyMoves k u w
only-trans {k = k} f g = record {
  later = later-trans f.later g.later;
  lanes = λ l here le. g.lanes l (f.lanes l here (omega (arith, g.later.noticed k, le))) le;
  member = λ q other. g.member q other ∙ f.member q other;
  role = λ q other. g.role q other ∙ f.role q other;
  done = λ q other. g.done q other ∙ f.done q other;
}

pub there-later : {A : Type 0} {xs ys : List A} {P : A → Type 0} → ((x : A) → In x xs → In x ys) → There xs P
    → There ys P
there-later stays t = record { item = t.item; here = stays t.item t.here; is = t.is }

says-later : {w v : World} → Later w v → (op : ℕ) (r : Rpc) → Says w.asks w.grants w.acks w.sents op r
    → Says v.asks v.grants v.acks v.sents op r
says-later g op (Vote m) said = there-later g.asks said
says-later g op (Voted m) said = λ granted. there-later g.grants (said granted)
says-later g op (Append m) said = there-later g.sents said
says-later g op (Appended m) said = λ ok. there-later g.acks (said ok)
says-later g op (Install m) said = tt
says-later g op (Installed m) said = tt

pub said-later : {w v : World} {node op : ℕ} {r : Rpc} → Later w v → IsSaid w node op r → IsSaid v node op r
said-later {op = op} {r = r} g s = record { from = s.from; says = says-later g op r s.says }

pub way-later : {w v : World} {r : Rpc} → Later w v → IsOnItsWay w r → IsOnItsWay v r
way-later {w = w} {v = v} g x =
    let le : x.op ≤ (w.member x.node).noticed = x.durable in
    let rises : (w.member x.node).noticed ≤ (v.member x.node).noticed = g.noticed x.node in
    record { node = x.node; op = x.op; said = said-later g x.said; durable = omega (arith, le, rises) }

pub elects-later : {w v : World} {t c q : ℕ} → Later w v → Elects w t c q → Elects v t c q
elects-later {w} {v} {t} {c} {q} g x =
    let le : x.grant.op ≤ (w.member q).noticed = x.durable in
    let rises : (w.member q).noticed ≤ (v.member q).noticed = g.noticed q in
    record {
      grant = x.grant;
      said = g.grants x.grant x.said;
      from = x.from;
      to = x.to;
      term = x.term;
      durable = omega (arith, le, rises);
    }

pub matched-later : {w v : World} {t : ℕ} {p : Peer} → Later w v → HasMatched w t p → HasMatched v t p
matched-later {w = w} {v = v} g x =
    let le : x.ack.op ≤ (w.member x.ack.from).noticed = x.durable in
    let rises : (w.member x.ack.from).noticed ≤ (v.member x.ack.from).noticed = g.noticed x.ack.from in
    record {
      ack = x.ack;
      said = g.acks x.ack x.said;
      from = x.from;
      term_is = x.term_is;
      upto = x.upto;
      durable = omega (arith, le, rises);
    }

pub itself-later : {w v : World} {k : ℕ} (s : Server) → Later w v → AcksItself w.acks k s → AcksItself v.acks k s
itself-later s g itself = λ a e front own.
    let x = itself a e front own in
    record {
      ack = x.ack;
      said = g.acks x.ack x.said;
      from = x.from;
      term_is = x.term_is;
      upto = x.upto;
      op_is = x.op_is;
    }

-- a server whose member is as it was
pub stands-later : {w v : World} {q : ℕ} {s : Server} → Later w v → v.member q ≡ w.member q → v.role q ≡ w.role q
    → v.done q ≡ w.done q → Stands w q s → Stands v q s
stands-later {s = s} g member role done st = record {
  node = st.node;
  lane = ap (λ m. m.mine) member ∙ st.lane;
  noticed = ap (λ m. m.noticed) member ∙ st.noticed;
  role = role ∙ st.role;
  commit = ap length done ∙ st.commit;
  own_vote = λ is. there-later g.grants (st.own_vote is);
  votes = λ is p here granted. elects-later g (st.votes is p here granted);
  matches = λ is p here. elim (st.matches is p here) [ inl zero ↦ inl zero | inr x ↦ inr (matched-later g x) ];
  within = st.within;
  itself = λ is. itself-later s g (st.itself is);
  waiting = λ x here. said-later g (st.waiting x here);
  out = λ r here. way-later g (st.out r here);
}

pub others-stand : {w v : World} {k q : ℕ} {s : Server} → OnlyMoves k w v → (q ≡ k → ⊥) → Stands w q s
    → Stands v q s
others-stand {q = q} only other =
    stands-later only.later (only.member q other) (only.role q other) (only.done q other)
