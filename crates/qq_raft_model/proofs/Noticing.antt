-- A follower notices that its changes are durable, and what waited for them leaves.
use Rattle.std.proofs.Common.{◌≡◌, ℕ, ◌≤◌, Bool, true, false, cond, eqb, ltb, leb, List, [], ◌∷◌, filter, refl, sym, ap, subst, ◌∙◌, arith, inl, inr}
use Rattle.std.proofs.lemmas.Bool.{cond_both, ltb-true, leb-true, le-leb, eqb-true}
use Rattle.qq_base.specs.Fronts.{put}
use Rattle.qq_base.proofs.Puts.{put-same, put-other}
use Rattle.qq_raft_protocol.specs.Facts.{In}
use Rattle.qq_raft_protocol.specs.Moves.{after}
use Rattle.qq_raft_protocol.specs.Moves.Move.{Notice}
use Rattle.qq_raft_protocol.specs.World.{Lane, Member, World, lanes}
use Rattle.qq_raft_protocol.proofs.Lists.{In-append, filter-In}
use Rattle.qq_raft_msg.specs.declared.rpc.Rpc.{Rpc}
use Rattle.qq_raft_model.specs.declared.peer.Waiting.{Waiting}
use Rattle.qq_raft_model.specs.State.{Server}
use Rattle.qq_raft_model.specs.Server.{greater, free, still_waiting, take_notice}
use Rattle.qq_raft_model.specs.Refines.{IsOnItsWay, Stands, OnlyMoves, Refines}
use Rattle.qq_raft_model.proofs.Later.{there-later, said-later, way-later, elects-later, matched-later}

pub greater_le : (a b : ℕ) → a ≤ greater a b
greater_le a b =
    cond_both (ltb a b) b a (λ n. a ≤ n) (λ e. let lt = ltb-true a b e in omega (arith, lt)) (λ _. omega arith)

pub greater_most : (a b c : ℕ) → a ≤ c → b ≤ c → greater a b ≤ c
greater_most a b c p q = cond_both (ltb a b) b a (λ n. n ≤ c) (λ _. q) (λ _. p)

-- ---- the move

noticed_by : (f : ℕ → Member) (k : ℕ) (x : Member) (q : ℕ) (b : Bool) → eqb q k ≡ b → (f k).noticed ≤ x.noticed
    → (f q).noticed ≤ (cond b x (f q)).noticed
noticed_by f k x q true e le =
    let same : (f q).noticed ≡ (f k).noticed = ap (λ i. (f i).noticed) (eqb-true q k e) in
    omega (arith, le, same)
noticed_by f k x q false e le = omega arith

pub put-noticed : (f : ℕ → Member) (k : ℕ) (x : Member) (q : ℕ) → (f k).noticed ≤ x.noticed
    → (f q).noticed ≤ (put k x f q).noticed
unfolding put
put-noticed f k x q le = noticed_by f k x q (eqb q k) refl le

after_notice : World → ℕ → ℕ → Member
after_notice w k op =
    let m = w.member k in
    record { mine = m.mine; older = filter (λ l. leb op l.op) m.older; noticed = op }

-- what isn't older than what is noticed the disk may hold still
noticed-lanes : (w : World) (k op : ℕ) (l : Lane) → In l (lanes (w.member k))
    → ((after w (Notice k op)).member k).noticed ≤ l.op → In l (lanes ((after w (Notice k op)).member k))
unfolding after_notice
noticed-lanes w k op l here le =
    let v = after w (Notice k op) in
    let same : v.member k ≡ after_notice w k op = put-same k (after_notice w k op) w.member in
    let now : (v.member k).noticed ≡ op = ap (λ (m : Member). m.noticed) same in
    let late : op ≤ l.op = omega (arith, le, now) in
    subst (λ (m : Member). In l (lanes m)) (sym same) (elim here [
      | inl newest ↦ inl newest
      | inr old ↦ inr (filter-In (λ y. leb op y.op) l (w.member k).older (le-leb op l.op late) old)
    ])

pub notice-only : (w : World) (k op : ℕ) → (w.member k).noticed ≤ op → OnlyMoves k w (after w (Notice k op))
unfolding after_notice
notice-only w k op le =
    record {
      later = record {
        asks = λ x here. here;
        grants = λ x here. here;
        acks = λ x here. here;
        sents = λ x here. here;
        noticed = λ q. put-noticed w.member k (after_notice w k op) q le;
      };
      lanes = noticed-lanes w k op;
      member = λ q other. put-other k (after_notice w k op) w.member q other;
      role = λ q other. refl;
      done = λ q other. refl;
    }

-- ---- what is freed

record Freed (op : ℕ) (ws : List Waiting) (r : Rpc) : Type 0 where
  item : Waiting
  here : In item ws
  le : item.op ≤ op
  is : r ≡ item.rpc

free-is : (op : ℕ) (ws : List Waiting) (r : Rpc) → In r (free op ws) → Freed op ws r
free-is op [] r here = absurd here
free-is op (x ∷ xs) r here =
    cond_both (leb x.op op) (x.rpc ∷ free op xs) [] (λ rs. In r rs → Freed op (x ∷ xs) r)
    (λ e there. elim there [
      | inl same ↦ record { item = x; here = inl refl; le = leb-true x.op op e; is = same }
      | inr later ↦
          let f = free-is op xs r later in
          record { item = f.item; here = inr f.here; le = f.le; is = f.is }
    ]) (λ _ there. absurd there) here

still-in : (op : ℕ) (ws : List Waiting) (x : Waiting) → In x (still_waiting op ws) → In x ws
still-in op [] x here = absurd here
still-in op (y ∷ ys) x here =
    cond_both (leb y.op op) (still_waiting op ys) (y ∷ ys) (λ zs. In x zs → In x (y ∷ ys))
    (λ _ there. inr (still-in op ys x there)) (λ _ there. there) here

pub take-stands : {w : World} {k : ℕ} {s : Server} (op : ℕ) → Stands w k s → s.noticed ≤ op
    → Stands (after w (Notice k op)) k (take_notice op s)
unfolding after_notice
take-stands {w = w} {k = k} {s = s} op st rises =
    let v = after w (Notice k op) in
    let same : (w.member k).noticed ≡ s.noticed = st.noticed in
    let g = (notice-only w k op (omega (arith, same, rises))).later in
    let now : (v.member k).noticed ≡ op = ap (λ x. x.noticed) (put-same k (after_notice w k op) w.member) in
    record {
      node = st.node;
      lane = ap (λ x. x.mine) (put-same k (after_notice w k op) w.member) ∙ st.lane;
      noticed = now;
      role = st.role;
      commit = st.commit;
      own_vote = λ is. there-later g.grants (st.own_vote is);
      votes = λ is p here granted. elects-later g (st.votes is p here granted);
      matches = λ is p here. elim (st.matches is p here) [ inl zero ↦ inl zero | inr x ↦ inr (matched-later g x) ];
      within = st.within;
      itself = st.itself;
      waiting = λ x here. said-later g (st.waiting x (still-in op s.waiting x here));
      out = λ r here. elim (In-append r s.out (free op s.waiting) here) [
        | inl old ↦ way-later g (st.out r old)
        | inr new ↦
            let f = free-is op s.waiting r new in
            let le = f.le in
            subst (IsOnItsWay v) (sym f.is) (record {
              node = k;
              op = f.item.op;
              said = said-later g (st.waiting f.item f.here);
              durable = omega (arith, le, now);
            })
      ];
    }

pub take-refines : {members : List ℕ} {w : World} {k : ℕ} {s : Server} (n : ℕ) → Stands w k s → s.noticed ≤ n
    → n ≤ s.op → Refines members w k (take_notice n s)
take-refines {members} {w} {k} {s} n st rises le =
    let same : (w.member k).noticed ≡ s.noticed = st.noticed in
    let mine : (w.member k).mine.op ≡ s.op = ap (λ (l : Lane). l.op) st.lane in
    record {
      moves = Notice k n ∷ [];
      allowed = ((omega (arith, same, rises), omega (arith, mine, le)), tt);
      quiet = (tt, tt);
      stands = take-stands n st rises;
      only = notice-only w k n (omega (arith, same, rises));
    }
