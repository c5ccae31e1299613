-- A server notices what is durable, and a server that crashed restarts with a lane that its disk may hold.
use Rattle.std.proofs.Common.{◌≡◌, ℕ, ◌≤◌, ◌<◌, Bool, true, List, [], ◌∷◌, Some, refl, sym, subst, ◌∙◌, arith, inl, inr}
use Rattle.std.specs.Prelude.{filter, nat_le}
use Rattle.std.proofs.lemmas.Bool.{cases_eq, eq-eqb, ne_eqb, leb-true, le-leb}
use Rattle.qq_base.specs.Fronts.{IsFront, put}
use Rattle.qq_base.proofs.Fronts.{front-refl, front-nil}
use Rattle.qq_base.proofs.Puts.{put-each, put-same, put-other}
use Rattle.qq_raft_protocol.specs.World.{Lane, Member, Ask, Grant, Ack, World, lanes, opened}
use Rattle.qq_raft_protocol.specs.World.Role.{Follower, Candidate, Leader}
use Rattle.qq_raft_protocol.specs.Facts.{In, Within, Good}
use Rattle.qq_raft_protocol.specs.Moves.{stays, after, Allowed}
use Rattle.qq_raft_protocol.specs.Moves.Move.{Notice, Restart}
use Rattle.qq_raft_protocol.specs.Safe.{HasVoted}
use Rattle.qq_raft_protocol.proofs.Grows.{Below, Grows, holds-grows, settled-grows, won-grows}
use Rattle.qq_raft_protocol.proofs.Kept.{Kept, AskKept, GrantKept, IsAsked, LeaderKept, CandidateKept, DoneKept, AckKept, Has, ack_grows, sent_grows, done_grows}
use Rattle.qq_raft_protocol.proofs.Lists.{In-filter, filter-In}
use Rattle.qq_raft_protocol.proofs.Roles.{follower_leads, follower_asks}

-- ---- a server notices

pub kept-notice : {members : List ℕ} {w : World} (i op : ℕ) → Kept members w → Allowed members w (Notice i op)
    → Kept members (after w (Notice i op))
kept-notice {members} {w} i op k may =
    let m = w.member i in
    let rises : m.noticed ≤ op = may.0 in
    let own : op ≤ m.mine.op = may.1 in
    let passes : Lane → Bool = λ l. nat_le op l.op in
    let n : Member = record { mine = m.mine; older = filter passes m.older; noticed = op } in
    let fewer : (l : Lane) → In l (lanes n) → In l (lanes m) =
    λ l here. elim here [ inl same ↦ inl same | inr before ↦ inr (In-filter passes l m.older before).0 ] in
    let v = after w (Notice i op) in
    let noticed : (q : ℕ) → (w.member q).noticed ≤ (v.member q).noticed =
    put-each (λ q x. (w.member q).noticed ≤ x.noticed) i n w.member rises (λ q other. omega arith) in
    let g : Grows w v = record {
      lane =
          put-each (λ q x. (l : Lane) → In l (lanes x) → Below (lanes (w.member q)) l.term) i n w.member
          (λ l here. record { lane = l; here = fewer l here; term = omega arith })
          (λ q other l here. record { lane = l; here = here; term = omega arith });
      acks = λ x said. inl said;
      stored = λ x said le. (said, let up = noticed x.from in omega (arith, le, up));
      votes = λ x said le. (said, let up = noticed x.from in omega (arith, le, up));
      hist = λ t. front-refl (w.hist t);
    } in
    record {
      noticed =
          put-each (λ q x. (l : Lane) → In l (lanes x) → x.noticed ≤ l.op) i n w.member
          (λ l here. elim here [
            | inl same ↦ subst (λ (x : Lane). op ≤ x.op) (sym same) own
            | inr before ↦ leb-true op l.op (In-filter passes l m.older before).1
          ])
          (λ q other. k.noticed q);
      older =
          put-each (λ q x. (l : Lane) → In l x.older → l.op < x.mine.op) i n w.member
          (λ l here. k.older i l (In-filter passes l m.older here).0) (λ q other. k.older q);
      good =
          put-each (λ q x. (l : Lane) → In l (lanes x) → Good w l.log) i n w.member
          (λ l here. k.good i l (fewer l here)) (λ q other. k.good q);
      within =
          put-each (λ q x. (l : Lane) → In l (lanes x) → Within l.term l.log) i n w.member
          (λ l here. k.within i l (fewer l here)) (λ q other. k.within q);
      hist_good = k.hist_good;
      hist_within = k.hist_within;
      unled = k.unled;
      won = λ t c lead. won-grows g (k.won t c lead);
      led = λ q t lead.
          put-each (λ q x. w.lead t ≡ Some q → (l : Lane) → In l (lanes x) → t ≤ l.term) i n w.member
          (λ lead l here. k.led i t lead l (fewer l here)) (λ q other lead. k.led q t lead) q lead;
      safe = λ t c lead a e p lt. holds-grows g (k.safe t c lead a e p lt);
      ask_good = k.ask_good;
      ask = λ q x said.
          put-each (λ q y. x.from ≡ q → AskKept x y) i n w.member
          (λ from.
          let kept = k.ask i x said from in
          record { op = kept.op; each = λ l here. kept.each l (fewer l here) })
          (λ q other. k.ask q x said) q;
      grant = λ q x said.
          put-each (λ q y. x.from ≡ q → GrantKept x y) i n w.member
          (λ from.
          let kept = k.grant i x said from in
          record { op = kept.op; each = λ l here. kept.each l (fewer l here) })
          (λ q other. k.grant q x said) q;
      asked = λ q x said.
          put-each (λ q y. x.to ≡ q → IsAsked x y) i n w.member
          (λ to. elim (k.asked i x said to) [
            | inl own ↦ inl own
            | inr each ↦ inr (λ l here. each l (fewer l here))
          ])
          (λ q other. k.asked q x said) q;
      once = k.once;
      vote = λ x said a e p lt acked. holds-grows g (k.vote x said a e p lt acked);
      leader =
          put-each (λ q x. w.role q ≡ Leader → LeaderKept w.lead w.hist q x) i n w.member
          (λ is. let l = k.leader i is in record { leads = l.leads; log = l.log }) (λ q other. k.leader q);
      candidate =
          put-each (λ q x. w.role q ≡ Candidate → CandidateKept w.lead w.asks w.grants q x) i n w.member
          (λ is. let c = k.candidate i is in record { other = c.other; asked = c.asked; given = c.given })
          (λ q other. k.candidate q);
      sent = λ s said. let kept = k.sent s said in sent_grows g kept.lead kept;
      ack = λ q x said.
          put-each (λ q y. x.from ≡ q → AckKept members v x y) i n w.member
          (λ from.
          let kept = ack_grows g (λ a e same lt p. p) (k.ack i x said from) in
          record { upto = kept.upto; op = kept.op; each = λ l here. kept.each l (fewer l here) })
          (λ q other from. ack_grows g (λ a e same lt p. p) (k.ack q x said from)) q;
      done =
          put-each (λ q x. DoneKept members v x (w.done q)) i n w.member
          (record { front = (k.done i).front; settled = settled-grows g (k.done i).settled })
          (λ q other. done_grows g (k.done q));
      audit_term = k.audit_term;
      audit = settled-grows g k.audit;
      dones = k.dones;
    }

-- ---- a server restarts

-- what a member could say stays where it was durable
stays_by : (i noticed from op : ℕ) → (from ≡ i → op ≤ noticed) → stays i noticed from op ≡ true
stays_by i noticed from op durable = elim (cases_eq from i) [
  | inl same ↦ rw (eq-eqb from i same, le-leb op noticed (durable same)) refl
  | inr other ↦ rw (ne_eqb from i other) refl
]

stays_durable : (i noticed from op : ℕ) → stays i noticed from op ≡ true → from ≡ i → op ≤ noticed
stays_durable i noticed from op e same =
    leb-true op noticed (sym (rw (eq-eqb from i same) refl) ∙ e)

-- the one lane that is left
alone : (P : Lane → Type 0) (lane : Lane) → P lane → (l : Lane) → In l (lane ∷ []) → P l
alone P lane own l here = elim here [ inl same ↦ subst P (sym same) own | inr before ↦ absurd before ]

pub kept-restart : {members : List ℕ} {w : World} (i : ℕ) (lane : Lane) → Kept members w
    → Allowed members w (Restart i lane) → Kept members (after w (Restart i lane))
kept-restart {members} {w} i lane k may =
    let m = w.member i in
    let n = opened lane in
    let v = after w (Restart i lane) in
    let durable : m.noticed ≤ lane.op = k.noticed i lane may in
    let noticed : (q : ℕ) → (w.member q).noticed ≤ (v.member q).noticed =
    put-each (λ q x. (w.member q).noticed ≤ x.noticed) i n w.member durable (λ q other. omega arith) in
    let at_i : (from op : ℕ) → op ≤ (w.member from).noticed → from ≡ i → op ≤ m.noticed =
    λ from op le same. subst (λ (j : ℕ). op ≤ (w.member j).noticed) same le in
    let g : Grows w v = record {
      lane =
          put-each (λ q x. (l : Lane) → In l (lanes x) → Below (lanes (w.member q)) l.term) i n w.member
          (alone (λ l. Below (lanes m) l.term) lane (record { lane = lane; here = may; term = omega arith }))
          (λ q other l here. record { lane = l; here = here; term = omega arith });
      acks = λ x said. inl (In-filter (λ x. stays i m.noticed x.from x.op) x w.acks said).0;
      stored = λ x said le. (
        filter-In (λ x. stays i m.noticed x.from x.op) x w.acks
            (stays_by i m.noticed x.from x.op (at_i x.from x.op le)) said,
        let up = noticed x.from in omega (arith, le, up),
      );
      votes = λ x said le. (
        filter-In (λ x. stays i m.noticed x.from x.op) x w.grants
            (stays_by i m.noticed x.from x.op (at_i x.from x.op le)) said,
        let up = noticed x.from in omega (arith, le, up),
      );
      hist = λ t. front-refl (w.hist t);
    } in
    let ask_in : (x : Ask) → In x v.asks → In x w.asks × (x.from ≡ i → x.op ≤ m.noticed) =
    λ x said.
    let r = In-filter (λ x. stays i m.noticed x.from x.op) x w.asks said in
    (r.0, stays_durable i m.noticed x.from x.op r.1) in
    let grant_in : (x : Grant) → In x v.grants → In x w.grants × (x.from ≡ i → x.op ≤ m.noticed) =
    λ x said.
    let r = In-filter (λ x. stays i m.noticed x.from x.op) x w.grants said in
    (r.0, stays_durable i m.noticed x.from x.op r.1) in
    let ack_in : (x : Ack) → In x v.acks → In x w.acks × (x.from ≡ i → x.op ≤ m.noticed) =
    λ x said.
    let r = In-filter (λ x. stays i m.noticed x.from x.op) x w.acks said in
    (r.0, stays_durable i m.noticed x.from x.op r.1) in
    record {
      noticed =
          put-each (λ q x. (l : Lane) → In l (lanes x) → x.noticed ≤ l.op) i n w.member
          (alone (λ l. lane.op ≤ l.op) lane (omega arith)) (λ q other. k.noticed q);
      older =
          put-each (λ q x. (l : Lane) → In l x.older → l.op < x.mine.op) i n w.member (λ l here. absurd here)
          (λ q other. k.older q);
      good =
          put-each (λ q x. (l : Lane) → In l (lanes x) → Good w l.log) i n w.member
          (alone (λ l. Good w l.log) lane (k.good i lane may)) (λ q other. k.good q);
      within =
          put-each (λ q x. (l : Lane) → In l (lanes x) → Within l.term l.log) i n w.member
          (alone (λ l. Within l.term l.log) lane (k.within i lane may)) (λ q other. k.within q);
      hist_good = k.hist_good;
      hist_within = k.hist_within;
      unled = k.unled;
      won = λ t c lead. won-grows g (k.won t c lead);
      led = λ q t lead.
          put-each (λ q x. w.lead t ≡ Some q → (l : Lane) → In l (lanes x) → t ≤ l.term) i n w.member
          (λ lead. alone (λ l. t ≤ l.term) lane (k.led i t lead lane may)) (λ q other lead. k.led q t lead) q lead;
      safe = λ t c lead a e p lt. holds-grows g (k.safe t c lead a e p lt);
      ask_good = λ x said. k.ask_good x (ask_in x said).0;
      ask = λ q x said.
          let is = ask_in x said in
          put-each (λ q y. x.from ≡ q → AskKept x y) i n w.member
          (λ from.
          let kept = k.ask i x is.0 from in
          let le : x.op ≤ m.noticed = is.1 from in
          record {
            op = omega (arith, le, durable);
            each =
                alone (λ l. x.op ≤ l.op → x.term ≤ l.term) lane
                (λ reach. kept.each lane may reach);
          })
          (λ q other. k.ask q x is.0) q;
      grant = λ q x said.
          let is = grant_in x said in
          put-each (λ q y. x.from ≡ q → GrantKept x y) i n w.member
          (λ from.
          let kept = k.grant i x is.0 from in
          let le : x.op ≤ m.noticed = is.1 from in
          record {
            op = omega (arith, le, durable);
            each =
                alone (λ l. x.op ≤ l.op → HasVoted x.term x.to l) lane
                (λ reach. kept.each lane may reach);
          })
          (λ q other. k.grant q x is.0) q;
      asked = λ q x said.
          let is = grant_in x said in
          put-each (λ q y. x.to ≡ q → IsAsked x y) i n w.member
          (λ to. elim (k.asked i x is.0 to) [
            | inl own ↦ inl own
            | inr each ↦ inr (alone (λ l. x.term ≤ l.term) lane (each lane may))
          ])
          (λ q other. k.asked q x is.0) q;
      once = λ x y first second. k.once x y (grant_in x first).0 (grant_in y second).0;
      vote = λ x said a e p lt acked.
          holds-grows g (k.vote x (grant_in x said).0 a e p lt (record {
            ack = acked.ack;
            said = (ack_in acked.ack acked.said).0;
            from = acked.from;
            term = acked.term;
            reaches = acked.reaches;
          }));
      leader =
          put-each (λ q x. put i Follower w.role q ≡ Leader → LeaderKept w.lead w.hist q x) i n w.member
          (λ is. absurd (follower_leads (sym (put-same i Follower w.role) ∙ is)))
          (λ q other is. k.leader q (sym (put-other i Follower w.role q other) ∙ is));
      candidate =
          put-each (λ q x. put i Follower w.role q ≡ Candidate → CandidateKept w.lead v.asks v.grants q x) i n w.member
          (λ is. absurd (follower_asks (sym (put-same i Follower w.role) ∙ is)))
          (λ q other is.
          let c = k.candidate q (sym (put-other i Follower w.role q other) ∙ is) in
          record {
            other = c.other;
            asked = λ x said. c.asked x (ask_in x said).0;
            given = λ x said. c.given x (grant_in x said).0;
          });
      sent = λ s said. let kept = k.sent s said in sent_grows g kept.lead kept;
      ack = λ q x said.
          let is = ack_in x said in
          put-each (λ q y. x.from ≡ q → AckKept members v x y) i n w.member
          (λ from.
          let kept = ack_grows g (λ a e same lt p. p) (k.ack i x is.0 from) in
          let le : x.op ≤ m.noticed = is.1 from in
          record {
            upto = kept.upto;
            op = omega (arith, le, durable);
            each = alone (λ l. x.op ≤ l.op → Has members v x l) lane (λ reach. kept.each lane may reach);
          })
          (λ q other from. ack_grows g (λ a e same lt p. p) (k.ack q x is.0 from)) q;
      done =
          put-each (λ q x. DoneKept members v x (put i [] w.done q)) i n w.member
          (subst (DoneKept members v n) (sym (put-same i [] w.done))
          (record { front = front-nil lane.log; settled = inl refl }))
          (λ q other.
          subst (DoneKept members v (w.member q)) (sym (put-other i [] w.done q other)) (done_grows g (k.done q)));
      audit_term = k.audit_term;
      audit = settled-grows g k.audit;
      dones = put-each (λ q d. IsFront d w.audit) i [] w.done (front-nil w.audit) (λ q other. k.dones q);
    }
