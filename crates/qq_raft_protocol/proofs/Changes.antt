-- What a member's next change keeps.
use Rattle.std.proofs.Common.{◌≡◌, ◌⊎◌, ℕ, ◌+◌, ◌≤◌, ◌<◌, List, ◌∷◌, Some, None, refl, sym, ap, subst, ◌∙◌, arith, inl, inr}
use Rattle.std.proofs.lemmas.Bool.{cases_lt}
use Rattle.qq_base.specs.Fronts.{IsFront, put}
use Rattle.qq_base.proofs.Puts.{put-each}
use Rattle.qq_entry.specs.declared.command.Entry.{Entry}
use Rattle.qq_raft_protocol.specs.World.{Lane, Member, Ask, Grant, Ack, World, lanes}
use Rattle.qq_raft_protocol.specs.Facts.{In, Point, Holds}
use Rattle.qq_raft_protocol.specs.Moves.{push}
use Rattle.qq_raft_protocol.specs.Safe.{IsLaneOf, HasVoted}
use Rattle.qq_raft_protocol.proofs.Grows.{Below, Grows}
use Rattle.qq_raft_protocol.proofs.Kept.{Kept, AskKept, GrantKept, IsAsked, Has, AckKept}
use Rattle.qq_raft_protocol.proofs.Roles.{none_some}

-- a lane that follows another: terms rise, and a vote stays
pub record Follows (own lane : Lane) : Type 0 where
  pub op : lane.op ≡ own.op + 1
  pub term : own.term ≤ lane.term
  pub vote : own.term ≡ lane.term → (own.vote ≡ lane.vote) ⊎ (own.vote ≡ None)

-- the members after a member's change
abbrev pub pushed : World → ℕ → Lane → ℕ → Member
pushed w i lane = put i (push (w.member i) lane) w.member

-- what holds of the new lane and of all old ones
of_lanes : {own lane : Lane} (older : List Lane) (P : Lane → Type 0) → P lane
    → ((l : Lane) → In l (own ∷ older) → P l) → (l : Lane) → In l (lane ∷ own ∷ older) → P l
of_lanes older P new old l here = elim here [ inl same ↦ subst P (sym same) new | inr before ↦ old l before ]

pub push-each : (w : World) (P : ℕ → Lane → Type 0) (i : ℕ) (lane : Lane) → P i lane
    → ((q : ℕ) (l : Lane) → IsLaneOf w q l → P q l) → (q : ℕ) (l : Lane) → In l (lanes (pushed w i lane q)) → P q l
push-each w P i lane new old =
    put-each (λ q m. (l : Lane) → In l (lanes m) → P q l) i (push (w.member i) lane) w.member
    (of_lanes (w.member i).older (P i) new (old i)) (λ q other. old q)

pub push-noticed_same : (w : World) (i : ℕ) (lane : Lane) (q : ℕ)
    → (pushed w i lane q).noticed ≡ (w.member q).noticed
push-noticed_same w i lane =
    put-each (λ q m. m.noticed ≡ (w.member q).noticed) i (push (w.member i) lane) w.member refl (λ q other. refl)

pub push-noticed : {members : List ℕ} {w : World} (i : ℕ) (lane : Lane) → Kept members w
    → Follows (w.member i).mine lane → (q : ℕ) (l : Lane) → In l (lanes (pushed w i lane q))
    → (pushed w i lane q).noticed ≤ l.op
push-noticed {members} {w} i lane k f =
    let op : lane.op ≡ (w.member i).mine.op + 1 = f.op in
    let le : (w.member i).noticed ≤ (w.member i).mine.op = k.noticed i (w.member i).mine (inl refl) in
    put-each (λ q m. (l : Lane) → In l (lanes m) → m.noticed ≤ l.op) i (push (w.member i) lane) w.member
    (of_lanes (w.member i).older (λ l. (w.member i).noticed ≤ l.op) (omega (arith, op, le)) (k.noticed i)) (λ q other. k.noticed q)

pub push-older : {members : List ℕ} {w : World} (i : ℕ) (lane : Lane) → Kept members w
    → Follows (w.member i).mine lane → (q : ℕ) (l : Lane) → In l (pushed w i lane q).older
    → l.op < (pushed w i lane q).mine.op
push-older {members} {w} i lane k f =
    let op : lane.op ≡ (w.member i).mine.op + 1 = f.op in
    put-each (λ q m. (l : Lane) → In l m.older → l.op < m.mine.op) i (push (w.member i) lane) w.member
    (λ l here. elim here [
      | inl same ↦ subst (λ (x : Lane). x.op < lane.op) (sym same) (omega (arith, op))
      | inr before ↦ let lt = k.older i l before in omega (arith, op, lt)
    ]) (λ q other. k.older q)

pub push-led : {members : List ℕ} {w : World} (i : ℕ) (lane : Lane) → Kept members w
    → Follows (w.member i).mine lane → (q t : ℕ) → w.lead t ≡ Some q → (l : Lane)
    → In l (lanes (pushed w i lane q)) → t ≤ l.term
push-led {members} {w} i lane k f q t lead l here =
    push-each w (λ q l. w.lead t ≡ Some q → t ≤ l.term) i lane
    (λ own. let le = k.led i t own (w.member i).mine (inl refl) in let rises = f.term in omega (arith, le, rises))
    (λ q l here own. k.led q t own l here) q l here lead

pub push-ask : {members : List ℕ} {w : World} (i : ℕ) (lane : Lane) → Kept members w
    → Follows (w.member i).mine lane → (q : ℕ) (x : Ask) → In x w.asks → x.from ≡ q → AskKept x (pushed w i lane q)
push-ask {members} {w} i lane k f q x said =
    let op : lane.op ≡ (w.member i).mine.op + 1 = f.op in
    let rises : (w.member i).mine.term ≤ lane.term = f.term in
    put-each (λ q m. x.from ≡ q → AskKept x m) i (push (w.member i) lane) w.member
    (λ from.
    let kept = k.ask i x said from in
    let le : x.op ≤ (w.member i).mine.op = kept.op in
    let term : x.term ≤ (w.member i).mine.term = kept.each (w.member i).mine (inl refl) kept.op in
    record {
      op = omega (arith, le, op);
      each = of_lanes (w.member i).older (λ l. x.op ≤ l.op → x.term ≤ l.term) (λ reach. omega (arith, term, rises)) kept.each;
    })
    (λ q other. k.ask q x said) q

-- a vote stays on the next lane
voted_next : {own lane : Lane} (t c : ℕ) → Follows own lane → HasVoted t c own → HasVoted t c lane
voted_next {own} {lane} t c f voted = elim voted [
  | inl lt ↦ let rises : own.term ≤ lane.term = f.term in inl (omega (arith, lt, rises))
  | inr same ↦
      let at : own.term ≡ t = same.0 in
      let rises : own.term ≤ lane.term = f.term in
      elim (cases_lt own.term lane.term) [
        | inl lt ↦ inl (omega (arith, at, lt))
        | inr le ↦
            let level : own.term ≡ lane.term = omega (arith, le, rises) in
            elim (f.vote level) [
              | inl stays ↦ inr (sym level ∙ at, sym stays ∙ same.1)
              | inr nobody ↦ absurd (none_some own.vote c nobody same.1)
            ]
      ]
]

pub push-grant : {members : List ℕ} {w : World} (i : ℕ) (lane : Lane) → Kept members w
    → Follows (w.member i).mine lane → (q : ℕ) (g : Grant) → In g w.grants → g.from ≡ q
    → GrantKept g (pushed w i lane q)
push-grant {members} {w} i lane k f q g said =
    let op : lane.op ≡ (w.member i).mine.op + 1 = f.op in
    put-each (λ q m. g.from ≡ q → GrantKept g m) i (push (w.member i) lane) w.member
    (λ from.
    let kept = k.grant i g said from in
    let le : g.op ≤ (w.member i).mine.op = kept.op in
    let voted = kept.each (w.member i).mine (inl refl) kept.op in
    record {
      op = omega (arith, le, op);
      each = of_lanes (w.member i).older (λ l. g.op ≤ l.op → HasVoted g.term g.to l) (λ reach. voted_next g.term g.to f voted) kept.each;
    })
    (λ q other. k.grant q g said) q

pub push-asked : {members : List ℕ} {w : World} (i : ℕ) (lane : Lane) → Kept members w
    → Follows (w.member i).mine lane → (q : ℕ) (g : Grant) → In g w.grants → g.to ≡ q → IsAsked g (pushed w i lane q)
push-asked {members} {w} i lane k f q g said =
    let rises : (w.member i).mine.term ≤ lane.term = f.term in
    put-each (λ q m. g.to ≡ q → IsAsked g m) i (push (w.member i) lane) w.member
    (λ to. elim (k.asked i g said to) [
      | inl own ↦ inl own
      | inr each ↦
          let le : g.term ≤ (w.member i).mine.term = each (w.member i).mine (inl refl) in
          inr (of_lanes (w.member i).older (λ l. g.term ≤ l.term) (omega (arith, le, rises)) each)
    ])
    (λ q other. k.asked q g said) q

-- what was acknowledged stays, where the new lane holds what the old one held
pub push-ack : {members : List ℕ} {w : World} (i : ℕ) (lane : Lane) → Kept members w
    → Follows (w.member i).mine lane
    → ((a : List Entry) (e : Entry) → Point w a e → e.term.0 ≤ (w.member i).mine.term
    → Holds members w a e (w.member i).mine.log → Holds members w a e lane.log)
    → (q : ℕ) (x : Ack) → In x w.acks → x.from ≡ q → AckKept members w x (pushed w i lane q)
push-ack {members} {w} i lane k f holds q x said =
    let op : lane.op ≡ (w.member i).mine.op + 1 = f.op in
    let rises : (w.member i).mine.term ≤ lane.term = f.term in
    put-each (λ q m. x.from ≡ q → AckKept members w x m) i (push (w.member i) lane) w.member
    (λ from.
    let kept = k.ack i x said from in
    let le : x.op ≤ (w.member i).mine.op = kept.op in
    let own = kept.each (w.member i).mine (inl refl) kept.op in
    let term : x.term ≤ (w.member i).mine.term = own.term in
    record {
      upto = kept.upto;
      op = omega (arith, le, op);
      each =
          of_lanes (w.member i).older (λ l. x.op ≤ l.op → Has members w x l) (λ reach. record {
            term = omega (arith, term, rises);
            entries = λ a e p same lt. holds a e p (omega (arith, same, term)) (own.entries a e p same lt);
          }) kept.each;
    })
    (λ q other. k.ack q x said) q

-- a world after a member's change grows
pub pushed-grows : (w v : World) (i : ℕ) (lane : Lane) → (w.member i).mine.term ≤ lane.term
    → ((q : ℕ) → v.member q ≡ pushed w i lane q)
    → ((x : Ack) → In x v.acks → In x w.acks ⊎ ((w.member x.from).mine.term ≤ x.term))
    → ((x : Ack) → In x w.acks → In x v.acks) → ((g : Grant) → In g w.grants → In g v.grants)
    → ((t : ℕ) → IsFront (w.hist t) (v.hist t)) → Grows w v
pushed-grows w v i lane rises is new old votes hist =
    let same : (q : ℕ) → (v.member q).noticed ≡ (w.member q).noticed =
    λ q. ap (λ (m : Member). m.noticed) (is q) ∙ push-noticed_same w i lane q in
    record {
      lane = λ q l here.
          push-each w (λ q l. Below (lanes (w.member q)) l.term) i lane
          (record { lane = (w.member i).mine; here = inl refl; term = rises })
          (λ q l here. record { lane = l; here = here; term = omega arith }) q l
          (subst (λ (m : Member). In l (lanes m)) (is q) here);
      acks = new;
      stored = λ x said le. (old x said, subst (λ n. x.op ≤ n) (sym (same x.from)) le);
      votes = λ g said le. (votes g said, subst (λ n. g.op ≤ n) (sym (same g.from)) le);
      hist = hist;
    }
