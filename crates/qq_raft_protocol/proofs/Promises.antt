-- What the invariant promises.
use Rattle.std.proofs.Common.{◌≡◌, ◌⊎◌, ℕ, ◌≤◌, ◌<◌, List, sym, ap, subst, ◌∙◌, arith, inl, inr}
use Rattle.qq_base.specs.Fronts.{IsFront}
use Rattle.qq_base.proofs.Fronts.{front-trans, front-compare}
use Rattle.qq_entry.specs.declared.command.Entry.{Entry}
use Rattle.qq_raft_protocol.specs.World.{Lane, World}
use Rattle.qq_raft_protocol.specs.World.Role.{Leader}
use Rattle.qq_raft_protocol.specs.Facts.{add, In, Within, Point, Cause, Stored}
use Rattle.qq_raft_protocol.specs.Safe.{IsLaneOf, IsCarried, IsElected, IsSafe}
use Rattle.qq_raft_protocol.proofs.Kept.{Kept, leader_of, elects_lanes, not_empty}
use Rattle.qq_raft_protocol.proofs.Majorities.{Most-map}
use Rattle.qq_raft_protocol.proofs.Settles.{sure}
use Rattle.qq_raft_protocol.proofs.Roles.{some_same}
use Rattle.qq_raft_protocol.proofs.Logs.{front-before, In-add, In-place, Within-front}
use Rattle.qq_raft_protocol.proofs.Lists.{In-front}

one_leader : {members : List ℕ} {w : World} (p q : ℕ) → Kept members w → w.role p ≡ Leader → w.role q ≡ Leader
    → (w.member p).mine.term ≡ (w.member q).mine.term → p ≡ q
one_leader {w = w} p q k is other same =
    some_same p q (sym (k.leader p is).leads ∙ ap w.lead same ∙ (k.leader q other).leads)

logs_match : {members : List ℕ} {w : World} (p q : ℕ) (l m : Lane) → Kept members w → IsLaneOf w p l
    → IsLaneOf w q m → (a b : List Entry) (e f : Entry) → IsFront (add a e) l.log → IsFront (add b f) m.log
    → e.term.0 ≡ f.term.0 → IsFront (add a e) (add b f) ⊎ IsFront (add b f) (add a e)
logs_match {w = w} p q l m k here there a b e f first second same =
    front-compare (subst (λ (t : ℕ). IsFront (add a e) (w.hist t)) same (k.good p l here a e first))
    (k.good q m there b f second)

-- a majority's lanes have what was committed
carried_each : {members : List ℕ} {w : World} {t : ℕ} {x : List Entry} (k : Kept members w) (c : Cause members w t x)
    (q : ℕ) → Stored w c.before c.entry q → (l : Lane) → IsLaneOf w q l → IsFront (add c.before c.entry) l.log
carried_each {w = w} k c q s l here =
    let x = s.acked in
    let kept = k.ack q x.ack x.said x.from in
    let durable : x.ack.op ≤ (w.member q).noticed = s.durable in
    let noticed : (w.member q).noticed ≤ l.op = k.noticed q l here in
    sure c.committed
    ((kept.each l here (omega (arith, durable, noticed))).entries c.before c.entry c.point (sym x.term) x.reaches)

carried_later : {members : List ℕ} {w : World} {t : ℕ} {x : List Entry} (k : Kept members w)
    (c : Cause members w t x) (q : ℕ) (l : Lane) → IsLaneOf w q l → (a : List Entry) (e : Entry)
    → IsFront (add a e) l.log → c.entry.term.0 < e.term.0 → IsFront (add c.before c.entry) l.log
carried_later {members} {w} k c q l here a e front lt =
    let point : Point w a e = k.good q l here a e front in
    let led = leader_of a e k point in
    let inside : IsFront (add c.before c.entry) (w.hist e.term.0) = sure c.committed
    (k.safe e.term.0 led.node led.is c.before c.entry c.point lt) in
    elim (front-compare inside point) [
      | inl shorter ↦ front-trans shorter front
      | inr longer ↦
          let le : e.term.0 ≤ c.entry.term.0 = k.hist_within c.entry.term.0 e
          (In-front e c.point (In-front e longer (In-add a e))) in
          absurd (omega (arith, lt, le))
    ]

carried_by : {members : List ℕ} {w : World} {t : ℕ} {x : List Entry} → Kept members w → Cause members w t x
    → IsCarried members (IsLaneOf w) x
carried_by k c = record {
  before = c.before;
  entry = c.entry;
  front = c.front;
  majority = Most-map (λ q s l here. carried_each k c q s l here) c.committed;
  later = carried_later k c;
}

cause_front : {members : List ℕ} {w : World} {t : ℕ} {x y : List Entry} → IsFront x y → Cause members w t y
    → Cause members w t x
cause_front p c = record {
  before = c.before;
  entry = c.entry;
  term = c.term;
  point = c.point;
  committed = c.committed;
  front = front-trans p c.front;
}

carried : {members : List ℕ} {w : World} (x : List Entry) → Kept members w → IsFront x w.audit → (a : List Entry)
    (e : Entry) → x ≡ add a e → IsCarried members (IsLaneOf w) x
carried {members} {w} x k front a e is = elim k.audit [
  | inl nothing ↦ absurd (not_empty a w.audit e (subst (λ y. IsFront y w.audit) is front) nothing)
  | inr c ↦ carried_by k (cause_front front c)
]

elected_by : {members : List ℕ} {w : World} (a : List Entry) (e : Entry) → Kept members w → Point w a e
    → IsElected members (IsLaneOf w) e.term.0
elected_by {w = w} a e k p =
    let led = leader_of a e k p in
    record {
      node = led.node;
      own = k.led led.node e.term.0 led.is;
      majority = Most-map (λ q x l here. elects_lanes k x l here) (k.won e.term.0 led.node led.is);
    }

elected : {members : List ℕ} {w : World} (q : ℕ) (l : Lane) → Kept members w → IsLaneOf w q l → (e : Entry)
    → In e l.log → IsElected members (IsLaneOf w) e.term.0
elected q l k here e inside =
    let place = In-place e l.log inside in
    elected_by place.before e k (k.good q l here place.before e place.front)

terms_rise : {members : List ℕ} {w : World} (q : ℕ) (l : Lane) → Kept members w → IsLaneOf w q l
    → (a : List Entry) (e : Entry) → IsFront (add a e) l.log → Within e.term.0 a × (e.term.0 ≤ l.term)
terms_rise q l k here a e front = (
  Within-front (front-before a _ e (k.good q l here a e front)) (k.hist_within e.term.0),
  k.within q l here e (In-front e front (In-add a e)),
)

pub kept-safe : {members : List ℕ} {w : World} → Kept members w → IsSafe members w
kept-safe {members} {w} k = record {
  one_leader = λ p q is other same. one_leader p q k is other same;
  supported = record {
    logs_match = λ p q l m here there a b e f first second same.
        logs_match p q l m k here there a b e f first second same;
    carried = λ x front a e is. carried x k front a e is;
    elected = λ q l here e inside. elected q l k here e inside;
    terms_rise = λ q l here a e front. terms_rise q l k here a e front;
  };
  done = λ q. (k.dones q, (k.done q).front);
}
