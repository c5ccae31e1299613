-- What stays true while a world grows: lanes only get later terms, acknowledgements are of the newest term, what may
-- leave stays, and the leaders' logs are only extended.
use Rattle.std.proofs.Common.{◌≡◌, ◌⊎◌, ℕ, ◌≤◌, ◌<◌, List, refl, sym, subst, arith, inl, inr}
use Rattle.qq_base.specs.Fronts.{IsFront}
use Rattle.qq_base.proofs.Fronts.{front-trans}
use Rattle.qq_entry.specs.declared.command.Entry.{Entry}
use Rattle.qq_raft_protocol.specs.World.{Lane, Ack, Grant, World, lanes}
use Rattle.qq_raft_protocol.specs.Facts.{In, Most, Point, Good, Stored, Committed, Refuses, Dead, Holds, Cause, Settled, Elects}
use Rattle.qq_raft_protocol.proofs.Majorities.{Most-map}

-- one of these lanes has no later term
pub record Below (ls : List Lane) (t : ℕ) : Type 0 where
  pub lane : Lane
  pub here : In lane ls
  pub term : lane.term ≤ t

pub record Grows (w v : World) : Type 0 where
  pub lane : (q : ℕ) (l : Lane) → In l (lanes (v.member q)) → Below (lanes (w.member q)) l.term
  pub acks : (x : Ack) → In x v.acks → In x w.acks ⊎ ((w.member x.from).mine.term ≤ x.term)
  pub stored : (x : Ack) → In x w.acks → x.op ≤ (w.member x.from).noticed
      → In x v.acks × (x.op ≤ (v.member x.from).noticed)
  pub votes : (g : Grant) → In g w.grants → g.op ≤ (w.member g.from).noticed
      → In g v.grants × (g.op ≤ (v.member g.from).noticed)
  pub hist : (t : ℕ) → IsFront (w.hist t) (v.hist t)

pub point-grows : {w v : World} (a : List Entry) (e : Entry) → Grows w v → Point w a e → Point v a e
point-grows a e g p = front-trans p (g.hist e.term.0)

pub good-grows : {w v : World} {log : List Entry} → Grows w v → Good w log → Good v log
good-grows g good = λ a e p. point-grows a e g (good a e p)

refuses-grows : {w v : World} {a : List Entry} {e : Entry} {q : ℕ} → Grows w v → Refuses w a e q → Refuses v a e q
refuses-grows {w} {v} {a} {e} {q} g r = record {
  unacked = λ x. elim (g.acks x.ack x.said) [
    | inl old ↦ r.unacked (record {
      ack = x.ack;
      said = old;
      from = x.from;
      term = x.term;
      reaches = x.reaches;
    })
    | inr new ↦
        let later : e.term.0 < (w.member q).mine.term = r.later (w.member q).mine (inl refl) in
        let there : (w.member q).mine.term ≤ x.ack.term = subst (λ (i : ℕ). (w.member i).mine.term ≤ x.ack.term)
        x.from new in
        let same : x.ack.term ≡ e.term.0 = x.term in
        omega (arith, later, there, same)
  ];
  later = λ l here.
      let b = g.lane q l here in
      let one : e.term.0 < b.lane.term = r.later b.lane b.here in
      let le : b.lane.term ≤ l.term = b.term in
      omega (arith, one, le);
}

pub dead-grows : {members : List ℕ} {w v : World} {a : List Entry} {e : Entry} → Grows w v → Dead members w a e
    → Dead members v a e
dead-grows g dead = Most-map (λ q r. refuses-grows g r) dead

pub holds-grows : {members : List ℕ} {w v : World} {a : List Entry} {e : Entry} {log : List Entry} → Grows w v
    → Holds members w a e log → Holds members v a e log
holds-grows g holds = elim holds [ inl front ↦ inl front | inr dead ↦ inr (dead-grows g dead) ]

stored-grows : {w v : World} {a : List Entry} {e : Entry} {q : ℕ} → Grows w v → Stored w a e q → Stored v a e q
stored-grows {w} {v} {a} {e} {q} g s =
    let x = s.acked in
    let durable : x.ack.op ≤ (w.member x.ack.from).noticed = subst (λ (i : ℕ). x.ack.op ≤ (w.member i).noticed)
    (sym x.from) s.durable in
    let kept = g.stored x.ack x.said durable in
    record {
      acked = record {
        ack = x.ack;
        said = kept.0;
        from = x.from;
        term = x.term;
        reaches = x.reaches;
      };
      durable = subst (λ (i : ℕ). x.ack.op ≤ (v.member i).noticed) x.from kept.1;
    }

pub committed-grows : {members : List ℕ} {w v : World} {a : List Entry} {e : Entry} → Grows w v
    → Committed members w a e → Committed members v a e
committed-grows g c = Most-map (λ q s. stored-grows g s) c

pub cause-grows : {members : List ℕ} {w v : World} {t : ℕ} {x : List Entry} → Grows w v → Cause members w t x
    → Cause members v t x
cause-grows g c = record {
  before = c.before;
  entry = c.entry;
  term = c.term;
  point = point-grows c.before c.entry g c.point;
  committed = committed-grows g c.committed;
  front = c.front;
}

pub settled-grows : {members : List ℕ} {w v : World} {t : ℕ} {x : List Entry} → Grows w v → Settled members w t x
    → Settled members v t x
settled-grows g s = elim s [ inl nothing ↦ inl nothing | inr c ↦ inr (cause-grows g c) ]

elects-grows : {w v : World} {t c q : ℕ} → Grows w v → Elects w t c q → Elects v t c q
elects-grows {w} {v} {t} {c} {q} g x =
    let durable : x.grant.op ≤ (w.member x.grant.from).noticed = subst (λ (i : ℕ). x.grant.op ≤ (w.member i).noticed)
    (sym x.from) x.durable in
    let kept = g.votes x.grant x.said durable in
    record {
      grant = x.grant;
      said = kept.0;
      from = x.from;
      to = x.to;
      term = x.term;
      durable = subst (λ (i : ℕ). x.grant.op ≤ (v.member i).noticed) x.from kept.1;
    }

pub won-grows : {members : List ℕ} {w v : World} {t c : ℕ} → Grows w v → Most members (Elects w t c)
    → Most members (Elects v t c)
won-grows g most = Most-map (λ q x. elects-grows g x) most
