-- Committed entries stand in every later leader's log, so what is known to be committed agrees.
use Rattle.std.proofs.Common.{◌≡◌, ◌⊎◌, ℕ, ◌≤◌, List, length, Some, sym, ap, subst, arith, inl, inr}
use Rattle.std.proofs.lemmas.Bool.{cases_lt, cases_eq}
use Rattle.std.proofs.lemmas.List.{nil_from_length}
use Rattle.qq_base.specs.Fronts.{IsFront}
use Rattle.qq_base.proofs.Fronts.{front-nil, front-trans, front-length, front-compare}
use Rattle.qq_entry.specs.declared.command.Entry.{Entry}
use Rattle.qq_raft_protocol.specs.World.{World}
use Rattle.qq_raft_protocol.specs.Facts.{add, Point, Committed, Dead, Holds, Cause, Settled}
use Rattle.qq_raft_protocol.proofs.Majorities.{shared}
use Rattle.qq_raft_protocol.proofs.Kept.{Kept, leader_of}

pub alive : {members : List ℕ} {w : World} {a : List Entry} {e : Entry} → Committed members w a e
    → Dead members w a e → ⊥
alive c dead = let q = shared c dead in q.second.unacked q.first.acked

-- a committed entry is where it is or dead
pub sure : {members : List ℕ} {w : World} {a : List Entry} {e : Entry} {log : List Entry} → Committed members w a e
    → Holds members w a e log → IsFront (add a e) log
sure c holds = elim holds [ inl front ↦ front | inr dead ↦ absurd (alive c dead) ]

-- an entry is in the log of each leader of its term or a later one, or is never committed
pub point_holds : {members : List ℕ} {w : World} {a : List Entry} {e : Entry} → Kept members w → Point w a e
    → (t c : ℕ) → w.lead t ≡ Some c → e.term.0 ≤ t → Holds members w a e (w.hist t)
point_holds {members} {w} {a} {e} k p t c lead le =
    elim (cases_eq e.term.0 t) [
      | inl same ↦ inl (subst (λ (i : ℕ). IsFront (add a e) (w.hist i)) same p)
      | inr other ↦ k.safe t c lead a e p (omega (arith, le, other))
    ]

pub cause_reaches : {members : List ℕ} {w : World} {u : ℕ} {x : List Entry} → Kept members w
    → (c : Cause members w u x) → (t d : ℕ) → w.lead t ≡ Some d → c.entry.term.0 ≤ t
    → IsFront (add c.before c.entry) (w.hist t)
cause_reaches k c t d lead le = sure c.committed (point_holds k c.point t d lead le)

-- what is settled by a term is a front of the log of that term's leader
pub settled_in : {members : List ℕ} {w : World} {t : ℕ} {x : List Entry} → Kept members w → Settled members w t x
    → (d : ℕ) → w.lead t ≡ Some d → IsFront x (w.hist t)
settled_in {members} {w} {t} {x} k s d lead = elim s [
  | inl nothing ↦ subst (λ y. IsFront y (w.hist t)) (sym nothing) (front-nil (w.hist t))
  | inr c ↦ front-trans c.front (cause_reaches k c t d lead c.term)
]

causes_compare : {members : List ℕ} {w : World} {t u : ℕ} {x y : List Entry} → Kept members w
    → (c : Cause members w t x) → (d : Cause members w u y) → c.entry.term.0 ≤ d.entry.term.0
    → IsFront x y ⊎ IsFront y x
causes_compare {w = w} k c d le =
    let l = leader_of d.before d.entry k d.point in
    front-compare (front-trans c.front (cause_reaches k c d.entry.term.0 l.node l.is le))
    (front-trans d.front d.point)

swap : {A B : Type 0} → A ⊎ B → B ⊎ A
swap x = elim x [ inl a ↦ inr a | inr b ↦ inl b ]

-- two settled lists agree
pub settled_compare : {members : List ℕ} {w : World} {t u : ℕ} {x y : List Entry} → Kept members w
    → Settled members w t x → Settled members w u y → IsFront x y ⊎ IsFront y x
settled_compare {members} {w} {t} {u} {x} {y} k (inl nothing) s =
    inl (subst (λ z. IsFront z y) (sym nothing) (front-nil y))
settled_compare {members} {w} {t} {u} {x} {y} k (inr c) (inl nothing) =
    inr (subst (λ z. IsFront z x) (sym nothing) (front-nil x))
settled_compare k (inr c) (inr d) =
    elim (cases_lt d.entry.term.0 c.entry.term.0) [
      | inl lt ↦ swap (causes_compare k d c (omega (arith, lt)))
      | inr le ↦ causes_compare k c d le
    ]

pub settled_later : {members : List ℕ} {w : World} {t u : ℕ} {x : List Entry} → t ≤ u → Settled members w t x
    → Settled members w u x
settled_later {t = t} {u = u} le s = elim s [
  | inl nothing ↦ inl nothing
  | inr c ↦
      let before : c.entry.term.0 ≤ t = c.term in
      inr (record {
        before = c.before;
        entry = c.entry;
        term = omega (arith, le, before);
        point = c.point;
        committed = c.committed;
        front = c.front;
      })
]

pub settled_front : {members : List ℕ} {w : World} {t : ℕ} {x y : List Entry} → IsFront y x
    → Settled members w t x → Settled members w t y
settled_front {x = x} {y = y} p s = elim s [
  | inl nothing ↦ inl (nil_from_length y (omega (arith, front-length p, ap length nothing)))
  | inr c ↦ inr (record {
    before = c.before;
    entry = c.entry;
    term = c.term;
    point = c.point;
    committed = c.committed;
    front = front-trans p c.front;
  })
]
