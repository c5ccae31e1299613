-- The invariant of a group.
use Rattle.std.proofs.Common.{◌≡◌, ◌⊎◌, ℕ, ◌+◌, ◌≤◌, ◌<◌, List, [], length, Option, Some, None, refl, sym, ap, subst, ◌∙◌, arith, inl, inr}
use Rattle.std.proofs.lemmas.List.{length-append}
use Rattle.qq_base.specs.Fronts.{IsFront}
use Rattle.qq_base.proofs.Fronts.{front-trans, front-length}
use Rattle.qq_entry.specs.declared.command.Entry.{Entry}
use Rattle.qq_raft_protocol.specs.World.{Lane, Member, Ask, Grant, Ack, Sent, World, lanes}
use Rattle.qq_raft_protocol.specs.World.Role.{Candidate, Leader}
use Rattle.qq_raft_protocol.specs.Facts.{add, In, Within, Most, Point, Good, Acked, Holds, Settled, Elects}
use Rattle.qq_raft_protocol.specs.Safe.{IsLaneOf, HasVoted}
use Rattle.qq_raft_protocol.proofs.Grows.{Grows, holds-grows, settled-grows}
use Rattle.qq_raft_protocol.proofs.Logs.{length-add}

-- the lanes from an ask's change on have its term or a later one
pub record AskKept (x : Ask) (m : Member) : Type 0 where
  pub op : x.op ≤ m.mine.op
  pub each : (l : Lane) → In l (lanes m) → x.op ≤ l.op → x.term ≤ l.term

-- the lanes from a vote's change on have the vote, or are past its term
pub record GrantKept (g : Grant) (m : Member) : Type 0 where
  pub op : g.op ≤ m.mine.op
  pub each : (l : Lane) → In l (lanes m) → g.op ≤ l.op → HasVoted g.term g.to l

-- a lane has the acknowledged entries, but for those that are never committed
pub record Has (members : List ℕ) (w : World) (x : Ack) (l : Lane) : Type 0 where
  pub term : x.term ≤ l.term
  pub entries : (a : List Entry) (e : Entry) → Point w a e → e.term.0 ≡ x.term → length a < x.upto
      → Holds members w a e l.log

pub record AckKept (members : List ℕ) (w : World) (x : Ack) (m : Member) : Type 0 where
  pub upto : x.upto ≤ length (w.hist x.term)
  pub op : x.op ≤ m.mine.op
  pub each : (l : Lane) → In l (lanes m) → x.op ≤ l.op → Has members w x l

pub record LeaderKept (lead : ℕ → Option ℕ) (hist : ℕ → List Entry) (q : ℕ) (m : Member) : Type 0 where
  pub leads : lead m.mine.term ≡ Some q
  pub log : hist m.mine.term ≡ m.mine.log

-- a candidate doesn't lead its term, and all who were asked, and voted, know its log
pub record CandidateKept (lead : ℕ → Option ℕ) (asks : List Ask) (grants : List Grant) (q : ℕ) (m : Member)
    : Type 0 where
  pub other : lead m.mine.term ≡ Some q → ⊥
  pub asked : (x : Ask) → In x asks → x.from ≡ q → x.term ≡ m.mine.term → x.log ≡ m.mine.log
  pub given : (g : Grant) → In g grants → g.to ≡ q → g.term ≡ m.mine.term → g.log ≡ m.mine.log

pub record SentKept (members : List ℕ) (w : World) (s : Sent) : Type 0 where
  pub lead : w.lead s.term ≡ Some s.from
  pub front : IsFront s.front (w.hist s.term)
  pub done : IsFront s.done (w.hist s.term)
  pub settled : Settled members w s.term s.done

pub record DoneKept (members : List ℕ) (w : World) (m : Member) (done : List Entry) : Type 0 where
  pub front : IsFront done m.mine.log
  pub settled : Settled members w m.mine.term done

-- who was asked is the candidate, or the candidate's lanes have the vote's term
abbrev pub IsAsked : Grant → Member → Type 0
IsAsked g m = (g.from ≡ g.to) ⊎ ((l : Lane) → In l (lanes m) → g.term ≤ l.term)

pub record Kept (members : List ℕ) (w : World) : Type 0 where
  -- lanes
  pub noticed : (q : ℕ) (l : Lane) → IsLaneOf w q l → (w.member q).noticed ≤ l.op
  pub older : (q : ℕ) (l : Lane) → In l (w.member q).older → l.op < (w.member q).mine.op
  pub good : (q : ℕ) (l : Lane) → IsLaneOf w q l → Good w l.log
  pub within : (q : ℕ) (l : Lane) → IsLaneOf w q l → Within l.term l.log
  -- leaders' logs
  pub hist_good : (t : ℕ) → Good w (w.hist t)
  pub hist_within : (t : ℕ) → Within t (w.hist t)
  pub unled : (t : ℕ) → w.lead t ≡ None → w.hist t ≡ []
  pub won : (t c : ℕ) → w.lead t ≡ Some c → Most members (Elects w t c)
  pub led : (q : ℕ) (t : ℕ) → w.lead t ≡ Some q → (l : Lane) → IsLaneOf w q l → t ≤ l.term
  pub safe : (t c : ℕ) → w.lead t ≡ Some c → (a : List Entry) (e : Entry) → Point w a e → e.term.0 < t
      → Holds members w a e (w.hist t)
  -- votes
  pub ask_good : (x : Ask) → In x w.asks → Good w x.log
  pub ask : (q : ℕ) (x : Ask) → In x w.asks → x.from ≡ q → AskKept x (w.member q)
  pub grant : (q : ℕ) (g : Grant) → In g w.grants → g.from ≡ q → GrantKept g (w.member q)
  pub asked : (q : ℕ) (g : Grant) → In g w.grants → g.to ≡ q → IsAsked g (w.member q)
  pub once : (g h : Grant) → In g w.grants → In h w.grants → g.from ≡ h.from → g.term ≡ h.term → g.to ≡ h.to
  pub vote : (g : Grant) → In g w.grants → (a : List Entry) (e : Entry) → Point w a e → e.term.0 < g.term
      → Acked w.acks a e g.from → Holds members w a e g.log
  -- roles
  pub leader : (q : ℕ) → w.role q ≡ Leader → LeaderKept w.lead w.hist q (w.member q)
  pub candidate : (q : ℕ) → w.role q ≡ Candidate → CandidateKept w.lead w.asks w.grants q (w.member q)
  -- entries
  pub sent : (s : Sent) → In s w.sents → SentKept members w s
  pub ack : (q : ℕ) (x : Ack) → In x w.acks → x.from ≡ q → AckKept members w x (w.member q)
  pub done : (q : ℕ) → DoneKept members w (w.member q) (w.done q)
  pub audit_term : ℕ
  pub audit : Settled members w audit_term w.audit
  pub dones : (q : ℕ) → IsFront (w.done q) w.audit

-- ---- what follows at once

-- a term has a leader
pub record Led (w : World) (t : ℕ) : Type 0 where
  pub node : ℕ
  pub is : w.lead t ≡ Some node

led_by : {members : List ℕ} {w : World} (k : Kept members w) (t : ℕ) (o : Option ℕ) → w.lead t ≡ o
    → (w.hist t ≡ [] → ⊥) → Led w t
led_by k t None e some = absurd (some (k.unled t e))
led_by k t (Some c) e some = record { node = c; is = e }

pub not_empty : (a log : List Entry) (e : Entry) → IsFront (add a e) log → log ≡ [] → ⊥
not_empty a log e p nothing =
    let long : length log ≡ length (add a e) + length p.rest = ap length p.is ∙ length-append (add a e) p.rest in
    omega (arith, long, ap length nothing, length-add a e)

pub leader_of : {members : List ℕ} {w : World} (a : List Entry) (e : Entry) → Kept members w → Point w a e
    → Led w e.term.0
leader_of {w = w} a e k p = led_by k e.term.0 (w.lead e.term.0) refl (not_empty a (w.hist e.term.0) e p)

pub voted_term : (t c : ℕ) (l : Lane) → HasVoted t c l → t ≤ l.term
voted_term t c l v = elim v [ inl later ↦ omega (arith, later) | inr same ↦ omega (arith, same.0) ]

pub same_vote : {t u c d : ℕ} (l : Lane) → t ≡ u → c ≡ d → HasVoted t c l → HasVoted u d l
same_vote {t} {u} {c} {d} l e f v =
    subst (λ (i : ℕ). HasVoted i d l) e (subst (λ (i : ℕ). HasVoted t i l) f v)

-- who elected a node in a term has only lanes that say so
pub elects_lanes : {members : List ℕ} {w : World} {t c q : ℕ} → Kept members w → Elects w t c q → (l : Lane)
    → IsLaneOf w q l → HasVoted t c l
elects_lanes {members} {w} {t} {c} {q} k x l here =
    let g = k.grant q x.grant x.said x.from in
    let durable : x.grant.op ≤ (w.member q).noticed = x.durable in
    let noticed : (w.member q).noticed ≤ l.op = k.noticed q l here in
    same_vote l x.term x.to (g.each l here (omega (arith, durable, noticed)))

-- the newest lane speaks for each vote
pub newest_vote : {members : List ℕ} {w : World} (q : ℕ) (g : Grant) → Kept members w → In g w.grants → g.from ≡ q
    → HasVoted g.term g.to (w.member q).mine
newest_vote {w = w} q g k said from =
    let kept = k.grant q g said from in
    kept.each (w.member q).mine (inl refl) kept.op

pub newest_ack : {members : List ℕ} {w : World} (q : ℕ) (x : Ack) → Kept members w → In x w.acks → x.from ≡ q
    → Has members w x (w.member q).mine
newest_ack {w = w} q x k said from =
    let kept = k.ack q x said from in
    kept.each (w.member q).mine (inl refl) kept.op

-- what a member acknowledged stands in its newest lane, or is never committed
pub acked_holds : {members : List ℕ} {w : World} {a : List Entry} {e : Entry} {q : ℕ} → Kept members w
    → Point w a e → Acked w.acks a e q → Holds members w a e (w.member q).mine.log
acked_holds {a = a} {e = e} {q = q} k p x = (newest_ack q x.ack k x.said x.from).entries a e p (sym x.term) x.reaches

pub acked_term : {members : List ℕ} {w : World} {a : List Entry} {e : Entry} {q : ℕ} → Kept members w
    → Acked w.acks a e q → e.term.0 ≤ (w.member q).mine.term
acked_term {w = w} {e = e} {q = q} k x =
    let le : x.ack.term ≤ (w.member q).mine.term = (newest_ack q x.ack k x.said x.from).term in
    let same : x.ack.term ≡ e.term.0 = x.term in
    omega (arith, le, same)

-- ---- what grows with the world

-- an entry that stands in a leader's log after a move stood there before
abbrev pub Back : World → World → List Entry → Entry → Type 0
Back w v a e = Point v a e → Point w a e

pub has_grows : {members : List ℕ} {w v : World} {x : Ack} {l : Lane} → Grows w v
    → ((a : List Entry) (e : Entry) → e.term.0 ≡ x.term → length a < x.upto → Back w v a e) → Has members w x l
    → Has members v x l
has_grows g back h =
    record {
      term = h.term;
      entries = λ a e p same lt. holds-grows g (h.entries a e (back a e same lt p) same lt);
    }

pub ack_grows : {members : List ℕ} {w v : World} {x : Ack} {m : Member} → Grows w v
    → ((a : List Entry) (e : Entry) → e.term.0 ≡ x.term → length a < x.upto → Back w v a e)
    → AckKept members w x m → AckKept members v x m
ack_grows {w = w} {v = v} {x = x} g back kept =
    let upto : x.upto ≤ length (w.hist x.term) = kept.upto in
    let long : length (w.hist x.term) ≤ length (v.hist x.term) = front-length (g.hist x.term) in
    record {
      upto = omega (arith, upto, long);
      op = kept.op;
      each = λ l here le. has_grows g back (kept.each l here le);
    }

pub sent_grows : {members : List ℕ} {w v : World} {s : Sent} → Grows w v → v.lead s.term ≡ Some s.from
    → SentKept members w s → SentKept members v s
sent_grows {s = s} g lead kept =
    record {
      lead = lead;
      front = front-trans kept.front (g.hist s.term);
      done = front-trans kept.done (g.hist s.term);
      settled = settled-grows g kept.settled;
    }

pub done_grows : {members : List ℕ} {w v : World} {m : Member} {done : List Entry} → Grows w v
    → DoneKept members w m done → DoneKept members v m done
done_grows g kept = record { front = kept.front; settled = settled-grows g kept.settled }
