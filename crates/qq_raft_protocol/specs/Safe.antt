-- What a group promises.
use Rattle.std.specs.Prelude.{◌≡◌, ◌⊎◌, ◌<◌, ◌≤◌, ℕ, List, length, Some}
use Rattle.qq_base.specs.Fronts.{IsFront}
use Rattle.qq_entry.specs.declared.command.Entry.{Entry}
use Rattle.qq_raft_protocol.specs.World.{Lane, Ack, World, lanes}
use Rattle.qq_raft_protocol.specs.World.Role.{Candidate, Leader}
use Rattle.qq_raft_protocol.specs.Facts.{add, In, Within, Most, Elects}

-- ---- what the members' disks support, whatever lanes a crash may leave of each member

-- Entries of the audit are on a majority of disks, whatever crashes, and in every later leader's log. A list that they
-- begin carries them: the majority has it, and so has each log with an entry of a later term than its last one.
pub record IsCarried (members : List ℕ) (L : ℕ → Lane → Type 0) (x : List Entry) : Type 0 where
  pub before : List Entry
  pub entry : Entry
  pub front : IsFront x (add before entry)
  pub majority : Most members (λ q. (l : Lane) → L q l → IsFront (add before entry) l.log)
  pub later : (q : ℕ) (l : Lane) → L q l → (a : List Entry) (e : Entry) → IsFront (add a e) l.log
      → entry.term.0 < e.term.0 → IsFront (add before entry) l.log

-- a member's lane is past a term, or has given its vote in it to this node
abbrev pub HasVoted : ℕ → ℕ → Lane → Type 0
HasVoted t c l = (t < l.term) ⊎ ((l.term ≡ t) × (l.vote ≡ Some c))

-- a term has an elected node, and a majority that elected it
pub record IsElected (members : List ℕ) (L : ℕ → Lane → Type 0) (t : ℕ) : Type 0 where
  pub node : ℕ
  pub own : (l : Lane) → L node l → t ≤ l.term
  pub majority : Most members (λ q. (l : Lane) → L q l → HasVoted t node l)

pub record IsSupported (members : List ℕ) (L : ℕ → Lane → Type 0) (audit : List Entry) : Type 0 where
  -- logs that have entries of one term agree up to the first of these (Ongaro's dissertation, section 3.5, log matching)
  pub logs_match : (p q : ℕ) (l m : Lane) → L p l → L q m
      → (a b : List Entry) (e f : Entry) → IsFront (add a e) l.log → IsFront (add b f) m.log → e.term.0 ≡ f.term.0
      → IsFront (add a e) (add b f) ⊎ IsFront (add b f) (add a e)
  -- what is committed stays (section 3.6.3, leader completeness)
  pub carried : (x : List Entry) → IsFront x audit → (a : List Entry) (e : Entry) → x ≡ add a e
      → IsCarried members L x
  -- each term of an entry has its election
  pub elected : (q : ℕ) (l : Lane) → L q l → (e : Entry) → In e l.log → IsElected members L e.term.0
  -- terms don't fall along a log, and are at or below the lane's term
  pub terms_rise : (q : ℕ) (l : Lane) → L q l → (a : List Entry) (e : Entry) → IsFront (add a e) l.log
      → Within e.term.0 a × (e.term.0 ≤ l.term)

-- ---- a world

-- a lane that a crash of this member may leave
abbrev pub IsLaneOf : World → ℕ → Lane → Type 0
IsLaneOf w q l = In l (lanes (w.member q))

pub record IsSafe (members : List ℕ) (w : World) : Type 0 where
  -- there is at most one leader in a term (section 3.4, election safety)
  pub one_leader : (p q : ℕ) → w.role p ≡ Leader → w.role q ≡ Leader
      → (w.member p).mine.term ≡ (w.member q).mine.term → p ≡ q
  pub supported : IsSupported members (IsLaneOf w) w.audit
  -- what a server knows to be committed is a front of the audit, and of its log (section 3.6.3, state machine safety)
  pub done : (q : ℕ) → IsFront (w.done q) w.audit × IsFront (w.done q) (w.member q).mine.log

-- whoever leads a term in the one world leads it in the other
abbrev pub HasOneLeader : World → World → Type 0
HasOneLeader w v =
    (p q : ℕ) → w.role p ≡ Leader → v.role q ≡ Leader → (w.member p).mine.term ≡ (v.member q).mine.term → p ≡ q

-- the log of a term's leader is only extended (section 3.5, leader append-only)
abbrev pub OnlyAppends : World → World → Type 0
OnlyAppends w v =
    (p q : ℕ) → w.role p ≡ Leader → v.role q ≡ Leader → (w.member p).mine.term ≡ (v.member q).mine.term
    → IsFront (w.member p).mine.log (v.member q).mine.log

-- ---- what a leader knows of its term

-- no acknowledgement of its term passes a leader's log
abbrev pub AcksWithin : World → Type 0
AcksWithin w =
    (q : ℕ) (x : Ack) → w.role q ≡ Leader → In x w.acks → x.term ≡ (w.member q).mine.term
    → x.upto ≤ length (w.member q).mine.log

-- a candidate with a majority has no entry of its term yet
abbrev pub IsFirst : List ℕ → World → Type 0
IsFirst members w =
    (q : ℕ) → w.role q ≡ Candidate → Most members (Elects w (w.member q).mine.term q) → (a : List Entry) (e : Entry)
    → IsFront (add a e) (w.member q).mine.log → e.term.0 ≡ (w.member q).mine.term → ⊥
