-- What is said of a world.
use Rattle.std.specs.Prelude.{◌≡◌, ◌⊎◌, ◌<◌, ◌≤◌, ◌+◌, ◌*◌, ℕ, Bool, true, List, [], ◌∷◌, ◌++◌, length, if◌then◌else◌}
use Rattle.qq_base.specs.Fronts.{IsFront}
use Rattle.qq_entry.specs.declared.command.Entry.{Entry}
use Rattle.qq_raft_protocol.specs.World.{Lane, Grant, Ack, World, lanes}

-- ---- lists

-- a list and one entry more
abbrev pub add : List Entry → Entry → List Entry
add a e = a ++ e ∷ []

abbrev pub In : {A : Type 0} → A → List A → Type 0
In x [] = ⊥
In x (y ∷ ys) = (x ≡ y) ⊎ In x ys

-- no entry has a later term
abbrev pub Within : ℕ → List Entry → Type 0
Within t log = (e : Entry) → In e log → e.term.0 ≤ t

-- ---- majorities

-- how many members pass a test
abbrev pub tally : (ℕ → Bool) → List ℕ → ℕ
tally passes [] = 0
tally passes (q ∷ qs) = if passes q then 1 + tally passes qs else tally passes qs

-- a majority of the members is so
pub record Most (members : List ℕ) (P : ℕ → Type 0) : Type 0 where
  pub counts : ℕ → Bool
  pub majority : length members < 2 * tally counts members
  pub each : (q : ℕ) → In q members → counts q ≡ true → P q

-- ---- entries and their leaders

-- the entry stands behind these in the log of its term's leader
abbrev pub Point : World → List Entry → Entry → Type 0
Point w a e = IsFront (add a e) (w.hist e.term.0)

-- each entry stands where it stands in the log of its term's leader
abbrev pub Good : World → List Entry → Type 0
Good w log = (a : List Entry) (e : Entry) → IsFront (add a e) log → Point w a e

-- a member acknowledged the entry behind these
pub record Acked (acks : List Ack) (a : List Entry) (e : Entry) (q : ℕ) : Type 0 where
  pub ack : Ack
  pub said : In ack acks
  pub from : ack.from ≡ q
  pub term : ack.term ≡ e.term.0
  pub reaches : length a < ack.upto

-- and that acknowledgement may leave
pub record Stored (w : World) (a : List Entry) (e : Entry) (q : ℕ) : Type 0 where
  pub acked : Acked w.acks a e q
  pub durable : acked.ack.op ≤ (w.member q).noticed

-- a majority has it
abbrev pub Committed : List ℕ → World → List Entry → Entry → Type 0
Committed members w a e = Most members (Stored w a e)

-- the member hasn't acknowledged the entry and never will: all its lanes have later terms
pub record Refuses (w : World) (a : List Entry) (e : Entry) (q : ℕ) : Type 0 where
  pub unacked : Acked w.acks a e q → ⊥
  pub later : (l : Lane) → In l (lanes (w.member q)) → e.term.0 < l.term

-- the entry is never committed
abbrev pub Dead : List ℕ → World → List Entry → Entry → Type 0
Dead members w a e = Most members (Refuses w a e)

-- the entry behind these is in a log, or is never committed
abbrev pub Holds : List ℕ → World → List Entry → Entry → List Entry → Type 0
Holds members w a e log = IsFront (add a e) log ⊎ Dead members w a e

-- a committed entry of a term up to this one, at or past the end of a list
pub record Cause (members : List ℕ) (w : World) (t : ℕ) (x : List Entry) : Type 0 where
  pub before : List Entry
  pub entry : Entry
  pub term : entry.term.0 ≤ t
  pub point : Point w before entry
  pub committed : Committed members w before entry
  pub front : IsFront x (add before entry)

-- all entries of the list are committed
abbrev pub Settled : List ℕ → World → ℕ → List Entry → Type 0
Settled members w t x = (x ≡ []) ⊎ Cause members w t x

-- a member gave its vote in a term, and the vote may leave
pub record Elects (w : World) (t c q : ℕ) : Type 0 where
  pub grant : Grant
  pub said : In grant w.grants
  pub from : grant.from ≡ q
  pub to : grant.to ≡ c
  pub term : grant.term ≡ t
  pub durable : grant.op ≤ (w.member q).noticed
