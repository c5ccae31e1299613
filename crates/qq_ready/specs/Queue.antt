-- The ready messages, as two queues: what was returned under a delivery limit, and all else.
use Rattle.std.specs.Prelude.{◌≡◌, ℕ, ◌+◌, ◌*◌, ◌^◌, ◌<◌, ◌≤◌, List, [], ◌∷◌, ◌++◌, Option, Some, None, drop, sum_by}
use Rattle.std.specs.List.{AllByRecursion}
use Rattle.qq_entry.specs.declared.message.ReadyRow.{ReadyRow}
use Rattle.qq_model.specs.declared.place.Key.{Key}
use Rattle.qq_model.specs.declared.place.Key.TheVariants.{Front, Back}
use Rattle.qq_ready.specs.declared.row.KeyedRow.{KeyedRow}

-- the messages at the front and those behind them, each the next first, and the counters from which keys are drawn
pub record Queue : Type 0 where
  pub fronts : List KeyedRow
  pub backs : List KeyedRow
  pub orders : ℕ
  pub returns : ℕ

-- the queue, and what it was at the last commit
pub record ReadyState : Type 0 where
  pub queue : Queue
  pub base : Queue

abbrev pub no_messages : Queue
no_messages = record { fronts = []; backs = []; orders = 0; returns = 0 }

-- all that are ready, the next first
abbrev pub in_order : Queue → List KeyedRow
in_order q = q.fronts ++ q.backs

-- the first of a list
abbrev pub head : List KeyedRow → Option KeyedRow
head [] = None
head (row ∷ rows) = Some row

abbrev pub without_next_by : List KeyedRow → Queue → Queue
without_next_by [] q = record q { backs = drop 1 q.backs }
without_next_by (row ∷ rows) q = record q { fronts = rows }

-- without the next message
abbrev pub without_next : Queue → Queue
without_next q = without_next_by q.fronts q

-- without all messages
abbrev pub emptied : Queue → Queue
emptied q = record q { fronts = []; backs = [] }

-- a message at the back, with the next key there
abbrev pub push_back : ReadyRow → Queue → Queue
push_back row q =
    record q {
      orders = q.orders + 1;
      backs = q.backs ++ record { key = Back (q.orders + 1); row = row } ∷ [];
    }

-- a message behind those that were returned before, and before all others
abbrev pub push_returned : ReadyRow → Queue → Queue
push_returned row q =
    record q {
      returns = q.returns + 1;
      fronts = q.fronts ++ record { key = Front (q.returns + 1); row = row } ∷ [];
    }

-- the bytes of bodies
abbrev pub bytes_of : List KeyedRow → ℕ
bytes_of rows = sum_by (λ (one : KeyedRow). one.row.message.size) rows

-- keys of one class whose numbers rise up to the last that was drawn
abbrev pub number : Key → ℕ
number (Front n) = n
number (Back n) = n

abbrev pub Rises : List KeyedRow → Type 0
Rises [] = Unit {0}
Rises (one ∷ rows) = AllByRecursion (λ (other : KeyedRow). number one.key < number other.key) rows × Rises rows

-- the key of a class and a number that was drawn
pub record IsKey (class : ℕ → Key) (last : ℕ) (one : KeyedRow) : Type 0 where
  pub key : one.key ≡ class (number one.key)
  pub first : 0 < number one.key
  pub drawn : number one.key ≤ last

pub record AreKeyed (class : ℕ → Key) (last : ℕ) (rows : List KeyedRow) : Type 0 where
  pub rising : Rises rows
  pub each : AllByRecursion (IsKey class last) rows

-- each message has a key of its own, and those of lesser key come first
pub record IsInOrder (q : Queue) : Type 0 where
  pub fronts : AreKeyed Front q.returns q.fronts
  pub backs : AreKeyed Back q.orders q.backs

-- the running count of bytes, which fits 128 bits since each message has drawn a key
pub record CountsBytes (bytes : ℕ) (q : Queue) : Type 0 where
  pub sum : bytes ≡ bytes_of q.fronts + bytes_of q.backs
  pub fits : bytes ≤ (q.orders + q.returns) * 2 ^ 32

abbrev pub queue_of : List KeyedRow → List KeyedRow → ℕ → ℕ → Queue
queue_of fronts backs orders returns =
    record { fronts = fronts; backs = backs; orders = orders; returns = returns }
