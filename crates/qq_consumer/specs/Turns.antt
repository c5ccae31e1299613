-- Whose turn is next: the consumers that wait to be served are a queue.
use Rattle.std.specs.Prelude.{◌≡◌, ◌⊎◌, ℕ, ◌≤◌, List, [], ◌∷◌, ◌++◌, Option, Some, None, IfSome, true, if◌then◌else◌}
use Rattle.std.specs.List.{AllByRecursion}
use Rattle.std.specs.Option.{option_and_then}
use Rattle.qq_base.specs.declared.ids.ConsumerId.{ConsumerId}
use Rattle.qq_parts.specs.Parts.{Served}
use Rattle.qq_parts.specs.Turns.{may_serve}
use Rattle.qq_parts.specs.Consumers.{needed_one}
use Rattle.qq_consumer.specs.declared.rising.Numbered.{Numbered}
use Rattle.qq_consumer.specs.Numbers.{RisingList, Rises, with_item, without}
use Rattle.qq_consumer.specs.Roster.{Roster, one_of}

-- the turn of a consumer that may be served
abbrev pub turn_of : Served → Option ℕ
turn_of one = if may_serve one then Some one.consumer.turn else None

-- the turn of the consumer of an id, if it may be served
abbrev pub waiting_turn : List Served → ConsumerId → Option ℕ
waiting_turn served id = option_and_then turn_of (one_of id served)

abbrev pub Waiting : Type 0
Waiting = List (Numbered ConsumerId)

abbrev pub waiter : ℕ → ConsumerId → Numbered ConsumerId
waiter turn id = record { number = turn; item = id }

abbrev pub IsIn : Numbered ConsumerId → Waiting → Type 0
IsIn one [] = ⊥
IsIn one (other ∷ rest) = (one ≡ other) ⊎ IsIn one rest

-- those that may be served, by turn, of which none is above the last that was drawn
pub record IsQueue (turn : ConsumerId → Option ℕ) (last : ℕ) (waiting : Waiting) : Type 0 where
  pub order : Rises waiting
  pub drawn : AllByRecursion (λ (one : Numbered ConsumerId). one.number ≤ last) waiting
  pub among : AllByRecursion (λ (one : Numbered ConsumerId). turn one.item ≡ Some one.number) waiting
  pub all : (id : ConsumerId) (n : ℕ) → turn id ≡ Some n → IsIn (waiter n id) waiting

-- a consumer leaves the queue, or waits behind all others
abbrev pub leave : Option ℕ → Waiting → Waiting
leave None waiting = waiting
leave (Some turn) waiting = without turn waiting

abbrev pub enter : ConsumerId → Option ℕ → Waiting → Waiting
enter id None waiting = waiting
enter id (Some turn) waiting = waiting ++ waiter turn id ∷ []

-- or waits in the place of its turn
abbrev pub place_in : ConsumerId → Option ℕ → Waiting → Waiting
place_in id None waiting = waiting
place_in id (Some turn) waiting = with_item (waiter turn id) waiting

-- the queue is that of these consumers, and each of them is needed
pub record IsKept (waiting : Waiting) (r : Roster) : Type 0 where
  pub queue : IsQueue (waiting_turn r.served) r.turns waiting
  pub needed : AllByRecursion (λ (one : Served). needed_one one ≡ true) r.served

-- so it is now, and was at the last commit
pub record AreKept (waiting : RisingList ConsumerId) (now before : Roster) : Type 0 where
  pub now_kept : IsKept waiting.items now
  pub before_kept : IsKept waiting.base before

-- one that may be served has a turn that was drawn
abbrev pub HasDrawn : ℕ → Served → Type 0
HasDrawn last one = IfSome (turn_of one) (λ turn. turn ≤ last)

-- two that may be served have two turns
abbrev pub HaveTwoTurns : Served → Served → Type 0
HaveTwoTurns a b = IfSome (turn_of a) (λ turn. turn_of b ≡ Some turn → ⊥)

abbrev pub TurnsDiffer : List Served → Type 0
TurnsDiffer [] = Unit {0}
TurnsDiffer (one ∷ ones) = AllByRecursion (HaveTwoTurns one) ones × TurnsDiffer ones

-- those that may be served have turns of their own, which were drawn
pub record HaveTurns (r : Roster) : Type 0 where
  pub drawn : AllByRecursion (HasDrawn r.turns) r.served
  pub differ : TurnsDiffer r.served
