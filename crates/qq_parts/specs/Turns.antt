-- Consumers are served in turn: those that wait to be served are a queue.
use Rattle.std.specs.Prelude.{◌≡◌, ◌⊎◌, ℕ, ◌+◌, ◌<◌, ◌≤◌, Bool, not, ◌&&◌, true, false, nat_lt, List, [], ◌∷◌, ◌++◌, Option, Some, None, Contains, find, length, if◌then◌else◌}
use Rattle.std.specs.Option.{option_and_then, option_map}
use Rattle.std.specs.List.{AllByRecursion}
use Rattle.qq_model.specs.State.{State}
use Rattle.qq_model.specs.Choice.{credit_left, next_consumer}
use Rattle.qq_parts.specs.Reduced.{Item}
use Rattle.qq_parts.specs.Parts.{Served, consumer_at, Parts}
use Rattle.qq_parts.specs.Outs.{serve_one, hand_over}

-- how many more deliveries a consumer may get
abbrev pub credit_of_one : Served → ℕ
credit_of_one one = credit_left one.consumer.mode one.consumer.credit (length one.out)

abbrev pub may_serve : Served → Bool
may_serve one = not one.consumer.cancelled && nat_lt 0 (credit_of_one one)

-- turns rise
abbrev pub AreByTurn : List Served → Type 0
AreByTurn [] = Unit {0}
AreByTurn (one ∷ ones) =
    AllByRecursion (λ (other : Served). one.consumer.turn < other.consumer.turn) ones × AreByTurn ones

-- the consumers that may be served, by turn
pub record AreWaiting (m : Parts) (waiting : List Served) : Type 0 where
  pub among : AllByRecursion (λ (one : Served). Contains m.served one × (may_serve one ≡ true)) waiting
  pub all : AllByRecursion (λ (one : Served). (may_serve one ≡ false) ⊎ Contains waiting one) m.served
  pub order : AreByTurn waiting
  pub drawn : AllByRecursion (λ (one : Served). one.consumer.turn ≤ m.rest.turns) waiting

abbrev pub first_one : List Served → Option Served
first_one [] = None
first_one (one ∷ ones) = Some one

-- one that was served waits behind all others, if it may be served again
abbrev pub behind : Served → List Served → List Served
behind one ones = if may_serve one then ones ++ one ∷ [] else ones

-- The next consumer is the first that waits. Once it was served, it waits behind all others.
pub record AreInTurn (m : Parts) (s : State) (waiting : List Served) : Type 0 where
  pub next : next_consumer false s.rows s.consumers ≡ option_map consumer_at (first_one waiting)
  pub later : (x : Item) (one : Served) (ones : List Served) → waiting ≡ one ∷ ones
      → AreWaiting (hand_over x one.consumer m) (behind (serve_one (m.rest.turns + 1) x one) ones)

-- the consumer itself, if it may be served
abbrev pub servable_one : Served → Option Served
servable_one one = if may_serve one then Some one else None

abbrev pub is_current : Served → Bool
is_current one = not one.consumer.cancelled

-- with a single active consumer: the longest joined one that isn't cancelled, if it may be served
abbrev pub active_one : List Served → Option Served
active_one ones = option_and_then servable_one (find is_current ones)
