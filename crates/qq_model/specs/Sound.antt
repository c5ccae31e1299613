-- What holds of every queue: each number is drawn once, and nothing has one that wasn't drawn.
use Rattle.std.specs.Prelude.{◌≡◌, ℕ, ◌-◌, ◌<◌, ◌≤◌, true, false, List, Option, Some, None, All, AllPairs, Contains, count_by, length}
use Rattle.qq_base.specs.declared.ids.ConsumerId.{ConsumerId}
use Rattle.qq_base.specs.Ids.{same_consumer}
use Rattle.qq_model.specs.declared.TheConstants.{WINDOW, MOST_CONSUMERS, MOST_GIVEN}
use Rattle.qq_model.specs.declared.place.Key.TheVariants.{Front, Back}
use Rattle.qq_model.specs.declared.place.Place.{Place}
use Rattle.qq_model.specs.declared.place.Place.TheVariants.{Ready, Out, Dead}
use Rattle.qq_model.specs.declared.place.Row.{Row}
use Rattle.qq_model.specs.declared.consumer.Consumer.{Consumer}
use Rattle.qq_model.specs.declared.session.OpenSession.{OpenSession}
use Rattle.qq_model.specs.declared.session.Worker.{Worker}
use Rattle.qq_model.specs.State.{State}
use Rattle.qq_model.specs.Gate.{IsNumbered, is_ended, greatest_tag}
use Rattle.qq_model.specs.Choice.{out_count}
use Rattle.qq_model.specs.Commands.{delivery_id}
use Rattle.qq_model.specs.Serving.{given_count}

-- the number of a place at the front of the queue, at its back, and among the dead
abbrev pub front_number : Place → Option ℕ
front_number (Ready (Front n)) = Some n
front_number _ = None

abbrev pub back_number : Place → Option ℕ
back_number (Ready (Back n)) = Some n
back_number _ = None

abbrev pub death_number : Place → Option ℕ
death_number (Dead n reason) = Some n
death_number _ = None

-- no two messages have one number, and each number is one of those drawn, from 1 up to the last
pub record IsDrawnOnce (number : Place → Option ℕ) (last : ℕ) (rows : List Row) : Type 0 where
  pub once : (a b : Row) (n : ℕ) → Contains rows a → Contains rows b → number a.place ≡ Some n
      → number b.place ≡ Some n → a ≡ b
  pub drawn : (row : Row) (n : ℕ) → Contains rows row → number row.place ≡ Some n → (0 < n) × (n ≤ last)

-- the answers to the numbers above the low mark and below the next are kept, and these are no more than may be open
pub record KeepsAnswers (one : OpenSession) : Type 0 where
  pub mark : one.mark < one.next
  pub kept : length one.kept ≡ one.next - 1 - one.mark
  pub window : length one.kept ≤ WINDOW

-- the messages are in order, and their places, the dead and the deliveries have numbers of their own
pub record HasSoundMessages (s : State) : Type 0 where
  pub rising : AllPairs (λ (a b : Row). a.index.0 < b.index.0) s.rows
  pub applied : All (λ (row : Row). row.index.0 ≤ s.applied) s.rows
  pub arrivals : length s.rows ≡ s.arrivals
  pub messages : length s.messages ≡ s.arrivals
  pub fronts : IsDrawnOnce front_number s.returns s.rows
  pub backs : IsDrawnOnce back_number s.orders s.rows
  pub deads : IsDrawnOnce death_number s.deads s.rows
  pub given : s.given ≤ s.deads
  pub window : given_count s.given s.rows ≤ MOST_GIVEN
  pub holders : (row : Row) (consumer : ConsumerId) (id : ℕ) → Contains s.rows row → row.place ≡ Out consumer id
      → (one : Consumer) × Contains s.consumers one × (one.id ≡ consumer)

-- Consumers have turns of their own and are no more than may be, and one that was cancelled has something out. Those
-- of clients, and of workers that dead-letter at least once, are each the only one of their id, their tags are those
-- that their session used, and the ids of what is out with one are those that it was given.
pub record HasSoundConsumers (s : State) : Type 0 where
  pub turns : (a b : Consumer) → Contains s.consumers a → Contains s.consumers b → a.turn ≡ b.turn → a.id ≡ b.id
  pub drawn : (one : Consumer) → Contains s.consumers one → one.turn ≤ s.turns
  pub few : length s.consumers ≤ MOST_CONSUMERS
  pub busy : (one : Consumer) → Contains s.consumers one → one.cancelled ≡ true → 0 < out_count one.id s.rows
  pub tags : (one : Consumer) → Contains s.consumers one → IsNumbered one.id.session
      → is_ended s.sessions one.id.session ≡ false → one.id.tag ≤ greatest_tag one.id.session s.sessions
  pub alone : (id : ConsumerId) → IsNumbered id.session
      → count_by (λ (one : Consumer). same_consumer one.id id) s.consumers ≤ 1
  pub deliveries : (one : Consumer) → Contains s.consumers one → IsNumbered one.id.session
      → IsDrawnOnce (delivery_id one.id) (one.next_id - 1) s.rows

-- each open session is the only one of its id, and keeps its answers; ended numbers and the owners of workers rise
pub record HasSoundSessions (s : State) : Type 0 where
  pub ended : AllPairs (λ (a b : ℕ). a < b) s.sessions.ended
  pub owners : AllPairs (λ (a b : Worker). a.owner < b.owner) s.sessions.workers
  pub alone : AllPairs (λ (a b : OpenSession). a.session ≡ b.session → ⊥) s.sessions.opened
  pub kept : All KeepsAnswers s.sessions.opened

-- what holds of every queue
pub record IsSound (s : State) : Type 0 where
  pub messages : HasSoundMessages s
  pub consumers : HasSoundConsumers s
  pub sessions : HasSoundSessions s
