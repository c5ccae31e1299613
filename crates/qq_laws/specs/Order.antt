-- In which order consumers stand (RabbitMQ, "Single Active Consumer").
use Rattle.std.specs.Prelude.{◌≡◌, ◌⊎◌, List, [], ◌∷◌, ◌++◌, Contains, map, filter, not, Option, Some, None, false, if◌then◌else◌}
use Rattle.qq_base.specs.declared.ids.ConsumerId.{ConsumerId}
use Rattle.qq_entry.specs.Command.{consumer_id}
use Rattle.qq_entry.specs.declared.answer.Answer.{Answer}
use Rattle.qq_entry.specs.declared.command.Command.{Command}
use Rattle.qq_entry.specs.declared.command.Command.TheVariants.{Subscribe}
use Rattle.qq_entry.specs.declared.command.Entry.{Entry}
use Rattle.qq_model.specs.declared.consumer.Consumer.{Consumer}
use Rattle.qq_model.specs.State.{State}
use Rattle.qq_model.specs.Step.{Step}
use Rattle.qq_model.specs.Audit.{next_step}
use Rattle.qq_laws.specs.Active.{active_id}
use Rattle.qq_laws.specs.Joining.{ends_consumer, is_subscribed}

-- a list is another one, of which some may be left out
abbrev pub IsPart : {A : Type 0} → List A → List A → Type 0
IsPart [] ys = Unit {0}
IsPart (x ∷ xs) [] = ⊥
IsPart (x ∷ xs) (y ∷ ys) = ((x ≡ y) × IsPart xs ys) ⊎ IsPart (x ∷ xs) ys

abbrev pub ids : List Consumer → List ConsumerId
ids consumers = map (λ (one : Consumer). one.id) consumers

-- who joins by a command and its answer
abbrev pub joined_by : Command → Answer → List ConsumerId
joined_by (Subscribe given tag mode) answer = if is_subscribed answer then consumer_id given tag ∷ [] else []
joined_by _ answer = []

-- who joins by an entry: the consumer of a subscribe that is carried out and not refused
abbrev pub joined : Entry → Step → List ConsumerId
joined entry made = if made.fresh then joined_by entry.command made.answer else []

-- those that stay keep their order, and who joins stands last
abbrev pub KeepsOrder : List ConsumerId → List ConsumerId → List ConsumerId → Type 0
KeepsOrder before new after = (stays : List ConsumerId) × IsPart stays before × (after ≡ stays ++ new)

abbrev pub JoinLast : State → Entry → Type 0
JoinLast s entry =
    let made = next_step s entry in KeepsOrder (ids s.consumers) (joined entry made) (ids made.state.consumers)

-- no two of a list are the same
abbrev pub AreApart : List ConsumerId → Type 0
AreApart [] = Unit {0}
AreApart (id ∷ rest) = (Contains rest id → ⊥) × AreApart rest

-- the consumers that aren't cancelled
abbrev pub going : List Consumer → List Consumer
going consumers = filter (λ (one : Consumer). not one.cancelled) consumers

-- no two consumers before an entry have one id, and no two after it: consumers of clients and of workers that
-- dead-letter at least once never have
pub record HaveIds (s : State) (entry : Entry) : Type 0 where
  pub before : AreApart (ids s.consumers)
  pub after : AreApart (ids (next_step s entry).state.consumers)

-- those that aren't cancelled keep their order too, and none that was cancelled comes back
abbrev pub GoOnInOrder : State → Entry → Type 0
GoOnInOrder s entry =
    let made = next_step s entry in
    HaveIds s entry → KeepsOrder (ids (going s.consumers)) (joined entry made) (ids (going made.state.consumers))

-- the first of a list, if it isn't empty
abbrev pub first : List ConsumerId → Option ConsumerId
first [] = None
first (id ∷ rest) = Some id

-- the active consumer is the one that joined first of those that aren't cancelled
abbrev pub FirstIsActive : List Consumer → Type 0
FirstIsActive consumers = active_id consumers ≡ first (ids (going consumers))

-- the active consumer stays the active one, unless the entry cancels it or ends its session
abbrev pub ActiveStays : State → Entry → Type 0
ActiveStays s entry =
    (id : ConsumerId) → HaveIds s entry → active_id s.consumers ≡ Some id → ends_consumer entry.command id ≡ false
    → active_id (next_step s entry).state.consumers ≡ Some id
