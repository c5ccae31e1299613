-- Consumers change, and leave, in the parts of a queue.
use Rattle.std.specs.Prelude.{◌≡◌, ◌⊎◌, Bool, not, ◌&&◌, true, nat_eq, [], map, filter, Contains, length, if◌then◌else◌}
use Rattle.std.specs.List.{AllByRecursion}
use Rattle.qq_base.specs.declared.ids.SessionId.{SessionId}
use Rattle.qq_base.specs.Ids.{same_consumer}
use Rattle.qq_model.specs.declared.consumer.Consumer.{Consumer}
use Rattle.qq_model.specs.State.{State}
use Rattle.qq_model.specs.Changes.{put_consumer, drop_finished}
use Rattle.qq_model.specs.Commands.{is_of_session}
use Rattle.qq_parts.specs.Parts.{Served, Parts}
use Rattle.qq_parts.specs.Changes.{Holds}

-- the consumer of an id is this one
abbrev pub change_one : Consumer → Served → Served
change_one new one = if same_consumer one.consumer.id new.id then record { consumer = new; out = one.out } else one

abbrev pub changed : Consumer → Parts → Parts
changed new m = record m { served = map (change_one new) m.served }

-- a consumer may change, but for its id and that of its next delivery: it is cancelled, its credit is set or drained,
-- or it gets a turn
abbrev pub MayChange : Parts → State → Type 0
MayChange m s =
    (old : Served) (new : Consumer) → Contains m.served old → new.id ≡ old.consumer.id
    → new.next_id ≡ old.consumer.next_id
    → Holds (changed new m) (record s { consumers = put_consumer new s.consumers })

abbrev pub keep_ones : (Served → Bool) → Parts → Parts
keep_ones stays m = record m { served = filter stays m.served }

-- one that was cancelled stays for what is out with it
abbrev pub needed_one : Served → Bool
needed_one one = not (one.consumer.cancelled && nat_eq (length one.out) 0)

-- those that aren't needed leave
abbrev pub MayFinish : Parts → State → Type 0
MayFinish m s = Holds (keep_ones needed_one m) (drop_finished s)

abbrev pub stays_one : SessionId → Served → Bool
stays_one session one = not (is_of_session session one.consumer)

-- the consumers of a session leave, once nothing is out with them
abbrev pub MayGo : Parts → State → Type 0
MayGo m s =
    (session : SessionId)
    → AllByRecursion (λ (one : Served). (stays_one session one ≡ true) ⊎ (one.out ≡ [])) m.served
    → Holds (keep_ones (stays_one session) m)
    (record s { consumers = filter (λ (one : Consumer). not (is_of_session session one)) s.consumers })

pub record ConsumersChange (m : Parts) (s : State) : Type 0 where
  pub change : MayChange m s
  pub finish : MayFinish m s
  pub go : MayGo m s
