-- Which consumers of a queue have a taker.
use Rattle.std.specs.Prelude.{ℕ, List, [], ◌∷◌, Bool, not, Option, filter, find, nat_lt, if◌then◌else◌}
use Rattle.std.specs.Option.{option_map}
use Rattle.qq_base.specs.Ids.{same_consumer, same_session}
use Rattle.qq_base.specs.declared.ids.ConsumerId.{ConsumerId}
use Rattle.qq_taker.specs.declared.seats.Leaving.{Leaving}
use Rattle.qq_taker.specs.declared.seats.Leaving.TheVariants.{Consumer, Session}
use Rattle.qq_taker.specs.declared.seats.Seat.{Seat}

abbrev pub is_of : ConsumerId → Seat → Bool
is_of id seat = same_consumer seat.consumer id

-- the number of a consumer's taker, None where it has none
abbrev pub taker_of : ConsumerId → List Seat → Option ℕ
taker_of id seats = option_map (λ (seat : Seat). seat.number) (find (is_of id) seats)

abbrev pub is_above : ℕ → Seat → Bool
is_above tag seat = nat_lt tag seat.consumer.tag

-- a consumer gets a taker; the seats are in the order of their tags
abbrev pub sit : Seat → List Seat → List Seat
sit seat [] = seat ∷ []
sit seat (other ∷ more) =
    if nat_lt seat.consumer.tag other.consumer.tag then seat ∷ other ∷ more else other ∷ sit seat more

-- ---- who loses its taker

abbrev pub leaves : Leaving → Seat → Bool
leaves (Consumer id) seat = same_consumer seat.consumer id
leaves (Session session) seat = same_session seat.consumer.session session

-- those that lose it, in the order of their tags, and the others
abbrev pub leaving : Leaving → List Seat → List Seat
leaving whom seats = filter (leaves whom) seats

abbrev pub staying : Leaving → List Seat → List Seat
staying whom seats = filter (λ (seat : Seat). not (leaves whom seat)) seats

-- the first one gives up its taker
abbrev pub without_first : Leaving → List Seat → List Seat
without_first whom [] = []
without_first whom (seat ∷ seats) = if leaves whom seat then seats else seat ∷ without_first whom seats
