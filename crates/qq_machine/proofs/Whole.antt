-- The parts of a queue in memory are whole.
use Rattle.std.proofs.Common.{◌≡◌, ℕ, ◌<◌, List, [], ◌∷◌, map, refl, sym, ap, ◌∙◌, arith}
use Rattle.std.specs.List.{AllByRecursion}
use Rattle.qq_base.proofs.Lists.{AllByRecursion-map}
use Rattle.qq_entry.specs.declared.queue.QueueArgs.{QueueArgs}
use Rattle.qq_model.specs.declared.place.Key.{Key}
use Rattle.qq_model.specs.declared.place.Key.TheVariants.{Front, Back}
use Rattle.qq_model.specs.declared.place.Place.{Place}
use Rattle.qq_model.specs.declared.place.Place.TheVariants.{Ready}
use Rattle.qq_parts.specs.Reduced.{Item}
use Rattle.qq_parts.specs.Parts.{place_number, item_number, NumbersRise, IsPlaced, ArePlaced, IsDead, HasOut, AreApart, IsWhole}
use Rattle.qq_ready.specs.declared.row.KeyedRow.{KeyedRow}
use Rattle.qq_ready.specs.Queue.{number, IsKey, AreKeyed, IsInOrder}
use Rattle.qq_ready.specs.Queue.{Rises as KeysRise}
use Rattle.qq_dead.specs.declared.row.DeadRow.{DeadRow}
use Rattle.qq_dead.specs.Letters.{Rises, IsDrawn, AreNumbered}
use Rattle.qq_machine.specs.declared.queue.Queue.{Queue}
use Rattle.qq_machine.specs.Views.{keyed_item, dead_item, parts_of}

key-number : (key : Key) → place_number (Ready key) ≡ number key
key-number (Front n) = refl
key-number (Back n) = refl

keys-rise : (rows : List KeyedRow) → KeysRise rows → NumbersRise (map keyed_item rows)
keys-rise [] rising = tt
keys-rise (one ∷ rows) rising = (
  AllByRecursion-map (λ (other : KeyedRow). number one.key < number other.key)
      (λ (y : Item). item_number (keyed_item one) < item_number y) keyed_item rows
      (λ other less. omega (arith, less, key-number one.key, key-number other.key)) rising.0,
  keys-rise rows rising.1,
)

keyed : (class : ℕ → Key) (last : ℕ) (rows : List KeyedRow) → AreKeyed class last rows
    → ArePlaced (λ n. Ready (class n)) last (map keyed_item rows)
keyed class last rows is =
    record {
      rising = keys-rise rows is.rising;
      each =
          AllByRecursion-map (IsKey class last) (IsPlaced (λ n. Ready (class n)) last) keyed_item rows
          (λ one key. record {
            place =
                ap (λ (k : Key). let p : Place = Ready k in p) key.key
                ∙ ap (λ (n : ℕ). let p : Place = Ready (class n) in p) (sym (key-number one.key));
            drawn = omega (arith, key.drawn, key-number one.key);
          }) is.each;
    }

dead-rise : (rows : List DeadRow) → Rises rows → NumbersRise (map dead_item rows)
dead-rise [] rising = tt
dead-rise (one ∷ rows) rising = (
  AllByRecursion-map (λ (other : DeadRow). one.number < other.number)
      (λ (y : Item). item_number (dead_item one) < item_number y) dead_item rows (λ other less. less) rising.0,
  dead-rise rows rising.1,
)

pub whole : (args : QueueArgs) (q : Queue) → IsInOrder q.ready.store.queue → AreNumbered q.dead.store.letters
    → AreApart q.consumers.roster.served → AllByRecursion HasOut q.consumers.roster.served → IsWhole (parts_of args q)
whole args q order numbered apart out =
    record {
      fronts = keyed (λ n. Front n) q.ready.store.queue.returns q.ready.store.queue.fronts order.fronts;
      backs = keyed (λ n. Back n) q.ready.store.queue.orders q.ready.store.queue.backs order.backs;
      served = out;
      apart = apart;
      dead =
          record {
            rising = dead-rise q.dead.store.letters.rows numbered.rising;
            each =
                AllByRecursion-map (IsDrawn q.dead.store.letters.deads) (IsDead q.dead.store.letters.deads) dead_item
                q.dead.store.letters.rows
                (λ one drawn. record { reason = one.reason; place = refl; drawn = drawn.1 })
                numbered.drawn;
          };
    }
