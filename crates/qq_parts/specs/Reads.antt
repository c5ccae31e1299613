-- What is read of a queue is read of its parts, without a scan of its rows.
use Rattle.std.specs.Prelude.{◌≡◌, ℕ, List, [], ◌∷◌, ◌++◌, Option, Some, None, length, sum_by}
use Rattle.std.specs.Option.{option_map}
use Rattle.std.specs.List.{AllByRecursion}
use Rattle.qq_model.specs.State.{State}
use Rattle.qq_model.specs.Choice.{next_message, out_count}
use Rattle.qq_model.specs.Limits.{ready_count, ready_bytes, dead_count, live_count}
use Rattle.qq_model.specs.Changes.{message_of}
use Rattle.qq_parts.specs.Reduced.{Item, item_row}
use Rattle.qq_parts.specs.Parts.{Served, Parts, items_of}

-- the first of a list
abbrev pub first_of : List Item → Option Item
first_of [] = None
first_of (x ∷ xs) = Some x

-- the ready messages, the next first
abbrev pub ready_items : Parts → List Item
ready_items m = m.fronts ++ m.backs

abbrev pub size_of : List Item → ℕ
size_of xs = sum_by (λ (x : Item). x.row.size) xs

-- the next message is the first, counts are lengths, and each item has its row's message
pub record Reads (m : Parts) (s : State) : Type 0 where
  pub next : next_message s.rows ≡ option_map item_row (first_of (ready_items m))
  pub ready : ready_count s.rows ≡ length (ready_items m)
  pub bytes : ready_bytes s.rows ≡ size_of (ready_items m)
  pub live : live_count s.rows ≡ length (items_of m)
  pub dead : dead_count s.rows ≡ length m.dead
  pub out : AllByRecursion (λ (one : Served). out_count one.consumer.id s.rows ≡ length one.out) m.served
  pub message : AllByRecursion (λ (x : Item). message_of s.rows s.messages x.row ≡ x.message) (items_of m)
