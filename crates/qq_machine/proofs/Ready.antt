-- What is taken out of a queue's ready messages, and counted of them, is taken out of its parts, and counted of them.
use Rattle.std.proofs.Common.{◌≡◌, ℕ, ◌+◌, List, [], ◌∷◌, ◌++◌, Option, Some, None, map, length, refl, sym, ap, ◌∙◌, subst, arith}
use Rattle.std.specs.Prelude.{IfSome, IfNone}
use Rattle.std.specs.Option.{option_map}
use Rattle.std.proofs.lemmas.List.{map-append, length-map, length-append}
use Rattle.qq_base.specs.declared.ids.Index.{Index}
use Rattle.qq_entry.specs.declared.message.Message.{Message}
use Rattle.qq_entry.specs.declared.message.ReadyRow.{ReadyRow}
use Rattle.qq_entry.specs.declared.queue.QueueArgs.{QueueArgs}
use Rattle.qq_model.specs.declared.place.Key.{Key}
use Rattle.qq_model.specs.declared.place.Place.{Place}
use Rattle.qq_model.specs.declared.place.Place.TheVariants.{Ready}
use Rattle.qq_parts.specs.Reduced.{Item}
use Rattle.qq_parts.specs.Parts.{Parts, outs, items_of}
use Rattle.qq_parts.specs.Reads.{ready_items, size_of}
use Rattle.qq_parts.specs.Changes.{take_first, push_back, arrive}
use Rattle.qq_ready.specs.declared.row.KeyedRow.{KeyedRow}
use Rattle.qq_ledger.specs.Ledger.{Tracking}
use Rattle.qq_ready.specs.Queue.{in_order, head, without_next, queue_of, bytes_of}
use Rattle.qq_ready.specs.Queue.{Queue as Keyed, ReadyState}
use Rattle.qq_consumer.specs.Roster.{item_at}
use Rattle.qq_machine.specs.declared.queue.Queue.{Queue}
use Rattle.qq_machine.specs.Views.{keyed_item, dead_item, parts_of, IsFirst}
use Rattle.qq_machine.proofs.Lists.{sum-over}

-- other ready messages
abbrev pub with_ready : Keyed → Parts → Parts
with_ready q m =
    record m {
      rest = record (m.rest) { orders = q.orders; returns = q.returns };
      fronts = map keyed_item q.fronts;
      backs = map keyed_item q.backs;
    }

abbrev row_in : KeyedRow → ReadyRow
row_in one = one.row

abbrev Takes : Keyed → ReadyRow → Type 0
Takes q row =
    (key : Key) × ((m : Parts) → take_first (with_ready q m)
    ≡ Some (record { item = item_at (Ready key) row; left = with_ready (without_next q) m }))

first-by : (fronts backs : List KeyedRow) (orders returns : ℕ) (row : ReadyRow)
    → option_map row_in (head (fronts ++ backs)) ≡ Some row → Takes (queue_of fronts backs orders returns) row
first-by [] [] orders returns row is = absurd cc
first-by [] (one ∷ backs) orders returns row is =
    let same : one.row ≡ row = cc in
    subst (Takes (queue_of [] (one ∷ backs) orders returns)) same (one.key, λ m. refl)
first-by (one ∷ fronts) backs orders returns row is =
    let same : one.row ≡ row = cc in
    subst (Takes (queue_of (one ∷ fronts) backs orders returns)) same (one.key, λ m. refl)

none-by : (fronts backs : List KeyedRow) (orders returns : ℕ) → option_map row_in (head (fronts ++ backs)) ≡ None
    → (without_next (queue_of fronts backs orders returns) ≡ queue_of fronts backs orders returns)
    × ((m : Parts) → take_first (with_ready (queue_of fronts backs orders returns) m) ≡ None)
none-by [] [] orders returns is = (refl, λ m. refl)
none-by [] (one ∷ backs) orders returns is = absurd cc
none-by (one ∷ fronts) backs orders returns is = absurd cc

pub first-is : (o : Option ReadyRow) (old : Queue) (ready : Tracking ReadyState)
    → o ≡ option_map row_in (head (in_order old.ready.store.queue))
    → ready.store.queue ≡ without_next old.ready.store.queue
    → IfSome o (λ row. IsFirst row old (record old { ready = ready }))
first-is None old ready is left = tt
first-is (Some row) old ready is left =
    let q : Keyed = old.ready.store.queue in
    let made = first-by q.fronts q.backs q.orders q.returns row (sym is) in
    subst (λ (r : Keyed). (key : Key) × ((args : QueueArgs) → take_first (parts_of args old)
    ≡ Some (record { item = item_at (Ready key) row; left = with_ready r (parts_of args old) })))
    (sym left) (made.0, λ args. made.1 (parts_of args old))

pub none-first : (o : Option ReadyRow) (old : Queue) → o ≡ option_map row_in (head (in_order old.ready.store.queue))
    → IfNone o ((args : QueueArgs) → take_first (parts_of args old) ≡ None)
none-first (Some row) old is = tt
none-first None old is =
    let q : Keyed = old.ready.store.queue in
    λ args. (none-by q.fronts q.backs q.orders q.returns (sym is)).1 (parts_of args old)

pub none-still : (o : Option ReadyRow) (old : Queue) (ready : Tracking ReadyState)
    → o ≡ option_map row_in (head (in_order old.ready.store.queue))
    → ready.store.queue ≡ without_next old.ready.store.queue
    → IfNone o ((args : QueueArgs) → parts_of args (record old { ready = ready }) ≡ parts_of args old)
none-still (Some row) old ready is left = tt
none-still None old ready is left =
    let q : Keyed = old.ready.store.queue in
    λ args. ap (λ (r : Keyed). with_ready r (parts_of args old))
    (left ∙ (none-by q.fronts q.backs q.orders q.returns (sym is)).0)

-- a new message is one that is put at the back, with the next arrival
pub arrives : (place : Place) (index : Index) (message twin : Message) (a : ℕ) (m new : Parts) → twin ≡ message
    → a ≡ m.rest.arrivals + 1
    → push_back
    (item_at place (record { index = index; arrival = a; count = 0; message = twin })) m ≡ new
    → arrive index message m ≡ record new { rest = record (new.rest) { arrivals = a } }
arrives place index message twin a m new same counts put =
    let back : ℕ → Parts = λ n. push_back
    (item_at place (record { index = index; arrival = n; count = 0; message = twin })) m in
    ap (λ (msg : Message). arrive index msg m) (sym same)
    ∙ ap (λ (n : ℕ). record (back n) { rest = record ((back n).rest) { arrivals = n } }) (sym counts)
    ∙ ap (λ (k : Parts). record k { rest = record (k.rest) { arrivals = a } }) put

-- counts
ready-is : (q : Keyed) (m : Parts) → ready_items (with_ready q m) ≡ map keyed_item (in_order q)
ready-is q m = sym (map-append keyed_item q.fronts q.backs)

pub ready_count : (args : QueueArgs) (old : Queue)
    → length (ready_items (parts_of args old)) ≡ length (in_order old.ready.store.queue)
ready_count args old =
    ap length (ready-is old.ready.store.queue (parts_of args old))
    ∙ length-map (in_order old.ready.store.queue) keyed_item

pub ready_bytes : (args : QueueArgs) (old : Queue)
    → size_of (ready_items (parts_of args old)) ≡ bytes_of (in_order old.ready.store.queue)
ready_bytes args old =
    ap size_of (ready-is old.ready.store.queue (parts_of args old))
    ∙ sum-over (λ (x : Item). x.row.size) keyed_item (in_order old.ready.store.queue)

pub live_count : (args : QueueArgs) (old : Queue) → length (items_of (parts_of args old))
    ≡ length (in_order old.ready.store.queue)
    + (length (outs old.consumers.roster.served) + length old.dead.store.letters.rows)
live_count args old =
    let m : Parts = parts_of args old in
    let first : length (items_of m) ≡ length (ready_items m) + length (outs m.served ++ m.dead) =
    length-append (ready_items m) (outs m.served ++ m.dead) in
    let second : length (outs m.served ++ m.dead) ≡ length (outs m.served) + length m.dead =
    length-append (outs m.served) m.dead in
    let third : length m.dead ≡ length old.dead.store.letters.rows = length-map old.dead.store.letters.rows dead_item in
    let ready = ready_count args old in
    omega (arith, first, second, third, ready)
