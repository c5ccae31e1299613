-- What is read of rows, is read of the live ones alone.
use Rattle.std.proofs.Common.{◌≡◌, ℕ, ◌+◌, ◌≤◌, Bool, true, false, cond, List, [], ◌∷◌, Option, Some, None, length, refl, sym, ap, ◌∙◌, inl, inr, arith, if◌then◌else◌}
use Rattle.std.specs.Prelude.{nat_lt, fold, find, count_by}
use Rattle.std.specs.Option.{option_and_then, option_map}
use Rattle.std.specs.List.{AllByRecursion}
use Rattle.std.proofs.lemmas.Bool.{false≢true, cases_Bool, cond-true, cond-false}
use Rattle.qq_base.specs.declared.ids.ConsumerId.{ConsumerId}
use Rattle.qq_entry.specs.declared.message.Message.{Message}
use Rattle.qq_model.specs.declared.place.GoneReason.{GoneReason}
use Rattle.qq_model.specs.declared.place.Place.{Place}
use Rattle.qq_model.specs.declared.place.Place.TheVariants.{Gone}
use Rattle.qq_model.specs.declared.place.Row.{Row}
use Rattle.qq_model.specs.Choice.{is_lesser, lesser, key_less, ready_key, place_key, next_message, is_out_to, out_count}
use Rattle.qq_model.specs.Limits.{is_ready, is_dead, is_live, ready_count, ready_bytes, dead_count, live_count}
use Rattle.qq_model.specs.Commands.{is_delivery, delivered_row, delivery_id, first_delivery, is_dead_number, dead_row}
use Rattle.qq_model.specs.Serving.{is_given, given_count, dead_number, next_dead}
use Rattle.qq_model.proofs.Indices.{Rises, indices}
use Rattle.qq_parts.specs.Reduced.{Item, item_row, live_items}

-- rows in order up to an index, and a message for each
pub record Fits (last : ℕ) (rows : List Row) (messages : List Message) : Type 0 where
  pub rising : Rises (indices rows)
  pub below : AllByRecursion (λ n. n ≤ last) (indices rows)
  pub long : length rows ≡ length messages

-- rows and messages of which the same aren't gone
pub record Alike (last : ℕ) (rows : List Row) (messages : List Message) (rows' : List Row) (messages' : List Message)
    : Type 0 where
  pub live : live_items rows messages ≡ live_items rows' messages'
  pub first : Fits last rows messages
  pub second : Fits last rows' messages'

-- what is true of all that are gone
pub gone-is : (P : Place → Type 0) → ((reason : GoneReason) → P (Gone reason)) → (place : Place)
    → is_live place ≡ false → P place
gone-is P each (Gone reason) gone = each reason
gone-is P each _ gone = absurd (false≢true (sym gone))

-- Folds -----------------------------------------------------------------------------------------------

pub fold-live : {B : Type 0} (f : B → Row → B) → ((b : B) (row : Row) → is_live row.place ≡ false → f b row ≡ b)
    → (rows : List Row) (messages : List Message) → length rows ≡ length messages → (b : B)
    → fold f b rows ≡ fold (λ (c : B) (item : Item). f c item.row) b (live_items rows messages)
fold-live f passes [] messages long b = refl
fold-live f passes (row ∷ rows) [] long b = absurd (omega arith)
fold-live {B = B} f passes (row ∷ rows) (message ∷ messages) long b =
    let rest = fold-live f passes rows messages (omega arith) in
    let first : Item = record { row = row; message = message } in
    let more : List Item = live_items rows messages in
    let over : List Item → B = λ xs. fold (λ (c : B) (item : Item). f c item.row) b xs in
    elim (cases_Bool (is_live row.place)) [
      | inl lives ↦ rest (f b row) ∙ sym (ap over (cond-true (is_live row.place) (first ∷ more) more lives))
      | inr gone ↦
          ap (λ (c : B). fold f c rows) (passes b row gone) ∙ rest b
          ∙ sym (ap over (cond-false (is_live row.place) (first ∷ more) more gone))
    ]

pub fold-alike : {B : Type 0} {last : ℕ} (f : B → Row → B)
    → ((b : B) (row : Row) → is_live row.place ≡ false → f b row ≡ b)
    → (rows : List Row) (messages : List Message) (rows' : List Row) (messages' : List Message)
    → Alike last rows messages rows' messages' → (b : B) → fold f b rows ≡ fold f b rows'
fold-alike {B = B} f passes rows messages rows' messages' alike b =
    fold-live f passes rows messages alike.first.long b
    ∙ ap (λ (xs : List Item). fold (λ (c : B) (item : Item). f c item.row) b xs) alike.live
    ∙ sym (fold-live f passes rows' messages' alike.second.long b)

count-alike : {last : ℕ} (test : Row → Bool) → ((row : Row) → is_live row.place ≡ false → test row ≡ false)
    → (rows : List Row) (messages : List Message) (rows' : List Row) (messages' : List Message)
    → Alike last rows messages rows' messages' → count_by test rows ≡ count_by test rows'
count-alike test fails rows messages rows' messages' alike =
    fold-alike (λ (n : ℕ) (row : Row). n + cond (test row) 1 0)
    (λ n row gone. let none : n + 0 ≡ n = omega arith in ap (λ t. n + cond t 1 0) (fails row gone) ∙ none)
    rows messages rows' messages' alike 0

least-alike : {K : Type 0} {last : ℕ} (less : K → K → Bool) (key : Row → Option K)
    → ((row : Row) → is_live row.place ≡ false → key row ≡ None)
    → (rows : List Row) (messages : List Message) (rows' : List Row) (messages' : List Message)
    → Alike last rows messages rows' messages' → fold (lesser less key) None rows ≡ fold (lesser less key) None rows'
least-alike less key none rows messages rows' messages' alike =
    fold-alike (lesser less key)
    (λ best row gone.
    cond-false (is_lesser less (key row) (option_and_then key best)) (Some row) best
    (ap (λ o. is_lesser less o (option_and_then key best)) (none row gone)))
    rows messages rows' messages' alike None

-- What is found ---------------------------------------------------------------------------------------

found-by : (b : Bool) (row : Row) (first : Item) (rest : Option Row) (later : Option Item) → row ≡ first.row
    → rest ≡ option_map item_row later → cond b (Some row) rest ≡ option_map item_row (cond b (Some first) later)
found-by true row first rest later same is = ap (λ (one : Row). Some one) same
found-by false row first rest later same is = is

find-live : (test : Row → Bool) → ((row : Row) → is_live row.place ≡ false → test row ≡ false)
    → (rows : List Row) (messages : List Message) → length rows ≡ length messages
    → find test rows ≡ option_map item_row (find (λ (item : Item). test item.row) (live_items rows messages))
find-live test fails [] messages long = refl
find-live test fails (row ∷ rows) [] long = absurd (omega arith)
find-live test fails (row ∷ rows) (message ∷ messages) long =
    let rest = find-live test fails rows messages (omega arith) in
    let first : Item = record { row = row; message = message } in
    let more : List Item = live_items rows messages in
    let over : List Item → Option Row = λ xs. option_map item_row (find (λ (item : Item). test item.row) xs) in
    elim (cases_Bool (is_live row.place)) [
      | inl lives ↦
          found-by (test row) row first (find test rows) (find (λ (item : Item). test item.row) more) refl rest
          ∙ sym (ap over (cond-true (is_live row.place) (first ∷ more) more lives))
      | inr gone ↦
          cond-false (test row) (Some row) (find test rows) (fails row gone) ∙ rest
          ∙ sym (ap over (cond-false (is_live row.place) (first ∷ more) more gone))
    ]

find-alike : {last : ℕ} (test : Row → Bool) → ((row : Row) → is_live row.place ≡ false → test row ≡ false)
    → (rows : List Row) (messages : List Message) (rows' : List Row) (messages' : List Message)
    → Alike last rows messages rows' messages' → find test rows ≡ find test rows'
find-alike test fails rows messages rows' messages' alike =
    find-live test fails rows messages alike.first.long
    ∙ ap (λ (xs : List Item). option_map item_row (find (λ (item : Item). test item.row) xs)) alike.live
    ∙ sym (find-live test fails rows' messages' alike.second.long)

-- All that a queue reads of its rows ------------------------------------------------------------------

pub record Scans (rows rows' : List Row) : Type 0 where
  pub ready : ready_count rows ≡ ready_count rows'
  pub bytes : ready_bytes rows ≡ ready_bytes rows'
  pub live : live_count rows ≡ live_count rows'
  pub dead : dead_count rows ≡ dead_count rows'
  pub next : next_message rows ≡ next_message rows'
  pub out : (consumer : ConsumerId) → out_count consumer rows ≡ out_count consumer rows'
  pub delivered : (consumer : ConsumerId) (id : ℕ) → delivered_row consumer id rows ≡ delivered_row consumer id rows'
  pub first : (consumer : ConsumerId) → first_delivery consumer rows ≡ first_delivery consumer rows'
  pub given : (n : ℕ) → given_count n rows ≡ given_count n rows'
  pub next_dead_row : (n : ℕ) → next_dead n rows ≡ next_dead n rows'
  pub numbered : (n : ℕ) → dead_row n rows ≡ dead_row n rows'

pub scans : {last : ℕ} (rows : List Row) (messages : List Message) (rows' : List Row) (messages' : List Message)
    → Alike last rows messages rows' messages' → Scans rows rows'
scans rows messages rows' messages' alike = record {
  ready =
      count-alike (λ (row : Row). is_ready row.place)
      (λ row gone. gone-is (λ place. is_ready place ≡ false) (λ reason. refl) row.place gone)
      rows messages rows' messages' alike;
  bytes =
      fold-alike (λ (n : ℕ) (row : Row). n + (if is_ready row.place then row.size else 0))
      (λ n row gone.
      let none : n + 0 ≡ n = omega arith in
      ap (λ t. n + cond t row.size 0)
      (gone-is (λ place. is_ready place ≡ false) (λ reason. refl) row.place gone) ∙ none)
      rows messages rows' messages' alike 0;
  live =
      count-alike (λ (row : Row). is_live row.place) (λ row gone. gone) rows messages rows' messages' alike;
  dead =
      count-alike (λ (row : Row). is_dead row.place)
      (λ row gone. gone-is (λ place. is_dead place ≡ false) (λ reason. refl) row.place gone)
      rows messages rows' messages' alike;
  next =
      least-alike key_less ready_key
      (λ row gone. gone-is (λ place. place_key place ≡ None) (λ reason. refl) row.place gone)
      rows messages rows' messages' alike;
  out =
      λ consumer.
      count-alike (λ (row : Row). is_out_to consumer row.place)
      (λ row gone. gone-is (λ place. is_out_to consumer place ≡ false) (λ reason. refl) row.place gone)
      rows messages rows' messages' alike;
  delivered =
      λ consumer id.
      find-alike (λ (row : Row). is_delivery consumer id row.place)
      (λ row gone. gone-is (λ place. is_delivery consumer id place ≡ false) (λ reason. refl) row.place gone)
      rows messages rows' messages' alike;
  first =
      λ consumer.
      least-alike nat_lt (λ (row : Row). delivery_id consumer row.place)
      (λ row gone. gone-is (λ place. delivery_id consumer place ≡ None) (λ reason. refl) row.place gone)
      rows messages rows' messages' alike;
  given =
      λ n.
      count-alike (λ (row : Row). is_given n row.place)
      (λ row gone. gone-is (λ place. is_given n place ≡ false) (λ reason. refl) row.place gone)
      rows messages rows' messages' alike;
  next_dead_row =
      λ n.
      least-alike nat_lt (λ (row : Row). dead_number n row.place)
      (λ row gone. gone-is (λ place. dead_number n place ≡ None) (λ reason. refl) row.place gone)
      rows messages rows' messages' alike;
  numbered =
      λ n.
      find-alike (λ (row : Row). is_dead_number n row.place)
      (λ row gone. gone-is (λ place. is_dead_number n place ≡ false) (λ reason. refl) row.place gone)
      rows messages rows' messages' alike;
}
