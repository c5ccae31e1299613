-- Changes of rows leave alike what was alike.
use Rattle.std.proofs.Common.{◌≡◌, ℕ, zero, suc, ◌+◌, ◌<◌, ◌≤◌, Bool, true, false, cond, List, [], ◌∷◌, ◌++◌, Option, Some, None, map, length, get_or, refl, sym, ap, ◌∙◌, subst, inl, inr, arith, length-append, if◌then◌else◌}
use Rattle.std.specs.Prelude.{nat_eq, nat_lt, filter, slice_get, unwrap_or}
use Rattle.std.specs.Option.{option_and_then}
use Rattle.std.specs.List.{AllByRecursion, position_or_len}
use Rattle.std.proofs.lemmas.Bool.{false≢true, cases_Bool, cond-true, cond-false, eqb-true, eq-eqb, ne_eqb, lt-ltb}
use Rattle.std.proofs.lemmas.List.{map-append, length-map}
use Rattle.std.proofs.lemmas.List.Sums.{position_or_len_is}
use Rattle.qq_base.specs.declared.ids.Index.{Index}
use Rattle.qq_entry.specs.declared.message.Message.{Message}
use Rattle.qq_model.specs.declared.place.Place.{Place}
use Rattle.qq_model.specs.declared.place.Place.TheVariants.{Gone}
use Rattle.qq_model.specs.declared.place.Row.{Row}
use Rattle.qq_model.specs.Limits.{is_ready, is_live}
use Rattle.qq_model.specs.Changes.{put_row, message_of}
use Rattle.qq_model.specs.Commands.{purge_row}
use Rattle.qq_base.proofs.Lists.{In, In-map, In-filter, AllByRecursion-in, AllByRecursion-append, AllByRecursion-weaker}
use Rattle.qq_model.proofs.Indices.{Rises, indices, unique, rises-push}
use Rattle.qq_model.proofs.InOrder.{indices-put, indices-purged, put-length}
use Rattle.qq_parts.specs.Reduced.{Item, item_row, items, is_live_item, live_items}
use Rattle.qq_parts.proofs.Live.{Fits, Alike}

-- Items -----------------------------------------------------------------------------------------------

pub items-rows : (x : Item) (rows : List Row) (messages : List Message) → In x (items rows messages) → In x.row rows
items-rows x [] messages here = absurd here
items-rows x (row ∷ rows) [] here = absurd here
items-rows x (row ∷ rows) (message ∷ messages) (inl same) = inl (ap item_row same)
items-rows x (row ∷ rows) (message ∷ messages) (inr later) = inr (items-rows x rows messages later)

-- a row has a message beside it
pub item-of : (row : Row) (rows : List Row) (messages : List Message) → In row rows → length rows ≡ length messages
    → (message : Message) × In (record { row = row; message = message }) (items rows messages)
item-of row [] messages here long = absurd here
item-of row (first ∷ rows) [] here long = absurd (omega arith)
item-of row (first ∷ rows) (message ∷ messages) (inl same) long =
    (message, inl (ap (λ (one : Row). record { row = one; message = message }) same))
item-of row (first ∷ rows) (message ∷ messages) (inr later) long =
    let rest = item-of row rows messages later (omega arith) in (rest.0, inr rest.1)

pub In-from_filter : {A : Type 0} (passes : A → Bool) (x : A) (xs : List A) → In x (filter passes xs) → In x xs
In-from_filter passes x [] here = here
In-from_filter {A = A} passes x (y ∷ ys) here = by (passes y) (λ later. In-from_filter passes x ys later) here
  where
    by : (b : Bool) → (In x (filter passes ys) → In x ys) → In x (cond b (y ∷ filter passes ys) (filter passes ys))
        → In x (y ∷ ys)
    by true rest (inl same) = inl same
    by true rest (inr later) = inr (rest later)
    by false rest later = inr (rest later)

-- a live row, perhaps at another place or counted once more
pub record Lives (rows : List Row) (row : Row) : Type 0 where
  pub old : Row
  pub here : In old rows
  pub live : is_live old.place ≡ true
  pub index : row.index ≡ old.index

-- what is live on one side is so on the other
pub twin_item : {last : ℕ} (rows : List Row) (messages : List Message) (rows' : List Row) (messages' : List Message)
    → Alike last rows messages rows' messages' → (old : Row) → In old rows → is_live old.place ≡ true
    → (message : Message) × In (record { row = old; message = message }) (items rows messages)
    × In (record { row = old; message = message }) (items rows' messages')
twin_item rows messages rows' messages' alike old here live =
    let found = item-of old rows messages here alike.first.long in
    let one : Item = record { row = old; message = found.0 } in
    let there : In one (live_items rows' messages') =
    subst (In one) alike.live (In-filter is_live_item one (items rows messages) found.1 live) in
    (found.0, found.1, In-from_filter is_live_item one (items rows' messages') there)

-- A row is another one --------------------------------------------------------------------------------

abbrev pub put_item : Row → Item → Item
put_item new item =
    record { row = if nat_eq item.row.index.0 new.index.0 then new else item.row; message = item.message }

pub items-put : (new : Row) (rows : List Row) (messages : List Message)
    → items (put_row new rows) messages ≡ map (put_item new) (items rows messages)
items-put new [] messages = refl
items-put new (row ∷ rows) [] = refl
items-put new (row ∷ rows) (message ∷ messages) =
    ap (λ (xs : List Item). put_item new (record { row = row; message = message }) ∷ xs) (items-put new rows messages)

-- where what is gone stays so, a change of all items is one of the live ones
pub live-map : (change : Item → Item) (xs : List Item)
    → ((x : Item) → In x xs → is_live_item x ≡ false → is_live_item (change x) ≡ false)
    → filter is_live_item (map change xs) ≡ filter is_live_item (map change (filter is_live_item xs))
live-map change [] stays = refl
live-map change (x ∷ xs) stays =
    let rest = live-map change xs (λ y later gone. stays y (inr later) gone) in
    let new : Item = change x in
    let more : List Item = filter is_live_item xs in
    let over : List Item → List Item = λ ys. filter is_live_item (map change ys) in
    elim (cases_Bool (is_live_item x)) [
      | inl lives ↦
          ap (λ (ys : List Item). cond (is_live_item new) (new ∷ ys) ys) rest
          ∙ sym (ap over (cond-true (is_live_item x) (x ∷ more) more lives))
      | inr gone ↦
          cond-false (is_live_item new) (new ∷ over xs) (over xs) (stays x (inl refl) gone) ∙ rest
          ∙ sym (ap over (cond-false (is_live_item x) (x ∷ more) more gone))
    ]

-- a gone item isn't the live row's
put-stays : (new old : Row) (rows : List Row) (messages : List Message) → Rises (indices rows) → In old rows
    → is_live old.place ≡ true → new.index ≡ old.index → (x : Item) → In x (items rows messages)
    → is_live_item x ≡ false → is_live_item (put_item new x) ≡ false
put-stays new old rows messages rising here live index x inx gone =
    elim (cases_Bool (nat_eq x.row.index.0 new.index.0)) [
      | inl is ↦
          let same : x.row ≡ old =
          unique x.row old rows rising (items-rows x rows messages inx) here
          (eqb-true x.row.index.0 new.index.0 is ∙ ap (λ (i : Index). i.0) index) in
          absurd (false≢true (sym gone ∙ ap (λ (row : Row). is_live row.place) same ∙ live))
      | inr other ↦
          ap (λ (row : Row). is_live row.place) (cond-false (nat_eq x.row.index.0 new.index.0) new x.row other) ∙ gone
    ]

pub live-put : (new old : Row) (rows : List Row) (messages : List Message) → Rises (indices rows) → In old rows
    → is_live old.place ≡ true → new.index ≡ old.index
    → live_items (put_row new rows) messages ≡ filter is_live_item (map (put_item new) (live_items rows messages))
live-put new old rows messages rising here live index =
    ap (filter is_live_item) (items-put new rows messages)
    ∙ live-map (put_item new) (items rows messages) (put-stays new old rows messages rising here live index)

pub fits-put : {last : ℕ} (new : Row) (rows : List Row) (messages : List Message) → Fits last rows messages
    → Fits last (put_row new rows) messages
fits-put {last = last} new rows messages fits = record {
  rising = subst Rises (sym (indices-put new rows)) fits.rising;
  below = subst (AllByRecursion (λ n. n ≤ last)) (sym (indices-put new rows)) fits.below;
  long = put-length new rows ∙ fits.long;
}

pub put-alike : {last : ℕ} (new : Row) (rows : List Row) (messages : List Message) (rows' : List Row)
    (messages' : List Message) → Alike last rows messages rows' messages' → Lives rows new
    → Alike last (put_row new rows) messages (put_row new rows') messages'
put-alike new rows messages rows' messages' alike lives =
    let twin = twin_item rows messages rows' messages' alike lives.old lives.here lives.live in
    record {
      live =
          live-put new lives.old rows messages alike.first.rising lives.here lives.live lives.index
          ∙ ap (λ (xs : List Item). filter is_live_item (map (put_item new) xs)) alike.live
          ∙ sym (live-put new lives.old rows' messages' alike.second.rising
          (items-rows _ rows' messages' twin.2) lives.live lives.index);
      first = fits-put new rows messages alike.first;
      second = fits-put new rows' messages' alike.second;
    }

-- All that is ready is gone ---------------------------------------------------------------------------

abbrev pub purge_item : Item → Item
purge_item item = record { row = purge_row item.row; message = item.message }

items-purge : (rows : List Row) (messages : List Message)
    → items (map purge_row rows) messages ≡ map purge_item (items rows messages)
items-purge [] messages = refl
items-purge (row ∷ rows) [] = refl
items-purge (row ∷ rows) (message ∷ messages) =
    ap (λ (xs : List Item). purge_item (record { row = row; message = message }) ∷ xs) (items-purge rows messages)

purge-place : (row : Row) (place : Place) → row.place ≡ place → is_live place ≡ false
    → is_live (purge_row row).place ≡ false
purge-place row (Gone reason) is gone =
    let stays : is_ready row.place ≡ false = ap is_ready is in
    ap (λ (one : Row). is_live one.place) (cond-false (is_ready row.place) _ row stays) ∙ ap is_live is
purge-place row _ is gone = absurd (false≢true (sym gone))

pub live-purge : (rows : List Row) (messages : List Message)
    → live_items (map purge_row rows) messages ≡ filter is_live_item (map purge_item (live_items rows messages))
live-purge rows messages =
    ap (filter is_live_item) (items-purge rows messages)
    ∙ live-map purge_item (items rows messages) (λ x here gone. purge-place x.row x.row.place refl gone)

fits-purge : {last : ℕ} (rows : List Row) (messages : List Message) → Fits last rows messages
    → Fits last (map purge_row rows) messages
fits-purge {last = last} rows messages fits = record {
  rising = subst Rises (sym (indices-purged rows)) fits.rising;
  below = subst (AllByRecursion (λ n. n ≤ last)) (sym (indices-purged rows)) fits.below;
  long = length-map rows purge_row ∙ fits.long;
}

pub purge-alike : {last : ℕ} (rows : List Row) (messages : List Message) (rows' : List Row) (messages' : List Message)
    → Alike last rows messages rows' messages'
    → Alike last (map purge_row rows) messages (map purge_row rows') messages'
purge-alike rows messages rows' messages' alike = record {
  live =
      live-purge rows messages ∙ ap (λ (xs : List Item). filter is_live_item (map purge_item xs)) alike.live
      ∙ sym (live-purge rows' messages');
  first = fits-purge rows messages alike.first;
  second = fits-purge rows' messages' alike.second;
}

-- A message arrives -----------------------------------------------------------------------------------

items-append : (row : Row) (message : Message) (rows : List Row) (messages : List Message)
    → length rows ≡ length messages
    → items (rows ++ row ∷ []) (messages ++ message ∷ [])
    ≡ items rows messages ++ record { row = row; message = message } ∷ []
items-append row message [] [] long = refl
items-append row message [] (m ∷ messages) long = absurd (omega arith)
items-append row message (first ∷ rows) [] long = absurd (omega arith)
items-append row message (first ∷ rows) (m ∷ messages) long =
    ap (λ (xs : List Item). record { row = first; message = m } ∷ xs)
    (items-append row message rows messages (omega arith))

pub filter-append : {A : Type 0} (passes : A → Bool) (xs ys : List A)
    → filter passes (xs ++ ys) ≡ filter passes xs ++ filter passes ys
filter-append passes [] ys = refl
filter-append {A = A} passes (x ∷ xs) ys = by (passes x) (filter-append passes xs ys)
  where
    by : (b : Bool) → filter passes (xs ++ ys) ≡ filter passes xs ++ filter passes ys
        → cond b (x ∷ filter passes (xs ++ ys)) (filter passes (xs ++ ys))
        ≡ cond b (x ∷ filter passes xs) (filter passes xs) ++ filter passes ys
    by true rest = ap (λ (zs : List A). x ∷ zs) rest
    by false rest = rest

pub live-append : (row : Row) (message : Message) (rows : List Row) (messages : List Message)
    → length rows ≡ length messages
    → live_items (rows ++ row ∷ []) (messages ++ message ∷ [])
    ≡ live_items rows messages ++ filter is_live_item (record { row = row; message = message } ∷ [])
live-append row message rows messages long =
    ap (filter is_live_item) (items-append row message rows messages long)
    ∙ filter-append is_live_item (items rows messages) (record { row = row; message = message } ∷ [])

pub fits-append : {last : ℕ} (row : Row) (message : Message) (rows : List Row) (messages : List Message)
    → last < row.index.0 → Fits last rows messages
    → Fits row.index.0 (rows ++ row ∷ []) (messages ++ message ∷ [])
fits-append {last = last} row message rows messages above fits =
    let n : ℕ = row.index.0 in
    let same : indices (rows ++ row ∷ []) ≡ indices rows ++ n ∷ [] =
    map-append (λ (one : Row). one.index.0) rows (row ∷ []) in
    let itself : n ≤ n = omega arith in
    record {
      rising =
          subst Rises (sym same) (rises-push (indices rows) n fits.rising
          (AllByRecursion-weaker (λ m. m ≤ last) (λ m. m < n) (λ m le. omega arith) (indices rows) fits.below));
      below =
          subst (AllByRecursion (λ m. m ≤ n)) (sym same)
          (AllByRecursion-append (λ m. m ≤ n) (indices rows) (n ∷ [])
          (AllByRecursion-weaker (λ m. m ≤ last) (λ m. m ≤ n) (λ m le. omega arith) (indices rows) fits.below)
          (itself, tt));
      long =
          length-append rows (row ∷ []) ∙ ap (λ k. k + 1) fits.long ∙ sym (length-append messages (message ∷ []));
    }

pub append-alike : {last : ℕ} (row : Row) (message : Message) (rows : List Row) (messages : List Message)
    (rows' : List Row) (messages' : List Message) → last < row.index.0 → Alike last rows messages rows' messages'
    → Alike row.index.0 (rows ++ row ∷ []) (messages ++ message ∷ []) (rows' ++ row ∷ [])
    (messages' ++ message ∷ [])
append-alike row message rows messages rows' messages' above alike = record {
  live =
      live-append row message rows messages alike.first.long
      ∙ ap (λ (xs : List Item). xs ++ filter is_live_item (record { row = row; message = message } ∷ [])) alike.live
      ∙ sym (live-append row message rows' messages' alike.second.long);
  first = fits-append row message rows messages above alike.first;
  second = fits-append row message rows' messages' above alike.second;
}

pub fits-later : {last : ℕ} (next : ℕ) (rows : List Row) (messages : List Message) → last ≤ next
    → Fits last rows messages → Fits next rows messages
fits-later {last = last} next rows messages le fits = record {
  rising = fits.rising;
  below =
      AllByRecursion-weaker (λ m. m ≤ last) (λ m. m ≤ next) (λ m below. omega arith) (indices rows) fits.below;
  long = fits.long;
}

pub alike-later : {last : ℕ} (next : ℕ) (rows : List Row) (messages : List Message) (rows' : List Row)
    (messages' : List Message) → last ≤ next → Alike last rows messages rows' messages'
    → Alike next rows messages rows' messages'
alike-later next rows messages rows' messages' le alike = record {
  live = alike.live;
  first = fits-later next rows messages le alike.first;
  second = fits-later next rows' messages' le alike.second;
}

-- The message of a row --------------------------------------------------------------------------------

-- where an item's row stands, and its message: no row before it is of its entry
record StandsAt (x : Item) (rows : List Row) (messages : List Message) : Type 0 where
  place : ℕ
  within : place < length rows
  row : (d : Row) → get_or rows place d ≡ x.row
  message : slice_get messages place ≡ Some x.message
  before : (k : ℕ) (d : Row) → k < place → nat_eq (get_or rows k d).index.0 x.row.index.0 ≡ false

stands_at : (x : Item) (rows : List Row) (messages : List Message) → Rises (indices rows)
    → In x (items rows messages) → StandsAt x rows messages
stands_at x [] messages rising here = absurd here
stands_at x (row ∷ rows) [] rising here = absurd here
stands_at x (row ∷ rows) (message ∷ messages) rising (inl same) = record {
  place = 0;
  within = omega arith;
  row = λ d. sym (ap item_row same);
  message = ap (λ (one : Item). Some one.message) (sym same);
  before = λ k d less. absurd (omega arith);
}
stands_at x (row ∷ rows) (message ∷ messages) rising (inr later) =
    let rest = stands_at x rows messages rising.1 later in
    let above : row.index.0 < x.row.index.0 =
    AllByRecursion-in (λ m. row.index.0 < m) x.row.index.0 (indices rows) rising.0
    (In-map (λ (one : Row). one.index.0) x.row rows (items-rows x rows messages later)) in
    record {
      place = suc rest.place;
      within = omega (arith, rest.within);
      row = rest.row;
      message = rest.message;
      before = before row rest above;
    }
  where
    before : (row : Row) (rest : StandsAt x rows messages) → row.index.0 < x.row.index.0 → (k : ℕ) (d : Row)
        → k < suc rest.place → nat_eq (get_or (row ∷ rows) k d).index.0 x.row.index.0 ≡ false
    before row rest above zero d less = ne_eqb row.index.0 x.row.index.0 (λ e. absurd (omega arith))
    before row rest above (suc k) d less = rest.before k d (omega arith)

pub message-at : (x : Item) (row : Row) (rows : List Row) (messages : List Message) → Rises (indices rows)
    → In x (items rows messages) → row.index ≡ x.row.index → message_of rows messages row ≡ x.message
message-at x row rows messages rising here same =
    let at = stands_at x rows messages rising here in
    let test : Row → Bool = λ other. nat_eq other.index.0 row.index.0 in
    let own : row.index.0 ≡ x.row.index.0 = ap (λ (i : Index). i.0) same in
    let first : position_or_len test rows ≡ at.place =
    position_or_len_is test rows at.place row (omega (arith, at.within))
    (λ k less. ap (nat_eq (get_or rows k row).index.0) own ∙ at.before k row less)
    (λ within. eq-eqb (get_or rows at.place row).index.0 row.index.0
    (ap (λ (r : Row). r.index.0) (at.row row) ∙ sym own)) in
    let message : Option ℕ → Message = λ o.
    unwrap_or (option_and_then (slice_get messages) o) (record { size = row.size; content = None }) in
    ap (λ n. message (cond (nat_lt n (length rows)) (Some n) None)) first
    ∙ ap (λ b. message (cond b (Some at.place) None)) (lt-ltb at.place (length rows) at.within)
    ∙ ap (λ o. unwrap_or o (record { size = row.size; content = None })) at.message

pub message-alike : {last : ℕ} (row : Row) (rows : List Row) (messages : List Message) (rows' : List Row)
    (messages' : List Message) → Alike last rows messages rows' messages' → Lives rows row
    → message_of rows messages row ≡ message_of rows' messages' row
message-alike row rows messages rows' messages' alike lives =
    let twin = twin_item rows messages rows' messages' alike lives.old lives.here lives.live in
    let one : Item = record { row = lives.old; message = twin.0 } in
    message-at one row rows messages alike.first.rising twin.1 lives.index
    ∙ sym (message-at one row rows' messages' alike.second.rising twin.2 lives.index)
