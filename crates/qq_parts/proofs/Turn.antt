-- One row of a queue is another, and one item of its parts.
use Rattle.std.proofs.Common.{◌≡◌, ℕ, ◌<◌, Bool, true, false, List, [], ◌∷◌, map, refl, sym, ap, ◌∙◌, subst, inl, inr, arith}
use Rattle.std.specs.Prelude.{nat_eq, filter}
use Rattle.std.specs.List.{AllByRecursion}
use Rattle.std.proofs.lemmas.Bool.{cases_Bool, cond-true, cond-false, cond_both, ne_eqb, eq-eqb}
use Rattle.qq_base.specs.declared.ids.Index.{Index}
use Rattle.qq_base.proofs.Lists.{In, AllByRecursion-in, AllByRecursion-filter, In-filter}
use Rattle.qq_entry.specs.declared.message.Message.{Message}
use Rattle.qq_model.specs.declared.place.Row.{Row}
use Rattle.qq_model.specs.Limits.{is_live}
use Rattle.qq_model.specs.Changes.{put_row}
use Rattle.qq_model.specs.State.{State}
use Rattle.qq_model.proofs.Indices.{Rises, indices}
use Rattle.qq_model.proofs.InOrder.{indices-put}
use Rattle.qq_model.proofs.Lists.{AllByRecursion-from_in}
use Rattle.qq_parts.specs.Reduced.{Item, items, is_live_item, live_items}
use Rattle.qq_parts.proofs.Puts.{items-rows, item-of, In-from_filter, put_item, live-put}
use Rattle.qq_parts.specs.Perm.{Perm}
use Rattle.qq_parts.specs.Parts.{Parts, items_of, AreRising, Stands}
use Rattle.qq_parts.proofs.Perms.{perm-sym, perm-in, perm-each, perm-map, perm-filter}
use Rattle.qq_parts.specs.Perm.Perm.{done, skip, swap, join}

-- rows that rise -------------------------------------------------------------------------------------

all-indices : (P : ℕ → Type 0) (rows : List Row) → AllByRecursion (λ (row : Row). P row.index.0) rows
    → AllByRecursion P (indices rows)
all-indices P [] each = tt
all-indices P (row ∷ rows) each = (each.0, all-indices P rows each.1)

indices-all : (P : ℕ → Type 0) (rows : List Row) → AllByRecursion P (indices rows)
    → AllByRecursion (λ (row : Row). P row.index.0) rows
indices-all P [] each = tt
indices-all P (row ∷ rows) each = (each.0, indices-all P rows each.1)

pub rising-indices : (rows : List Row) → AreRising rows → Rises (indices rows)
rising-indices [] rising = tt
rising-indices (row ∷ rows) rising =
    (all-indices (λ n. row.index.0 < n) rows rising.0, rising-indices rows rising.1)

pub indices-rising : (rows : List Row) → Rises (indices rows) → AreRising rows
indices-rising [] rising = tt
indices-rising (row ∷ rows) rising =
    (indices-all (λ n. row.index.0 < n) rows rising.0, indices-rising rows rising.1)

pub rising-put : (new : Row) (rows : List Row) → AreRising rows → AreRising (put_row new rows)
rising-put new rows rising =
    indices-rising (put_row new rows) (subst Rises (sym (indices-put new rows)) (rising-indices rows rising))

-- items apart ----------------------------------------------------------------------------------------

-- two items are of two entries, both ways round
abbrev pub AreOther : Item → Item → Type 0
AreOther x y = (x.row.index.0 ≡ y.row.index.0 → ⊥) × (y.row.index.0 ≡ x.row.index.0 → ⊥)

abbrev pub AreDistinct : List Item → Type 0
AreDistinct [] = Unit {0}
AreDistinct (x ∷ xs) = AllByRecursion (AreOther x) xs × AreDistinct xs

pub perm-distinct : {xs ys : List Item} → Perm xs ys → AreDistinct xs → AreDistinct ys
perm-distinct done distinct = tt
perm-distinct (skip x xs ys p) distinct = (perm-each (AreOther x) p distinct.0, perm-distinct p distinct.1)
perm-distinct (swap x y xs) distinct =
    (((distinct.0.0.1, distinct.0.0.0), distinct.1.0), (distinct.0.1, distinct.1.1))
perm-distinct (join xs ys zs p q) distinct = perm-distinct q (perm-distinct p distinct)

others-above : (row : Row) (message : Message) (rows : List Row) (messages : List Message)
    → AllByRecursion (λ (other : Row). row.index.0 < other.index.0) rows
    → AllByRecursion (AreOther (record { row = row; message = message })) (items rows messages)
others-above row message [] messages each = tt
others-above row message (other ∷ rows) [] each = tt
others-above row message (other ∷ rows) (m ∷ messages) each =
    let less : row.index.0 < other.index.0 = each.0 in
    (((λ e. absurd (omega arith)), (λ e. absurd (omega arith))), others-above row message rows messages each.1)

items-distinct : (rows : List Row) (messages : List Message) → AreRising rows → AreDistinct (items rows messages)
items-distinct [] messages rising = tt
items-distinct (row ∷ rows) [] rising = tt
items-distinct (row ∷ rows) (message ∷ messages) rising =
    (others-above row message rows messages rising.0, items-distinct rows messages rising.1)

distinct-filter : (passes : Item → Bool) (xs : List Item) → AreDistinct xs → AreDistinct (filter passes xs)
distinct-filter passes [] distinct = tt
distinct-filter passes (x ∷ xs) distinct =
    let rest = distinct-filter passes xs distinct.1 in
    cond_both (passes x) (x ∷ filter passes xs) (filter passes xs) AreDistinct
    (λ _. (AllByRecursion-filter (AreOther x) passes xs distinct.0, rest)) (λ _. rest)

pub live-distinct : (rows : List Row) (messages : List Message) → AreRising rows → AreDistinct (live_items rows messages)
live-distinct rows messages rising =
    distinct-filter is_live_item (items rows messages) (items-distinct rows messages rising)

-- each that passes -----------------------------------------------------------------------------------

pub all-pass : {A : Type 0} (passes : A → Bool) (xs : List A) → AllByRecursion (λ (x : A). passes x ≡ true) xs
    → filter passes xs ≡ xs
all-pass passes [] each = refl
all-pass {A = A} passes (x ∷ xs) each =
    cond-true (passes x) (x ∷ filter passes xs) (filter passes xs) each.0
    ∙ ap (λ (ys : List A). x ∷ ys) (all-pass passes xs each.1)

pub passing : {A : Type 0} (passes : A → Bool) (xs : List A)
    → AllByRecursion (λ (x : A). passes x ≡ true) (filter passes xs)
passing passes [] = tt
passing {A = A} passes (x ∷ xs) = elim (cases_Bool (passes x)) [
  | inl is ↦
      subst (AllByRecursion (λ (y : A). passes y ≡ true))
      (sym (cond-true (passes x) (x ∷ filter passes xs) (filter passes xs) is)) (is, passing passes xs)
  | inr none ↦
      subst (AllByRecursion (λ (y : A). passes y ≡ true))
      (sym (cond-false (passes x) (x ∷ filter passes xs) (filter passes xs) none)) (passing passes xs)
]

-- the turn -------------------------------------------------------------------------------------------

put-others : (new : Row) (x : Item) (zs : List Item) → new.index ≡ x.row.index → AllByRecursion (AreOther x) zs
    → map (put_item new) zs ≡ zs
put-others new x [] index others = refl
put-others new x (z ∷ zs) index others =
    let other : nat_eq z.row.index.0 new.index.0 ≡ false =
    ne_eqb z.row.index.0 new.index.0 (λ e. others.0.1 (e ∙ ap (λ (i : Index). i.0) index)) in
    let same : put_item new z ≡ z =
    ap (λ (row : Row). record { row = row; message = z.message })
    (cond-false (nat_eq z.row.index.0 new.index.0) new z.row other) in
    ap (λ (y : Item). y ∷ map (put_item new) zs) same
    ∙ ap (λ (ys : List Item). z ∷ ys) (put-others new x zs index others.1)

put-self : (new : Row) (x : Item) → new.index ≡ x.row.index
    → put_item new x ≡ record { row = new; message = x.message }
put-self new x index =
    ap (λ (row : Row). record { row = row; message = x.message })
    (cond-true (nat_eq x.row.index.0 new.index.0) new x.row
    (eq-eqb x.row.index.0 new.index.0 (ap (λ (i : Index). i.0) (sym index))))

-- the live items once a row is another one: those other than it, and it, if it is live
put-perm : (rows : List Row) (messages : List Message) (x : Item) (zs : List Item) (new : Row) → AreRising rows
    → Perm (live_items rows messages) (x ∷ zs) → new.index ≡ x.row.index
    → Perm (live_items (put_row new rows) messages)
    (filter is_live_item (record { row = new; message = x.message } ∷ zs))
put-perm rows messages x zs new rising perm index =
    let here : In x (live_items rows messages) = perm-in x (perm-sym perm) (inl refl) in
    let there : In x (items rows messages) = In-from_filter is_live_item x (items rows messages) here in
    let lives : is_live x.row.place ≡ true =
    AllByRecursion-in (λ (y : Item). is_live_item y ≡ true) x (live_items rows messages)
    (passing is_live_item (items rows messages)) here in
    let distinct : AreDistinct (x ∷ zs) = perm-distinct perm (live-distinct rows messages rising) in
    let is : live_items (put_row new rows) messages
    ≡ filter is_live_item (map (put_item new) (live_items rows messages)) =
    live-put new x.row rows messages (rising-indices rows rising) (items-rows x rows messages there) lives index in
    let after : map (put_item new) (x ∷ zs) ≡ record { row = new; message = x.message } ∷ zs =
    ap (λ (y : Item). y ∷ map (put_item new) zs) (put-self new x index)
    ∙ ap (λ (ys : List Item). record { row = new; message = x.message } ∷ ys)
    (put-others new x zs index distinct.0) in
    subst (λ (ys : List Item). Perm ys (filter is_live_item (record { row = new; message = x.message } ∷ zs))) (sym is)
    (subst (λ (ys : List Item). Perm (filter is_live_item (map (put_item new) (live_items rows messages)))
    (filter is_live_item ys)) after (perm-filter is_live_item (perm-map (put_item new) perm)))

others-live : (rows : List Row) (messages : List Message) (x : Item) (zs : List Item)
    → Perm (live_items rows messages) (x ∷ zs) → filter is_live_item zs ≡ zs
others-live rows messages x zs perm =
    all-pass is_live_item zs
    (perm-each (λ (y : Item). is_live_item y ≡ true) perm (passing is_live_item (items rows messages))).1

-- a row turns, and stays live
pub turn-live : (rows : List Row) (messages : List Message) (x : Item) (zs : List Item) (new : Row) → AreRising rows
    → Perm (live_items rows messages) (x ∷ zs) → new.index ≡ x.row.index → is_live new.place ≡ true
    → Perm (live_items (put_row new rows) messages) (record { row = new; message = x.message } ∷ zs)
turn-live rows messages x zs new rising perm index lives =
    let one : Item = record { row = new; message = x.message } in
    subst (λ (ys : List Item). Perm (live_items (put_row new rows) messages) ys)
    (cond-true (is_live new.place) (one ∷ filter is_live_item zs) (filter is_live_item zs) lives
    ∙ ap (λ (ys : List Item). one ∷ ys) (others-live rows messages x zs perm))
    (put-perm rows messages x zs new rising perm index)

-- a row turns, and is gone
pub turn-gone : (rows : List Row) (messages : List Message) (x : Item) (zs : List Item) (new : Row) → AreRising rows
    → Perm (live_items rows messages) (x ∷ zs) → new.index ≡ x.row.index → is_live new.place ≡ false
    → Perm (live_items (put_row new rows) messages) zs
turn-gone rows messages x zs new rising perm index gone =
    let one : Item = record { row = new; message = x.message } in
    subst (λ (ys : List Item). Perm (live_items (put_row new rows) messages) ys)
    (cond-false (is_live new.place) (one ∷ filter is_live_item zs) (filter is_live_item zs) gone
    ∙ others-live rows messages x zs perm)
    (put-perm rows messages x zs new rising perm index)

-- what stands for what -------------------------------------------------------------------------------

-- each item is one of a row and the message beside it
pub item-row : (m : Parts) (s : State) (x : Item) → Stands m s → In x (items_of m)
    → In x.row s.rows × (is_live x.row.place ≡ true)
item-row m s x stands here =
    let there : In x (live_items s.rows s.messages) = perm-in x (perm-sym stands.perm) here in (
      items-rows x s.rows s.messages (In-from_filter is_live_item x (items s.rows s.messages) there),
      AllByRecursion-in (λ (y : Item). is_live_item y ≡ true) x (live_items s.rows s.messages)
          (passing is_live_item (items s.rows s.messages)) there,
    )

-- what is true of what is gone, and of all items, is true of each row
pub each-row : (m : Parts) (s : State) (P : Row → Type 0) → Stands m s
    → ((row : Row) → is_live row.place ≡ false → P row) → AllByRecursion (λ (x : Item). P x.row) (items_of m)
    → AllByRecursion P s.rows
each-row m s P stands gone each =
    AllByRecursion-from_in P s.rows (λ row here. elim (cases_Bool (is_live row.place)) [
      | inl lives ↦
          let found = item-of row s.rows s.messages here stands.long in
          let x : Item = record { row = row; message = found.0 } in
          AllByRecursion-in (λ (y : Item). P y.row) x (items_of m) each
          (perm-in x stands.perm (In-filter is_live_item x (items s.rows s.messages) found.1 lives))
      | inr none ↦ gone row none
    ])
