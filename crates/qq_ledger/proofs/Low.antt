-- The least index of a queue is that of the parts that stand for it.
use Rattle.std.proofs.Common.{◌≡◌, ℕ, ◌+◌, ◌⊎◌, true, false, List, [], ◌∷◌, ◌++◌, Option, map, length, refl, sym, ap, ◌∙◌, inl, inr, arith, if◌then◌else◌}
use Rattle.std.specs.Prelude.{filter}
use Rattle.std.specs.Option.{option_map_or}
use Rattle.std.proofs.lemmas.Bool.{cases_Bool, cond-true, cond-false}
use Rattle.std.proofs.lemmas.List.Sums.{sum_by-append}
use Rattle.qq_base.specs.declared.ids.Index.{Index}
use Rattle.qq_entry.specs.declared.message.Message.{Message}
use Rattle.qq_model.specs.declared.place.Row.{Row}
use Rattle.qq_model.specs.State.{State}
use Rattle.qq_parts.specs.Reduced.{Item, is_live_item, live_items}
use Rattle.qq_parts.specs.Parts.{Parts, Stands, items_of}
use Rattle.qq_parts.proofs.Perms.{perm-map, perm-sum}
use Rattle.qq_live.specs.Indices.{is_index, occurrences}
use Rattle.qq_live.proofs.Sums.{least-same}
use Rattle.qq_ledger.specs.Low.{row_index, is_live_row, live_indices, kept_indices, low_of, low, item_index, parts_low}

live-items : (rows : List Row) (messages : List Message) → length rows ≡ length messages
    → map item_index (live_items rows messages) ≡ live_indices rows
live-items [] messages long = refl
live-items (row ∷ rows) [] long = absurd (omega (arith, long))
live-items (row ∷ rows) (message ∷ messages) long =
    by (cases_Bool (is_live_row row)) (live-items rows messages (omega (arith, long)))
  where
    first : Item
    first = record { row = row; message = message }

    by : (is_live_row row ≡ true) ⊎ (is_live_row row ≡ false)
        → map item_index (live_items rows messages) ≡ live_indices rows
        → map item_index (live_items (row ∷ rows) (message ∷ messages)) ≡ live_indices (row ∷ rows)
    by (inl live) rest =
        ap (map item_index)
        (cond-true (is_live_item first) (first ∷ live_items rows messages) (live_items rows messages) live)
        ∙ ap (λ (xs : List Index). row.index ∷ xs) rest
        ∙ sym (ap (map row_index)
        (cond-true (is_live_row row) (row ∷ filter is_live_row rows) (filter is_live_row rows) live))
    by (inr gone) rest =
        ap (map item_index)
        (cond-false (is_live_item first) (first ∷ live_items rows messages) (live_items rows messages) gone)
        ∙ rest
        ∙ sym (ap (map row_index)
        (cond-false (is_live_row row) (row ∷ filter is_live_row rows) (filter is_live_row rows) gone))

pub low-same : (applied : ℕ) (xs ys : List Index) → ((i : ℕ) → occurrences i xs ≡ occurrences i ys)
    → low_of applied xs ≡ low_of applied ys
low-same applied xs ys same =
    ap (λ (o : Option ℕ). option_map_or (λ (index : ℕ). index) o (applied + 1)) (least-same xs ys same)

pub low-parts : (m : Parts) (s : State) → Stands m s → low s ≡ parts_low m
low-parts m s stands =
    low-same s.applied (live_indices s.rows ++ kept_indices s.sessions.opened)
    (map item_index (items_of m) ++ kept_indices s.sessions.opened)
    (λ i.
    let a = sum_by-append (λ (index : Index). if is_index i index then 1 else 0) (live_indices s.rows)
    (kept_indices s.sessions.opened) in
    let b = sum_by-append (λ (index : Index). if is_index i index then 1 else 0) (map item_index (items_of m))
    (kept_indices s.sessions.opened) in
    let e : occurrences i (live_indices s.rows) ≡ occurrences i (map item_index (items_of m)) =
    ap (occurrences i) (sym (live-items s.rows s.messages stands.long))
    ∙ perm-sum (λ (index : Index). if is_index i index then 1 else 0) (perm-map item_index stands.perm) in
    omega (arith, a, b, e))
    ∙ ap (λ (q : State). low_of q.applied (map item_index (items_of m) ++ kept_indices q.sessions.opened)) stands.rest
