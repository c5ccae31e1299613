-- Who joined and who left, and the way back.
use Rattle.std.proofs.Common.{◌≡◌, ◌≤◌, ◌+◌, ◌-◌, Bool, true, false, not, cond, ℕ, zero, suc, List, [], ◌∷◌, ◌++◌, take, Option, Some, None, map, refl, sym, ap, ◌∙◌, subst, inl, inr, arith}
use Rattle.std.specs.Prelude.{insert, remove, length, slice_get, position, nat_lt}
use Rattle.std.specs.List.{AllByRecursion, IsDistinct, position_or_len}
use Rattle.std.specs.Map.{keys_of, lookup, set_value, remove_entry}
use Rattle.indexmap.specs.IndexMap.{IndexMap, get, move_index, insert_entry, WritesThrough}
use Rattle.indexmap.proofs.CallerLemmas.{insert_entry-new}
use Rattle.std.proofs.lemmas.Bool.{false≢true, cases_Bool, cond-true, cond-false}
use Rattle.qq_base.specs.declared.ids.ConsumerId.{ConsumerId}
use Rattle.qq_base.specs.Ids.{same_consumer}
use Rattle.qq_model.proofs.OneConsumer.{same_consumer-true, same_consumer-refl}
use Rattle.qq_base.proofs.Lists.{AllByRecursion-append}
use Rattle.qq_entry.specs.declared.message.ReadyRow.{ReadyRow}
use Rattle.qq_model.specs.declared.consumer.Consumer.{Consumer}
use Rattle.qq_parts.specs.Parts.{Served}
use Rattle.qq_consumer.specs.declared.rising.Numbered.{Numbered}
use Rattle.qq_consumer.specs.declared.row.ConsumerRow.{ConsumerRow}
use Rattle.qq_consumer.specs.declared.seat.Seat.{Seat}
use Rattle.qq_consumer.specs.declared.step.Step.{Step}
use Rattle.qq_consumer.specs.declared.step.Step.TheVariants as step
use Rattle.qq_consumer.specs.Numbers.{RisingList}
use Rattle.qq_consumer.specs.Roster.{out_item}
use Rattle.qq_consumer.specs.Joined.{Entry, seat_one, base_one, base_id, seen, ones_of, bases_of, without_last, undone, undo_step, AreGiven, IsGiven, WasGiven, HasOwnId, HoldsOut, HoldsBase, AreJoined, IsTracked, ComesBack, CanUndo, CanGoBack}
use Rattle.qq_consumer.proofs.JoinedRows.{found-own, found-given, found-base, kept-remove_entry, write-joined, write-same, write-bases}

-- ---- lists

pub last-gone : {A : Type 0} (xs : List A) (x : A) → without_last (xs ++ x ∷ []) ≡ xs
last-gone [] x = refl
last-gone (y ∷ []) x = refl
last-gone {A = A} (y ∷ z ∷ zs) x = ap (λ (rest : List A). y ∷ rest) (last-gone (z ∷ zs) x)

pub kept-insert : {A : Type 0} (P : A → Type 0) (xs : List A) (place : ℕ) (x : A) → AllByRecursion P xs → P x
    → AllByRecursion P (insert xs place x)
kept-insert P [] zero x each own = (own, tt)
kept-insert P [] (suc place) x each own = (own, tt)
kept-insert P (y ∷ ys) zero x each own = (own, each)
kept-insert P (y ∷ ys) (suc place) x each own = (each.0, kept-insert P ys place x each.1 own)

pub kept-take : {A : Type 0} (P : A → Type 0) (n : ℕ) (xs : List A) → AllByRecursion P xs → AllByRecursion P (take n xs)
kept-take P zero xs each = tt
kept-take P (suc n) [] each = tt
kept-take P (suc n) (x ∷ xs) each = (each.0, kept-take P n xs each.1)

slice-last : {A : Type 0} (xs : List A) (x : A) → slice_get (xs ++ x ∷ []) (length xs) ≡ Some x
slice-last [] x = refl
slice-last (y ∷ ys) x = slice-last ys x

remove-last : {A : Type 0} (xs : List A) (x : A) → remove (xs ++ x ∷ []) (length xs) ≡ xs
remove-last [] x = refl
remove-last {A = A} (y ∷ ys) x = ap (λ (rest : List A). y ∷ rest) (remove-last ys x)

-- the last item is moved to a place
pub moved-in : {A : Type 0} (xs : List A) (x : A) (place : ℕ)
    → move_index (xs ++ x ∷ []) (length xs) place ≡ insert xs place x
moved-in {A = A} xs x place =
    by (slice_get (xs ++ x ∷ []) (length xs)) refl (slice-last xs x)
  where
    by : (o : Option A) → slice_get (xs ++ x ∷ []) (length xs) ≡ o → slice_get (xs ++ x ∷ []) (length xs) ≡ Some x
        → move_index (xs ++ x ∷ []) (length xs) place ≡ insert xs place x
    by o is at = rw at (ap (λ (rest : List A). insert rest place x) (remove-last xs x))

-- what is seen of seats, one of which is put in
pub seen-insert : {A : Type 0} (see : Seat → A) (es : List Entry) (place : ℕ) (e : Entry)
    → seen see (insert es place e) ≡ insert (seen see es) place (see e.1)
seen-insert see [] zero e = refl
seen-insert see [] (suc place) e = refl
seen-insert see (x ∷ es) zero e = refl
seen-insert {A = A} see (x ∷ es) (suc place) e = ap (λ (rest : List A). see x.1 ∷ rest) (seen-insert see es place e)

-- without the last
pub seen-front : {A : Type 0} (see : Seat → A) (es : List Entry)
    → seen see (take (length es - 1) es) ≡ without_last (seen see es)
seen-front see [] = refl
seen-front see (e ∷ []) = refl
seen-front {A = A} see (e ∷ f ∷ es) =
    let n : length (e ∷ f ∷ es) - 1 ≡ suc (length (f ∷ es) - 1) = omega arith in
    ap (λ k. seen see (take k (e ∷ f ∷ es))) n
    ∙ ap (λ (rest : List A). see e.1 ∷ rest) (seen-front see (f ∷ es))

pub seen-pushed : {A : Type 0} (see : Seat → A) (es : List Entry) (e : Entry)
    → seen see (es ++ e ∷ []) ≡ seen see es ++ see e.1 ∷ []
seen-pushed see [] e = refl
seen-pushed {A = A} see (x ∷ es) e = ap (λ (rest : List A). see x.1 ∷ rest) (seen-pushed see es e)

-- ---- one leaves

abbrev pub at_id : ConsumerId → List Entry → ℕ
at_id id es = position_or_len (same_consumer id) (keys_of es)

pub index-at : (id : ConsumerId) (es : List Entry) (place : ℕ) → Some place ≡ position (same_consumer id) (keys_of es)
    → place ≡ at_id id es
index-at id es place is = by (nat_lt (at_id id es) (length (keys_of es))) is
  where
    by : (b : Bool) → Some place ≡ cond b (Some (at_id id es)) None → place ≡ at_id id es
    by true same = cc
    by false same = absurd cc

at-miss : (id : ConsumerId) (e : Entry) (es : List Entry) → same_consumer id e.0 ≡ false
    → at_id id (e ∷ es) ≡ suc (at_id id es)
at-miss id e es other = by (same_consumer id e.0) other
  where
    by : (b : Bool) → b ≡ false → ◌≡◌ {A = ℕ} (cond (not b) (1 + at_id id es) 0) (suc (at_id id es))
    by true is = absurd cc
    by false is = omega arith

at-hit : (id : ConsumerId) (e : Entry) (es : List Entry) → same_consumer id e.0 ≡ true → at_id id (e ∷ es) ≡ 0
at-hit id e es here = by (same_consumer id e.0) here
  where
    by : (b : Bool) → b ≡ true → ◌≡◌ {A = ℕ} (cond (not b) (1 + at_id id es) 0) 0
    by true is = refl
    by false is = absurd cc

insert-first : {A : Type 0} (xs : List A) (x : A) (place : ℕ) → place ≡ 0 → insert xs place x ≡ x ∷ xs
insert-first xs x place is = ap (λ k. insert xs k x) is

insert-next : {A : Type 0} (y : A) (ys : List A) (x : A) (place below : ℕ) → place ≡ suc below
    → insert (y ∷ ys) place x ≡ y ∷ insert ys below x
insert-next y ys x place below is = ap (λ k. insert (y ∷ ys) k x) is

-- who left is put back at its place
pub put-back : {A : Type 0} (see : Seat → A) (id : ConsumerId) (es : List Entry) (seat : Seat)
    → lookup (same_consumer id) es ≡ Some seat
    → insert (seen see (remove_entry (same_consumer id) es)) (at_id id es) (see seat) ≡ seen see es
put-back see id [] seat found = absurd cc
put-back {A = A} see id (e ∷ es) seat found =
    elim (cases_Bool (same_consumer id e.0)) [
      | inl here ↦
          let is : Some e.1 ≡ Some seat =
          sym (cond-true (same_consumer id e.0) (Some e.1) (lookup (same_consumer id) es) here) ∙ found in
          let same : e.1 ≡ seat = cc in
          insert-first (seen see (remove_entry (same_consumer id) (e ∷ es))) (see seat) (at_id id (e ∷ es)) (at-hit id e es here)
          ∙ ap (λ (xs : List A). see seat ∷ xs) (ap (seen see)
          (cond-true (same_consumer id e.0) es (e ∷ remove_entry (same_consumer id) es) here))
          ∙ ap (λ (s : Seat). see s ∷ seen see es) (sym same)
      | inr other ↦
          ap (λ (xs : List A). insert xs (at_id id (e ∷ es)) (see seat)) (ap (seen see)
          (cond-false (same_consumer id e.0) es (e ∷ remove_entry (same_consumer id) es) other))
          ∙ insert-next (see e.1) (seen see (remove_entry (same_consumer id) es)) (see seat) (at_id id (e ∷ es))
          (at_id id es) (at-miss id e es other)
          ∙ ap (λ (xs : List A). see e.1 ∷ xs) (put-back see id es seat
          (sym (cond-false (same_consumer id e.0) (Some e.1) (lookup (same_consumer id) es) other) ∙ found))
    ]

pub place-within : {A : Type 0} (see : Seat → A) (id : ConsumerId) (es : List Entry) (seat : Seat)
    → lookup (same_consumer id) es ≡ Some seat
    → at_id id es ≤ length (seen see (remove_entry (same_consumer id) es))
place-within see id [] seat found = absurd cc
place-within {A = A} see id (e ∷ es) seat found =
    elim (cases_Bool (same_consumer id e.0)) [
      | inl here ↦
          let first = at-hit id e es here in
          omega (arith, first)
      | inr other ↦
          let next = at-miss id e es other in
          let rest = place-within see id es seat
          (sym (cond-false (same_consumer id e.0) (Some e.1) (lookup (same_consumer id) es) other) ∙ found) in
          let len : length (seen see (remove_entry (same_consumer id) (e ∷ es)))
          ≡ suc (length (seen see (remove_entry (same_consumer id) es))) =
          ap (λ (xs : List Entry). length (seen see xs))
          (cond-false (same_consumer id e.0) es (e ∷ remove_entry (same_consumer id) es) other) in
          omega (arith, next, rest, len)
    ]

-- nobody else has its id
base-free : (id key : ConsumerId) (es : List Entry) → id ≡ key → AllByRecursion HoldsBase es
    → AllByRecursion (λ k. same_consumer key k ≡ false) (keys_of es)
    → AllByRecursion (λ k. same_consumer id k ≡ false) (seen base_id es)
base-free id key [] is base free = tt
base-free id key (e ∷ es) is base free = (
  ap (λ (k : ConsumerId). same_consumer k e.1.base.id) is ∙ ap (same_consumer key) (sym base.0.0) ∙ free.0,
  base-free id key es is base.1 free.1,
)

pub left-free : (id : ConsumerId) (es : List Entry) (seat : Seat) → IsDistinct same_consumer (keys_of es)
    → AllByRecursion HoldsBase es → lookup (same_consumer id) es ≡ Some seat
    → AllByRecursion (λ k. same_consumer id k ≡ false) (seen base_id (remove_entry (same_consumer id) es))
unfolding IsDistinct
left-free id [] seat distinct base found = absurd cc
left-free id (e ∷ es) seat distinct base found =
    elim (cases_Bool (same_consumer id e.0)) [
      | inl here ↦
          subst (λ (xs : List Entry). AllByRecursion (λ k. same_consumer id k ≡ false) (seen base_id xs))
          (sym (cond-true (same_consumer id e.0) es (e ∷ remove_entry (same_consumer id) es) here))
          (base-free id e.0 es (same_consumer-true id e.0 here) base.1 distinct.0)
      | inr other ↦
          subst (λ (xs : List Entry). AllByRecursion (λ k. same_consumer id k ≡ false) (seen base_id xs))
          (sym (cond-false (same_consumer id e.0) es (e ∷ remove_entry (same_consumer id) es) other)) (
            ap (same_consumer id) (sym base.0.0) ∙ other,
            left-free id es seat distinct.1 base.1
                (sym (cond-false (same_consumer id e.0) (Some e.1) (lookup (same_consumer id) es) other) ∙ found),
          )
    ]

-- ---- one comes back

pub free-absent : (id : ConsumerId) (es : List Entry) → AllByRecursion HoldsBase es
    → AllByRecursion (λ k. same_consumer id k ≡ false) (seen base_id es) → lookup (same_consumer id) es ≡ None
free-absent id [] base free = refl
free-absent id (e ∷ es) base free =
    cond-false (same_consumer id e.0) (Some e.1) (lookup (same_consumer id) es)
    (ap (same_consumer id) base.0.0 ∙ free.0)
    ∙ free-absent id es base.1 free.1

pub absent-at : (id : ConsumerId) (es : List Entry) → lookup (same_consumer id) es ≡ None → at_id id es ≡ length es
absent-at id [] none = refl
absent-at id (e ∷ es) none =
    elim (cases_Bool (same_consumer id e.0)) [
      | inl here ↦
          let is : Some e.1 ≡ None =
          sym (cond-true (same_consumer id e.0) (Some e.1) (lookup (same_consumer id) es) here) ∙ none in
          absurd cc
      | inr other ↦
          let next = at-miss id e es other in
          let rest = absent-at id es
          (sym (cond-false (same_consumer id e.0) (Some e.1) (lookup (same_consumer id) es) other) ∙ none) in
          omega (arith, next, rest)
    ]

-- a new key that is moved to a place
pub comes-in : {S : Type 0} (m : IndexMap ConsumerId Seat S) (id : ConsumerId) (seat : Seat) (place : ℕ)
    → lookup (same_consumer id) m.entries ≡ None
    → move_index (insert_entry same_consumer m.entries id seat) (at_id id m.entries) place
    ≡ insert m.entries place (id, seat)
comes-in m id seat place none =
    ap (λ (es : List Entry). move_index es (at_id id m.entries) place) (insert_entry-new same_consumer m id seat none)
    ∙ ap (λ k. move_index (m.entries ++ (id, seat) ∷ []) k place) (absent-at id m.entries none)
    ∙ moved-in m.entries (id, seat) place

-- ---- who changed

free-tracked : (id : ConsumerId) (touched : List ConsumerId) (e : Entry) → same_consumer id e.0 ≡ false
    → IsTracked (id ∷ touched) e → IsTracked touched e
free-tracked id touched e other (inl same) = inl same
free-tracked id touched e other (inr (inr among)) = inr among
free-tracked id touched e other (inr (inl is)) =
    absurd (false≢true (sym other ∙ ap (same_consumer id) is ∙ same_consumer-refl id))

pub absent-tracked : (id : ConsumerId) (touched : List ConsumerId) (es : List Entry)
    → lookup (same_consumer id) es ≡ None → AllByRecursion (IsTracked (id ∷ touched)) es
    → AllByRecursion (IsTracked touched) es
absent-tracked id touched [] none each = tt
absent-tracked id touched (e ∷ es) none each =
    elim (cases_Bool (same_consumer id e.0)) [
      | inl here ↦
          let is : Some e.1 ≡ None =
          sym (cond-true (same_consumer id e.0) (Some e.1) (lookup (same_consumer id) es) here) ∙ none in
          absurd cc
      | inr other ↦ (
        free-tracked id touched e other each.0,
        absent-tracked id touched es
            (sym (cond-false (same_consumer id e.0) (Some e.1) (lookup (same_consumer id) es) other) ∙ none) each.1,
      )
    ]

keys-tracked : (id : ConsumerId) (touched : List ConsumerId) (es : List Entry)
    → AllByRecursion (λ k. same_consumer id k ≡ false) (keys_of es) → AllByRecursion (IsTracked (id ∷ touched)) es
    → AllByRecursion (IsTracked touched) es
keys-tracked id touched [] free each = tt
keys-tracked id touched (e ∷ es) free each =
    (free-tracked id touched e free.0 each.0, keys-tracked id touched es free.1 each.1)

-- one that is again as at the last commit needn't be tracked
pub set-tracked : (id : ConsumerId) (touched : List ConsumerId) (es : List Entry) (w : Seat)
    → IsDistinct same_consumer (keys_of es) → base_one w ≡ seat_one w → AllByRecursion (IsTracked (id ∷ touched)) es
    → AllByRecursion (IsTracked touched) (set_value (same_consumer id) es w)
unfolding IsDistinct
set-tracked id touched [] w distinct same each = tt
set-tracked id touched (e ∷ es) w distinct same each =
    elim (cases_Bool (same_consumer id e.0)) [
      | inl here ↦
          subst (AllByRecursion (IsTracked touched))
          (sym (cond-true (same_consumer id e.0) ((e.0, w) ∷ es) (e ∷ set_value (same_consumer id) es w) here)) (
            inl same,
            keys-tracked id touched es
                (subst (λ (k : ConsumerId). AllByRecursion (λ other. same_consumer k other ≡ false) (keys_of es))
                (sym (same_consumer-true id e.0 here)) distinct.0) each.1,
          )
      | inr other ↦
          subst (AllByRecursion (IsTracked touched))
          (sym (cond-false (same_consumer id e.0) ((e.0, w) ∷ es) (e ∷ set_value (same_consumer id) es w) other))
          (free-tracked id touched e other each.0, set-tracked id touched es w distinct.1 same each.1)
    ]

-- where nobody changed, all are as at the last commit
pub none-changed : (es : List Entry) → AllByRecursion (IsTracked []) es → bases_of es ≡ ones_of es
none-changed [] each = refl
none-changed (e ∷ es) (inl same, each) =
    ap (λ (one : Served). one ∷ bases_of es) same ∙ ap (λ (ones : List Served). seat_one e.1 ∷ ones) (none-changed es each)
none-changed (e ∷ es) (inr among, each) = absurd among

-- ---- a row is written, and is as at the last commit again

abbrev pub served : Consumer → List (Numbered ReadyRow) → Served
served consumer items = record { consumer = consumer; out = map (out_item consumer.id) items }

module _ {S : Type 0} (id : ConsumerId) (m n : IndexMap ConsumerId Seat S) (are : AreJoined m.entries) where
  pub absent-track : n ≡ m → None ≡ get same_consumer m id → (touched : List ConsumerId)
      → AllByRecursion (IsTracked (id ∷ touched)) m.entries → AllByRecursion (IsTracked touched) n.entries
  absent-track same none touched each =
      subst (λ (x : IndexMap ConsumerId Seat S). AllByRecursion (IsTracked touched) x.entries) (sym same)
      (absent-tracked id touched m.entries (sym none) each)

  module _ (row : Seat) (out : RisingList ReadyRow) (found : Some row ≡ get same_consumer m id) where
    abbrev pub committed : Seat
    committed = record { row = record { consumer = row.row.consumer; out = out }; base = row.row.consumer }

    abbrev pub gone_back : Seat
    gone_back = record { row = record { consumer = row.base; out = out }; base = row.base }

    module _ (items : out.items ≡ row.row.out.items) (base : out.base ≡ row.row.out.items)
        (wrote : WritesThrough same_consumer (same_consumer id) m committed n) where
      pub commit-ones : ones_of n.entries ≡ ones_of m.entries
      commit-ones =
          write-same id m n are row committed found wrote (ap (served row.row.consumer) items)

      pub commit-joined : AreJoined n.entries
      commit-joined =
          write-joined id m n are row committed found wrote refl
          (λ given. subst (AreGiven row.row.consumer) (sym items) given)
          (λ was. (
            sym (found-own id m.entries row are.ids (sym found)),
            subst (AreGiven row.row.consumer) (sym base) (found-given id m.entries row are.out (sym found)),
          ))

      pub commit-track : (touched : List ConsumerId) → AllByRecursion (IsTracked (id ∷ touched)) m.entries
          → AllByRecursion (IsTracked touched) n.entries
      commit-track touched each =
          subst (AllByRecursion (IsTracked touched)) (sym wrote.0)
          (set-tracked id touched m.entries committed are.unique
          (ap (served row.row.consumer) (base ∙ sym items)) each)

    module _ (items : out.items ≡ row.row.out.base) (base : out.base ≡ row.row.out.base)
        (wrote : WritesThrough same_consumer (same_consumer id) m gone_back n) where
      pub undo-bases : bases_of n.entries ≡ bases_of m.entries
      undo-bases = write-bases id m n are row gone_back found wrote (ap (served row.base) base)

      pub undo-joined : AreJoined n.entries
      undo-joined =
          let was = found-base id m.entries row are.base (sym found) in
          write-joined id m n are row gone_back found wrote
          (sym was.0 ∙ sym (found-own id m.entries row are.ids (sym found)))
          (λ given. subst (AreGiven row.base) (sym items) was.1)
          (λ has. (has.0, subst (AreGiven row.base) (sym base) has.1))

      pub undo-track : (touched : List ConsumerId) → AllByRecursion (IsTracked (id ∷ touched)) m.entries
          → AllByRecursion (IsTracked touched) n.entries
      undo-track touched each =
          subst (AllByRecursion (IsTracked touched)) (sym wrote.0)
          (set-tracked id touched m.entries gone_back are.unique (ap (served row.base) (base ∙ sym items)) each)

-- ---- steps are undone

-- the last leaves
pub front-joined : (es fs : List Entry) → fs ≡ take (length es - 1) es → IsDistinct same_consumer (keys_of fs)
    → AreJoined es → AreJoined fs
front-joined es fs is unique are = record {
  ids = subst (AllByRecursion HasOwnId) (sym is) (kept-take HasOwnId (length es - 1) es are.ids);
  unique = unique;
  out = subst (AllByRecursion HoldsOut) (sym is) (kept-take HoldsOut (length es - 1) es are.out);
  base = subst (AllByRecursion HoldsBase) (sym is) (kept-take HoldsBase (length es - 1) es are.base);
}

pub front-track : (es fs : List Entry) → fs ≡ take (length es - 1) es → (touched : List ConsumerId)
    → AllByRecursion (IsTracked touched) es → AllByRecursion (IsTracked touched) fs
front-track es fs is touched each =
    subst (AllByRecursion (IsTracked touched)) (sym is) (kept-take (IsTracked touched) (length es - 1) es each)

pub front-seen : {A : Type 0} (see : Seat → A) (es fs : List Entry) → fs ≡ take (length es - 1) es
    → seen see fs ≡ undo_step see step.Joined (seen see es)
front-seen see es fs is = ap (seen see) is ∙ seen-front see es

-- one comes back
module _ (seat back : Seat) (place : ℕ) (es fs : List Entry) (comes : ComesBack seat back place es fs) where
  pub back-joined : IsDistinct same_consumer (keys_of fs) → WasGiven seat → AreJoined es → AreJoined fs
  back-joined unique was are = record {
    ids =
        subst (AllByRecursion HasOwnId) (sym comes.entries)
        (kept-insert HasOwnId es place (seat.base.id, back) are.ids (ap (λ (k : Consumer). k.id) (sym comes.consumer)));
    unique = unique;
    out =
        subst (AllByRecursion HoldsOut) (sym comes.entries)
        (kept-insert HoldsOut es place (seat.base.id, back) are.out
        (subst (λ (k : Consumer). AreGiven k back.row.out.items) (sym comes.consumer)
        (subst (AreGiven seat.base) (sym comes.items) was)));
    base =
        subst (AllByRecursion HoldsBase) (sym comes.entries)
        (kept-insert HoldsBase es place (seat.base.id, back) are.base (
          ap (λ (k : Consumer). k.id) (sym comes.base),
          subst (λ (k : Consumer). AreGiven k back.row.out.base) (sym comes.base)
              (subst (AreGiven seat.base) (sym comes.out) was),
        ));
  }

  pub back-seen : {A : Type 0} (see : Seat → A) → see back ≡ see seat
      → seen see fs ≡ undo_step see (step.Left place seat) (seen see es)
  back-seen {A = A} see same =
      ap (seen see) comes.entries ∙ seen-insert see es place (seat.base.id, back)
      ∙ ap (λ (x : A). insert (seen see es) place x) same

  pub back-track : (touched : List ConsumerId) → AllByRecursion (IsTracked touched) es
      → AllByRecursion (IsTracked touched) fs
  back-track touched each =
      subst (AllByRecursion (IsTracked touched)) (sym comes.entries)
      (kept-insert (IsTracked touched) es place (seat.base.id, back) each
      (inl (comes.base_same ∙ ap (served seat.base) (sym comes.items)
      ∙ ap (λ (k : Consumer). served k back.row.out.items) (sym comes.consumer))))

-- ---- steps are made

-- one joins
abbrev pub joining : ConsumerRow → RisingList ReadyRow → Entry
joining row out =
    (row.consumer.id, record { row = record { consumer = row.consumer; out = out }; base = row.consumer })

module _ (es : List Entry) (row : ConsumerRow) (out : RisingList ReadyRow) (items : out.items ≡ row.out.items)
    (base : out.base ≡ row.out.items) where
  pub joins-ones : (fs : List Entry) → fs ≡ es ++ (joining row out) ∷ []
      → ones_of fs ≡ ones_of es ++ served row.consumer row.out.items ∷ []
  joins-ones fs is =
      ap ones_of is ∙ seen-pushed seat_one es (joining row out)
      ∙ ap (λ (xs : List (Numbered ReadyRow)). ones_of es ++ served row.consumer xs ∷ []) items

  joins-seen : {A : Type 0} (see : Seat → A) (fs : List Entry) → fs ≡ es ++ (joining row out) ∷ []
      → without_last (seen see fs) ≡ seen see es
  joins-seen see fs is =
      ap (λ (xs : List Entry). without_last (seen see xs)) is ∙ ap without_last (seen-pushed see es (joining row out))
      ∙ last-gone (seen see es) (see (joining row out).1)

  pub joins-base : (fs : List Entry) (journal : List Step) → fs ≡ es ++ (joining row out) ∷ []
      → undone base_one (step.Joined ∷ journal) (bases_of fs) ≡ undone base_one journal (bases_of es)
  joins-base fs journal is = ap (undone base_one journal) (joins-seen base_one fs is)

  pub joins-back : (fs : List Entry) (journal : List Step) (touched : List ConsumerId) (k l : ℕ)
      → fs ≡ es ++ (joining row out) ∷ [] → IsDistinct same_consumer (keys_of fs) → IsGiven row → length journal + 1 ≤ l
      → CanGoBack es journal touched k → CanGoBack fs (step.Joined ∷ journal) touched l
  joins-back fs journal touched k l is unique given room can = record {
    joined =
        record {
          ids =
              subst (AllByRecursion HasOwnId) (sym is)
              (AllByRecursion-append HasOwnId es ((joining row out) ∷ []) can.joined.ids (refl, tt));
          unique = unique;
          out =
              subst (AllByRecursion HoldsOut) (sym is)
              (AllByRecursion-append HoldsOut es ((joining row out) ∷ []) can.joined.out
              (subst (AreGiven row.consumer) (sym items) given, tt));
          base =
              subst (AllByRecursion HoldsBase) (sym is)
              (AllByRecursion-append HoldsBase es ((joining row out) ∷ []) can.joined.base
              ((refl, subst (AreGiven row.consumer) (sym base) given), tt));
        };
    steps = (tt, subst (CanUndo journal) (sym (joins-seen base_id fs is)) can.steps);
    tracked =
        subst (AllByRecursion (IsTracked touched)) (sym is)
        (AllByRecursion-append (IsTracked touched) es ((joining row out) ∷ []) can.tracked
        (inl (ap (served row.consumer) (base ∙ sym items)), tt));
    room = omega (arith, room);
  }

-- one leaves
module _ (id : ConsumerId) (es fs : List Entry) (place : ℕ) (seat : Seat)
    (index : Some place ≡ position (same_consumer id) (keys_of es)) (found : Some seat ≡ lookup (same_consumer id) es)
    (is : fs ≡ remove_entry (same_consumer id) es) where
  leaves-seen : {A : Type 0} (see : Seat → A) → insert (seen see fs) place (see seat) ≡ seen see es
  leaves-seen {A = A} see =
      ap (λ (xs : List Entry). insert (seen see xs) place (see seat)) is
      ∙ ap (λ k. insert (seen see (remove_entry (same_consumer id) es)) k (see seat)) (index-at id es place index)
      ∙ put-back see id es seat (sym found)

  pub leaves-base : (journal : List Step)
      → undone base_one (step.Left place seat ∷ journal) (bases_of fs) ≡ undone base_one journal (bases_of es)
  leaves-base journal = ap (undone base_one journal) (leaves-seen base_one)

  pub leaves-back : (journal : List Step) (touched : List ConsumerId) (k l : ℕ)
      → IsDistinct same_consumer (keys_of fs) → length journal + 1 ≤ l → CanGoBack es journal touched k
      → CanGoBack fs (step.Left place seat ∷ journal) touched l
  leaves-back journal touched k l unique room can =
      let are = can.joined in
      let was = found-base id es seat are.base (sym found) in
      let within = place-within base_id id es seat (sym found) in
      let at : place ≡ at_id id es = index-at id es place index in
      record {
        joined =
            record {
              ids = subst (AllByRecursion HasOwnId) (sym is) (kept-remove_entry HasOwnId id es are.ids);
              unique = unique;
              out = subst (AllByRecursion HoldsOut) (sym is) (kept-remove_entry HoldsOut id es are.out);
              base = subst (AllByRecursion HoldsBase) (sym is) (kept-remove_entry HoldsBase id es are.base);
            };
        steps = (
          (
            subst (λ (xs : List Entry). place ≤ length (seen base_id xs)) (sym is) (omega (arith, within, at)),
            subst (λ (xs : List Entry). AllByRecursion (λ k. same_consumer seat.base.id k ≡ false) (seen base_id xs))
                (sym is)
                (subst (λ (q : ConsumerId). AllByRecursion (λ k. same_consumer q k ≡ false)
                (seen base_id (remove_entry (same_consumer id) es))) was.0
                (left-free id es seat are.unique are.base (sym found))),
            was.1,
          ),
          subst (CanUndo journal) (sym (leaves-seen base_id)) can.steps,
        );
        tracked =
            subst (AllByRecursion (IsTracked touched)) (sym is)
            (kept-remove_entry (IsTracked touched) id es can.tracked);
        room = omega (arith, room);
      }
