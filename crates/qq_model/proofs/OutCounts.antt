-- How many rows are with a consumer.
use Rattle.std.proofs.Common.{◌≡◌, ◌+◌, ◌<◌, ◌≤◌, Bool, true, false, cond, List, [], ◌∷◌, ◌++◌, map, refl, sym, ap, ◌∙◌, subst, inl, inr, arith, if◌then◌else◌}
use Rattle.std.specs.Prelude.{nat_eq}
use Rattle.std.proofs.lemmas.Bool.{false≢true, cases_Bool, cond-true, cond-false, eqb-true, ne_eqb}
use Rattle.std.proofs.lemmas.List.Sums.{sum_by-cons, sum_by_push}
use Rattle.qq_base.specs.declared.ids.ConsumerId.{ConsumerId}
use Rattle.qq_model.specs.declared.place.GoneReason.TheVariants as gone
use Rattle.qq_model.specs.declared.place.Place.{Place}
use Rattle.qq_model.specs.declared.place.Place.TheVariants.{Out, Gone}
use Rattle.qq_model.specs.declared.place.Row.{Row}
use Rattle.qq_model.specs.Choice.{out_count, is_out_to}
use Rattle.qq_model.specs.Limits.{is_ready, is_with_consumer}
use Rattle.qq_model.specs.Changes.{put_row}
use Rattle.qq_model.specs.Commands.{purge_row}
use Rattle.qq_base.proofs.Lists.{AllByRecursion-weaker}
use Rattle.std.specs.List.{AllByRecursion}
use Rattle.qq_model.proofs.Indices.{Rises, indices}

pub out-cons : (id : ConsumerId) (row : Row) (rows : List Row)
    → out_count id (row ∷ rows) ≡ cond (is_out_to id row.place) 1 0 + out_count id rows
out-cons id row rows = sum_by-cons (λ (one : Row). cond (is_out_to id one.place) 1 0) row rows

at_most_one : (b : Bool) → cond b 1 0 ≤ 1
at_most_one true = omega arith
at_most_one false = omega arith

less_if : (a b : Bool) → (a ≡ true → b ≡ true) → cond a 1 0 ≤ cond b 1 0
less_if true b implies = subst (λ (c : Bool). 1 ≤ cond c 1 0) (sym (implies refl)) (omega arith)
less_if false b implies = omega arith

-- rows that change to such as aren't with the consumer, if they weren't
out-map : (id : ConsumerId) (f : Row → Row) (rows : List Row)
    → ((row : Row) → is_out_to id (f row).place ≡ true → is_out_to id row.place ≡ true)
    → out_count id (map f rows) ≤ out_count id rows
out-map id f [] implies = omega arith
out-map id f (row ∷ rows) implies =
    let rest = out-map id f rows implies in
    let here = less_if (is_out_to id (f row).place) (is_out_to id row.place) (implies row) in
    omega (arith, out-cons id (f row) (map f rows), out-cons id row rows, rest, here)

pub out-with : (id : ConsumerId) (new : Row) (rows : List Row) → is_out_to id new.place ≡ false
    → out_count id (put_row new rows) ≤ out_count id rows
out-with id new rows out =
    out-map id (λ (row : Row). if nat_eq row.index.0 new.index.0 then new else row) rows
    (λ row is. elim (cases_Bool (nat_eq row.index.0 new.index.0)) [
      | inl same ↦
          absurd (false≢true
          (sym out ∙ ap (λ (r : Row). is_out_to id r.place)
          (sym (cond-true (nat_eq row.index.0 new.index.0) new row same)) ∙ is))
      | inr other ↦
          ap (λ (r : Row). is_out_to id r.place) (sym (cond-false (nat_eq row.index.0 new.index.0) new row other))
          ∙ is
    ])

put_row-none : (new : Row) (rows : List Row) → AllByRecursion (λ n. new.index.0 < n) (indices rows)
    → put_row new rows ≡ rows
put_row-none new [] above = refl
put_row-none new (row ∷ rows) above =
    let less : new.index.0 < row.index.0 = above.0 in
    let other : nat_eq row.index.0 new.index.0 ≡ false = ne_eqb row.index.0 new.index.0 (λ e. omega arith) in
    ap (λ (r : Row). r ∷ put_row new rows) (cond-false (nat_eq row.index.0 new.index.0) new row other)
    ∙ ap (λ (rs : List Row). row ∷ rs) (put_row-none new rows above.1)

-- of rising rows one is changed
pub out-one : (id : ConsumerId) (new : Row) (rows : List Row) → Rises (indices rows)
    → out_count id (put_row new rows) ≤ out_count id rows + 1
out-one id new [] rising = omega arith
out-one id new (row ∷ rows) rising = elim (cases_Bool (nat_eq row.index.0 new.index.0)) [
  | inl same ↦
      let is : row.index.0 ≡ new.index.0 = eqb-true row.index.0 new.index.0 same in
      let above : AllByRecursion (λ n. new.index.0 < n) (indices rows) =
      AllByRecursion-weaker (λ n. row.index.0 < n) (λ n. new.index.0 < n) (λ n lt. omega arith) (indices rows)
      rising.0 in
      let all : put_row new (row ∷ rows) ≡ new ∷ rows =
      ap (λ (r : Row). r ∷ put_row new rows) (cond-true (nat_eq row.index.0 new.index.0) new row same)
      ∙ ap (λ (rs : List Row). new ∷ rs) (put_row-none new rows above) in
      omega (
        arith,
        ap (out_count id) all,
        out-cons id new rows,
        out-cons id row rows,
        at_most_one (is_out_to id new.place),
      )
  | inr other ↦
      let rest = out-one id new rows rising.1 in
      let all : put_row new (row ∷ rows) ≡ row ∷ put_row new rows =
      ap (λ (r : Row). r ∷ put_row new rows) (cond-false (nat_eq row.index.0 new.index.0) new row other) in
      omega (arith, ap (out_count id) all, out-cons id row (put_row new rows), out-cons id row rows, rest)
]

pub out-purged : (id : ConsumerId) (rows : List Row) → out_count id (map purge_row rows) ≤ out_count id rows
out-purged id rows =
    out-map id purge_row rows
    (λ row is. elim (cases_Bool (is_ready row.place)) [
      | inl ready ↦
          absurd (false≢true
          (ap (λ (r : Row). is_out_to id r.place) (sym (cond-true (is_ready row.place) (record row {
            place = Gone gone.Purged;
          }) row ready)) ∙ is))
      | inr other ↦
          ap (λ (r : Row). is_out_to id r.place)
          (sym (cond-false (is_ready row.place) (record row { place = Gone gone.Purged }) row other)) ∙ is
    ])

pub out-push : (id : ConsumerId) (rows : List Row) (row : Row) → is_out_to id row.place ≡ false
    → out_count id (rows ++ row ∷ []) ≡ out_count id rows
out-push id rows row out =
    sum_by_push (λ (one : Row). cond (is_out_to id one.place) 1 0) rows row
    ∙ ap (λ (b : Bool). out_count id rows + cond b 1 0) out ∙ omega arith

pub not_out : (id : ConsumerId) (place : Place) → is_with_consumer place ≡ false → is_out_to id place ≡ false
not_out id (Out other number) out = absurd (false≢true (sym out))
not_out id _ out = refl
