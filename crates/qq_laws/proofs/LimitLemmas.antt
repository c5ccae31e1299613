-- Which messages the limits remove: those without which the queue was past a limit, of the first on.
use Rattle.std.proofs.Common.{◌≡◌, ℕ, ◌+◌, ◌≤◌, ◌⊎◌, Bool, true, false, not, ◌&&◌, ◌||◌, cond, List, [], ◌∷◌, Option, Some, None, refl, sym, ap, ◌∙◌, subst, inl, inr, arith, if◌then◌else◌}
use Rattle.std.specs.Prelude.{nat_lt, sum_by}
use Rattle.std.specs.Option.{is_some}
use Rattle.std.specs.List.{AllZip}
use Rattle.std.proofs.lemmas.Bool.{false≢true, cases_Bool, cond-true, cond-false, cond_both, or_parts, ltb-false, le-ltb}
use Rattle.std.proofs.lemmas.List.Sums.{sum_by-cons}
use Rattle.qq_entry.specs.declared.message.Reason.TheVariants.{MaxLen}
use Rattle.qq_entry.specs.declared.queue.QueueArgs.{QueueArgs}
use Rattle.qq_entry.specs.declared.queue.Strategy.{Strategy}
use Rattle.qq_entry.specs.declared.queue.Strategy.TheVariants.{Absent, AtMostOnce, AtLeastOnce}
use Rattle.qq_model.specs.declared.place.GoneReason.TheVariants as gone
use Rattle.qq_model.specs.declared.place.Key.{Key}
use Rattle.qq_model.specs.declared.place.Key.TheVariants.{Front, Back}
use Rattle.qq_model.specs.declared.place.Place.{Place}
use Rattle.qq_model.specs.declared.place.Place.TheVariants.{Ready, Dead, Gone}
use Rattle.qq_model.specs.declared.place.Row.{Row}
use Rattle.qq_model.specs.Choice.{is_lesser, key_less, place_key, ready_key, next_message}
use Rattle.qq_model.specs.Limits.{is_ready, ready_count, ready_bytes, has_passed, is_drop_head, is_over_limit}
use Rattle.qq_model.specs.Changes.{Progress, put_row, die, die_by}
use Rattle.qq_model.specs.Serving.{drop_head_by, drop_head, keep_limits}
use Rattle.qq_model.specs.Sound.{front_number, back_number}
use Rattle.qq_base.proofs.Lists.{In, AllByRecursion-in}
use Rattle.qq_model.proofs.Choices.{next_message-in, place_key-ready}
use Rattle.qq_model.proofs.Drawn.{Drawn, Drawn-put_none, In-put_row}
use Rattle.qq_model.proofs.Indices.{Rises, indices}
use Rattle.qq_model.proofs.InOrder.{indices-put}
use Rattle.qq_model.proofs.Least.{key_less-order, least_by-least}
use Rattle.qq_model.proofs.Loops.{while_next-keeps}
use Rattle.qq_laws.specs.Explains.{death_place, IsDeath, comes_before, rows_from, IsLimited}
use Rattle.qq_laws.proofs.Explained.{death-ready, zip-itself, zip-put}
use Rattle.qq_laws.proofs.KeptLemmas.{limits-within}

-- a relation of two lists, where more is known of what stands in them
pub zip-in : {A B : Type 0} (R S : A → B → Type 0) (xs : List A) (ys : List B) → AllZip R xs ys
    → ((x : A) (y : B) → In x xs → In y ys → R x y → S x y) → AllZip S xs ys
zip-in R S [] [] zipped each = tt
zip-in R S [] (y ∷ ys) zipped each = absurd zipped
zip-in R S (x ∷ xs) [] zipped each = absurd zipped
zip-in R S (x ∷ xs) (y ∷ ys) zipped each = (
  each x y (inl refl) (inl refl) zipped.0,
  zip-in R S xs ys zipped.1 (λ a b ina inb. each a b (inr ina) (inr inb)),
)

-- Keys -------------------------------------------------------------------------------------------------

lt-total : (a b : ℕ) → nat_lt b a ≡ false → (a ≡ b → ⊥) → nat_lt a b ≡ true
lt-total a b above differ = elim (cases_Bool (nat_lt a b)) [
  | inl less ↦ less
  | inr below ↦
      let first : a ≤ b = ltb-false b a above in
      let second : b ≤ a = ltb-false a b below in
      absurd (differ (omega arith))
]

key-total : (a b : Key) → key_less b a ≡ false → (a ≡ b → ⊥) → key_less a b ≡ true
key-total (Front a) (Front b) above differ = lt-total a b above (λ e. differ (ap Front e))
key-total (Front a) (Back b) above differ = refl
key-total (Back a) (Front b) above differ = absurd (false≢true (sym above))
key-total (Back a) (Back b) above differ = lt-total a b above (λ e. differ (ap Back e))

place-total : (m z : Place) → is_ready m ≡ true → is_ready z ≡ true
    → is_lesser key_less (place_key z) (place_key m) ≡ false → (place_key m ≡ place_key z → ⊥)
    → is_lesser key_less (place_key m) (place_key z) ≡ true
place-total (Ready a) (Ready b) first second above differ =
    key-total a b above (λ e. differ (ap (λ (k : Key). Some k) e))
place-total (Ready a) _ first second above differ = absurd (false≢true second)
place-total _ z first second above differ = absurd (false≢true first)

key-front : (place : Place) (n : ℕ) → place_key place ≡ Some (Front n) → front_number place ≡ Some n
key-front (Ready (Front k)) n e = cc
key-front (Ready (Back k)) n e = absurd cc
key-front _ n e = absurd cc

key-back : (place : Place) (n : ℕ) → place_key place ≡ Some (Back n) → back_number place ≡ Some n
key-back (Ready (Back k)) n e = cc
key-back (Ready (Front k)) n e = absurd cc
key-back _ n e = absurd cc

-- two messages of the queue with one key have one index
one-key : (fronts backs : ℕ) (rows : List Row) (m z : Row) → Drawn front_number fronts rows
    → Drawn back_number backs rows → In m rows → In z rows → is_ready m.place ≡ true
    → place_key m.place ≡ place_key z.place → m.index.0 ≡ z.index.0
one-key fronts backs rows m z front back inm inz ready same = by (place_key m.place) refl
  where
    by : (o : Option Key) → place_key m.place ≡ o → m.index.0 ≡ z.index.0
    by None is = absurd (false≢true (ap is_some (sym is) ∙ place_key-ready m.place ∙ ready))
    by (Some (Front n)) is =
        front.once m z n inm inz (key-front m.place n is) (key-front z.place n (sym same ∙ is))
    by (Some (Back n)) is = back.once m z n inm inz (key-back m.place n is) (key-back z.place n (sym same ∙ is))

-- Sums -------------------------------------------------------------------------------------------------

-- a row that comes before m has left the queue, another one is as it was
abbrev HasLeft : Row → Row → Row → Type 0
HasLeft m x y =
    ((comes_before x m ≡ false) × (y ≡ x)) ⊎ ((comes_before x m ≡ true) × (is_ready y.place ≡ false))

sum-from : (w : Row → ℕ) → ((y : Row) → is_ready y.place ≡ false → w y ≡ 0) → (m : Row) (xs ys : List Row)
    → AllZip (HasLeft m) xs ys → sum_by w (rows_from m xs) ≡ sum_by w ys
sum-from w none m [] [] zipped = refl
sum-from w none m [] (y ∷ ys) zipped = absurd zipped
sum-from w none m (x ∷ xs) [] zipped = absurd zipped
sum-from w none m (x ∷ xs) (y ∷ ys) zipped =
    let rest = sum-from w none m xs ys zipped.1 in
    elim (zipped.0) [
      | inl stays ↦
          let here : rows_from m (x ∷ xs) ≡ x ∷ rows_from m xs =
          cond-true (not (comes_before x m)) (x ∷ rows_from m xs) (rows_from m xs) (ap not stays.0) in
          omega (
            arith,
            ap (sum_by w) here,
            sum_by-cons w x (rows_from m xs),
            sum_by-cons w y ys,
            ap w stays.1,
            rest,
          )
      | inr left ↦
          let here : rows_from m (x ∷ xs) ≡ rows_from m xs =
          cond-false (not (comes_before x m)) (x ∷ rows_from m xs) (rows_from m xs) (ap not left.0) in
          omega (arith, ap (sum_by w) here, sum_by-cons w y ys, none y left.1, rest)
    ]

sum-at_most : (w : Row → ℕ) (m : Row) (xs ys : List Row)
    → AllZip (λ x y. (y ≡ x) ⊎ (comes_before x m ≡ true)) xs ys → sum_by w (rows_from m xs) ≤ sum_by w ys
sum-at_most w m [] [] zipped = omega arith
sum-at_most w m [] (y ∷ ys) zipped = absurd zipped
sum-at_most w m (x ∷ xs) [] zipped = absurd zipped
sum-at_most w m (x ∷ xs) (y ∷ ys) zipped =
    let rest = sum-at_most w m xs ys zipped.1 in
    elim (cases_Bool (comes_before x m)) [
      | inl before ↦
          let here : rows_from m (x ∷ xs) ≡ rows_from m xs =
          cond-false (not (comes_before x m)) (x ∷ rows_from m xs) (rows_from m xs) (ap not before) in
          omega (arith, ap (sum_by w) here, sum_by-cons w y ys, rest)
      | inr behind ↦
          let here : rows_from m (x ∷ xs) ≡ x ∷ rows_from m xs =
          cond-true (not (comes_before x m)) (x ∷ rows_from m xs) (rows_from m xs) (ap not behind) in
          let same : y ≡ x = elim (zipped.0) [
            | inl is ↦ is
            | inr before ↦ absurd (false≢true (sym behind ∙ before))
          ] in
          omega (arith, ap (sum_by w) here, sum_by-cons w x (rows_from m xs), sum_by-cons w y ys, ap w same, rest)
    ]

-- how a row counts against the two limits
abbrev counts_one : Row → ℕ
counts_one row = cond (is_ready row.place) 1 0

abbrev counts_bytes : Row → ℕ
counts_bytes row = if is_ready row.place then row.size else 0

one-none : (y : Row) → is_ready y.place ≡ false → counts_one y ≡ 0
one-none y left = cond-false (is_ready y.place) 1 0 left

bytes-none : (y : Row) → is_ready y.place ≡ false → counts_bytes y ≡ 0
bytes-none y left = cond-false (is_ready y.place) y.size 0 left

over-same : (args : QueueArgs) (xs ys : List Row) → ready_count xs ≡ ready_count ys
    → ready_bytes xs ≡ ready_bytes ys → is_over_limit args xs ≡ is_over_limit args ys
over-same args xs ys count bytes =
    ap (λ n. is_drop_head args.overflow
    && (has_passed args.max_length n || has_passed args.max_bytes (ready_bytes xs))) count
    ∙ ap (λ n. is_drop_head args.overflow
    && (has_passed args.max_length (ready_count ys) || has_passed args.max_bytes n)) bytes

passed-less : (limit : Option ℕ) (m n : ℕ) → m ≤ n → has_passed limit n ≡ false → has_passed limit m ≡ false
passed-less None m n less within = refl
passed-less (Some most) m n less within =
    let most' : n ≤ most = ltb-false most n within in le-ltb most m (omega arith)

over-less : (args : QueueArgs) (xs ys : List Row) → ready_count xs ≤ ready_count ys
    → ready_bytes xs ≤ ready_bytes ys → is_over_limit args ys ≡ false → is_over_limit args xs ≡ false
over-less args xs ys count bytes within = elim (cases_Bool (is_drop_head args.overflow)) [
  | inl drops ↦
      let either : Bool = (has_passed args.max_length (ready_count ys) || has_passed args.max_bytes
      (ready_bytes ys)) in
      let none : either ≡ false = ap (λ b. b && either) (sym drops) ∙ within in
      let parts = or_parts (has_passed args.max_length (ready_count ys))
      (has_passed args.max_bytes (ready_bytes ys)) none in
      ap (λ b. b && (has_passed args.max_length (ready_count xs) || has_passed args.max_bytes (ready_bytes xs))) drops
      ∙ ap (λ b. b || has_passed args.max_bytes (ready_bytes xs))
      (passed-less args.max_length (ready_count xs) (ready_count ys) count parts.0)
      ∙ passed-less args.max_bytes (ready_bytes xs) (ready_bytes ys) bytes parts.1
  | inr keeps ↦
      ap (λ b. b && (has_passed args.max_length (ready_count xs) || has_passed args.max_bytes (ready_bytes xs))) keeps
]

-- Drops ------------------------------------------------------------------------------------------------

-- a row is as it was, or has died where the queue from it on was past a limit, before all that are left
abbrev Drops : QueueArgs → List Row → List Row → Row → Row → Type 0
Drops args first now x y =
    (y ≡ x)
    ⊎ ((place : Place) × (is_ready x.place ≡ true) × (is_over_limit args (rows_from x first) ≡ true)
    × IsDeath args MaxLen place × (y ≡ record x { place = place })
    × ((z : Row) → In z now → is_ready z.place ≡ true → comes_before x z ≡ true))

record Dropping (args : QueueArgs) (first : List Row) (fronts backs : ℕ) (q : Progress) : Type 0 where
  same : q.state.args ≡ args
  rising : Rises (indices q.state.rows)
  front : Drawn front_number fronts q.state.rows
  back : Drawn back_number backs q.state.rows
  rows : AllZip (Drops args first q.state.rows) first q.state.rows

-- what a death at the head does
record Dies (m : Row) (q r : Progress) : Type 0 where
  place : Place
  death : IsDeath q.state.args MaxLen place
  rows : r.state.rows ≡ put_row (record m { place = place }) q.state.rows
  args : r.state.args ≡ q.state.args

dies : (m : Row) (q : Progress) → Dies m q (die MaxLen m q)
unfolding die
dies m q = by q.state.args.strategy refl
  where
    by : (strategy : Strategy) → q.state.args.strategy ≡ strategy → Dies m q (die_by strategy MaxLen m q)
    by Absent is = record {
      place = Gone (gone.Died MaxLen);
      death = (0, ap (λ s. death_place s 0 MaxLen) (sym is));
      rows = refl;
      args = refl;
    }
    by AtMostOnce is = record {
      place = Gone (gone.Died MaxLen);
      death = (0, ap (λ s. death_place s 0 MaxLen) (sym is));
      rows = refl;
      args = refl;
    }
    by AtLeastOnce is = record {
      place = Dead (q.state.deads + 1) MaxLen;
      death = (q.state.deads + 1, ap (λ s. death_place s (q.state.deads + 1) MaxLen) (sym is));
      rows = refl;
      args = refl;
    }

unnumbered : (number : Place → Option ℕ) (strategy : Strategy) (n : ℕ) → number (Gone (gone.Died MaxLen)) ≡ None
    → ((k : ℕ) → number (Dead k MaxLen) ≡ None) → number (death_place strategy n MaxLen) ≡ None
unnumbered number Absent n none none' = none
unnumbered number AtMostOnce n none none' = none
unnumbered number AtLeastOnce n none none' = none' n

-- the queue, once what comes before its first message is left out, is the queue now
from-first : (args : QueueArgs) (first : List Row) (now : List Row) (m : Row) → next_message now ≡ Some m
    → AllZip (Drops args first now) first now → is_over_limit args (rows_from m first) ≡ is_over_limit args now
from-first args first now m found zipped =
    let some = next_message-in now m found in
    let left : AllZip (HasLeft m) first now =
    zip-in (Drops args first now) (HasLeft m) first now zipped (λ x y inx iny drops. elim drops [
      | inl same ↦
          let least : comes_before y m ≡ false =
          AllByRecursion-in (λ (one : Row). comes_before one m ≡ false) y now
          (least_by-least key_less ready_key key_less-order now m found) iny in
          inl (ap (λ (r : Row). comes_before r m) (sym same) ∙ least, same)
      | inr died ↦
          inr (
            died.5 m some.0 some.1,
            ap (λ (r : Row). is_ready r.place) died.4 ∙ ap is_ready died.3.1
                ∙ death-ready args.strategy died.3.0 MaxLen,
          )
    ]) in
    over-same args (rows_from m first) now (sum-from counts_one one-none m first now left)
    (sum-from counts_bytes bytes-none m first now left)

dropped : (args : QueueArgs) (first : List Row) (fronts backs : ℕ) (q : Progress) (m : Row)
    → next_message q.state.rows ≡ Some m → is_over_limit q.state.args q.state.rows ≡ true
    → Dropping args first fronts backs q → Dropping args first fronts backs (die MaxLen m q)
dropped args first fronts backs q m found over dropping =
    let d = dies m q in
    let some = next_message-in q.state.rows m found in
    let new : Row = record m { place = d.place } in
    let now : List Row = put_row new q.state.rows in
    let death : IsDeath args MaxLen d.place =
    subst (λ (a : QueueArgs). IsDeath a MaxLen d.place) dropping.same d.death in
    let unready : is_ready d.place ≡ false = ap is_ready death.1 ∙ death-ready args.strategy death.0 MaxLen in
    let from_m : is_over_limit args (rows_from m first) ≡ true =
    from-first args first q.state.rows m found dropping.rows
    ∙ ap (λ (a : QueueArgs). is_over_limit a q.state.rows) (sym dropping.same) ∙ over in
    let still : (z : Row) → In z now → is_ready z.place ≡ true → In z q.state.rows × (z.index.0 ≡ new.index.0 → ⊥) =
    λ z here ready. elim (In-put_row z new q.state.rows here) [
      | inl is ↦ absurd (false≢true (sym unready ∙ ap (λ (r : Row). is_ready r.place) (sym is) ∙ ready))
      | inr old ↦ old
    ] in
    let before : (z : Row) → In z now → is_ready z.place ≡ true → comes_before m z ≡ true = λ z here ready.
    let old = still z here ready in
    let least : comes_before z m ≡ false =
    AllByRecursion-in (λ (one : Row). comes_before one m ≡ false) z q.state.rows
    (least_by-least key_less ready_key key_less-order q.state.rows m found) old.0 in
    place-total m.place z.place some.1 ready least (λ e. old.1 (sym (one-key fronts backs q.state.rows m z
    dropping.front dropping.back some.0 old.0 some.1 e))) in
    let weaker : AllZip (Drops args first now) first q.state.rows =
    zip-in (Drops args first q.state.rows) (Drops args first now) first q.state.rows dropping.rows
    (λ x y inx iny drops. elim drops [
      | inl same ↦ inl same
      | inr died ↦
          inr (
            died.0,
            died.1,
            died.2,
            died.3,
            died.4,
            λ z here ready. died.5 z (still z here ready).0 ready,
          )
    ]) in
    let zipped : AllZip (Drops args first now) first now =
    zip-put (Drops args first now) first q.state.rows m new weaker dropping.rising some.0 refl (λ x drops. elim drops [
      | inl same ↦
          subst (λ (r : Row). Drops args first now r new) same
          (inr (d.place, some.1, from_m, death, refl, before))
      | inr died ↦
          absurd (false≢true (sym (ap is_ready died.3.1 ∙ death-ready args.strategy died.3.0 MaxLen)
          ∙ ap (λ (r : Row). is_ready r.place) (sym died.4) ∙ some.1))
    ]) in
    record {
      same = d.args ∙ dropping.same;
      rising = subst Rises (sym (ap indices d.rows ∙ indices-put new q.state.rows)) dropping.rising;
      front = subst (Drawn front_number fronts) (sym d.rows)
          (Drawn-put_none front_number fronts q.state.rows new dropping.front
          (ap front_number death.1 ∙ unnumbered front_number args.strategy death.0 refl (λ k. refl)));
      back = subst (Drawn back_number backs) (sym d.rows)
          (Drawn-put_none back_number backs q.state.rows new dropping.back
          (ap back_number death.1 ∙ unnumbered back_number args.strategy death.0 refl (λ k. refl)));
      rows = subst (λ (rows : List Row). AllZip (Drops args first rows) first rows) (sym d.rows) zipped;
    }

dropping-all : (p : Progress) (fronts backs : ℕ) → Rises (indices p.state.rows)
    → Drawn front_number fronts p.state.rows → Drawn back_number backs p.state.rows
    → Dropping p.state.args p.state.rows fronts backs (keep_limits p)
unfolding keep_limits drop_head
dropping-all p fronts backs rising front back =
    while_next-keeps (Dropping p.state.args p.state.rows fronts backs) drop_head
    (λ a b dropping made. cond_both (is_over_limit a.state.args a.state.rows)
    (drop_head_by (next_message a.state.rows) a) None
    (λ (o : Option Progress). o ≡ Some b → Dropping p.state.args p.state.rows fronts backs b)
    (λ over e. one a b (next_message a.state.rows) refl over dropping e) (λ _ e. absurd cc) made) _ p
    (record {
      same = refl;
      rising = rising;
      front = front;
      back = back;
      rows = zip-itself (Drops p.state.args p.state.rows p.state.rows) p.state.rows (λ x. inl refl);
    })
  where
    one : (a b : Progress) (o : Option Row) → next_message a.state.rows ≡ o
        → is_over_limit a.state.args a.state.rows ≡ true → Dropping p.state.args p.state.rows fronts backs a
        → drop_head_by o a ≡ Some b → Dropping p.state.args p.state.rows fronts backs b
    one a b None found over dropping made = absurd cc
    one a b (Some m) found over dropping made =
        let same : die MaxLen m a ≡ b = cc in
        subst (Dropping p.state.args p.state.rows fronts backs) same
        (dropped p.state.args p.state.rows fronts backs a m found over dropping)

pub limited : (p : Progress) (fronts backs : ℕ) → Rises (indices p.state.rows)
    → Drawn front_number fronts p.state.rows → Drawn back_number backs p.state.rows
    → AllZip (IsLimited p.state.args p.state.rows) p.state.rows (keep_limits p).state.rows
limited p fronts backs rising front back =
    let q : Progress = keep_limits p in
    let dropping = dropping-all p fronts backs rising front back in
    let within : is_over_limit p.state.args q.state.rows ≡ false =
    ap (λ (a : QueueArgs). is_over_limit a q.state.rows) (sym dropping.same) ∙ limits-within p in
    zip-in (Drops p.state.args p.state.rows q.state.rows) (IsLimited p.state.args p.state.rows) p.state.rows
    q.state.rows dropping.rows (λ x y inx iny drops. elim drops [
      | inl same ↦ inl (
        same,
        λ ready.
            let here : In x q.state.rows = subst (λ (r : Row). In r q.state.rows) same iny in
            let few : AllZip (λ x' y'. (y' ≡ x') ⊎ (comes_before x' x ≡ true)) p.state.rows q.state.rows =
            zip-in (Drops p.state.args p.state.rows q.state.rows) _ p.state.rows q.state.rows dropping.rows
            (λ x' y' inx' iny' drops'. elim drops' [
              | inl same' ↦ inl same'
              | inr died ↦ inr (died.5 x here ready)
            ]) in
            over-less p.state.args (rows_from x p.state.rows) q.state.rows
            (sum-at_most counts_one x p.state.rows q.state.rows few)
            (sum-at_most counts_bytes x p.state.rows q.state.rows few) within,
      )
      | inr died ↦ inr (died.0, died.1, died.2, died.3, died.4)
    ])
