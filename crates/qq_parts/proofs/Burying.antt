-- The dead letters of a queue are those of its parts.
use Rattle.std.proofs.Common.{◌≡◌, ℕ, ◌+◌, ◌<◌, ◌≤◌, ◌⊎◌, Bool, true, false, cond, List, [], ◌∷◌, ◌++◌, append_assoc, Option, Some, None, refl, sym, ap, ◌∙◌, subst, inl, inr, arith, if◌then◌else◌}
use Rattle.std.specs.Prelude.{nat_eq, nat_lt, nat_le, sum_by}
use Rattle.std.specs.Option.{option_map}
use Rattle.std.specs.List.{AllByRecursion}
use Rattle.std.proofs.lemmas.Bool.{cases_Bool, cond-true, cond-false, lt-ltb, ltb-true, ltb-false, le-ltb, eq-eqb}
use Rattle.qq_base.proofs.Lists.{In, In-append_right, AllByRecursion-in, AllByRecursion-append, AllByRecursion-weaker}
use Rattle.qq_base.specs.declared.ids.ConsumerId.{ConsumerId}
use Rattle.qq_model.specs.declared.place.Key.{Key}
use Rattle.qq_model.specs.declared.place.Place.{Place}
use Rattle.qq_model.specs.declared.place.Place.TheVariants.{Ready, Out}
use Rattle.qq_model.specs.declared.place.Row.{Row}
use Rattle.qq_model.specs.State.{State}
use Rattle.qq_model.specs.Choice.{is_lesser}
use Rattle.qq_model.specs.Commands.{is_dead_number, dead_row}
use Rattle.qq_model.specs.Serving.{is_given, given_count, dead_number, next_dead}
use Rattle.qq_model.proofs.Least.{nat_lt-order, least_by-is, none-least_by}
use Rattle.qq_parts.specs.Reduced.{Item, item_row, live_items}
use Rattle.qq_parts.proofs.Live.{gone-is}
use Rattle.qq_parts.specs.Perm.{Perm}
use Rattle.qq_parts.specs.Perm.Perm.{join}
use Rattle.qq_parts.specs.Parts.{Parts, outs, items_of, Stands, item_number, NumbersRise, IsDead, IsWhole}
use Rattle.qq_parts.specs.Reads.{ready_items}
use Rattle.qq_parts.specs.Changes.{Taken, IsTaken}
use Rattle.qq_parts.specs.Outs.{Cut, cut_id, taken_row}
use Rattle.qq_parts.specs.Letters.{dead_of, first_above, given_of, TellsDead}
use Rattle.qq_parts.proofs.Perms.{perm-sym, perm-in, perm-each, perm-left, perm-middle}
use Rattle.qq_parts.proofs.Turn.{item-row, each-row}
use Rattle.qq_parts.proofs.Reading.{each-ready, each-out, sum-all, sum-none, sum-items, sum-parts}
use Rattle.qq_parts.proofs.Ending.{IsCut, is_cut, none_cut, find-only, find-nothing}

-- what isn't ready or out is dead
all-items : (P : Item → Type 0) (m : Parts) (xs : List Item) → IsWhole m
    → ((x : Item) (key : Key) → x.row.place ≡ Ready key → P x)
    → ((x : Item) (consumer : ConsumerId) (id : ℕ) → x.row.place ≡ Out consumer id → P x) → AllByRecursion P xs
    → AllByRecursion P (ready_items m ++ (outs m.served ++ xs))
all-items P m xs whole ready out dead =
    AllByRecursion-append P (ready_items m) (outs m.served ++ xs) (each-ready P m whole ready)
    (AllByRecursion-append P (outs m.served) xs (each-out P m.served whole.served out) dead)

dead-in : (m : Parts) (x : Item) → In x m.dead → In x (items_of m)
dead-in m x here =
    In-append_right x (ready_items m) (outs m.served ++ m.dead) (In-append_right x (outs m.served) m.dead here)

-- The next one ----------------------------------------------------------------------------------------

number-at : (given last : ℕ) (x : Item) → IsDead last x
    → dead_number given x.row.place ≡ (if nat_lt given (item_number x) then Some (item_number x) else None)
number-at given last x dead = ap (dead_number given) dead.place

-- of a list that rises the first above what was given: those before it aren't above, and those behind it are greater
pub record IsFirst (given : ℕ) (xs : List Item) (x : Item) : Type 0 where
  pub here : In x xs
  pub above : given < item_number x
  pub others : AllByRecursion
      (λ (y : Item). (y ≡ x) ⊎ ((item_number y ≤ given) ⊎ (item_number x < item_number y))) xs

is_first : (given : ℕ) (xs : List Item) (x : Item) → NumbersRise xs → first_above given xs ≡ Some x
    → IsFirst given xs x
is_first given [] x rising found = absurd cc
is_first given (y ∷ ys) x rising found =
    by (cases_Bool (nat_lt given (item_number y))) (λ is. is_first given ys x rising.1 is)
  where
    by : (nat_lt given (item_number y) ≡ true) ⊎ (nat_lt given (item_number y) ≡ false)
        → (first_above given ys ≡ Some x → IsFirst given ys x) → IsFirst given (y ∷ ys) x
    by (inl above) rest =
        let e : Some y ≡ Some x =
        sym (cond-true (nat_lt given (item_number y)) (Some y) (first_above given ys) above) ∙ found in
        let same : y ≡ x = cc in
        subst (IsFirst given (y ∷ ys)) same (record {
          here = inl refl;
          above = ltb-true given (item_number y) above;
          others = (
            inl refl,
            AllByRecursion-weaker (λ (z : Item). item_number y < item_number z)
                (λ (z : Item). (z ≡ y) ⊎ ((item_number z ≤ given) ⊎ (item_number y < item_number z)))
                (λ z less. inr (inr less)) ys rising.0,
          );
        })
    by (inr below) rest =
        let is =
        rest (sym (cond-false (nat_lt given (item_number y)) (Some y) (first_above given ys) below) ∙ found) in
        record {
          here = inr is.here;
          above = is.above;
          others = (inr (inl (ltb-false given (item_number y) below)), is.others);
        }

none-above : (given : ℕ) (xs : List Item) → first_above given xs ≡ None
    → AllByRecursion (λ (x : Item). nat_lt given (item_number x) ≡ false) xs
none-above given [] none = tt
none-above given (x ∷ xs) none = by (cases_Bool (nat_lt given (item_number x))) (λ is. none-above given xs is)
  where
    by : (nat_lt given (item_number x) ≡ true) ⊎ (nat_lt given (item_number x) ≡ false)
        → (first_above given xs ≡ None → AllByRecursion (λ (y : Item). nat_lt given (item_number y) ≡ false) xs)
        → AllByRecursion (λ (y : Item). nat_lt given (item_number y) ≡ false) (x ∷ xs)
    by (inl above) rest =
        let e : Some x ≡ None =
        sym (cond-true (nat_lt given (item_number x)) (Some x) (first_above given xs) above) ∙ none in
        absurd cc
    by (inr below) rest =
        (below, rest (sym (cond-false (nat_lt given (item_number x)) (Some x) (first_above given xs) below) ∙ none))

both : (P Q R : Item → Type 0) → ((x : Item) → P x → Q x → R x) → (xs : List Item) → AllByRecursion P xs
    → AllByRecursion Q xs → AllByRecursion R xs
both P Q R joins [] first second = tt
both P Q R joins (x ∷ xs) first second = (joins x first.0 second.0, both P Q R joins xs first.1 second.1)

next-by : (m : Parts) (s : State) (given : ℕ) (o : Option Item) → Stands m s → IsWhole m
    → first_above given m.dead ≡ o → next_dead given s.rows ≡ option_map item_row o
next-by m s given None stands whole none =
    let keyless : Item → Type 0 = λ x. dead_number given x.row.place ≡ None in
    none-least_by nat_lt (λ (row : Row). dead_number given row.place) s.rows
    (each-row m s (λ (row : Row). dead_number given row.place ≡ None) stands
    (λ row gone. gone-is (λ place. dead_number given place ≡ None) (λ reason. refl) row.place gone)
    (all-items keyless m m.dead whole (λ x key is. ap (dead_number given) is)
    (λ x consumer id is. ap (dead_number given) is)
    (both (IsDead m.rest.deads) (λ (x : Item). nat_lt given (item_number x) ≡ false) keyless
    (λ x dead below.
    number-at given m.rest.deads x dead ∙ ap (λ b. if b then Some (item_number x) else None) below) m.dead
    whole.dead.each (none-above given m.dead none))))
next-by m s given (Some x) stands whole found =
    let is = is_first given m.dead x whole.dead.rising found in
    let key : Row → Option ℕ = λ row. dead_number given row.place in
    let its : IsDead m.rest.deads x = AllByRecursion-in (IsDead m.rest.deads) x m.dead whole.dead.each is.here in
    let keyed : key x.row ≡ Some (item_number x) =
    number-at given m.rest.deads x its
    ∙ ap (λ b. if b then Some (item_number x) else None) (lt-ltb given (item_number x) is.above) in
    let first : Row → Type 0 = λ row. (row ≡ x.row) ⊎ (is_lesser nat_lt (key x.row) (key row) ≡ true) in
    least_by-is nat_lt key nat_lt-order s.rows x.row (item_number x) (item-row m s x stands (dead-in m x is.here)).0
    keyed
    (each-row m s first stands
    (λ row gone. inr (ap (λ o. is_lesser nat_lt o (key row)) keyed
    ∙ ap (λ o. is_lesser nat_lt (Some (item_number x)) o)
    (gone-is (λ place. dead_number given place ≡ None) (λ reason. refl) row.place gone)))
    (all-items (λ (y : Item). first y.row) m m.dead whole (λ y k at. none-first x y keyed (ap (dead_number given) at))
    (λ y consumer id at. none-first x y keyed (ap (dead_number given) at))
    (both (IsDead m.rest.deads)
    (λ (y : Item). (y ≡ x) ⊎ ((item_number y ≤ given) ⊎ (item_number x < item_number y))) (λ (y : Item). first y.row)
    (λ y dead how. by x y keyed dead how) m.dead whole.dead.each is.others)))
  where
    none-first : (x y : Item) → dead_number given x.row.place ≡ Some (item_number x)
        → dead_number given y.row.place ≡ None
        → (y.row ≡ x.row)
        ⊎ (is_lesser nat_lt (dead_number given x.row.place) (dead_number given y.row.place) ≡ true)
    none-first x y keyed none =
        inr (ap (λ o. is_lesser nat_lt o (dead_number given y.row.place)) keyed
        ∙ ap (λ o. is_lesser nat_lt (Some (item_number x)) o) none)

    by : (x y : Item) → dead_number given x.row.place ≡ Some (item_number x) → IsDead m.rest.deads y
        → (y ≡ x) ⊎ ((item_number y ≤ given) ⊎ (item_number x < item_number y))
        → (y.row ≡ x.row)
        ⊎ (is_lesser nat_lt (dead_number given x.row.place) (dead_number given y.row.place) ≡ true)
    by x y keyed dead (inl same) = inl (ap item_row same)
    by x y keyed dead (inr (inl below)) =
        none-first x y keyed
        (number-at given m.rest.deads y dead
        ∙ ap (λ b. if b then Some (item_number y) else None) (le-ltb given (item_number y) below))
    by x y keyed dead (inr (inr greater)) = elim (cases_Bool (nat_lt given (item_number y))) [
      | inl above ↦
          inr (ap (λ o. is_lesser nat_lt o (dead_number given y.row.place)) keyed
          ∙ ap (λ o. is_lesser nat_lt (Some (item_number x)) o)
          (number-at given m.rest.deads y dead ∙ ap (λ b. if b then Some (item_number y) else None) above)
          ∙ lt-ltb (item_number x) (item_number y) greater)
      | inr below ↦
          none-first x y keyed
          (number-at given m.rest.deads y dead ∙ ap (λ b. if b then Some (item_number y) else None) below)
    ]

-- How many the worker has -----------------------------------------------------------------------------

pub given-is : (m : Parts) (s : State) (given : ℕ) → Stands m s → IsWhole m
    → given_count given s.rows ≡ given_of given m.dead
given-is m s given stands whole =
    let test : Place → ℕ = λ place. cond (is_given given place) 1 0 in
    let over : Item → ℕ = λ x. test x.row.place in
    let own : Item → ℕ = λ x. cond (nat_le (item_number x) given) 1 0 in
    let none : Item → ℕ = λ x. 0 in
    let a : sum_by over (ready_items m) ≡ 0 =
    sum-all over none (ready_items m)
    (each-ready (λ (x : Item). over x ≡ 0) m whole (λ x key is. ap test is)) ∙ sum-none (ready_items m) in
    let b : sum_by over (outs m.served) ≡ 0 =
    sum-all over none (outs m.served)
    (each-out (λ (x : Item). over x ≡ 0) m.served whole.served (λ x consumer id is. ap test is))
    ∙ sum-none (outs m.served) in
    let c : sum_by over m.dead ≡ sum_by own m.dead =
    sum-all over own m.dead
    (AllByRecursion-weaker (IsDead m.rest.deads) (λ (x : Item). over x ≡ own x) (λ x dead. ap test dead.place) m.dead
    whole.dead.each) in
    let last : 0 + (0 + sum_by own m.dead) ≡ sum_by own m.dead = omega arith in
    sum-items m s (λ (row : Row). test row.place) stands
    (λ row gone. gone-is (λ place. test place ≡ 0) (λ reason. refl) row.place gone)
    ∙ sum-parts m over
    ∙ ap (λ n. n + (sum_by over (outs m.served) + sum_by over m.dead)) a
    ∙ ap (λ n. 0 + (n + sum_by over m.dead)) b ∙ ap (λ n. 0 + (0 + n)) c ∙ last

-- One that is taken out -------------------------------------------------------------------------------

abbrev IsOtherNumber : ℕ → Item → Type 0
IsOtherNumber number y = is_dead_number number y.row.place ≡ false

others-all : (number : ℕ) (m : Parts) (xs : List Item) → IsWhole m → AllByRecursion (IsDead m.rest.deads) xs
    → AllByRecursion (λ (y : Item). nat_eq (item_number y) number ≡ false) xs
    → AllByRecursion (IsOtherNumber number) (ready_items m ++ (outs m.served ++ xs))
others-all number m xs whole dead other =
    all-items (IsOtherNumber number) m xs whole (λ x key is. ap (is_dead_number number) is)
    (λ x consumer id is. ap (is_dead_number number) is)
    (both (IsDead m.rest.deads) (λ (y : Item). nat_eq (item_number y) number ≡ false) (IsOtherNumber number)
    (λ y at differs. ap (is_dead_number number) at.place ∙ differs) xs dead other)

dead-perm : (m : Parts) (cut : Cut) → Perm m.dead (cut.item ∷ cut.rest)
    → Perm (items_of m) (cut.item ∷ items_of (record m { dead = cut.rest }))
dead-perm m cut perm =
    let a : List Item = ready_items m in
    let b : List Item = outs m.served in
    let all : a ++ (b ++ (cut.item ∷ cut.rest)) ≡ (a ++ b) ++ (cut.item ∷ cut.rest) =
    sym (append_assoc a b (cut.item ∷ cut.rest)) in
    let rest : (a ++ b) ++ cut.rest ≡ a ++ (b ++ cut.rest) = append_assoc a b cut.rest in
    join (items_of m) (a ++ (b ++ (cut.item ∷ cut.rest))) (cut.item ∷ (a ++ (b ++ cut.rest)))
    (perm-left a (perm-left b perm))
    (subst (λ (xs : List Item). Perm xs (cut.item ∷ (a ++ (b ++ cut.rest)))) (sym all)
    (subst (λ (xs : List Item). Perm ((a ++ b) ++ (cut.item ∷ cut.rest)) (cut.item ∷ xs)) rest
    (perm-middle (a ++ b) cut.item cut.rest)))

dead-cut : (number : ℕ) (m : Parts) (cut : Cut) → IsWhole m → cut_id number m.dead ≡ Some cut
    → IsCut (IsDead m.rest.deads) number m.dead cut
dead-cut number m cut whole found =
    is_cut (IsDead m.rest.deads) number m.dead cut whole.dead.rising whole.dead.each found

found-by : (number : ℕ) (m : Parts) (s : State) (o : Option Cut) → Stands m s → IsWhole m
    → cut_id number m.dead ≡ o → dead_row number s.rows ≡ option_map taken_row (option_map (dead_of m) o)
found-by number m s None stands whole none =
    find-nothing (λ (row : Row). is_dead_number number row.place) s.rows
    (each-row m s (λ (row : Row). is_dead_number number row.place ≡ false) stands
    (λ row gone. gone-is (λ place. is_dead_number number place ≡ false) (λ reason. refl) row.place gone)
    (others-all number m m.dead whole whole.dead.each (none_cut number m.dead none)))
found-by number m s (Some cut) stands whole found =
    let is = dead-cut number m cut whole found in
    let test : Row → Bool = λ row. is_dead_number number row.place in
    let perm = dead-perm m cut is.perm in
    let only : Item → Type 0 = λ y. (y.row ≡ cut.item.row) ⊎ (test y.row ≡ false) in
    let each : AllByRecursion only (items_of m) =
    perm-each only (perm-sym perm) (
      inl refl,
      AllByRecursion-weaker (IsOtherNumber number) only (λ y other. inr other)
          (ready_items m ++ (outs m.served ++ cut.rest)) (others-all number m cut.rest whole is.rest is.others),
    ) in
    let here = item-row m s cut.item stands (perm-in cut.item (perm-sym perm) (inl refl)) in
    let passes : test cut.item.row ≡ true =
    ap (is_dead_number number) is.item.place ∙ eq-eqb (item_number cut.item) number is.number in
    find-only test s.rows cut.item.row here.0 passes
    (each-row m s (λ (row : Row). (row ≡ cut.item.row) ⊎ (test row ≡ false)) stands
    (λ row gone. inr (gone-is (λ place. is_dead_number number place ≡ false) (λ reason. refl) row.place gone)) each)

taken-by : (number : ℕ) (m : Parts) (s : State) (o : Option Cut) (taken : Taken) → Stands m s → IsWhole m
    → cut_id number m.dead ≡ o → option_map (dead_of m) o ≡ Some taken → IsTaken taken m s
taken-by number m s None taken stands whole is found = absurd cc
taken-by number m s (Some cut) taken stands whole at found =
    let same : dead_of m cut ≡ taken = cc in
    let is = dead-cut number m cut whole at in
    subst (λ (t : Taken). IsTaken t m s) same (record {
      stands = record {
        rest = stands.rest;
        perm =
            join (live_items s.rows s.messages) (items_of m) (cut.item ∷ items_of (record m { dead = cut.rest }))
            stands.perm (dead-perm m cut is.perm);
        rising = stands.rising;
        long = stands.long;
      };
      whole = record {
        fronts = whole.fronts;
        backs = whole.backs;
        served = whole.served;
        apart = whole.apart;
        dead = record { rising = is.rising; each = is.rest };
      };
    })

pub tells_dead : (m : Parts) (s : State) → Stands m s → IsWhole m → TellsDead m s
tells_dead m s stands whole = record {
  next = λ given. next-by m s given (first_above given m.dead) stands whole refl;
  count = λ given. given-is m s given stands whole;
  found = λ number. found-by number m s (cut_id number m.dead) stands whole refl;
  taken = λ number taken is. taken-by number m s (cut_id number m.dead) taken stands whole refl is;
}
