-- The dead-letter worker never has more under way than it may.
use Rattle.std.proofs.Common.{◌≡◌, ℕ, ◌+◌, ◌<◌, ◌≤◌, ◌⊎◌, Bool, true, false, cond, List, [], ◌∷◌, Option, Some, None, map, refl, sym, ap, ◌∙◌, subst, inl, inr, arith, if◌then◌else◌}
use Rattle.std.specs.Prelude.{nat_eq, nat_lt, nat_le}
use Rattle.std.proofs.lemmas.Bool.{false≢true, cases_Bool, cond-true, cond-false, leb-true, leb-false, lt-leb, lt-ltb, ltb-false, eqb-true, eq-eqb, ltb-true}
use Rattle.std.proofs.lemmas.List.Sums.{sum_by-cons, sum_by_push}
use Rattle.qq_base.specs.declared.ids.Index.{Index}
use Rattle.qq_entry.specs.declared.command.Command.{Command}
use Rattle.qq_entry.specs.declared.message.Reason.{Reason}
use Rattle.qq_model.specs.declared.TheConstants.{MOST_GIVEN}
use Rattle.qq_model.specs.declared.place.Key.TheVariants.{Front, Back}
use Rattle.qq_model.specs.declared.place.GoneReason.TheVariants as gone
use Rattle.qq_model.specs.declared.place.Place.{Place}
use Rattle.qq_model.specs.declared.place.Place.TheVariants.{Ready, Out, Dead, Gone}
use Rattle.qq_model.specs.declared.place.Row.{Row}
use Rattle.qq_model.specs.State.{State}
use Rattle.qq_model.specs.Changes.{Progress, put_row}
use Rattle.qq_model.specs.Choice.{is_lesser}
use Rattle.qq_model.specs.Limits.{is_ready}
use Rattle.qq_model.specs.Commands.{purge_row}
use Rattle.qq_model.specs.Serving.{is_given, given_count, dead_number, next_dead}
use Rattle.qq_base.proofs.Lists.{In, AllByRecursion-in, In-map}
use Rattle.qq_model.proofs.Choices.{next_dead-in}
use Rattle.qq_model.proofs.Indices.{Rises, indices}
use Rattle.qq_model.proofs.Least.{least_by-least, nat_lt-order}
use Rattle.qq_model.proofs.Numbers.{Numbered, Numbered-acts, Numbered-appends, Numbered-delivers, Numbered-serves}
use Rattle.qq_model.specs.Sound.{death_number}
use Rattle.qq_model.specs.Step.{carry_out}
use Rattle.qq_model.proofs.InOrder.{Ordered, Ordered-acts, Ordered-brings, Ordered-delivers, Ordered-serves, carry_out-from}
use Rattle.qq_model.proofs.SingleChanges.{Acts, Draws, KeepsDeliveries, KeepsRows, Serves}

given-cons : (given : ℕ) (row : Row) (rows : List Row)
    → given_count given (row ∷ rows) ≡ cond (is_given given row.place) 1 0 + given_count given rows
given-cons given row rows = sum_by-cons (λ (one : Row). cond (is_given given one.place) 1 0) row rows

less-if : (a b : Bool) → (a ≡ true → b ≡ true) → cond a 1 0 ≤ cond b 1 0
less-if true b implies = subst (λ (c : Bool). 1 ≤ cond c 1 0) (sym (implies refl)) (omega arith)
less-if false b implies = omega arith

at_most_one : (b : Bool) → cond b 1 0 ≤ 1
at_most_one true = omega arith
at_most_one false = omega arith

-- those that a greater number gives were given before
given-fewer : (more given : ℕ) (rows : List Row)
    → ((x : Row) → In x rows → is_given more x.place ≡ true → is_given given x.place ≡ true)
    → given_count more rows ≤ given_count given rows
given-fewer more given [] implies = omega arith
given-fewer more given (row ∷ rows) implies =
    let rest = given-fewer more given rows (λ x later. implies x (inr later)) in
    let here = less-if (is_given more row.place) (is_given given row.place) (implies row (inl refl)) in
    omega (arith, given-cons more row rows, given-cons given row rows, rest, here)

-- but for those of one index, of which there is at most one
pub given-one_more : (more given : ℕ) (rows : List Row) (n : ℕ) → Rises (indices rows)
    → ((x : Row) → In x rows → is_given more x.place ≡ true → (is_given given x.place ≡ true) ⊎ (x.index.0 ≡ n))
    → given_count more rows ≤ given_count given rows + 1
given-one_more more given [] n rising implies = omega arith
given-one_more more given (row ∷ rows) n rising implies = elim (cases_Bool (nat_eq row.index.0 n)) [
  | inl is ↦
      let same : row.index.0 ≡ n = eqb-true row.index.0 n is in
      let rest = given-fewer more given rows (λ x later gives. elim (implies x (inr later) gives) [
        | inl before ↦ before
        | inr itself ↦
            let above : row.index.0 < x.index.0 =
            AllByRecursion-in (λ m. row.index.0 < m) x.index.0 (indices rows) rising.0
            (In-map (λ (one : Row). one.index.0) x rows later) in
            absurd (omega (arith, above, same, itself))
      ]) in
      omega (
        arith,
        given-cons more row rows,
        given-cons given row rows,
        rest,
        at_most_one (is_given more row.place),
      )
  | inr other ↦
      let rest = given-one_more more given rows n rising.1 (λ x later. implies x (inr later)) in
      let here = less-if (is_given more row.place) (is_given given row.place) (λ gives.
      elim (implies row (inl refl) gives) [
        | inl before ↦ before
        | inr itself ↦ absurd (false≢true (sym other ∙ eq-eqb row.index.0 n itself))
      ]) in
      omega (arith, given-cons more row rows, given-cons given row rows, rest, here)
]

-- of the dead up to the next one all but that were given
pub offered-one : (s : State) (row : Row) (number : ℕ) (cause : Reason) → Numbered s → Rises (indices s.rows)
    → row.place ≡ Dead number cause → next_dead s.given s.rows ≡ Some row
    → given_count number s.rows ≤ given_count s.given s.rows + 1
offered-one s row number cause it rising is found =
    given-one_more number s.given s.rows row.index.0 rising (λ x here gives. by x here x.place refl gives)
  where
    there : In row s.rows
    there = (next_dead-in s.given s.rows row found).0

    key : (place : Place) → ℕ → Option ℕ
    key place given = dead_number given place

    by : (x : Row) → In x s.rows → (place : Place) → x.place ≡ place → is_given number x.place ≡ true
        → (is_given s.given x.place ≡ true) ⊎ (x.index.0 ≡ row.index.0)
    by x here (Dead m reason) at gives = elim (cases_Bool (nat_le m s.given)) [
      | inl before ↦ inl (ap (is_given s.given) at ∙ before)
      | inr after ↦
          let up : m ≤ number = leb-true m number (sym (ap (is_given number) at) ∙ gives) in
          let above : s.given < m = leb-false m s.given after in
          let mine : dead_number s.given x.place ≡ Some m =
          ap (dead_number s.given) at ∙ cond-true (nat_lt s.given m) (Some m) None (lt-ltb s.given m above) in
          let less : s.given < number = omega (arith, up, above) in
          let its : dead_number s.given row.place ≡ Some number =
          ap (dead_number s.given) is
          ∙ cond-true (nat_lt s.given number) (Some number) None (lt-ltb s.given number less) in
          let least : is_lesser nat_lt (dead_number s.given x.place) (dead_number s.given row.place) ≡ false =
          AllByRecursion-in
          (λ (one : Row). is_lesser nat_lt (dead_number s.given one.place) (dead_number s.given row.place) ≡ false) x
          s.rows (least_by-least nat_lt (λ (one : Row). dead_number s.given one.place) nat_lt-order s.rows row found)
          here in
          let not_less : nat_lt m number ≡ false =
          ap (λ o. is_lesser nat_lt o (Some number)) (sym mine)
          ∙ ap (is_lesser nat_lt (dead_number s.given x.place)) (sym its) ∙ least in
          let down : number ≤ m = ltb-false m number not_less in
          let same : m ≡ number = omega (arith, up, down) in
          inr (it.deads.once x row number here there
          (ap death_number at ∙ ap (λ (n : ℕ). Some n) same) (ap death_number is))
    ]
    by x here (Ready k) at gives = absurd (false≢true (sym (ap (is_given number) at) ∙ gives))
    by x here (Out consumer id) at gives = absurd (false≢true (sym (ap (is_given number) at) ∙ gives))
    by x here (Gone reason) at gives = absurd (false≢true (sym (ap (is_given number) at) ∙ gives))

-- As a queue changes -----------------------------------------------------------------------------------

given-map : (given : ℕ) (f : Row → Row) (rows : List Row)
    → ((row : Row) → is_given given (f row).place ≡ true → is_given given row.place ≡ true)
    → given_count given (map f rows) ≤ given_count given rows
given-map given f [] implies = omega arith
given-map given f (row ∷ rows) implies =
    let rest = given-map given f rows implies in
    let here = less-if (is_given given (f row).place) (is_given given row.place) (implies row) in
    omega (arith, given-cons given (f row) (map f rows), given-cons given row rows, rest, here)

given-put : (given : ℕ) (new : Row) (rows : List Row) → is_given given new.place ≡ false
    → given_count given (put_row new rows) ≤ given_count given rows
given-put given new rows none =
    given-map given (λ (row : Row). if nat_eq row.index.0 new.index.0 then new else row) rows
    (λ row gives. elim (cases_Bool (nat_eq row.index.0 new.index.0)) [
      | inl same ↦
          absurd (false≢true (sym none ∙ ap (λ (r : Row). is_given given r.place)
          (sym (cond-true (nat_eq row.index.0 new.index.0) new row same)) ∙ gives))
      | inr other ↦
          ap (λ (r : Row). is_given given r.place) (sym (cond-false (nat_eq row.index.0 new.index.0) new row other))
          ∙ gives
    ])

given-purged : (given : ℕ) (rows : List Row) → given_count given (map purge_row rows) ≤ given_count given rows
given-purged given rows =
    given-map given purge_row rows (λ row gives. elim (cases_Bool (is_ready row.place)) [
      | inl ready ↦
          absurd (false≢true (ap (λ (r : Row). is_given given r.place)
          (sym (cond-true (is_ready row.place) (record row { place = Gone gone.Purged }) row ready)) ∙ gives))
      | inr other ↦
          ap (λ (r : Row). is_given given r.place)
          (sym (cond-false (is_ready row.place) (record row { place = Gone gone.Purged }) row other)) ∙ gives
    ])

-- a number that is drawn now wasn't given
drawn-ungiven : (s t : State) (place : Place) → s.given ≤ s.deads → Draws s t place → is_given s.given place ≡ false
drawn-ungiven s t (Ready (Front n)) below draws = refl
drawn-ungiven s t (Ready (Back n)) below draws = refl
drawn-ungiven s t (Out consumer id) below draws = refl
drawn-ungiven s t (Dead n cause) below draws = lt-leb n s.given (omega (arith, draws.0))
drawn-ungiven s t (Gone cause) below draws = refl

pub record Windowed (last : ℕ) (p : Progress) : Type 0 where
  pub ordered : Ordered last p.state
  pub numbered : Numbered p.state
  pub window : given_count p.state.given p.state.rows ≤ MOST_GIVEN

Windowed-rows : (last : ℕ) (command : Command) → KeepsRows command (Windowed last)
Windowed-rows last command = record {
  row = λ p q old new it here moves out why turns.
      let less = given-put p.state.given new p.state.rows
      (drawn-ungiven p.state q.state new.place it.numbered.given turns.draws) in
      let same : given_count q.state.given q.state.rows ≡ given_count p.state.given (put_row new p.state.rows) =
      ap (λ g. given_count g q.state.rows) turns.given ∙ ap (given_count p.state.given) turns.rows in
      record {
        ordered = (Ordered-serves last command).rows.row p q old new it.ordered here moves out why turns;
        numbered = (Numbered-serves command).rows.row p q old new it.numbered here moves out why turns;
        window = omega (arith, less, same, it.window);
      };
}

-- numbers of the dead begin at 1
none-given : (s : State) → Numbered s → given_count 0 s.rows ≤ 0
none-given s it = by s.rows (λ x here. here)
  where
    none : (x : Row) → In x s.rows → (place : Place) → x.place ≡ place → is_given 0 place ≡ true → ⊥
    none x here (Dead n cause) at gives =
        let some = it.deads.drawn x n here (ap death_number at) in
        let zero' : n ≤ 0 = leb-true n 0 gives in
        omega (arith, some.0, zero')
    none x here _ at gives = false≢true gives

    by : (rows : List Row) → ((x : Row) → In x rows → In x s.rows) → given_count 0 rows ≤ 0
    by [] within = omega arith
    by (row ∷ rows) within =
        let rest = by rows (λ x later. within x (inr later)) in
        let here = less-if (is_given 0 row.place) false
        (λ gives. absurd (none row (within row (inl refl)) row.place refl gives)) in
        omega (arith, given-cons 0 row rows, rest, here)

Windowed-acts : (last : ℕ) (command : Command) → Acts command (Windowed last)
Windowed-acts last command =
    let ordered = Ordered-acts last command in
    let numbered = Numbered-acts command in
    record {
      rows = Windowed-rows last command;
      purge = λ p it purges. let less = given-purged p.state.given p.state.rows in record {
        ordered = ordered.purge p it.ordered purges;
        numbered = numbered.purge p it.numbered purges;
        window = omega (arith, less, it.window);
      };
      attach = λ p term it least greater. let none = none-given p.state it.numbered in record {
        ordered = ordered.attach p term it.ordered least greater;
        numbered = numbered.attach p term it.numbered least greater;
        window = omega (arith, none);
      };
      join = λ p id mode it above own. record {
        ordered = ordered.join p id mode it.ordered above own;
        numbered = numbered.join p id mode it.numbered above own;
        window = it.window;
      };
      cancel = λ p id consumer it found. record {
        ordered = ordered.cancel p id consumer it.ordered found;
        numbered = numbered.cancel p id consumer it.numbered found;
        window = it.window;
      };
      finish = λ p it. record {
        ordered = ordered.finish p it.ordered;
        numbered = numbered.finish p it.numbered;
        window = it.window;
      };
      credit = λ p id consumer credit it found. record {
        ordered = ordered.credit p id consumer credit it.ordered found;
        numbered = numbered.credit p id consumer credit it.numbered found;
        window = it.window;
      };
      turn = λ p id consumer it found. record {
        ordered = ordered.turn p id consumer it.ordered found;
        numbered = numbered.turn p id consumer it.numbered found;
        window = it.window;
      };
      leave = λ p session it is same none. record {
        ordered = ordered.leave p session it.ordered is same none;
        numbered = numbered.leave p session it.numbered is same none;
        window = it.window;
      };
    }

Windowed-delivers : (last : ℕ) → KeepsDeliveries (Windowed last)
Windowed-delivers last p row consumer it found next =
    let less = given-put p.state.given (record row { place = Out consumer.id consumer.next_id }) p.state.rows refl in
    record {
      ordered = Ordered-delivers last p row consumer it.ordered found next;
      numbered = Numbered-delivers p row consumer it.numbered found next;
      window = omega (arith, less, it.window);
    }

Windowed-serves : (last : ℕ) (command : Command) → Serves command (Windowed last)
Windowed-serves last command = record {
  rows = Windowed-rows last command;
  offer = λ p number cause row it here is next may few.
      let one = offered-one p.state row number cause it.numbered it.ordered.rising is next in
      let less : given_count p.state.given p.state.rows < MOST_GIVEN =
      ltb-true (given_count p.state.given p.state.rows) MOST_GIVEN few in
      record {
        ordered = (Ordered-serves last command).offer p number cause row it.ordered here is next may few;
        numbered = (Numbered-serves command).offer p number cause row it.numbered here is next may few;
        window = one_less (given_count p.state.given p.state.rows) _ MOST_GIVEN less one;
      };
  drain = λ p id consumer it found. record {
    ordered = (Ordered-serves last command).drain p id consumer it.ordered found;
    numbered = (Numbered-serves command).drain p id consumer it.numbered found;
    window = it.window;
  };
}
  where
    one_less : (a b m : ℕ) → a < m → b ≤ a + 1 → b ≤ m
    one_less a b m less one = omega arith

pub carry_out-window : (s : State) (index : Index) (command : Command) (last : ℕ) → last < index.0
    → Windowed last (record { state = s; effects = [] }) → Windowed index.0 (carry_out index command s).progress
carry_out-window s index command last less it =
    carry_out-from {I = Windowed last} {J = Windowed index.0} index command s (record {
      stays = λ p it. record {
        ordered = (Ordered-brings last index less).stays p it.ordered;
        numbered = it.numbered;
        window = it.window;
      };
      arrives = λ p message it found.
          let row : Row = record {
            index = index;
            arrival = p.state.arrivals + 1;
            count = 0;
            size = message.size;
            place = Ready (Back (p.state.orders + 1));
          } in
          let same = sum_by_push (λ (one : Row). cond (is_given p.state.given one.place) 1 0) p.state.rows row in
          record {
            ordered = (Ordered-brings last index less).arrives p message it.ordered found;
            numbered = Numbered-appends index p message it.numbered;
            window = omega (arith, same, it.window);
          };
    }) (Windowed-acts index.0 command) (Windowed-delivers index.0) (Windowed-serves index.0 command) it
