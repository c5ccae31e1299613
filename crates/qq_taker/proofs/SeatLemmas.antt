-- Where a seat is put, and which one is taken out.
use Rattle.std.proofs.Common.{◌≡◌, ◌+◌, ◌<◌, ◌≤◌, ℕ, suc, Bool, true, false, cond, List, [], ◌∷◌, ◌++◌, append-nil, drop, length, take, Some, None, refl, sym, ap, ◌∙◌, arith}
use Rattle.std.specs.Prelude.{find, insert, nat_lt, not, remove, slice_get, slice_index_or}
use Rattle.std.specs.List.{position, position_or_len}
use Rattle.std.proofs.Math.ListN.{drop_of_length-le}
use Rattle.std.proofs.lemmas.List.{take_all}
use Rattle.std.proofs.lemmas.Bool.{ltb-false}
use Rattle.std.proofs.lemmas.List.Folds.{find_at}
use Rattle.std.proofs.lemmas.List.Sums.{prefix_len-le-length}
use Rattle.std.proofs.lemmas.Option.{slice_get_past, slice_get_read}
use Rattle.qq_taker.specs.declared.seats.Leaving.{Leaving}
use Rattle.qq_taker.specs.declared.seats.Seat.{Seat}
use Rattle.qq_taker.specs.Seats.{is_above, leaves, sit, without_first}

-- what is put at the place of the first that passes
after-one : (k : ℕ) → 1 + k ≡ suc k
after-one k = omega arith

pub insert-is : (seat : Seat) (seats : List Seat)
    → insert seats (position_or_len (is_above seat.consumer.tag) seats) seat ≡ sit seat seats
insert-is seat [] = refl
insert-is seat (other ∷ more) = by (insert-is seat more) (is_above seat.consumer.tag other)
  where
    by : insert more (position_or_len (is_above seat.consumer.tag) more) seat ≡ sit seat more → (b : Bool)
        → insert (other ∷ more)
        (cond (not b) (1 + position_or_len (is_above seat.consumer.tag) more) 0) seat
        ≡ cond b (seat ∷ other ∷ more) (other ∷ sit seat more)
    by rest true = refl
    by rest false =
        ap (λ (k : ℕ). insert (other ∷ more) k seat)
        (after-one (position_or_len (is_above seat.consumer.tag) more))
        ∙ ap (λ (seats : List Seat). other ∷ seats) rest

pub remove-is : (whom : Leaving) (seats : List Seat)
    → remove seats (position_or_len (leaves whom) seats) ≡ without_first whom seats
remove-is whom [] = refl
remove-is whom (other ∷ more) = by (remove-is whom more) (leaves whom other)
  where
    by : remove more (position_or_len (leaves whom) more) ≡ without_first whom more → (b : Bool)
        → remove (other ∷ more) (cond (not b) (1 + position_or_len (leaves whom) more) 0)
        ≡ cond b more (other ∷ without_first whom more)
    by rest true = refl
    by rest false =
        ap (λ (k : ℕ). remove (other ∷ more) k) (after-one (position_or_len (leaves whom) more))
        ∙ ap (λ (seats : List Seat). other ∷ seats) rest

-- ---- what a search answers

module _ {A : Type 0} (test : A → Bool) (xs : List A) where
  pub at-place : (at : ℕ) → Some at ≡ position test xs → at ≡ position_or_len test xs
  at-place at is = by (nat_lt (position_or_len test xs) (length xs)) is
    where
      by : (b : Bool) → Some at ≡ cond b (Some (position_or_len test xs)) None → at ≡ position_or_len test xs
      by true e = cc
      by false e = absurd cc

  pub past-all : None ≡ position test xs → length xs ≡ position_or_len test xs
  past-all is =
      by (nat_lt (position_or_len test xs) (length xs))
      (λ out. ltb-false (position_or_len test xs) (length xs) out) is
    where
      by : (b : Bool) → (b ≡ false → length xs ≤ position_or_len test xs)
          → None ≡ cond b (Some (position_or_len test xs)) None → length xs ≡ position_or_len test xs
      by true out e = absurd cc
      by false out e =
          let past = out refl in
          let within : position_or_len test xs ≤ length xs = prefix_len-le-length (λ x. not (test x)) xs in
          omega arith

  pub found-there : (at : ℕ) (x : A) → at ≡ position_or_len test xs → at < length xs → x ≡ slice_index_or xs at x
      → Some x ≡ find test xs
  found-there at x is within value =
      sym (find_at test xs ∙ ap (slice_get xs) (sym is) ∙ slice_get_read xs (length xs) at x refl within value)

  pub found-none : (at : ℕ) → at ≡ position_or_len test xs → length xs ≤ at → None ≡ find test xs
  found-none at is past = sym (find_at test xs ∙ ap (slice_get xs) (sym is) ∙ slice_get_past xs at past)

  pub within-all : position_or_len test xs ≤ length xs
  within-all = prefix_len-le-length (λ x. not (test x)) xs

-- none loses its taker
pub remove-past : (whom : Leaving) (seats : List Seat) (at : ℕ) → at ≡ position_or_len (leaves whom) seats
    → length seats ≤ at → seats ≡ without_first whom seats
remove-past whom seats at is past =
    let all : take at seats ≡ seats = take_all at seats past in
    let more : length seats ≤ suc at = omega arith in
    let none' : drop (suc at) seats ≡ [] = drop_of_length-le seats more in
    sym (append-nil seats) ∙ sym (ap (λ (xs : List Seat). xs ++ []) all)
    ∙ sym (ap (λ (xs : List Seat). take at seats ++ xs) none') ∙ ap (remove seats) is ∙ remove-is whom seats
