-- Words that write numbers.
use Rattle.std.proofs.Common.{◌↔◌, ◌≡◌, ◌∙◌, ℕ, zero, suc, ◌<◌, ◌≤◌, ◌^◌, ◌&&◌, Bool, true, false, not, List, [], ◌∷◌, length, fold, Some, None, Ok, Err, refl, sym, ap, arith, rules, nat_le, nat_eq, slice_index, if◌then◌else◌, ◌⊎◌, inl, inr}
use Rattle.std.specs.List.{list_all}
use Rattle.std.specs.Fmt.{decimal}
use Rattle.std.specs.Str.Parse.{ParsesUnsigned}
use Rattle.std.proofs.lemmas.Bool.{le-leb, lt-leb, cases_lt, ne_eqb}
use Rattle.std.proofs.lemmas.Fmt.{decimal_digit, digits_decimal, digits_value-decimal, decimal_nonempty, first_decimal, decimal-digits_value}
use Rattle.std.proofs.lemmas.Str.Parse.{IsNumeralModel, numerals_by_fold, parse_digits}
use Rattle.qq_script_lines.specs.Numbers.{is_digit, push_digit, value_of, is_empty, has_leading_zero, is_number, number_of, within, number_in}

-- digits and their value are those of `parse`
pub own : IsNumeralModel (λ ds. list_all is_digit ds ≡ true) (λ ds. fold push_digit 0 ds)
own = numerals_by_fold _ (search rules) (λ n ds. fold push_digit n ds) (search rules)

last_of : (a b x : Bool) → (a && b && x) ≡ true → x ≡ true
last_of true true x e = e
last_of true false x e = absurd cc
last_of false b x e = absurd cc

digits_of : (word : List ℕ) → is_number word ≡ true → list_all is_digit word ≡ true
digits_of word is = last_of (not (is_empty word)) (not (has_leading_zero word)) (list_all is_digit word) is

nonempty : (word : List ℕ) → is_number word ≡ true → 0 < length word
nonempty [] is = absurd cc
nonempty (b ∷ rest) is = search rules

-- The type of an error plays no part here.
pub number_is : (word : List ℕ) (number : ℕ) → ParsesUnsigned {E = ℕ} 64 10 word (Ok number)
    → is_number word ≡ true → number_of word ≡ Some number
number_is word number parses is =
    let parsed : number ≡ value_of word = (parse_digits own {E = ℕ} 64 word (Ok number) parses (digits_of word is)).1 in
    rw is (ap Some (sym parsed))

above : (first last n : ℕ) → last < n → within first last (Some n) ≡ None
above first last n lt = by (nat_le first n) (nat_le n last) (lt-leb n last lt)
  where
    by : (a b : Bool) → b ≡ false → (if a && b then Some n else None) ≡ None
    by true b e = rw e refl
    by false b e = refl

below : (first last n : ℕ) → n < first → within first last (Some n) ≡ None
below first last n lt = rw (lt-leb first n lt) refl

among : (first last n : ℕ) → first ≤ n → n ≤ last → within first last (Some n) ≡ Some n
among first last n low high = rw (le-leb first n low, le-leb n last high) refl

-- a number of more than 64 bits is above each that is asked for
pub too_large : (first last : ℕ) (word : List ℕ) → ParsesUnsigned {E = ℕ} 64 10 word (Err 0)
    → is_number word ≡ true → last < 2 ^ 64 → None ≡ number_in first last word
too_large first last word parses is small =
    sym (rw is (above first last (value_of word) (by (cases_lt (value_of word) (2 ^ 64)))))
  where
    by : (value_of word < 2 ^ 64) ⊎ (2 ^ 64 ≤ value_of word) → last < value_of word
    by (inl low) =
        absurd (parse_digits own {E = ℕ} 64 word (Err 0) parses (digits_of word is) (nonempty word is, low))
    by (inr high) = omega (arith, high, small)

pub is_below : (first last n : ℕ) (word : List ℕ) → number_of word ≡ Some n → n < first
    → None ≡ number_in first last word
is_below first last n word is lt = sym (ap (within first last) is ∙ below first last n lt)

pub is_above : (first last n : ℕ) (word : List ℕ) → number_of word ≡ Some n → last < n
    → None ≡ number_in first last word
is_above first last n word is lt = sym (ap (within first last) is ∙ above first last n lt)

pub is_among : (first last n : ℕ) (word : List ℕ) → number_of word ≡ Some n → first ≤ n → n ≤ last
    → Some n ≡ number_in first last word
is_among first last n word is low high = sym (ap (within first last) is ∙ among first last n low high)

-- ---- decimal texts

no_leading : (word : List ℕ) → 48 < slice_index word 0 → has_leading_zero word ≡ false
no_leading [] above = refl
no_leading (b ∷ []) above = refl
no_leading (b ∷ c ∷ rest) above = lt-neq b above
  where
    lt-neq : (b : ℕ) → 48 < b → nat_eq b 48 ≡ false
    lt-neq b above = ne_eqb b 48 (λ same. omega (arith, same, above))

leading : (n : ℕ) → n < 2 ^ 64 → has_leading_zero (decimal n) ≡ false
leading zero small = ap has_leading_zero (decimal_digit 0 (omega arith))
leading (suc n) small = no_leading (decimal (suc n)) (first_decimal (suc n) (omega arith) small)

one_digit : (word : List ℕ) → is_number word ≡ true → slice_index word 0 ≡ 48 → length word ≡ 1
one_digit [] is zero_first = absurd cc
one_digit (b ∷ []) is zero_first = refl
one_digit (b ∷ c ∷ rest) is zero_first = let eq : b ≡ 48 = zero_first in absurd (let e : false ≡ true = rw eq at is in cc)

decimal_of : (word : List ℕ) (n : ℕ) → n < 2 ^ 64 → number_of word ≡ Some n → word ≡ decimal n
decimal_of word n small = by (is_number word) refl
  where
    by : (t : Bool) → is_number word ≡ t → (if t then Some (value_of word) else None) ≡ Some n → word ≡ decimal n
    by true is e =
        let value : value_of word ≡ n = cc in
        sym (decimal-digits_value own word (digits_of word is) (nonempty word is) (one_digit word is)
        (rw value small)) ∙ ap decimal value
    by false is e = absurd cc

number_of_decimal : (n : ℕ) → n < 2 ^ 64 → number_of (decimal n) ≡ Some n
number_of_decimal n small =
    let is : is_number (decimal n) ≡ true = number_test (decimal n) (decimal_nonempty n small) (leading n small)
    (digits_decimal own n small) in
    rw is (ap Some (digits_value-decimal own n small))
  where
    number_test : (word : List ℕ) → 0 < length word → has_leading_zero word ≡ false → list_all is_digit word ≡ true
        → is_number word ≡ true
    number_test [] some plain digits = absurd (omega (arith, some))
    number_test (b ∷ rest) some plain digits = rw (plain, digits) refl

pub decimal_text : (word : List ℕ) (n : ℕ) → n < 2 ^ 64 → (number_of word ≡ Some n) ↔ (word ≡ decimal n)
decimal_text word n small = (decimal_of word n small, λ is. rw is (number_of_decimal n small))
