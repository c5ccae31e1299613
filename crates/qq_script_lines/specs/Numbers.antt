-- The numbers in a line: decimal, without leading zeros.
use Rattle.std.specs.Prelude.{ℕ, ◌+◌, ◌-◌, ◌*◌, ◌^◌, ◌==◌, ◌&&◌, nat_le, Bool, true, false, not, List, [], ◌∷◌, length, fold, Option, Some, None, if◌then◌else◌}
use Rattle.std.specs.List.{list_all, slice_split}
use Rattle.std.specs.Option.{option_map}
use Rattle.qq_base.specs.declared.ids.SessionId.{SessionId}
use Rattle.qq_base.specs.Ids.{client}
use Rattle.qq_entry.specs.declared.limits.TheConstants.{IDS_LIMIT}

abbrev pub is_digit : ℕ → Bool
is_digit b = nat_le 48 b && nat_le b 57

-- more than one digit, and the first is a zero
abbrev pub has_leading_zero : List ℕ → Bool
has_leading_zero [] = false
has_leading_zero (b ∷ []) = false
has_leading_zero (b ∷ c ∷ rest) = b == 48

abbrev pub is_empty : List ℕ → Bool
is_empty [] = true
is_empty (b ∷ bs) = false

abbrev pub is_number : List ℕ → Bool
is_number word = not (is_empty word) && not (has_leading_zero word) && list_all is_digit word

abbrev pub push_digit : ℕ → ℕ → ℕ
push_digit n digit = n * 10 + (digit - 48)

abbrev pub value_of : List ℕ → ℕ
value_of digits = fold push_digit 0 digits

-- the number that a word writes, however long it is
abbrev pub number_of : List ℕ → Option ℕ
number_of word = if is_number word then Some (value_of word) else None

abbrev pub is_within : ℕ → ℕ → ℕ → Bool
is_within first last n = nat_le first n && nat_le n last

abbrev pub within : ℕ → ℕ → Option ℕ → Option ℕ
within first last None = None
within first last (Some n) = if is_within first last n then Some n else None

-- the number that a word writes, from `first` to `last`
abbrev pub number_in : ℕ → ℕ → List ℕ → Option ℕ
number_in first last word = within first last (number_of word)

-- ---- what numbers stand for

abbrev pub session_of : List ℕ → Option SessionId
session_of word = option_map client (number_in 1 (2 ^ 32 - 1) word)

abbrev pub tag_of : List ℕ → Option ℕ
tag_of word = number_in 1 (2 ^ 32 - 1) word

abbrev pub place_of : List ℕ → Option ℕ
place_of word = number_in 0 (2 ^ 32 - 1) word

abbrev pub id_of : List ℕ → Option ℕ
id_of word = number_in 1 (2 ^ 64 - 1) word

abbrev pub with_first : Option ℕ → Option (List ℕ) → Option (List ℕ)
with_first (Some id) (Some ids) = Some (id ∷ ids)
with_first _ _ = None

-- a number for each word, None where one isn't
abbrev pub all_ids : List (List ℕ) → Option (List ℕ)
all_ids [] = Some []
all_ids (word ∷ words) = with_first (id_of word) (all_ids words)

abbrev pub is_comma : ℕ → Bool
is_comma b = b == 44

-- one number or more from 1, joined by commas, and no more than a command may have
abbrev pub ids_of : List ℕ → Option (List ℕ)
ids_of word =
    let parts = slice_split is_comma word in
    if nat_le (length parts) IDS_LIMIT then all_ids parts else None
