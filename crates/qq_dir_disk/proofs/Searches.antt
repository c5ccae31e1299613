-- The handle that a search by a file's name finds.
use Rattle.std.proofs.Common.{◌≡◌, ◌<◌, ℕ, Bool, true, false, cond, List, length, Some, None, refl, ap, ◌∙◌}
use Rattle.std.specs.Prelude.{nat_lt, slice_get, slice_index_or}
use Rattle.std.specs.List.{find, position, position_or_len}
use Rattle.std.proofs.lemmas.Bool.{ltb-false}
use Rattle.std.proofs.lemmas.List.Folds.{find_at}
use Rattle.std.proofs.lemmas.List.Quantifiers.{position-Some}
use Rattle.std.proofs.lemmas.Option.{slice_get_past, slice_get_read}
use Rattle.qq_disk.specs.declared.name.FileName.{FileName}
use Rattle.qq_disk.specs.Name.{same_name}
use Rattle.qq_disk.proofs.Names.{same_name-true}
use Rattle.qq_dir_disk.specs.declared.handles.Handle.{Handle}
use Rattle.qq_dir_disk.specs.Handles.{handle_of}

module _ {A : Type 0} (test : A → Bool) where
  some_place : (b : Bool) (n place : ℕ) → cond b (Some n) None ≡ Some place → n ≡ place
  some_place true n place e = cc
  some_place false n place e = absurd cc

  no_place : (b : Bool) (n : ℕ) → cond b (Some n) None ≡ None → b ≡ false
  no_place true n e = absurd cc
  no_place false n e = refl

  found : (xs : List A) (place : ℕ) (x : A) → position test xs ≡ Some place → place < length xs
      → x ≡ slice_index_or xs place x → find test xs ≡ Some x
  found xs place x at within is =
      find_at test xs
      ∙ (ap (slice_get xs) (some_place (nat_lt (position_or_len test xs) (length xs)) (position_or_len test xs) place at)
      ∙ slice_get_read xs (length xs) place x refl within is)

  not_found : (xs : List A) → position test xs ≡ None → find test xs ≡ None
  not_found xs at =
      let out = no_place (nat_lt (position_or_len test xs) (length xs)) (position_or_len test xs) at in
      find_at test xs ∙ slice_get_past xs (position_or_len test xs) (ltb-false (position_or_len test xs) (length xs) out)

-- a file's handle, as a search for its name ends
module _ {F : Type 0} (name : FileName) (handles : List (Handle F)) where
  pub absent : position (λ h. same_name h.name name) handles ≡ None → handle_of name handles ≡ None
  absent at = not_found (λ h. same_name h.name name) handles at

  pub present : (place : ℕ) (handle : Handle F) → position (λ h. same_name h.name name) handles ≡ Some place
      → place < length handles → handle ≡ slice_index_or handles place handle → handle_of name handles ≡ Some handle
  present place handle at within is = found (λ h. same_name h.name name) handles place handle at within is

  pub named : (place : ℕ) (handle : Handle F) → position (λ h. same_name h.name name) handles ≡ Some place
      → handle ≡ slice_index_or handles place handle → handle.name ≡ name
  named place handle at is =
      let passes = (position-Some (λ h. same_name h.name name) handles place handle at).1 in
      same_name-true handle.name name (ap (λ h. same_name h.name name) is ∙ passes)
