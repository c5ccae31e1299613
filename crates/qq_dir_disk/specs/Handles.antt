-- The files that are open, the one that was used last at the end.
use Rattle.std.specs.Prelude.{◌≡◌, ◌⊎◌, ◌++◌, ◌∷◌, Bool, true, List, [], length, drop, Option, None, nat_lt, slice_get, if◌then◌else◌}
use Rattle.std.specs.List.{find, position_or_len, remove}
use Rattle.qq_disk.specs.declared.name.FileName.{FileName}
use Rattle.qq_disk.specs.Name.{same_name}
use Rattle.qq_dir_disk.specs.declared.handles.Handle.{Handle}

-- the handle of a file, where it is open
abbrev pub handle_of : {F : Type 0} → FileName → List (Handle F) → Option (Handle F)
handle_of name handles = find (λ handle. same_name handle.name name) handles

-- the handles without that of a file
abbrev pub without : {F : Type 0} → FileName → List (Handle F) → List (Handle F)
without name handles = remove handles (position_or_len (λ handle. same_name handle.name name) handles)

-- the handle that was used longest ago, where 16 are open
abbrev pub oldest : {F : Type 0} → List (Handle F) → Option (Handle F)
oldest handles = if nat_lt (length handles) 16 then None else slice_get handles 0

-- the handles without that one
abbrev pub without_oldest : {F : Type 0} → List (Handle F) → List (Handle F)
without_oldest handles = if nat_lt (length handles) 16 then handles else drop 1 handles

-- a handle stays open, as the last one used, or there was no memory for it; there is room for it in any case
abbrev pub KeepsOpen : {F : Type 0} → Handle F → List (Handle F) → List (Handle F) → Type 0
KeepsOpen handle old new = (new ≡ without_oldest old ++ handle ∷ []) ⊎ (new ≡ without_oldest old)

-- Where a file was open, it was synced, and its handle stays open or there was no memory for it. One that isn't open is
-- opened for that, where it is there.
abbrev pub HasSynced : {F : Type 0} → (F → Bool) → FileName → List (Handle F) → List (Handle F) → Type 0
HasSynced {F} is_synced name old new =
    (handle_of name old ≡ None)
    ⊎ ((handle : Handle F) × (handle.name ≡ name) × (is_synced handle.file ≡ true)
    × KeepsOpen handle (without name old) new)
