-- Files that are read whole.
use Rattle.std.specs.Prelude.{◌≡◌, ◌||◌, ℕ, Bool, true, false, List, [], ◌∷◌, Option, Some, None, Result, Ok, Err, nat_eq, is_some, not, if◌then◌else◌}
use Rattle.std.specs.List.{list_any}
use Rattle.std.specs.Cmp.Lexicographic.{pointwise}
use Rattle.qq_base.specs.Causes.{raise, Rose}
use Rattle.qq_base.specs.declared.memory.Memory.TheVariants.{Want}
use Rattle.qq_ports.specs.declared.shelf.ShelfFault.{ShelfFault}
use Rattle.qq_ports.specs.declared.shelf.ShelfFault.TheVariants.{Failed, Memory as OfMemory}
use Rattle.qq_ports.specs.declared.mem_shelf.MemShelf.{MemShelf}

-- it failed only where the count of faults rose, and else there was no memory
abbrev pub IsShelfCaused : ℕ → ℕ → ShelfFault → Type 0
IsShelfCaused before now Failed = Rose before now
IsShelfCaused before now (OfMemory m) = m ≡ Want

-- these are the bytes of the file of this name, where the files are told
abbrev pub Gives : Option (List ℕ → Option (List ℕ)) → List ℕ → List ℕ → Type 0
Gives None name bytes = Unit {0}
Gives (Some files) name bytes = files name ≡ Some bytes

-- the first file of this name, of rows with a name and bytes
abbrev pub file_of : {N B : Type 0} → (N → List ℕ) → (B → List ℕ) → List (N × B) → List ℕ → Option (List ℕ)
file_of name_of bytes_of [] name = None
file_of name_of bytes_of (file ∷ files) name =
    if pointwise nat_eq (name_of file.0) name then Some (bytes_of file.1) else file_of name_of bytes_of files name

abbrev pub mem_file : MemShelf → List ℕ → Option (List ℕ)
mem_file shelf = file_of (λ name. name.bytes.items) (λ bytes. bytes.items) shelf.files.items

abbrev pub files_of : MemShelf → Option (List ℕ → Option (List ℕ))
files_of shelf = Some (mem_file shelf)

-- the next call fails: its number is listed, or there is no such file
abbrev pub will_fail : MemShelf → List ℕ → Bool
will_fail shelf name =
    list_any (λ n. nat_eq n (raise shelf.calls)) shelf.fails.items || not (is_some (mem_file shelf name))

abbrev pub has_failed : {T : Type 0} → Result T ShelfFault → Bool
has_failed (Ok value) = false
has_failed (Err Failed) = true
has_failed (Err (OfMemory memory)) = false

-- a call was counted, and failed exactly where it was to fail
pub record CountsFetch {T : Type 0} (old new : MemShelf) (name : List ℕ) (result : Result T ShelfFault) : Type 0 where
  pub calls : new.calls ≡ raise old.calls
  pub faults : new.faults ≡ (if will_fail old name then raise old.faults else old.faults)
  pub fails : new.fails ≡ old.fails
  pub files : new.files ≡ old.files
  pub failed : has_failed result ≡ will_fail old name

-- how often a call has failed
abbrev pub fault_count : {T : Type 0} → Result T ShelfFault → ℕ
fault_count result = if has_failed result then 1 else 0
