-- The names of files in a folder.
use Rattle.std.specs.Prelude.{ℕ, zero, suc, ◌+◌, ◌-◌, ◌*◌, ◌/◌, ◌%◌, ◌^◌, ◌&&◌, List, [], ◌∷◌, ◌++◌, take, drop, codes, Option, Some, None, nat_lt, nat_eq, if◌then◌else◌}
use Rattle.std.specs.Cmp.Lexicographic.{pointwise}
use Rattle.std.specs.Char.{is_ascii_digit}
use Rattle.qq_disk.specs.declared.name.FileKind.{FileKind}
use Rattle.qq_disk.specs.declared.name.FileKind.TheVariants.{Log, Segment, Snapshot}
use Rattle.qq_disk.specs.declared.name.FileName.{FileName}

-- a number in so many decimal digits, with zeros in front
unfoldable pub digits : ℕ → ℕ → List ℕ
digits zero number = []
digits (suc width) number = digits width (number / 10) ++ (48 + number % 10) ∷ []

abbrev pub ending : FileKind → List ℕ
ending Log = codes ".log"
ending Segment = codes ".seg"
ending Snapshot = codes ".snap"

-- the name of a file: its number in 20 digits, as many as a number of 64 bits has, and its kind's ending
abbrev pub file_text : FileName → List ℕ
file_text file = digits 20 file.number ++ ending file.kind

-- ---- how a name is read

-- the number with one more digit, where it is a digit and the number keeps to 64 bits
abbrev pub add_digit : ℕ → ℕ → Option ℕ
add_digit number byte =
    let longer = number * 10 + (byte - 48) in
    if is_ascii_digit byte && nat_lt longer (2 ^ 64) then Some longer else None

abbrev pub add_digits : Option ℕ → List ℕ → Option ℕ
add_digits None bytes = None
add_digits (Some number) [] = Some number
add_digits (Some number) (byte ∷ bytes) = add_digits (add_digit number byte) bytes

abbrev pub kind_named : List ℕ → Option FileKind
kind_named bytes =
    if pointwise nat_eq bytes (codes ".log") then Some Log else
    if pointwise nat_eq bytes (codes ".seg") then Some Segment else
    if pointwise nat_eq bytes (codes ".snap") then Some Snapshot else None

abbrev pub name_from : Option FileKind → Option ℕ → Option FileName
name_from (Some kind) (Some number) = Some (record { kind = kind; number = number })
name_from kind number = None

-- the file that has this name
abbrev pub file_named : List ℕ → Option FileName
file_named text = name_from (kind_named (drop 20 text)) (add_digits (Some 0) (take 20 text))
