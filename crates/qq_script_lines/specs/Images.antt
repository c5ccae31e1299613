-- What a crash leaves, in words.
use Rattle.std.specs.Prelude.{ℕ, ◌-◌, ◌^◌, List, [], ◌∷◌, false, codes, Result, Ok, Err, if◌then◌else◌}
use Rattle.std.specs.Str.{bytes_eq}
use Rattle.hex.specs.declared.error.FromHexError.{FromHexError}
use Rattle.hex.specs.Hex.{decode_of}
use Rattle.qq_disk.specs.declared.image.Tail.{Tail}
use Rattle.qq_disk.specs.declared.image.Tail.TheVariants.{Cut, Junk, Whole}
use Rattle.qq_disk.specs.declared.image.Image.{Image}
use Rattle.qq_script_lines.specs.declared.fault.ScriptFault.{ScriptFault}
use Rattle.qq_script_lines.specs.declared.fault.ScriptFault.TheVariants.{Words, Number}
use Rattle.qq_script_lines.specs.Words.{◌>>=◌, or_fault}
use Rattle.qq_script_lines.specs.Numbers.{number_in}

-- this of the newest log file's pending bytes, this of every other file's, and no removed file
abbrev pub left : Tail → Tail → Image
left newest others = record { newest_log = newest; others = others; removed_back = false }

-- this of the newest log file's pending bytes, and none of another file's
abbrev pub newest_left : Tail → Image
newest_left newest = left newest (Cut 0)

abbrev pub junk_of : Result (List ℕ) FromHexError → Result Image ScriptFault
junk_of (Ok bytes) = Ok (newest_left (Junk bytes))
junk_of (Err fault) = Err Words

abbrev pub cut_of : List ℕ → Result Image ScriptFault
cut_of word = or_fault Number (number_in 0 (2 ^ 64 - 1) word) >>= λ count. Ok (newest_left (Cut count))

-- an image of one word
abbrev pub plain_image : List ℕ → Result Image ScriptFault
plain_image word =
    if bytes_eq word (codes "none") then Ok (newest_left (Cut 0))
    else if bytes_eq word (codes "whole") then Ok (left Whole Whole)
    else Err Words

-- an image of a word and a number or bytes in hexadecimal digits
abbrev pub measured_image : List ℕ → List ℕ → Result Image ScriptFault
measured_image word value =
    if bytes_eq word (codes "cut") then cut_of value
    else if bytes_eq word (codes "junk") then junk_of (decode_of value)
    else Err Words

unfoldable pub image_of : List (List ℕ) → Result Image ScriptFault
image_of (word ∷ []) = plain_image word
image_of (word ∷ value ∷ []) = measured_image word value
image_of _ = Err Words
