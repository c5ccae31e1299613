-- The words of a line.
use Rattle.std.specs.Prelude.{ℕ, ◌==◌, Bool, List, [], codes, Option, Some, None, Result, Ok, Err, if◌then◌else◌}
use Rattle.std.specs.List.{slice_split, after_first}
use Rattle.std.specs.Str.{bytes_eq}
use Rattle.qq_script_lines.specs.declared.fault.ScriptFault.{ScriptFault}

abbrev pub is_blank : ℕ → Bool
is_blank b = b == 32

-- words are separated by one blank
abbrev pub words_of : List ℕ → List (List ℕ)
words_of text = slice_split is_blank text

-- the words of what stands behind a blank, none where there is no blank
abbrev pub words_behind : Option (List ℕ) → List (List ℕ)
words_behind None = []
words_behind (Some rest) = words_of rest

-- what stands behind the first blank
abbrev pub behind_blank : List ℕ → List ℕ
behind_blank text = after_first is_blank text

-- what stands behind four words
abbrev pub behind_four : List ℕ → List ℕ
behind_four text = behind_blank (behind_blank (behind_blank (behind_blank text)))

-- a text, or `-` for the empty one
abbrev pub text_of : List ℕ → List ℕ
text_of word = if bytes_eq word (codes "-") then [] else word

-- ---- one step after another, up to the first fault

infixl 10 ◌>>=◌
abbrev pub ◌>>=◌ : {A B : Type 0} → Result A ScriptFault → (A → Result B ScriptFault) → Result B ScriptFault
(Ok x) >>= f = f x
(Err fault) >>= f = Err fault

-- what is there, or this fault
abbrev pub or_fault : {A : Type 0} → ScriptFault → Option A → Result A ScriptFault
or_fault fault None = Err fault
or_fault fault (Some x) = Ok x

-- what is made of what was read
abbrev pub make : {A B : Type 0} → (A → B) → Result A ScriptFault → Result B ScriptFault
make f (Ok x) = Ok (f x)
make f (Err fault) = Err fault
