-- The lines of an input as they are read.
use Rattle.std.specs.Prelude.{◌≡◌, ℕ, List, [], ◌∷◌, ◌++◌, ◌==◌, Option, Some, None, length, filter, nat_le, if◌then◌else◌}
use Rattle.qq_ports.specs.declared.fault.TheConstants.{LINE_LIMIT}
use Rattle.qq_ports.specs.Lines.{lines_of, onto_first}

-- a line of the input, or None where it has too many bytes to be read
abbrev pub Input : Type 0
Input = Option (List ℕ)

-- the lines of bytes with their carriage returns, which count as bytes of a line
abbrev pub raw_lines_of : List ℕ → List (List ℕ)
raw_lines_of [] = []
raw_lines_of (b ∷ bs) = if b == 10 then [] ∷ raw_lines_of bs else onto_first b (raw_lines_of bs)

abbrev pub input_of : List ℕ → List ℕ → Input
input_of raw line = if nat_le (length raw) LINE_LIMIT then Some line else None

abbrev pub inputs_by : List (List ℕ) → List (List ℕ) → List Input
inputs_by [] lines = []
inputs_by (raw ∷ raws) [] = []
inputs_by (raw ∷ raws) (line ∷ lines) = input_of raw line ∷ inputs_by raws lines

abbrev pub inputs_of : List ℕ → List Input
inputs_of bytes = inputs_by (raw_lines_of bytes) (lines_of bytes)

-- bytes end with others
abbrev pub EndsWith : List ℕ → List ℕ → Type 0
EndsWith bytes last = (front : List ℕ) × (bytes ≡ front ++ last)

-- how many lines of bytes end within them, at a line feed
abbrev pub feed_count : List ℕ → ℕ
feed_count bytes = length (filter (λ (b : ℕ). b == 10) bytes)
