-- When a binding key of a topic exchange takes a routing key (RabbitMQ, tutorial "Topics").
use Rattle.std.specs.Prelude.{ℕ, Bool, true, false, ◌||◌, ◌&&◌, List, [], ◌∷◌, nat_eq, codes, if◌then◌else◌}
use Rattle.std.specs.List.{slice_split}
use Rattle.std.specs.Str.{bytes_eq}

abbrev pub Word : Type 0
Word = List ℕ

abbrev pub is_dot : ℕ → Bool
is_dot b = nat_eq b 46

-- the words of a key, which dots part; the empty key has none
abbrev pub words : List ℕ → List Word
words [] = []
words (b ∷ bs) = slice_split is_dot (b ∷ bs)

-- The star takes exactly one word, the hash takes none or more, and any other word takes itself.
pub data Matches : List Word → List Word → Type 0 where
  at_end : Matches [] []
  same : {w : Word} {ps ws : List Word} → Matches ps ws → Matches (w ∷ ps) (w ∷ ws)
  star : {w : Word} {ps ws : List Word} → Matches ps ws → Matches (codes "*" ∷ ps) (w ∷ ws)
  hash_none : {ps ws : List Word} → Matches ps ws → Matches (codes "#" ∷ ps) ws
  hash_more : {w : Word} {ps ws : List Word} → Matches (codes "#" ∷ ps) ws → Matches (codes "#" ∷ ps) (w ∷ ws)

abbrev pub is_hash : Word → Bool
is_hash p = bytes_eq p (codes "#")

abbrev pub takes_word : Word → Word → Bool
takes_word p w = bytes_eq p (codes "*") || bytes_eq p w

-- a test of the words from some place on
abbrev pub from_any : (List Word → Bool) → List Word → Bool
from_any test [] = test []
from_any test (w ∷ ws) = test (w ∷ ws) || from_any test ws

abbrev pub after_one : Word → (List Word → Bool) → List Word → Bool
after_one p test [] = false
after_one p test (w ∷ ws) = takes_word p w && test ws

-- the same relation as a test
abbrev pub do_match : List Word → List Word → Bool
do_match [] [] = true
do_match [] (w ∷ ws) = false
do_match (p ∷ ps) ws = if is_hash p then from_any (do_match ps) ws else after_one p (do_match ps) ws
