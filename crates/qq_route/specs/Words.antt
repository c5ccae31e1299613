-- The words that a reader of a key has still to come to.
use Rattle.std.specs.Prelude.{ℕ, List, [], Option, Some, None}
use Rattle.std.specs.List.{slice_split}
use Rattle.qq_route.specs.declared.words.Words.{Words}
use Rattle.qq_route.specs.Topic.{Word, is_dot}
use denote.Ref.{Bor}

abbrev pub words_of : Option (Bor (List ℕ)) → List Word
words_of None = []
words_of (Some text) = slice_split is_dot text.now

abbrev pub left : Words → List Word
left w = words_of w.rest
