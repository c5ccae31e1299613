use Rattle.std.proofs.Common.{◌≡◌, map, drop}
use Rattle.std.specs.Prelude.{string_bytes}
use Rattle.std.specs.List.{list_any}
use Rattle.qq_words.specs.Words.{is_barred}
use Rattle.qq_doctor.proofs.words.has_barred.Given as goal

-- the words that are left now have one where all had one at first
abbrev pub invariant-words : goal.invariant-words
invariant-words l =
    list_any is_barred (map string_bytes (drop l.word-index l.words))
    ≡ list_any is_barred (map string_bytes l.words)
