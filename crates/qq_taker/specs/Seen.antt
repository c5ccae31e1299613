-- What a taker has seen.
use Rattle.std.specs.Prelude.{List, [], ◌∷◌, ◌++◌, Option}
use Rattle.std.specs.Option.{option_map}
use Rattle.qq_entry.specs.declared.answer.Delivery.{Delivery}
use Rattle.qq_taker.specs.declared.taker.Seen.{Seen}
use Rattle.qq_taker.specs.declared.taker.Verdict.{Verdict}

-- a delivery that was offered, with its verdict
abbrev pub seen_of : Delivery → Verdict → Seen
seen_of delivery verdict = record { id = delivery.id; arrival = delivery.arrival; verdict = verdict }

-- more was seen; a taker that doesn't tell what it has seen still doesn't
abbrev pub see_all : List Seen → Option (List Seen) → Option (List Seen)
see_all more seen = option_map (λ (list : List Seen). list ++ more) seen

-- one more was seen
abbrev pub see : Delivery → Verdict → Option (List Seen) → Option (List Seen)
see delivery verdict seen = see_all (seen_of delivery verdict ∷ []) seen
