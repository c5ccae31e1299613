-- The least index that a queue still needs: a log may be cut below it (Ra internals, release cursors).
use Rattle.std.specs.Prelude.{ℕ, ◌+◌, List, [], ◌∷◌, ◌++◌, Bool, map, filter}
use Rattle.std.specs.Option.{option_map_or}
use Rattle.qq_base.specs.declared.ids.Index.{Index}
use Rattle.qq_entry.specs.declared.answer.Answer.{Answer}
use Rattle.qq_entry.specs.declared.answer.Answer.TheVariants.{Got}
use Rattle.qq_model.specs.declared.place.Row.{Row}
use Rattle.qq_model.specs.declared.session.OpenSession.{OpenSession}
use Rattle.qq_model.specs.Limits.{is_live}
use Rattle.qq_model.specs.State.{State}
use Rattle.qq_parts.specs.Reduced.{Item}
use Rattle.qq_parts.specs.Parts.{Parts, items_of}
use Rattle.qq_live.specs.Indices.{least}

abbrev pub row_index : Row → Index
row_index row = row.index

abbrev pub is_live_row : Row → Bool
is_live_row row = is_live row.place

-- the indices of the messages that aren't gone
abbrev pub live_indices : List Row → List Index
live_indices rows = map row_index (filter is_live_row rows)

-- the index of the message that was got
abbrev pub got_indices : Answer → List Index
got_indices (Got delivery) = delivery.index ∷ []
got_indices _ = []

abbrev pub answers_indices : List Answer → List Index
answers_indices [] = []
answers_indices (answer ∷ rest) = got_indices answer ++ answers_indices rest

-- the indices of the messages that kept answers name
abbrev pub kept_indices : List OpenSession → List Index
kept_indices [] = []
kept_indices (one ∷ rest) = answers_indices one.kept ++ kept_indices rest

-- the least of these, or the next index where there are none
abbrev pub low_of : ℕ → List Index → ℕ
low_of applied indices = option_map_or (λ (index : ℕ). index) (least indices) (applied + 1)

-- the least index among messages that aren't gone and those that kept answers name
abbrev pub low : State → ℕ
low s = low_of s.applied (live_indices s.rows ++ kept_indices s.sessions.opened)

abbrev pub item_index : Item → Index
item_index x = x.row.index

-- the same of the parts of a queue
abbrev pub parts_low : Parts → ℕ
parts_low m = low_of m.rest.applied (map item_index (items_of m) ++ kept_indices m.rest.sessions.opened)
