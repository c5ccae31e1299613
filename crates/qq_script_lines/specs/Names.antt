-- What a line names of a setup.
use Rattle.std.specs.Prelude.{ℕ, ◌-◌, ◌==◌, List, [], ◌∷◌, Bool, Option, Some, None, slice_get, length, Result, Err, if◌then◌else◌}
use Rattle.std.specs.List.{list_any, find}
use Rattle.std.specs.Str.{bytes_eq}
use Rattle.std.specs.Option.{option_map, option_and_then}
use Rattle.qq_base.specs.declared.ids.NodeId.{NodeId}
use Rattle.qq_route.specs.declared.queue_row.QueueRow.{QueueRow}
use Rattle.qq_route.specs.declared.setup.Setup.{Setup}
use Rattle.qq_script_lines.specs.declared.fault.ScriptFault.{ScriptFault}
use Rattle.qq_script_lines.specs.declared.fault.ScriptFault.TheVariants.{Number, NoSuch}
use Rattle.qq_script_lines.specs.Words.{or_fault}
use Rattle.qq_script_lines.specs.Numbers.{is_number, number_in}

-- what stands behind `#`
abbrev pub behind_hash : List ℕ → Option (List ℕ)
behind_hash [] = None
behind_hash (b ∷ digits) = if b == 35 then Some digits else None

-- the row with this number, from 1
abbrev pub row_at : List QueueRow → Option ℕ → Option QueueRow
row_at rows None = None
row_at rows (Some n) = slice_get rows (n - 1)

-- `#` and a queue's number, from 1 to the last one's
abbrev pub numbered : List QueueRow → List ℕ → Option QueueRow
numbered rows word = row_at rows (option_and_then (number_in 1 (length rows)) (behind_hash word))

abbrev pub named : List ℕ → QueueRow → Bool
named word row = bytes_eq row.name word

abbrev pub first_of : Option QueueRow → Option QueueRow → Option QueueRow
first_of (Some row) other = Some row
first_of None other = other

-- a queue by its name, else by its number
abbrev pub row_of : Setup → List ℕ → Option QueueRow
row_of s word = first_of (find (named word) s.queues) (numbered s.queues word)

abbrev pub node_by : ℕ → NodeId
node_by n = record { 0 = n }

-- the node with this number: any number is one, and these are there
abbrev pub node_of : Setup → List ℕ → Result NodeId ScriptFault
node_of s word =
    if is_number word then or_fault NoSuch (option_map node_by (number_in 1 s.nodes word)) else Err Number

abbrev pub is_member : NodeId → QueueRow → Bool
is_member node row = list_any (λ (member : NodeId). member.0 == node.0) row.members
