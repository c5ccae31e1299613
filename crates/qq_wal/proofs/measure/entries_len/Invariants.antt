use Rattle.std.proofs.Common.{◌≡◌, length, take}
use Rattle.std.specs.List.{flat_map}
use Rattle.qq_command.specs.Encoding.{encoding}
use Rattle.qq_wal.proofs.measure.entries_len.Given as goal

-- the first entries are counted
abbrev pub invariant-loop-entry : goal.invariant-loop-entry
invariant-loop-entry l = l.len ≡ length (flat_map encoding (take l.entry-index l.entries))
