use Rattle.std.proofs.Common.{◌≡◌, ◌+◌, length, take}
use Rattle.std.specs.List.{flat_map}
use Rattle.qq_command.specs.Encoding.{encoding}
use Rattle.qq_raft_core.proofs.fits.is_short.Given as goal

-- the first entries are counted
abbrev pub invariant-entries : goal.invariant-entries
invariant-entries l = l.len ≡ 46 + length (flat_map encoding (take l.entry-index l.entries))
