use Rattle.std.proofs.Common.{◌≡◌, drop}
use Rattle.qq_recover.specs.Newest.{is_among}
use Rattle.qq_recover.proofs.read.is_among.Given as goal

abbrev pub invariant-loop-name : goal.invariant-loop-name
invariant-loop-name l = is_among (drop l.name-index l.names) l.file ≡ is_among l.names l.file
