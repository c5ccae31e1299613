use Rattle.std.proofs.Common.{◌≡◌, Some, drop}
use Rattle.qq_dir_disk.specs.Name.{add_digits}
use Rattle.qq_dir_disk.proofs.name.number_of.Given as goal

abbrev pub invariant-loop-byte : goal.invariant-loop-byte
invariant-loop-byte l = add_digits (Some l.number) (drop l.byte-index l.text) ≡ add_digits (Some 0) l.text
