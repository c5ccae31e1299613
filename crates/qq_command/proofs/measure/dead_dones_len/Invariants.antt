use Rattle.std.proofs.Common.{◌≡◌, ◌+◌, ◌≤◌, ◌*◌, take}
use Rattle.qq_command.specs.Lengths.{dead_dones_length}
use Rattle.qq_command.proofs.measure.dead_dones_len.Given as goal

-- the first dead letters are counted
abbrev pub invariant-list : goal.invariant-list
invariant-list l = record {
  len : l.len ≡ dead_dones_length (take l.done-index l.list);
  within : l.len ≤ 2 + 5000 * l.done-index;
}
