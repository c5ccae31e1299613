use Rattle.std.proofs.Common.{◌≡◌, ◌⊎◌, ◌≤◌, length, take}
use Rattle.qq_group.specs.Step.{extended}
use Rattle.qq_group.proofs.group.extend_audit.Given as goal

-- the entries up to here, behind those that the audit had
abbrev pub invariant-entries : goal.invariant-entries
invariant-entries g l =
    record {
      audit : l.audit.items ≡ extended l.fn.audit.items (take l.index (g.L.LogView.log l.log).entries);
      behind : length l.fn.audit.items ≤ l.index;
      before : (l.index ≤ l.end) ⊎ (l.index ≤ length l.fn.audit.items);
    }
