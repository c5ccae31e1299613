use Rattle.std.proofs.Common.{◌≡◌, ◌≤◌, length}
use Rattle.std.specs.Prelude.{All, option_map}
use Rattle.qq_cluster.specs.Setting.{IsWhole}
use Rattle.qq_broker.specs.Lives.{under}
use Rattle.qq_broker.specs.Serving.{AreGiven}
use Rattle.qq_broker.proofs.opening.disks_of.Given as goal

-- there are so many disks by now, each given for its node, and the yard has failed no less often
abbrev pub invariant-nodes : goal.invariant-nodes
invariant-nodes g l = record {
  count : length l.disks.items ≡ l.before;
  given :
      AreGiven (under g.Y.Yard.is_given (option_map (λ text. text.now) l.root)) g.Y.Disk.NodeDisk.facts l.disks.items;
  whole : All (IsWhole g.Y.Disk.NodeDisk.facts) l.disks.items;
  later : g.Y.Yard.faults l.fn.yard ≤ g.Y.Yard.faults l.yard;
}
