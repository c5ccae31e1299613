use Rattle.std.proofs.Common.{◌≡◌, ◌++◌, length}
use Rattle.std.specs.Prelude.{is_some}
use Rattle.std.specs.List.{AllByRecursion}
use Rattle.qq_base.specs.Fronts.{IsFront}
use Rattle.qq_session.specs.Shown.{said_of}
use Rattle.qq_queue.specs.ClusterQueue.{IsSameQueue}
use Rattle.qq_queue.specs.Members.{AreSound}
use Rattle.qq_queue.specs.Range.{HasBytes}
use Rattle.qq_queue.proofs.Offering.{Resending}
use Rattle.qq_queue.proofs.cluster_queue.ClusterQueue.resend.Given as goal

-- some commands were offered, and what is said of the others is left to say
abbrev pub invariant-commands : goal.invariant-commands
invariant-commands l = record {
  sound : AreSound l.self.group;
  so : Resending l.leader l.initial.rest.items l.rest.items l.fn.self l.self;
  said : l.shown.items ++ said_of (is_some l.leader) l.session l.rest.items
      ≡ l.fn.shown.items ++ said_of (is_some l.leader) l.session l.initial.rest.items;
  same : IsSameQueue l.fn.self l.self;
  front : IsFront l.fn.shown.items l.shown.items;
  bytes : AllByRecursion HasBytes l.rest.items;
}

abbrev pub decreases-commands : goal.decreases-commands
decreases-commands l = length l.rest.items
