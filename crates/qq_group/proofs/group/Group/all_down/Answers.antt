use Rattle.std.proofs.Common.{◌<◌, ◌^◌, length, sym, subst}
use Rattle.std.specs.Prelude.{All}
use Rattle.std.proofs.lemmas.List.Elements.{All-nil}
use Rattle.qq_raft_core.specs.Ends.{IsSendable}
use Rattle.qq_raft_msg.specs.Rpc.{IsNode}
use Rattle.qq_group.proofs.Restarting.{empty-left, empty-returned, empty-served}
use Rattle.qq_group.proofs.group.Group.all_down.Goals as goal

pub returns-clause-sound : goal.returns-clause-sound
returns-clause-sound g c = record {
  servers = empty-served g.Q.Queue.stands g.L.LogView.log g.Q.Queue.applied c.in_ok-seats.seats.items
      c.in_ok-seats.ensures.empty;
  returned = empty-returned c.in_ok-seats.seats.items c.in_ok-seats.ensures.empty;
  left = empty-left g.L.LogView.log c.in_ok-seats.seats.items c.in_ok-seats.ensures.empty;
  bag = subst (λ bag. All IsSendable bag) (sym c.new.ensures) (All-nil IsSendable);
  nodes = subst (λ nodes. All IsNode nodes) (sym c.in_ok-nodes.ensures.items) c.requires.nodes;
  count = subst (λ nodes. length nodes < 2 ^ 32) (sym c.in_ok-nodes.ensures.items) c.requires.count;
  seats = c.in_ok-seats.ensures.empty.count;
}
