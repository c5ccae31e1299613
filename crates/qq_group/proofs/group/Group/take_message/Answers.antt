use Rattle.std.proofs.Common.{List, subst, sym}
use Rattle.std.specs.Prelude.{All}
use Rattle.qq_raft_core.specs.Ends.{IsSendable}
use Rattle.qq_raft_msg.specs.declared.rpc.Rpc.{Rpc}
use Rattle.qq_group.proofs.Travel.{all-at, all-without}
use Rattle.qq_group.proofs.group.Group.take_message.Goals as goal

pub returns-in-Ok-clause-sound : goal.returns-in-Ok-clause-sound
returns-in-Ok-clause-sound g c = record {
  servers = c.requires.servers;
  returned = c.requires.returned;
  left = c.requires.left;
  bag = subst (λ (bag : List Rpc). All IsSendable bag) (sym c.deliver.ensures.rest)
      (all-without IsSendable c.args.place c.args.self.now.bag c.requires.bag);
  nodes = c.requires.nodes;
  count = c.requires.count;
  seats = c.requires.seats;
}

pub returns-in-Err-clause-sound : goal.returns-in-Err-clause-sound
returns-in-Err-clause-sound g c = record {
  servers = c.requires.servers;
  returned = c.requires.returned;
  left = c.requires.left;
  bag = subst (λ (bag : List Rpc). All IsSendable bag) (sym c.deliver.ensures.rest)
      (all-without IsSendable c.args.place c.args.self.now.bag c.requires.bag);
  nodes = c.requires.nodes;
  count = c.requires.count;
  seats = c.requires.seats;
}

pub returns-in-Ok-clause-sendable : goal.returns-in-Ok-clause-sendable
returns-in-Ok-clause-sendable g c =
    all-at IsSendable c.args.place c.args.self.now.bag c.in-Ok.rpc c.in-Ok.ensures.ok c.requires.bag
