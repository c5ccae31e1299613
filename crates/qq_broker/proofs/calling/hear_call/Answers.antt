use Rattle.std.proofs.Common.{ap, ◌∙◌}
use Rattle.qq_base.proofs.Exits.{at_exit}
use Rattle.qq_cluster.proofs.Stands.{can-after}
use Rattle.qq_broker.specs.Broker.{is_done}
use Rattle.qq_broker.specs.Calling.{outcome_heard}
use Rattle.qq_broker.proofs.Calls.{stops-first, stops-second}
use Rattle.qq_broker.proofs.calling.hear_call.Goals as goal

pub pump-requires : goal.pump-requires
pump-requires g c = can-after c.requires.serve c.in_ok-asked.ensures.ok.served

pub is_idle-idle-requires : goal.is_idle-idle-requires
is_idle-idle-requires g c =
    can-after (can-after c.requires.serve c.in_ok-asked.ensures.ok.served) c.in_ok-list.ensures.ok.served

pub returns-in_err-asked-clause-err : goal.returns-in_err-asked-clause-err
returns-in_err-asked-clause-err g c =
    at_exit _ _ c.from_residual.ensures.1 (let disk = g.D.NodeDisk in
    stops-first disk.facts c.args.session c.args.body c.args.queue.0 c.args.nodes.now c.hand.new.nodes c.in_err-asked.field-0.0
    c.in_err-asked.ensures.err)

pub returns-in_err-list-clause-err : goal.returns-in_err-list-clause-err
returns-in_err-list-clause-err g c =
    at_exit _ _ c.from_residual-in_err-list.ensures.1 (let disk = g.D.NodeDisk in
    let first = c.in_ok-asked.ensures.ok in
    stops-second disk.facts c.args.session c.args.body c.args.queue.0 c.args.nodes.now c.hand.new.nodes c.pump.new.nodes
    c.args.told.now first.told c.in_err-list.field-0.0 first.served
    c.in_err-list.ensures.err)

pub returns-in-Ok-clause-ok : goal.returns-in-Ok-clause-ok
returns-in-Ok-clause-ok g c = record {
  mid = c.hand.new.nodes;
  between = c.hand.new.told;
  asked = c.in_ok-asked.asked.items;
  list = c.in_ok-list.list.items;
  gives = c.in_ok-asked.ensures.ok;
  pumps = c.in_ok-list.ensures.ok;
  idle = λ setup d reached stands.
      ap is_done c.in-Ok.ensures.pumped ∙ c.pump_outcome.ensures ∙ c.is_idle-idle.ensures setup d reached stands;
  outcome = c.in-Ok.ensures.outcome ∙ c.outcome_heard-outcome.ensures
      ∙ ap outcome_heard c.as_slice.ensures.value;
  rows = c.in-Ok.ensures.rows;
  effects = c.in-Ok.ensures.effects;
  others = c.in-Ok.ensures.others;
}
