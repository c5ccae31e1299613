use Rattle.std.proofs.Common.{◌≡◌, ◌++◌, drop}
use Rattle.qq_cluster_model.specs.Delivering.{come_all, hand_all}
use Rattle.qq_queue.specs.Sessions.{clients_of, no_numbers, standings}
use Rattle.qq_queue.proofs.handing_out.deliver_each.Given as goal

-- what is left from here on gives what all gave at first
abbrev pub invariant-effects : goal.invariant-effects
invariant-effects l = record {
  came : come_all (clients_of (standings l.sessions) no_numbers) (drop l.effect-index l.effects) l.consumers
      ≡ come_all (clients_of (standings l.sessions) no_numbers) l.effects l.fn.consumers;
  handed : l.untold
      ++ hand_all (clients_of (standings l.sessions) no_numbers) (drop l.effect-index l.effects) l.consumers
      ≡ l.fn.untold ++ hand_all (clients_of (standings l.sessions) no_numbers) l.effects l.fn.consumers;
}
