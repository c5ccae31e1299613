use Rattle.std.proofs.Common.{List, refl}
use Rattle.qq_cluster_model.specs.Delivering.{hand_all}
use Rattle.qq_taker.specs.declared.handed.Handed.{Handed}
use Rattle.qq_queue.specs.Sessions.{clients_of, no_numbers, standings}
use Rattle.qq_queue.proofs.cluster_queue.ClusterQueue.hand_out.Goals as goal

pub returns-clause-ok : goal.returns-clause-ok
returns-clause-ok c =
    let d = c.args.self.now in
    let more : List Handed =
    hand_all (clients_of (standings c.args.sessions.now) no_numbers) c.args.effects.now d.consumers in
    let released = c.in_ok-release_behind.ensures.ok d.untold more c.count-waited.ensures
    c.in_ok-deliver_each.ensures.handed in
    record {
      came = c.in_ok-deliver_each.ensures.came;
      untold = released.0;
      said = released.1;
      rest = refl;
    }
