use Rattle.std.proofs.Common.{refl}
use Rattle.qq_queue.proofs.Offering.{untaken-does}
use Rattle.qq_queue.proofs.cluster_queue.ClusterQueue.tell_not_taken.Goals as goal

pub returns-clause-ok : goal.returns-clause-ok
returns-clause-ok c = λ sessions q st.
    untaken-does sessions c.args.self.now c.args.self.now q c.args.session c.args.id c.args.shown.now.items
    c.push.new.self.items st refl c.in_ok-push.ensures.items
