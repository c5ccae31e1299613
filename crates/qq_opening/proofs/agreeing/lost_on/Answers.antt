use Rattle.std.proofs.Common.{List, refl, subst}
use Rattle.std.specs.Prelude.{Contains}
use Rattle.qq_base.specs.declared.ids.QueueId.{QueueId}
use Rattle.qq_cluster.proofs.Items.{item-here}
use Rattle.qq_opening.proofs.Noticed.{noticed-at}
use Rattle.qq_opening.proofs.agreeing.lost_on.Goals as goal

pub returns : goal.returns
returns g c = (
  refl,
  record {
    index = c.args.index;
    own = c.index-own.result.now;
    here = item-here c.args.nodes.now.nodes.items c.args.index c.index-own.result.now c.requires.index
        c.index-own.ensures;
    up = c.if-not-own.false;
    id_is = refl;
    among = subst (λ (l : List QueueId). Contains l c.in-Some.queue) c.deref.ensures.value c.in-Some.ensures.0;
    place = c.in-Some.ensures.1;
    found_is = noticed-at c.args.nodes.now.queues.items c.args.at c.index-own.result.now.id.0
        c.in-Some-last_noticed.found c.index.result.now c.requires.place c.index.ensures
        c.in-Some-last_noticed.ensures.noticed;
  },
)
