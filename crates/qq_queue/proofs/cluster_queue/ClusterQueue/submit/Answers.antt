use Rattle.std.proofs.Common.{refl, ap, subst, ◌∙◌}
use Rattle.qq_session.specs.declared.publishing.HandFault.{HandFault}
use Rattle.qq_session.specs.Publishing.{HasHandCause}
use Rattle.qq_queue.specs.Sessions.{numbers_of}
use Rattle.qq_queue.specs.declared.cluster_queue.ClusterQueue.{ClusterQueue}
use Rattle.qq_queue.proofs.Offering.{full-does, submit-does}
use Rattle.qq_queue.proofs.cluster_queue.ClusterQueue.submit.Goals as goal

pub returns-in-Err-WindowFull-clause-ok : goal.returns-in-Err-WindowFull-clause-ok
returns-in-Err-WindowFull-clause-ok c = λ sessions q st.
    full-does sessions c.args.self.now
    (record c.args.self.now { publishers = c.hand.new.self; consumers = c.learn.new.consumers }) q c.args.session
    c.args.body c.args.shown.now.items c.push.new.self.items st
    (subst (λ (fault : HandFault). HasHandCause fault (numbers_of c.args.self.now.publishers c.args.session))
    c.in-Err-WindowFull.field-0-is c.in-Err-WindowFull.ensures.cause) refl refl refl c.in-Err-WindowFull.ensures.err
    c.in_ok-learn.ensures.ok refl refl c.in_ok-push-in-Err-WindowFull.ensures.items

pub returns-clause-ok : goal.returns-clause-ok
returns-clause-ok c = λ sessions q st.
    submit-does sessions c.args.self.now c.offer.new.self q c.args.session c.args.body c.in-Ok.command
    c.leader-leader.result c.args.shown.now.items c.offer.new.shown.items st c.in-Ok.ensures.room c.in-Ok.ensures.ok
    c.leader-leader.ensures c.in_ok-offer.ensures.ok (ap (λ (d : ClusterQueue). d.args) c.offer.ensures.rest)
    (ap (λ (d : ClusterQueue). d.synced) c.offer.ensures.rest)
    (ap (λ (d : ClusterQueue). numbers_of d.publishers) c.offer.ensures.rest ∙ c.in-Ok.ensures.handed)
    (ap (λ (d : ClusterQueue). d.consumers) c.offer.ensures.rest ∙ c.in_ok-learn.ensures.ok)
    (ap (λ (d : ClusterQueue). d.seats) c.offer.ensures.rest)
    (ap (λ (d : ClusterQueue). d.untold) c.offer.ensures.rest) c.in_ok-offer.ensures.said
