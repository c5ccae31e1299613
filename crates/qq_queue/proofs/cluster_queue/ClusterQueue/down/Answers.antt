use Rattle.std.proofs.Common.{append-nil, refl, sym, ap, subst, ◌∙◌, arith}
use Rattle.qq_base.specs.declared.ids.SessionId.{SessionId}
use Rattle.qq_entry.specs.declared.command.Command.TheVariants.{Down}
use Rattle.qq_queue.specs.Range.{HasBytes}
use Rattle.qq_queue.specs.declared.cluster_queue.ClusterQueue.{ClusterQueue}
use Rattle.qq_queue.proofs.Offering.{down-does, unused-does}
use Rattle.qq_queue.proofs.Ranges.{down-bytes}
use Rattle.qq_queue.proofs.cluster_queue.ClusterQueue.down.Goals as goal

pub returns-then-not-used-clause-ok : goal.returns-then-not-used-clause-ok
returns-then-not-used-clause-ok c = λ sessions q st.
    unused-does sessions c.args.self.now c.args.self.now q c.args.session c.args.shown.now.items c.args.shown.now.items st
    (sym c.is_used-used.ensures ∙ c.if-not-used.true) refl (sym (append-nil c.args.shown.now.items))

pub offer-requires-clause-bytes : goal.offer-requires-clause-bytes
offer-requires-clause-bytes c =
    subst (λ (s : SessionId). HasBytes (Down s)) (sym c.client.ensures)
    (down-bytes c.args.session c.requires.session (omega arith))

pub returns-clause-ok : goal.returns-clause-ok
returns-clause-ok c = λ sessions q st.
    down-does sessions c.args.self.now c.offer.new.self q c.args.session (Down c.client.result) c.leader-leader.result
    c.args.shown.now.items c.offer.new.shown.items st (sym c.is_used-used.ensures ∙ c.if-not-used.false)
    (ap Down c.client.ensures) c.leader-leader.ensures c.in_ok-offer.ensures.ok
    (ap (λ (d : ClusterQueue). d.args) c.offer.ensures.rest) (ap (λ (d : ClusterQueue). d.synced) c.offer.ensures.rest)
    (ap (λ (d : ClusterQueue). d.publishers) c.offer.ensures.rest)
    (ap (λ (d : ClusterQueue). d.consumers) c.offer.ensures.rest)
    (ap (λ (d : ClusterQueue). d.seats) c.offer.ensures.rest)
    (ap (λ (d : ClusterQueue). d.untold) c.offer.ensures.rest) c.in_ok-offer.ensures.said
