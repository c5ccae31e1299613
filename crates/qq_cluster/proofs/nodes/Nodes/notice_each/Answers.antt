use Rattle.std.proofs.Common.{◌∙◌, ap, refl, arith}
use Rattle.std.specs.Prelude.{length}
use Rattle.qq_base.proofs.Exits.{at_exit}
use Rattle.qq_cluster_model.specs.Cluster.{Setup}
use Rattle.qq_cluster_model.specs.Rules.{IsNotice}
use Rattle.qq_cluster.proofs.Pumping.{below-active, notice-passes, is-active, node-after, walk-end, walk-gave_up, walk-more}
use Rattle.qq_cluster.proofs.Stands.{active-start, can-after}
use Rattle.qq_cluster.proofs.Total.{total-notice}
use Rattle.qq_cluster.proofs.nodes.Nodes.notice_each.Goals as goal

pub active-init : goal.active-init
active-init g c = (
  active-start (λ (setup : Setup). IsNotice c.args.node.0) c.args.self.now c.args.told.now c.len-count.ensures.rising
      (notice-passes c.args.node c.args.self.now c.requires.node) c.requires.serve.3.within,
  refl,
)

pub at-at-requires : goal.at-at-requires
at-at-requires g c = omega (arith, c.len-count.ensures.count, ap length c.active.invariant.1)

pub notice_active-requires-clause-serve : goal.notice_active-requires-clause-serve
notice_active-requires-clause-serve g c = can-after c.requires.serve c.active.invariant.0

pub notice_active-requires-clause-place : goal.notice_active-requires-clause-place
notice_active-requires-clause-place g c =
    below-active c.active.place c.at-at.result (can-after c.requires.serve c.active.invariant.0)
    (omega (arith, c.len-count.ensures.count, ap length c.active.invariant.1)) c.at-at.ensures

pub notice_active-requires-clause-active : goal.notice_active-requires-clause-active
notice_active-requires-clause-active g c =
    is-active c.active.self c.active.place c.at-at.result
    (omega (arith, c.len-count.ensures.count, ap length c.active.invariant.1)) c.at-at.ensures

pub notice_active-requires-clause-node : goal.notice_active-requires-clause-node
notice_active-requires-clause-node g c = node-after c.args.node c.requires.serve c.active.invariant.0 c.requires.node

pub active-preserved : goal.active-preserved
active-preserved g c = (
  walk-more (λ (setup : Setup). IsNotice c.args.node.0) c.active.place c.at-at.result c.requires.serve c.len-count.ensures.rising
      c.active.invariant.1 c.notice_active.ensures.active (omega (arith, c.len-count.ensures.count)) c.at-at.ensures
      (notice-passes c.args.node c.notice_active.new.self (node-after c.args.node (can-after c.requires.serve c.active.invariant.0) c.in_ok-notice_active.ensures.ok (node-after c.args.node c.requires.serve c.active.invariant.0 c.requires.node)))
      c.active.invariant.0 c.in_ok-notice_active.ensures.ok,
  c.notice_active.ensures.active ∙ c.active.invariant.1,
)

pub returns-clause-ok : goal.returns-clause-ok
returns-clause-ok g c =
    walk-end (λ (setup : Setup). IsNotice c.args.node.0) c.active.place c.active.invariant.1
    (omega (arith, c.len-count.ensures.count)) c.active.invariant.0

pub returns-in_err-notice_active-clause-err : goal.returns-in_err-notice_active-clause-err
returns-in_err-notice_active-clause-err g c =
    at_exit _ _ c.from_residual.ensures.1 (walk-gave_up (λ (setup : Setup). IsNotice c.args.node.0) c.active.place c.at-at.result (λ setup place. total-notice c.args.node.0 place) c.requires.serve
    c.active.invariant.1 (omega (arith, c.len-count.ensures.count)) c.at-at.ensures c.active.invariant.0
    c.in_err-notice_active.ensures.err)
