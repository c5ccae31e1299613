use Rattle.std.proofs.Common.{◌∙◌, ap, refl, arith}
use Rattle.std.specs.Prelude.{length}
use Rattle.qq_base.proofs.Exits.{at_exit}
use Rattle.qq_cluster_model.specs.Cluster.{Setup}
use Rattle.qq_cluster_model.specs.Rules.{IsEmptied}
use Rattle.qq_cluster.proofs.Pumping.{below-active, emptied-passes, is-active, walk-end, walk-gave_up, walk-more}
use Rattle.qq_cluster.proofs.Stands.{active-start, can-after}
use Rattle.qq_cluster.proofs.Total.{total-emptied}
use Rattle.qq_cluster.proofs.nodes.Nodes.empty_each.Goals as goal

pub active-init : goal.active-init
active-init g c = (
  active-start (λ (setup : Setup). IsEmptied) c.args.self.now c.args.told.now c.len-count.ensures.rising
      (emptied-passes c.args.self.now) c.requires.3.within,
  refl,
)

pub at-at-requires : goal.at-at-requires
at-at-requires g c = omega (arith, c.len-count.ensures.count, ap length c.active.invariant.1)

pub empty_active-requires-clause-serve : goal.empty_active-requires-clause-serve
empty_active-requires-clause-serve g c = can-after c.requires c.active.invariant.0

pub empty_active-requires-clause-place : goal.empty_active-requires-clause-place
empty_active-requires-clause-place g c =
    below-active c.active.place c.at-at.result (can-after c.requires c.active.invariant.0)
    (omega (arith, c.len-count.ensures.count, ap length c.active.invariant.1)) c.at-at.ensures

pub empty_active-requires-clause-active : goal.empty_active-requires-clause-active
empty_active-requires-clause-active g c =
    is-active c.active.self c.active.place c.at-at.result
    (omega (arith, c.len-count.ensures.count, ap length c.active.invariant.1)) c.at-at.ensures

pub active-preserved : goal.active-preserved
active-preserved g c = (
  walk-more (λ (setup : Setup). IsEmptied) c.active.place c.at-at.result c.requires c.len-count.ensures.rising
      c.active.invariant.1 c.empty_active.ensures.active (omega (arith, c.len-count.ensures.count)) c.at-at.ensures
      (emptied-passes c.empty_active.new.self)
      c.active.invariant.0 c.in_ok-empty_active.ensures.ok,
  c.empty_active.ensures.active ∙ c.active.invariant.1,
)

pub returns-clause-ok : goal.returns-clause-ok
returns-clause-ok g c =
    walk-end (λ (setup : Setup). IsEmptied) c.active.place c.active.invariant.1
    (omega (arith, c.len-count.ensures.count)) c.active.invariant.0

pub returns-in_err-empty_active-clause-err : goal.returns-in_err-empty_active-clause-err
returns-in_err-empty_active-clause-err g c =
    at_exit _ _ c.from_residual.ensures.1 (walk-gave_up (λ (setup : Setup). IsEmptied) c.active.place c.at-at.result (λ setup place. total-emptied place) c.requires
    c.active.invariant.1 (omega (arith, c.len-count.ensures.count)) c.at-at.ensures c.active.invariant.0
    c.in_err-empty_active.ensures.err)
