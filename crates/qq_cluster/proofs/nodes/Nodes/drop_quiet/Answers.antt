use Rattle.std.proofs.Common.{◌-◌, ◌∙◌, length, ap, refl, sym, arith}
use Rattle.std.proofs.lemmas.List.Edits.{length-remove}
use Rattle.qq_cluster.proofs.Outcomes.{no_outcome}
use Rattle.qq_cluster.proofs.Pumping.{below-active, served-dropped}
use Rattle.qq_cluster.proofs.Stands.{can-after, served-nothing, served-same}
use Rattle.qq_cluster.proofs.nodes.Nodes.drop_quiet.Goals as goal

pub active-init : goal.active-init
active-init g c = (λ text. served-nothing c.args.self.now text (λ setup d r st. refl), omega (arith, c.len-left.ensures.count))

pub at-at-requires : goal.at-at-requires
at-at-requires g c = omega (arith, c.active.invariant.1, c.active-test.true)

pub is_quiet-quiet-requires-clause-serve : goal.is_quiet-quiet-requires-clause-serve
is_quiet-quiet-requires-clause-serve g c = can-after c.requires (c.active.invariant.0 no_outcome)

pub is_quiet-quiet-requires-clause-place : goal.is_quiet-quiet-requires-clause-place
is_quiet-quiet-requires-clause-place g c =
    below-active (c.active.left - 1) c.at-at.result (can-after c.requires (c.active.invariant.0 no_outcome))
    (omega (arith, c.active.invariant.1, c.active-test.true)) c.at-at.ensures

pub active-preserved-then-quiet : goal.active-preserved-then-quiet
active-preserved-then-quiet g c = (
  λ text. served-same (c.active.invariant.0 text)
      (served-dropped (c.active.left - 1) c.at-at.result c.active.self
      (record c.active.self { active = c.remove.new.self }) text refl c.remove.ensures c.at-at.ensures
      (λ setup d r st. sym (sym c.if-quiet.true ∙ c.is_quiet-quiet.ensures setup d r st))),
  let long = length-remove c.active.self.active (c.active.left - 1)
      (omega (arith, c.active.invariant.1, c.active-test.true)) in
      let same = ap length c.remove.ensures in
      omega (arith, long, same, c.active.invariant.1, c.active-test.true),
)
