use Rattle.std.proofs.Common.{◌≡◌, ◌∙◌, ◌+◌, ap, inl, inr, sym, arith}
use Rattle.std.specs.Prelude.{ℕ, get_or}
use Rattle.std.proofs.lemmas.Bool.{cases_lt}
use Rattle.qq_cluster_model.specs.Rules.{is_quiet}
use Rattle.qq_cluster.proofs.Pumping.{below-active, idle-all, idle-none}
use Rattle.qq_cluster.proofs.nodes.Nodes.is_idle.Goals as goal

pub active-init : goal.active-init
active-init g c = λ setup d r st i lt. absurd (omega (arith, lt))

pub is_quiet-quiet-requires-clause-place : goal.is_quiet-quiet-requires-clause-place
is_quiet-quiet-requires-clause-place g c =
    below-active c.active.place c.at-at.result c.requires (omega (arith, c.len-count.ensures.count)) c.at-at.ensures

pub active-preserved : goal.active-preserved
active-preserved g c = λ setup d r st i lt.
    elim (cases_lt i c.active.place) [
      | inl before ↦ c.active.invariant setup d r st i before
      | inr last ↦
          let own : i ≡ c.active.place = omega (arith, lt, last) in
          ap (λ (k : ℕ). is_quiet setup d.up (d.queue (get_or c.args.self.now.active k 0 + 1))) own
          ∙ ap (λ (k : ℕ). is_quiet setup d.up (d.queue (k + 1))) (sym c.at-at.ensures)
          ∙ sym (sym c.if-not-quiet.false ∙ c.is_quiet-quiet.ensures setup d r st)
    ]

pub returns-then-not-quiet : goal.returns-then-not-quiet
returns-then-not-quiet g c = λ setup d r st.
    idle-none c.args.self.now c.at-at.result setup d st
    (below-active c.active.place c.at-at.result c.requires (omega (arith, c.len-count.ensures.count)) c.at-at.ensures)
    (sym c.if-not-quiet.true ∙ c.is_quiet-quiet.ensures setup d r st)

pub returns : goal.returns
returns g c = λ setup d r st.
    idle-all c.args.self.now c.active.place setup d st (omega (arith, c.len-count.ensures.count))
    (c.active.invariant setup d r st)
