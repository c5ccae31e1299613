use Rattle.std.proofs.Common.{◌≡◌, ◌-◌, ℕ, suc, refl, sym, ◌∙◌, subst, arith}
use Rattle.qq_base.proofs.Exits.{at_exit}
use Rattle.qq_cluster_model.specs.Rules.{most_rounds}
use Rattle.qq_cluster.specs.Nodes.{Served}
use Rattle.qq_cluster.proofs.Pumping.{PumpLeads, pump-busy, pump-gave_up, pump-idle, pump-more, pump-start, pump-wants}
use Rattle.qq_cluster.proofs.Stands.{can-after}
use Rattle.qq_cluster.proofs.nodes.Nodes.pump.Goals as goal

pub rounds-init : goal.rounds-init
unfolding most_rounds
rounds-init g c = pump-start c.args.self.now c.args.told.now

pub is_idle-idle-requires : goal.is_idle-idle-requires
is_idle-idle-requires g c = can-after c.requires c.rounds.invariant

pub returns-then-idle-clause-ok : goal.returns-then-idle-clause-ok
returns-then-idle-clause-ok g c =
    pump-idle c.rounds.left c.rounds.invariant
    (λ setup n r st. sym c.if-idle.true ∙ c.is_idle-idle.ensures setup n r st)

pub round-requires : goal.round-requires
round-requires g c = can-after c.requires c.rounds.invariant

pub rounds-preserved : goal.rounds-preserved
rounds-preserved g c =
    let one : c.rounds.left ≡ suc (c.rounds.left - 1) = omega (arith, c.rounds-test.true) in
    pump-more (c.rounds.left - 1)
    (subst (λ (k : ℕ). Served g.D.NodeDisk.facts (PumpLeads k) c.args.self.now c.rounds.self
    c.args.told.now c.rounds.told) one c.rounds.invariant)
    (λ setup n r st. sym c.if-idle.false ∙ c.is_idle-idle.ensures setup n r st) c.in_ok-round.ensures.ok

pub is_idle-idle-requires-2 : goal.is_idle-idle-requires-2
is_idle-idle-requires-2 g c = can-after c.requires c.rounds.invariant

pub returns-then-idle-2-clause-ok : goal.returns-then-idle-2-clause-ok
returns-then-idle-2-clause-ok g c =
    pump-idle c.rounds.left c.rounds.invariant
    (λ setup n r st. sym c.if-idle-2.true ∙ c.is_idle-idle-2.ensures setup n r st)

pub returns-clause-ok : goal.returns-clause-ok
returns-clause-ok g c =
    let none : c.rounds.left ≡ 0 = omega (arith, c.rounds-test.false) in
    pump-busy
    (subst (λ (k : ℕ). Served g.D.NodeDisk.facts (PumpLeads k) c.args.self.now c.rounds.self
    c.args.told.now c.rounds.told) none c.rounds.invariant)
    (λ setup n r st. sym c.if-idle-2.false ∙ c.is_idle-idle-2.ensures setup n r st) c.in_ok-say_busy.ensures.ok

pub returns-in_err-round-clause-err : goal.returns-in_err-round-clause-err
returns-in_err-round-clause-err g c =
    at_exit _ _ c.from_residual.ensures.1 (let one : c.rounds.left ≡ suc (c.rounds.left - 1) = omega (arith, c.rounds-test.true) in
    pump-gave_up (c.rounds.left - 1)
    (subst (λ (k : ℕ). Served g.D.NodeDisk.facts (PumpLeads k) c.args.self.now c.rounds.self
    c.args.told.now c.rounds.told) one c.rounds.invariant)
    (λ setup n r st. sym c.if-idle.false ∙ c.is_idle-idle.ensures setup n r st) c.in_err-round.ensures.err)

pub returns-in_err-say_busy-clause-err : goal.returns-in_err-say_busy-clause-err
returns-in_err-say_busy-clause-err g c =
    at_exit _ _ c.from_residual-in_err-say_busy.ensures.1 (pump-wants c.rounds.left c.rounds.invariant refl c.in_err-say_busy.ensures.want)
