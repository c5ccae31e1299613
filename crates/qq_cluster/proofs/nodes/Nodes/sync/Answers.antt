use Rattle.std.proofs.Common.{refl, sym, ◌∙◌}
use Rattle.qq_base.proofs.Exits.{at_exit}
use Rattle.qq_cluster_model.specs.Cluster.{Setup}
use Rattle.qq_cluster_model.specs.Rules.{IsSync}
use Rattle.qq_cluster.proofs.LineRules.{up-gave_up, where-down, where-up}
use Rattle.qq_cluster.proofs.Stands.{gave_up-same}
use Rattle.qq_cluster.proofs.nodes.Nodes.sync.Goals as goal

pub returns-then-not-up-clause-ok : goal.returns-then-not-up-clause-ok
returns-then-not-up-clause-ok g c =
    where-down {Rule = λ (setup : Setup). IsSync setup c.args.node.0} c.args.node.0
    (λ setup d st. sym c.if-not-up.true ∙ c.is_up-up.ensures setup d st) c.in_ok-say_down.ensures.ok

pub returns-in_err-say_down-clause-err : goal.returns-in_err-say_down-clause-err
returns-in_err-say_down-clause-err g c =
    at_exit _ _ c.from_residual.ensures.1 (gave_up-same c.args.self.now c.args.self.now c.in_err-say_down.field-0.0 refl c.in_err-say_down.ensures.want)

pub returns-clause-ok : goal.returns-clause-ok
returns-clause-ok g c =
    where-up {Rule = λ (setup : Setup). IsSync setup c.args.node.0} c.args.node.0
    (λ setup d st. sym c.if-not-up.false ∙ c.is_up-up.ensures setup d st) c.in_ok-sync_up.ensures.ok

pub returns-in_err-sync_up-clause-err : goal.returns-in_err-sync_up-clause-err
returns-in_err-sync_up-clause-err g c =
    at_exit _ _ c.from_residual-in_err-sync_up.ensures.1 (up-gave_up {Rule = λ (setup : Setup). IsSync setup c.args.node.0} c.args.node.0
    (λ setup d st. sym c.if-not-up.false ∙ c.is_up-up.ensures setup d st) c.in_err-sync_up.ensures.err)
