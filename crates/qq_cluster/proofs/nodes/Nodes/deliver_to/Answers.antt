use Rattle.std.proofs.Common.{◌+◌, ◌-◌, refl, sym, ◌∙◌}
use Rattle.qq_base.proofs.Exits.{at_exit}
use Rattle.qq_cluster.proofs.OnTheWay.{deliver-gave_up, delivered-down, delivered-up, delivered-wants}
use Rattle.qq_cluster.proofs.Pumping.{node-after}
use Rattle.qq_cluster.proofs.nodes.Nodes.deliver_to.Goals as goal

pub is_up-up-requires : goal.is_up-up-requires
is_up-up-requires g c = node-after c.args.node c.requires.serve c.in_ok-tell.ensures.ok c.requires.node

pub returns-then-up-clause-ok : goal.returns-then-up-clause-ok
returns-then-up-clause-ok g c =
    delivered-up (c.args.at + 1) (c.args.message - 1) c.args.node
    (λ setup d st. sym c.if-up.true ∙ c.is_up-up.ensures setup d st) c.in_ok-tell.ensures.ok

pub returns-clause-ok : goal.returns-clause-ok
returns-clause-ok g c =
    delivered-down (c.args.at + 1) (c.args.message - 1) c.args.node
    (λ setup d st. sym c.if-up.false ∙ c.is_up-up.ensures setup d st) c.in_ok-tell.ensures.ok
    c.in_ok-say_down.ensures.ok

pub returns-in_err-tell-clause-err : goal.returns-in_err-tell-clause-err
returns-in_err-tell-clause-err g c =
    at_exit _ _ c.from_residual.ensures.1 (deliver-gave_up (c.args.at + 1) (c.args.message - 1) c.args.node c.in_err-tell.ensures.err)

pub returns-in_err-say_down-clause-err : goal.returns-in_err-say_down-clause-err
returns-in_err-say_down-clause-err g c =
    at_exit _ _ c.from_residual-in_err-say_down.ensures.1 (delivered-wants (c.args.at + 1) (c.args.message - 1) c.args.node c.in_ok-tell.ensures.ok refl
    c.in_err-say_down.ensures.want)
