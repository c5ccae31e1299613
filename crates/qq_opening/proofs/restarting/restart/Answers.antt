use Rattle.std.proofs.Common.{sym, ◌∙◌}
use Rattle.qq_opening.proofs.GoingOn.{may-step}
use Rattle.qq_opening.proofs.LostQueues.{step-refuses, step-serves}
use Rattle.qq_opening.proofs.Restarted.{restart-up}
use Rattle.qq_opening.proofs.restarting.restart.Goals as goal

pub returns-then-up-clause-ok : goal.returns-then-up-clause-ok
returns-then-up-clause-ok g c =
    restart-up c.args.node.0 c.args.nodes.now c.args.told.now
    (λ setup d st. sym c.if-up.true ∙ c.is_up-up.ensures setup d st)

pub recover_node-requires : goal.recover_node-requires
recover_node-requires g c =
    may-step c.args.node c.args.nodes.now c.requires.serve c.requires.node
    (λ setup d st. sym (c.is_up-up.ensures setup d st) ∙ c.if-up.false)

pub returns-in-Ok-clause-ok : goal.returns-in-Ok-clause-ok
returns-in-Ok-clause-ok g c =
    step-serves c.args.node c.args.nodes.now c.recover_node.new.nodes c.args.told.now
    c.recover_node.new.told c.requires.node
    (λ setup d st. sym (c.is_up-up.ensures setup d st) ∙ c.if-up.false) c.in-Ok.ensures.ok

pub returns-in-Err-clause-err : goal.returns-in-Err-clause-err
returns-in-Err-clause-err g c =
    step-refuses c.args.node c.args.nodes.now c.recover_node.new.nodes c.args.told.now c.in-Err.fault
    c.requires.node (λ setup d st. sym (c.is_up-up.ensures setup d st) ∙ c.if-up.false) c.in-Err.ensures.err
