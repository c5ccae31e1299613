use Rattle.std.proofs.Common.{arith, refl}
use Rattle.qq_base.proofs.Exits.{at_exit}
use Rattle.qq_opening.proofs.OpenedLoop.{loop-all, loop-here, loop-may, loop-more, loop-none}
use Rattle.qq_opening.proofs.OpenedNone.{step-stops}
use Rattle.qq_opening.proofs.opening.open_each.Goals as goal

pub nodes-init : goal.nodes-init
nodes-init g c = λ rows new. loop-none rows c.args.nodes.now new c.args.told.now

pub recover_node-requires : goal.recover_node-requires
recover_node-requires g c =
    let rows = c.requires.0 in
    let new = c.requires.1 in
    loop-may rows c.args.nodes.now new c.nodes.at c.nodes.some c.nodes.nodes c.args.told.now c.nodes.told
    (c.nodes.invariant rows new) _ refl (omega (arith, c.len-count.ensures))

pub settle-up-requires : goal.settle-up-requires
settle-up-requires g c =
    let rows = c.requires.0 in
    let new = c.requires.1 in
    loop-here rows c.args.nodes.now new c.nodes.at c.nodes.some c.nodes.nodes c.args.told.now c.nodes.told
    (c.nodes.invariant rows new) _ refl (omega (arith, c.len-count.ensures)) c.recover_node.new.nodes
    c.recover_node.new.told c.in_ok-recover_node.ensures.ok

pub nodes-preserved : goal.nodes-preserved
nodes-preserved g c = λ rows new.
    loop-more rows c.args.nodes.now new c.nodes.at c.nodes.some c.nodes.nodes c.args.told.now c.nodes.told
    (c.nodes.invariant rows new) _ refl (omega (arith, c.len-count.ensures)) c.recover_node.new.nodes
    c.settle-up.new.nodes c.settle-up.result c.has_opened-some.result c.recover_node.new.told
    c.in_ok-recover_node.ensures.ok c.settle-up.ensures c.has_opened-some.ensures

pub returns-clause-ok : goal.returns-clause-ok
returns-clause-ok g c = λ rows new.
    loop-all rows c.args.nodes.now new c.nodes.at c.nodes.some c.nodes.nodes c.args.told.now c.nodes.told
    (omega (arith, c.len-count.ensures)) (c.nodes.invariant rows new)

pub returns-in_err-recover_node-clause-err : goal.returns-in_err-recover_node-clause-err
returns-in_err-recover_node-clause-err g c =
    at_exit _ _ c.from_residual.ensures.1 (λ rows new.
    step-stops rows c.args.nodes.now new c.nodes.at c.nodes.nodes (c.nodes.invariant rows new).opened _ refl
    (omega (arith, c.len-count.ensures)) c.recover_node.new.nodes c.in_err-recover_node.field-0.0 c.in_err-recover_node.ensures.err)
