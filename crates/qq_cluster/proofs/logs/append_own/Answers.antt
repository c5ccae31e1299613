use Rattle.qq_cluster.proofs.Logged.{appended, appended-spent, no-append, own-append}
use Rattle.qq_cluster.proofs.logs.append_own.Goals as goal

pub append-requires : goal.append-requires
append-requires g c = own-append c.args.ops.items c.args.node.now c.in-Some.log c.requires c.in-Some.is

pub unreachable-requires : goal.unreachable-requires
unreachable-requires g c = no-append c.args.ops.items c.args.node.now c.requires c.in-None.is

pub returns-clause-ok : goal.returns-clause-ok
returns-clause-ok g c =
    appended c.args.ops.items c.args.node.now c.in-Some.log c.append.new.self c.append.result c.in-Some.is
    c.append.ensures.same c.append.ensures.later c.append.ensures.moments c.append.ensures.ok c.append.ensures.failed

pub returns-clause-err : goal.returns-clause-err
returns-clause-err g c =
    appended-spent c.args.ops.items c.args.node.now c.in-Some.log c.append.new.self c.append.result c.in-Some.is
    c.append.ensures.same c.append.ensures.later c.append.ensures.moments c.append.ensures.spent
    (λ tell. c.append.ensures.shown tell)
