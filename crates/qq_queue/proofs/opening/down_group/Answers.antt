use Rattle.std.proofs.Common.{subst}
use Rattle.qq_group.specs.Opening.{IsOpeningCaused}
use Rattle.qq_group.specs.declared.opening.GroupFault.{GroupFault}
use Rattle.qq_queue.proofs.Beginning.{none_missing, opens-group, opens-over, starts-apart, starts-each}
use Rattle.qq_queue.proofs.opening.down_group.Goals as goal

pub new-requires-clause-each : goal.new-requires-clause-each
new-requires-clause-each c =
    starts-each c.args.nodes.now c.in_ok-starts.starts.items c.in_ok-starts.ensures.ok c.requires.nodes

pub new-requires-clause-apart : goal.new-requires-clause-apart
new-requires-clause-apart c =
    starts-apart c.args.nodes.now c.in_ok-starts.starts.items c.in_ok-starts.ensures.ok c.requires.distinct

pub returns-clause-ok : goal.returns-clause-ok
returns-clause-ok c =
    opens-group c.args.args.now.queue c.args.nodes.now c.in_ok-starts.starts.items c.in-Ok.group
    c.in_ok-starts.ensures.ok c.in-Ok.ensures.ok

pub returns-clause-over : goal.returns-clause-over
returns-clause-over c =
    opens-over c.args.args.now.queue c.args.nodes.now c.in_ok-starts.starts.items c.in-Ok.group
    c.in_ok-starts.ensures.ok c.in-Ok.ensures.ok

pub unreachable-requires : goal.unreachable-requires
unreachable-requires c =
    none_missing c.args.nodes.now c.in_ok-starts.starts.items c.in_ok-starts.ensures.ok
    (subst (λ (fault : GroupFault). IsOpeningCaused c.args.nodes.now c.in_ok-starts.starts.items fault)
    c.in-Err-Short.field-0-is c.in-Err-Short.ensures.cause).0
