use Rattle.std.proofs.Common.{List, arith, length, sym, subst}
use Rattle.std.specs.Prelude.{All}
use Rattle.qq_cluster_run.specs.Setup.{cluster_setup}
use Rattle.qq_route.specs.declared.queue_row.QueueRow.{QueueRow}
use Rattle.qq_cluster.specs.Setting.{AreNew, IsRow, IsSetupOver}
use Rattle.qq_broker.proofs.Beginning.{is-set, rows-range, unopened}
use Rattle.qq_broker.proofs.opening.begin_over.Goals as goal

pub new-requires-clause-set : goal.new-requires-clause-set
new-requires-clause-set g c =
    let s = c.args.setup.now in
    let disks = c.args.disks.now.items in (
      cluster_setup s,
      subst (λ (rows : List QueueRow). IsSetupOver (cluster_setup s) rows (length disks)) (sym c.as_slice.ensures)
          (is-set s c.requires.may (c.clusters_begin_with_new_logs.ensures s c.requires.may) (length disks)
          c.requires.count),
    )

pub new-requires-clause-rows : goal.new-requires-clause-rows
new-requires-clause-rows g c =
    subst (All IsRow) (sym c.as_slice.ensures) (rows-range c.args.setup.now c.requires.may)

pub new-requires-clause-few : goal.new-requires-clause-few
new-requires-clause-few g c =
    let count = c.requires.count in let few = c.requires.may.few in omega (arith, count, few)

pub returns-in-Ok-clause-ok : goal.returns-in-Ok-clause-ok
returns-in-Ok-clause-ok g c =
    let s = c.args.setup.now in
    let disks = c.args.disks.now.items in
    let disk = g.D.NodeDisk in
    λ given each.
    unopened given disk.facts s disks c.in-Ok.nodes c.requires.count each c.in-Ok.ensures.disks
    (c.in-Ok.ensures.ok (cluster_setup s)
    (subst (λ (rows : List QueueRow). IsSetupOver (cluster_setup s) rows (length disks)) (sym c.as_slice.ensures)
    (is-set s c.requires.may (c.clusters_begin_with_new_logs.ensures s c.requires.may) (length disks)
    c.requires.count)))
    (subst (λ (rows : List QueueRow). AreNew disk.facts rows c.in-Ok.nodes) c.as_slice.ensures c.in-Ok.ensures.new)
