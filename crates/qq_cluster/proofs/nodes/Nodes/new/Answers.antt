use Rattle.std.proofs.Common.{arith, length, refl, true}
use Rattle.qq_cluster.specs.Disks.{AreBareNodes}
use Rattle.qq_cluster.specs.Setting.{AreQueuesFor}
use Rattle.qq_cluster.specs.declared.nodes.Nodes.{Nodes as Held}
use Rattle.qq_cluster.proofs.Begun.{IsMade, are-made, have-disks, new-nodes, nodes-begin}
use Rattle.qq_cluster.proofs.Built.{of-ok}
use Rattle.qq_cluster.proofs.nodes.Nodes.new.Goals as goal

pub put_disks-requires : goal.put_disks-requires
put_disks-requires g c =
    let bare = of-ok (λ nodes. AreBareNodes c.args.rows.now c.len-count.result nodes.items) c.bare_nodes.result
    c.in_ok-queues.nodes c.in_ok-queues.ensures.second c.bare_nodes.ensures.ok in
    let many = bare.many in
    let count = c.len-count.ensures in
    let whole = c.args.disks.now.ok.0 in
    omega (arith, many, count, whole)

pub returns-clause-ok : goal.returns-clause-ok
returns-clause-ok g c = λ setup set.
    (let disks = c.args.disks.now.items in
    let bare : Held g.row.D.Denot = record {
      queues = c.in_ok-queues.queues;
      nodes = c.in_ok-queues.nodes;
      sessions = c.new.result;
      active = c.new-2.result;
      auto = true;
      log_bytes = c.args.log_bytes;
    } in
    let made : IsMade c.args.rows.now disks c.put_disks.new.self =
    are-made c.args.rows.now disks c.len-count.result bare c.put_disks.new.self c.put_disks.ensures.same
    (of-ok (λ queues. AreQueuesFor c.args.rows.now queues.items) c.new_queues.result c.in_ok-queues.queues
    c.in_ok-queues.ensures.first c.new_queues.ensures.ok)
    (of-ok (λ nodes. AreBareNodes c.args.rows.now c.len-count.result nodes.items) c.bare_nodes.result
    c.in_ok-queues.nodes c.in_ok-queues.ensures.second c.bare_nodes.ensures.ok) c.put_disks.ensures.disks
    c.new.ensures c.new-2.ensures refl in
    nodes-begin setup c.args.rows.now (length disks) set c.put_disks.new.self disks refl c.requires.few c.requires.whole
    made.queues made.nodes made.sessions made.active made.auto)

pub returns-clause-new : goal.returns-clause-new
returns-clause-new g c =
    (let disks = c.args.disks.now.items in
    let bare : Held g.row.D.Denot = record {
      queues = c.in_ok-queues.queues;
      nodes = c.in_ok-queues.nodes;
      sessions = c.new.result;
      active = c.new-2.result;
      auto = true;
      log_bytes = c.args.log_bytes;
    } in
    let made : IsMade c.args.rows.now disks c.put_disks.new.self =
    are-made c.args.rows.now disks c.len-count.result bare c.put_disks.new.self c.put_disks.ensures.same
    (of-ok (λ queues. AreQueuesFor c.args.rows.now queues.items) c.new_queues.result c.in_ok-queues.queues
    c.in_ok-queues.ensures.first c.new_queues.ensures.ok)
    (of-ok (λ nodes. AreBareNodes c.args.rows.now c.len-count.result nodes.items) c.bare_nodes.result
    c.in_ok-queues.nodes c.in_ok-queues.ensures.second c.bare_nodes.ensures.ok) c.put_disks.ensures.disks
    c.new.ensures c.new-2.ensures refl in
    new-nodes c.args.rows.now c.put_disks.new.self disks c.requires.set c.requires.few c.requires.whole made.queues
    made.nodes made.sessions made.active made.auto)

pub returns-clause-disks : goal.returns-clause-disks
returns-clause-disks g c =
    (let disks = c.args.disks.now.items in
    let bare : Held g.row.D.Denot = record {
      queues = c.in_ok-queues.queues;
      nodes = c.in_ok-queues.nodes;
      sessions = c.new.result;
      active = c.new-2.result;
      auto = true;
      log_bytes = c.args.log_bytes;
    } in
    let made : IsMade c.args.rows.now disks c.put_disks.new.self =
    are-made c.args.rows.now disks c.len-count.result bare c.put_disks.new.self c.put_disks.ensures.same
    (of-ok (λ queues. AreQueuesFor c.args.rows.now queues.items) c.new_queues.result c.in_ok-queues.queues
    c.in_ok-queues.ensures.first c.new_queues.ensures.ok)
    (of-ok (λ nodes. AreBareNodes c.args.rows.now c.len-count.result nodes.items) c.bare_nodes.result
    c.in_ok-queues.nodes c.in_ok-queues.ensures.second c.bare_nodes.ensures.ok) c.put_disks.ensures.disks
    c.new.ensures c.new-2.ensures refl in
    have-disks g.D.NodeDisk.facts c.args.rows.now disks c.put_disks.new.self made.nodes)
