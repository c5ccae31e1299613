use Rattle.std.proofs.Common.{refl, ap, arith}
use Rattle.qq_cluster.specs.declared.nodes.Nodes.{Nodes as Held}
use Rattle.qq_cluster.proofs.Putting.{taken-all, taken-log, taken-next, taken-none}
use Rattle.qq_cluster.proofs.nodes.Nodes.take_disks.Goals as goal

pub nodes-init : goal.nodes-init
nodes-init g c = record {
  same = refl;
  takes = taken-none c.args.self.now.nodes.items c.args.disks.now.items c.requires.empty;
  room = c.requires.room;
}

pub take_in-disk-requires-clause-place : goal.take_in-disk-requires-clause-place
take_in-disk-requires-clause-place g c =
    let count = c.nodes.invariant.takes.count in
    let many = c.len-count.ensures in
    let whole = c.args.self.now.nodes.ok.0 in
    omega (arith, count, many, whole)

pub take_in-disk-requires-clause-own : goal.take_in-disk-requires-clause-own
take_in-disk-requires-clause-own g c =
    taken-log c.nodes.at c.args.self.now.nodes.items c.nodes.self.nodes.items c.nodes.disks.items
    c.nodes.invariant.takes c.requires.own

pub push_reserved-requires : goal.push_reserved-requires
push_reserved-requires g c =
    let room = c.nodes.invariant.room in
    let many = c.nodes.invariant.takes.many in
    let own = c.nodes.disks.ok.0 in
    let count = c.len-count.ensures in
    let whole = c.args.self.now.nodes.ok.0 in
    omega (arith, room, many, own, count, whole)

pub nodes-preserved : goal.nodes-preserved
nodes-preserved g c = record {
  same = ap (λ (h : Held g.row.D.Denot). record h { nodes = c.take_in-disk.new.nodes }) c.nodes.invariant.same;
  takes = taken-next c.nodes.at c.args.self.now.nodes.items c.nodes.self.nodes.items c.take_in-disk.new.nodes.items
      c.nodes.disks.items c.push_reserved.new.self.items c.take_in-disk.result c.nodes.invariant.takes
      c.take_in-disk.ensures c.push_reserved.ensures.items;
  room = (let room = c.nodes.invariant.room in
      let same = c.push_reserved.ensures.capacity in
      omega (arith, room, same));
}

pub returns-clause-same : goal.returns-clause-same
returns-clause-same g c = c.nodes.invariant.same

pub returns-clause-disks : goal.returns-clause-disks
returns-clause-disks g c =
    taken-all c.nodes.at c.args.self.now.nodes.items c.nodes.self.nodes.items c.nodes.disks.items
    (let many = c.len-count.ensures in let whole = c.args.self.now.nodes.ok.0 in omega (arith, many, whole))
    c.nodes.invariant.takes
