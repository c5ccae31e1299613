use Rattle.std.proofs.Common.{◌-◌, ℕ, refl, ap, ◌∙◌, subst, arith}
use Rattle.qq_cluster.specs.Disks.{GetsDisk}
use Rattle.qq_cluster.specs.Logs.{NodeTurns}
use Rattle.qq_cluster.specs.declared.nodes.Nodes.{Nodes as Held}
use Rattle.qq_cluster.proofs.Putting.{put-all, put-next, put-none, put-some}
use Rattle.qq_cluster.proofs.nodes.Nodes.put_disks.Goals as goal

pub disks-init : goal.disks-init
disks-init g c = record {
  same = refl;
  puts = put-none c.args.disks.now.items c.args.self.now.nodes.items c.requires;
  room = refl;
}

pub put_in-requires : goal.put_in-requires
put_in-requires g c =
    let count = c.disks.invariant.puts.count in
    let many = c.len-count.ensures in
    let whole = c.args.self.now.nodes.ok.0 in
    omega (arith, count, many, whole)

-- there is a disk for each node that lacks its own
pub returns-in_default-clause-disks : goal.returns-in_default-clause-disks
returns-in_default-clause-disks g c =
    put-some c.disks.put c.args.disks.now.items c.args.self.now.nodes.items c.disks.self.nodes.items c.disks.disks.items
    (let many = c.len-count.ensures in let whole = c.args.self.now.nodes.ok.0 in omega (arith, many, whole))
    c.disks.invariant.puts
    (let none = c.in_default.ensures.cases.0 in let own = c.disks.disks.ok.0 in omega (arith, none, own))

pub returns-in_default-clause-empty : goal.returns-in_default-clause-empty
returns-in_default-clause-empty g c =
    put-some c.disks.put c.args.disks.now.items c.args.self.now.nodes.items c.disks.self.nodes.items c.disks.disks.items
    (let many = c.len-count.ensures in let whole = c.args.self.now.nodes.ok.0 in omega (arith, many, whole))
    c.disks.invariant.puts
    (let none = c.in_default.ensures.cases.0 in let own = c.disks.disks.ok.0 in omega (arith, none, own))

pub disks-preserved : goal.disks-preserved
disks-preserved g c = record {
  same = ap (λ (h : Held g.row.D.Denot). record h { nodes = c.put_in.new.nodes }) c.disks.invariant.same;
  puts = put-next c.disks.put c.args.disks.now.items c.args.self.now.nodes.items c.disks.self.nodes.items
      c.put_in.new.nodes.items c.disks.disks.items c.pop.new.self.items c.in-Some.disk c.disks.invariant.puts
      c.in-Some.ensures.items
      (subst (λ (n : ℕ). NodeTurns (GetsDisk c.in-Some.disk) (n - 1 - c.disks.put) c.disks.self.nodes.items
      c.put_in.new.nodes.items)
      (let many = c.len-count.ensures in let whole = c.args.self.now.nodes.ok.0 in many ∙ whole) c.put_in.ensures);
  room = c.in-Some.ensures.capacity ∙ c.disks.invariant.room;
}

pub returns-clause-same : goal.returns-clause-same
returns-clause-same g c = c.disks.invariant.same

pub returns-clause-disks : goal.returns-clause-disks
returns-clause-disks g c =
    (put-all c.disks.put c.args.disks.now.items c.args.self.now.nodes.items c.disks.self.nodes.items c.disks.disks.items
    c.requires (let many = c.len-count.ensures in let whole = c.args.self.now.nodes.ok.0 in omega (arith, many, whole))
    c.disks.invariant.puts).0

pub returns-clause-empty : goal.returns-clause-empty
returns-clause-empty g c =
    (put-all c.disks.put c.args.disks.now.items c.args.self.now.nodes.items c.disks.self.nodes.items c.disks.disks.items
    c.requires (let many = c.len-count.ensures in let whole = c.args.self.now.nodes.ok.0 in omega (arith, many, whole))
    c.disks.invariant.puts).1
