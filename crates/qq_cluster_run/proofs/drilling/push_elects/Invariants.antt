use Rattle.std.proofs.Common.{◌≡◌, ◌++◌, map, take}
use Rattle.qq_cluster_run.specs.declared.drilling.Part.TheVariants.{Elect}
use Rattle.qq_cluster_run.proofs.drilling.push_elects.Given as goal

abbrev pub invariant-loop-node : goal.invariant-loop-node
invariant-loop-node l = l.out.items ≡ l.initial.out.items ++ map (Elect l.queue) (take l.node-index l.nodes)
