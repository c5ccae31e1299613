use Rattle.std.proofs.Common.{◌≡◌, ◌++◌, map}
use Rattle.std.specs.List.{range_with_len}
use Rattle.qq_cluster_run.specs.declared.drilling.Part.TheVariants.{Step}
use Rattle.qq_cluster_run.proofs.drilling.push_steps.Given as goal

abbrev pub invariant-loop-before : goal.invariant-loop-before
invariant-loop-before l = l.out.items ≡ l.initial.out.items ++ map Step (range_with_len 1 l.before)
