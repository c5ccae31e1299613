use Rattle.std.proofs.Common.{◌≡◌, ◌++◌, drop, map}
use Rattle.qq_entry.specs.declared.command.DeadDone.{DeadDone}
use Rattle.qq_script.specs.Audit.{comma_before, numbers_text}
use Rattle.qq_script.proofs.audit.push_dead_numbers.Given as goal

-- what stands so far, and the numbers left, are the whole text
abbrev pub invariant-loop-dead : goal.invariant-loop-dead
invariant-loop-dead l =
    l.out.items ++ comma_before (map (λ (d : DeadDone). d.number) (drop l.dead-index l.rest)) ≡ l.fn.out.items ++
    numbers_text (map (λ (d : DeadDone). d.number) l.done)
