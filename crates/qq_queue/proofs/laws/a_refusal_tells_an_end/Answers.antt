use Rattle.qq_base.specs.declared.memory.Memory.TheVariants.{Spent}
use Rattle.qq_queue.proofs.Refusing.{told-ends}
use Rattle.qq_queue.proofs.laws.a_refusal_tells_an_end.Goals as goal

pub returns : goal.returns
returns c = λ event group number sound cause.
    told-ends number (c.a_refusal_tells_want_or_an_end.ensures event group (Spent number) sound cause)
