use Rattle.std.proofs.Common.{arith}
use Rattle.qq_script_lines.proofs.Counts.{most-small}
use Rattle.qq_script_lines.proofs.bodies.value_of.Goals as goal

pub overflow_mul-number : goal.overflow_mul-number
overflow_mul-number c =
    let bound = most-small c.loop-digit.digit-index (omega (arith, c.requires, c.loop-digit-test.true)) in
    omega (arith, bound, c.loop-digit.invariant.small)

pub overflow_add-number : goal.overflow_add-number
overflow_add-number c =
    let bound = most-small c.loop-digit.digit-index (omega (arith, c.requires, c.loop-digit-test.true)) in
    omega (arith, bound, c.loop-digit.invariant.small, c.from.ensures)
