use Rattle.std.proofs.Common.{◌≡◌, ◌≤◌, drop, fold}
use Rattle.qq_script_lines.specs.Numbers.{push_digit, value_of}
use Rattle.qq_script_lines.proofs.Counts.{most}
use Rattle.qq_script_lines.proofs.bodies.value_of.Given as goal

-- the digits left give now what all gave at first
abbrev pub invariant-loop-digit : goal.invariant-loop-digit
invariant-loop-digit l = record {
  value : fold push_digit l.number (drop l.digit-index l.digits) ≡ value_of l.digits;
  small : l.number ≤ most l.digit-index;
}
