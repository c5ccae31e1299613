use Rattle.std.proofs.Common.{◌≡◌, true, rules}
use Rattle.qq_script_lines.specs.Numbers.{is_number}
use Rattle.qq_script_lines.proofs.Writings.{number_is, too_large, is_below, is_above, is_among}
use Rattle.qq_script_lines.proofs.numbers.number_in.Goals as goal

pub returns-in_default-clause-value : goal.returns-in_default-clause-value
returns-in_default-clause-value c =
    let is : is_number c.args.word.now ≡ true = search rules in
    too_large c.args.first c.args.last c.args.word.now c.in_default.ensures.value.0 is c.ranges.last.fits

pub returns-then-number-first-clause-value : goal.returns-then-number-first-clause-value
returns-then-number-first-clause-value c =
    let is : is_number c.args.word.now ≡ true = search rules in
    is_below c.args.first c.args.last c.in-Ok.number c.args.word.now
    (number_is c.args.word.now c.in-Ok.number c.in-Ok.ensures.value.0 is) c.if-number-first.true

pub returns-then-last-number-clause-value : goal.returns-then-last-number-clause-value
returns-then-last-number-clause-value c =
    let is : is_number c.args.word.now ≡ true = search rules in
    is_above c.args.first c.args.last c.in-Ok.number c.args.word.now
    (number_is c.args.word.now c.in-Ok.number c.in-Ok.ensures.value.0 is) c.if-last-number.true

pub returns-clause-value : goal.returns-clause-value
returns-clause-value c =
    let is : is_number c.args.word.now ≡ true = search rules in
    is_among c.args.first c.args.last c.in-Ok.number c.args.word.now
    (number_is c.args.word.now c.in-Ok.number c.in-Ok.ensures.value.0 is) c.if-number-first.false c.if-last-number.false
