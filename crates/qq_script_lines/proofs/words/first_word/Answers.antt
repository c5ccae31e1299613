use Rattle.std.proofs.Common.{◌≡◌, ◌-◌, arith, rules}
use Rattle.qq_script_lines.proofs.FirstWords.{cut-before, cut-behind, first-and-rest, one-word}
use Rattle.qq_script_lines.proofs.words.first_word.Goals as goal

pub range-requires-clause-end_boundary : goal.range-requires-clause-end_boundary
range-requires-clause-end_boundary c = cut-before c.args.text.now c.in-Some.place (search rules)

pub range_from-requires : goal.range_from-requires
range_from-requires c = λ _. cut-behind c.args.text.now c.in-Some.place c.utf8.text (search rules)

pub returns-in-Some-clause-words : goal.returns-in-Some-clause-words
returns-in-Some-clause-words c =
    let whole : c.in-Some.place - 0 ≡ c.in-Some.place = omega arith in
    rw (c.range.ensures.value, c.range_from.ensures.value, whole)
    (first-and-rest c.args.text.now c.in-Some.place (search rules))

pub returns-in-None-clause-words : goal.returns-in-None-clause-words
returns-in-None-clause-words c = one-word c.args.text.now (search rules)
