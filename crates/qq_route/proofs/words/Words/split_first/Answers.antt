use Rattle.std.proofs.Common.{rules}
use Rattle.qq_route.proofs.Split.{at_dot}
use Rattle.qq_route.proofs.words.Words.split_first.Goals as goal

pub returns-in-Some : goal.returns-in-Some
returns-in-Some c =
    let cut = at_dot c.in_ok-text.text.now c.split_once.result c.split_once.ensures.cases in
    search (rules, cut)

pub returns-in-None : goal.returns-in-None
returns-in-None c =
    let cut = at_dot c.in_ok-text.text.now c.split_once.result c.split_once.ensures.cases in
    search (rules, cut)
