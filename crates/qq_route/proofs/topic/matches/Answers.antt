use Rattle.std.proofs.Common.{sym, ap, ◌∙◌}
use Rattle.qq_route.specs.Words.{left}
use Rattle.qq_route.proofs.Walks.{taken, walk-taken}
use Rattle.qq_route.proofs.topic.matches.Goals as goal

pub returns-in-Ends : goal.returns-in-Ends
returns-in-Ends c = ap taken c.in-Ends.ensures ∙ sym (walk-taken (left c.args.pattern) (left c.args.key))

pub returns-in-Fails : goal.returns-in-Fails
returns-in-Fails c = ap taken c.in-Fails.ensures ∙ sym (walk-taken (left c.args.pattern) (left c.args.key))

pub returns-in-Comes : goal.returns-in-Comes
returns-in-Comes c =
    c.matches_from_any.ensures ∙ ap taken c.in-Comes.ensures
    ∙ sym (walk-taken (left c.args.pattern) (left c.args.key))
