use Rattle.std.proofs.Common.{sym, ◌∙◌}
use Rattle.qq_route.specs.Words.{left}
use Rattle.qq_route.proofs.Walks.{at_end_of_both, at_hash, passed_over, none_left, shorter}
use Rattle.qq_route.proofs.topic.matches_from_any.Goals as goal

pub returns-in-Ends : goal.returns-in-Ends
returns-in-Ends c =
    sym (at_end_of_both (left c.places.pattern) (left c.places.key) (sym c.in-Ends.ensures)) ∙ c.places.invariant

pub places-preserved-in-Comes : goal.places-preserved-in-Comes
places-preserved-in-Comes c =
    sym (at_hash (left c.places.pattern) (left c.places.key) (left c.in-Comes.patterns) (left c.in-Comes.rest)
    (sym c.in-Comes.ensures)) ∙ c.places.invariant

pub places-smaller-in-Comes : goal.places-smaller-in-Comes
places-smaller-in-Comes c =
    shorter (left c.places.pattern) (left c.places.key) (left c.in-Comes.patterns) (left c.in-Comes.rest)
    (sym c.in-Comes.ensures)

pub places-preserved : goal.places-preserved
places-preserved c =
    passed_over (left c.places.pattern) (left c.places.key) _ (left c.in-Some.rest) c.in-Some.ensures
    (sym c.in-Fails.ensures) ∙ c.places.invariant

pub returns-in-None : goal.returns-in-None
returns-in-None c =
    none_left (left c.places.pattern) (left c.places.key) c.in-None.ensures (sym c.in-Fails.ensures)
    ∙ c.places.invariant
