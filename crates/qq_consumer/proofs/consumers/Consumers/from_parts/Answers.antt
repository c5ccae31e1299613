use Rattle.std.proofs.Common.{List, [], ◌∷◌, ◌++◌, map, sym, ap, ◌∙◌, subst}
use Rattle.std.specs.List.{AllByRecursion}
use Rattle.std.proofs.lemmas.List.{append_assoc}
use Rattle.qq_parts.specs.Parts.{Served, HasOut, AreApart}
use Rattle.qq_consumer.specs.declared.row.ConsumerRow.{ConsumerRow}
use Rattle.qq_consumer.specs.Roster.{Roster, served_of}
use Rattle.qq_consumer.specs.Turns.{HasDrawn, TurnsDiffer}
use Rattle.qq_consumer.proofs.Keeping.{IsNeeded}
use Rattle.qq_consumer.proofs.Copying.{each-middle, free-middle}
use Rattle.qq_consumer.proofs.Restoring.{parts-are, differ-middle}
use Rattle.qq_consumer.proofs.consumers.Consumers.from_parts.Goals as goal

pub put_back-requires-clause-free : goal.put_back-requires-clause-free
put_back-requires-clause-free c =
    free-middle c.rows.consumers.roster.served (served_of c.in-Some.row) (map served_of c.pop_front.new.self.items)
    (subst AreApart (parts-are c.rows.consumers.roster.served c.in-Some.row _
    c.pop_front.new.self.items _ c.rows.invariant.0 c.in-Some.ensures.items) c.requires.apart)

pub put_back-requires-clause-out : goal.put_back-requires-clause-out
put_back-requires-clause-out c =
    each-middle HasOut c.rows.consumers.roster.served (served_of c.in-Some.row)
    (map served_of c.pop_front.new.self.items) (subst (AllByRecursion HasOut) (parts-are c.rows.consumers.roster.served c.in-Some.row _
    c.pop_front.new.self.items _ c.rows.invariant.0 c.in-Some.ensures.items) c.requires.out)

pub put_back-requires-clause-needed : goal.put_back-requires-clause-needed
put_back-requires-clause-needed c =
    each-middle IsNeeded c.rows.consumers.roster.served (served_of c.in-Some.row)
    (map served_of c.pop_front.new.self.items) (subst (AllByRecursion IsNeeded) (parts-are c.rows.consumers.roster.served c.in-Some.row _
    c.pop_front.new.self.items _ c.rows.invariant.0 c.in-Some.ensures.items) c.requires.needed)

pub put_back-requires-clause-drawn : goal.put_back-requires-clause-drawn
put_back-requires-clause-drawn c =
    subst (λ n. HasDrawn n (served_of c.in-Some.row)) (sym c.rows.invariant.1)
    (each-middle (HasDrawn c.args.turns) c.rows.consumers.roster.served (served_of c.in-Some.row)
    (map served_of c.pop_front.new.self.items)
    (subst (AllByRecursion (HasDrawn c.args.turns)) (parts-are c.rows.consumers.roster.served c.in-Some.row _
    c.pop_front.new.self.items _ c.rows.invariant.0 c.in-Some.ensures.items) c.requires.turns.drawn))

pub put_back-requires-clause-turns : goal.put_back-requires-clause-turns
put_back-requires-clause-turns c =
    differ-middle c.rows.consumers.roster.served (served_of c.in-Some.row) (map served_of c.pop_front.new.self.items)
    (subst TurnsDiffer (parts-are c.rows.consumers.roster.served c.in-Some.row _
    c.pop_front.new.self.items _ c.rows.invariant.0 c.in-Some.ensures.items) c.requires.turns.differ)

pub rows-preserved : goal.rows-preserved
rows-preserved c =
    let done : List Served = c.rows.consumers.roster.served in
    let rest : List ConsumerRow = c.pop_front.new.self.items in (
      ap (λ (r : Roster). r.served ++ map served_of rest) c.in_ok-put_back.ensures.ok
          ∙ append_assoc done (served_of c.in-Some.row ∷ []) (map served_of rest)
          ∙ ap (λ (rows : List ConsumerRow). done ++ map served_of rows) (sym c.in-Some.ensures.items) ∙ c.rows.invariant.0,
      ap (λ (r : Roster). r.turns) c.in_ok-put_back.ensures.ok ∙ c.rows.invariant.1,
    )
