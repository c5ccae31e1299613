use Rattle.std.proofs.Common.{sym, ap, ◌∙◌}
use Rattle.indexmap.specs.IndexMap.{insert_entry}
use Rattle.qq_base.specs.Ids.{same_consumer}
use Rattle.qq_consuming.specs.Consumers.{know}
use Rattle.qq_consuming.proofs.KnownLemmas.{known, known-more, known-own}
use Rattle.qq_consuming.proofs.consumers.Consumers.know.Goals as goal

pub returns-then-contains_key-clause-ok : goal.returns-then-contains_key-clause-ok
returns-then-contains_key-clause-ok c =
    sym c.self.view_is
    ∙ sym (known c.args.id c.self.inside.rows.entries c.self.invariant
    (sym c.contains_key.ensures ∙ c.if-contains_key.true))
    ∙ ap (know c.args.id) c.self.view_is

pub invariant_of-self-2 : goal.invariant_of-self-2
invariant_of-self-2 c =
    known-own c.args.id c.self.inside.rows.entries c.insert.new.self.entries c.self.invariant
    (sym c.contains_key.ensures ∙ c.if-contains_key.false)
    (c.in_ok-insert.ensures.entries
    ∙ ap (insert_entry same_consumer c.self.inside.rows.entries c.args.id) c.new_consumer-consumer.ensures)

pub returns-clause-ok : goal.returns-clause-ok
returns-clause-ok c =
    known-more c.args.id c.self.inside.rows.entries c.insert.new.self.entries c.self.invariant
    (sym c.contains_key.ensures ∙ c.if-contains_key.false)
    (c.in_ok-insert.ensures.entries
    ∙ ap (insert_entry same_consumer c.self.inside.rows.entries c.args.id) c.new_consumer-consumer.ensures)
    ∙ ap (know c.args.id) c.self.view_is
