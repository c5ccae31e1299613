use Rattle.std.proofs.Common.{Some, None, sym, ap, ◌∙◌}
use Rattle.qq_consuming.specs.Consumers.{consumer_at}
use Rattle.qq_consuming.specs.Consuming.{not_taken}
use Rattle.qq_consuming.proofs.KnownLemmas.{consumer-found}
use Rattle.qq_consuming.proofs.consumers.Consumers.not_taken_at.Goals as goal

pub returns-in-Some : goal.returns-in-Some
returns-in-Some c =
    c.not_taken.ensures
    ∙ ap (not_taken c.args.ids.now)
    (sym (consumer-found c.args.id c.self.inside.rows.entries (Some c.in-Some.consumer.now) c.self.invariant
    (sym c.in-Some.ensures.value)) ∙ ap (consumer_at c.args.id) c.self.view_is)

pub returns-in-None : goal.returns-in-None
returns-in-None c =
    c.not_taken-first.ensures
    ∙ ap (not_taken c.args.ids.now)
    (c.new_consumer-none.ensures
    ∙ sym (consumer-found c.args.id c.self.inside.rows.entries None c.self.invariant (sym c.in-None.ensures.value))
    ∙ ap (consumer_at c.args.id) c.self.view_is)
