use Rattle.qq_model.specs.Step.{carry_out}
use Rattle.qq_laws.specs.Active.{active_id, consumers_after, DeliversOnlyTo}
use Rattle.qq_laws.proofs.ActiveLemmas.{active_alone}
use Rattle.std.proofs.lemmas.List.Elements.{All-from_recursion}
use Rattle.qq_laws.proofs.consumers.the_active_consumer_is_served_alone.Goals as goal

pub returns : goal.returns
returns c =
    λ s index command single. All-from_recursion (DeliversOnlyTo (active_id (consumers_after s index command)))
    (carry_out index command s).progress.effects (active_alone s index command single)
