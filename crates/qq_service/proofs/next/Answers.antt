use Rattle.std.proofs.Common.{ap, ◌∙◌}
use Rattle.qq_service.specs.Next.{next}
use Rattle.qq_service.proofs.NextLemmas.{next-queue}
use Rattle.qq_service.proofs.next.Goals as goal

pub returns-clause-queue : goal.returns-clause-queue
returns-clause-queue g c = λ rows all same.
    c.id_of.ensures ∙ c.next_standing.ensures ∙ ap (next c.args.single_active) same
    ∙ next-queue c.args.single_active rows all
