use Rattle.std.proofs.Common.{length, ap, sym, ◌∙◌}
use Rattle.qq_consuming.specs.Consuming.{Received}
use Rattle.qq_consuming.proofs.HandingLemmas.{values-length}
use Rattle.qq_consuming.proofs.consuming.Consuming.waiting_count.Goals as goal

pub returns-clause-count : goal.returns-clause-count
returns-clause-count c =
    c.len.ensures.len ∙ sym (values-length c.self.inside.waiting.entries)
    ∙ ap (λ (r : Received). length r.waiting) c.self.view_is
