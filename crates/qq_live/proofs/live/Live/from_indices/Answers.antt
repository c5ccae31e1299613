use Rattle.std.proofs.Common.{List, ◌∙◌, subst}
use Rattle.qq_base.specs.declared.ids.Index.{Index}
use Rattle.qq_live.specs.Indices.{Adds}
use Rattle.qq_live.proofs.Changes.{from-sorted}
use Rattle.qq_live.proofs.live.Live.from_indices.Goals as goal

pub returns-clause-ok : goal.returns-clause-ok
returns-clause-ok c =
    from-sorted c.args.indices.items c.sort_unstable_by_key.new.self.items c.reserve.new.self.indices
    c.add_all.new.self.indices c.sort_unstable_by_key.ensures.permutation
    (c.reserve.ensures.same ∙ c.new-live.ensures)
    (subst (λ (xs : List Index). Adds xs c.reserve.new.self.indices c.add_all.new.self.indices)
    c.as_slice.ensures.value c.add_all.ensures.indices)
