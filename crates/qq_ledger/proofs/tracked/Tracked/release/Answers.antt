use Rattle.std.proofs.Common.{List, ap, ◌∙◌, subst}
use Rattle.qq_base.specs.declared.ids.Index.{Index}
use Rattle.qq_live.specs.Indices.{Removes}
use Rattle.qq_ledger.specs.Ledger.{Tracking}
use Rattle.qq_ledger.proofs.tracked.Tracked.release.Goals as goal

pub returns : goal.returns
returns g c =
    record {
      indices =
          subst (λ (xs : List Index). Removes xs c.args.live.now.indices c.remove_all.new.self.indices)
          (c.as_slice.ensures.value ∙ ap (λ (t : Tracking _). t.gone) c.self.view_is) c.remove_all.ensures.indices;
    }
