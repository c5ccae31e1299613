use Rattle.std.proofs.Common.{List, ap, ◌∙◌, subst}
use Rattle.qq_base.specs.declared.ids.Index.{Index}
use Rattle.qq_live.specs.Indices.{Removes}
use Rattle.qq_machine.specs.Counted.{RosterTracked}
use Rattle.qq_machine.proofs.counted.Counted.release.Goals as goal

pub returns : goal.returns
returns c =
    record {
      indices =
          subst (λ (xs : List Index). Removes xs c.args.live.now.indices c.remove_all.new.self.indices)
          (c.as_slice.ensures.value ∙ ap (λ (t : RosterTracked). t.gone) c.self.view_is) c.remove_all.ensures.indices;
    }
