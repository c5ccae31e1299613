use Rattle.std.proofs.Common.{ap, ◌∙◌}
use Rattle.qq_live.specs.Indices.{LiveState, least}
use Rattle.qq_live.proofs.Sums.{first-least}
use Rattle.qq_live.proofs.live.Live.low.Goals as goal

pub returns : goal.returns
returns c =
    c.first_index.ensures
    ∙ first-least c.self.inside.slots.items c.self.invariant.fronted.rising c.self.invariant.fronted.front
    ∙ ap (λ (l : LiveState). least l.indices) c.self.view_is
