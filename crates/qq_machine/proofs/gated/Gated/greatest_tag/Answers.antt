use Rattle.std.proofs.Common.{ap, ◌∙◌}
use Rattle.qq_model.specs.Gate.{greatest_tag}
use Rattle.qq_machine.specs.Gated.{GatedState}
use Rattle.qq_machine.proofs.Gating.{begun-tag}
use Rattle.qq_machine.proofs.gated.Gated.greatest_tag.Goals as goal

pub returns : goal.returns
returns c =
    c.greatest_tag.ensures
    ∙ begun-tag c.self.inside.pending c.self.inside.sessions.known c.args.stamp.now
    (ap (λ (g : GatedState). g.pending) c.self.view_is ∙ c.requires)
    ∙ ap (λ (g : GatedState). greatest_tag c.args.stamp.now.session g.known) c.self.view_is
