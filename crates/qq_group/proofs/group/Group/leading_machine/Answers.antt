use Rattle.std.proofs.Common.{Option, ap, ◌∙◌}
use Rattle.std.specs.Prelude.{is_none}
use Rattle.qq_base.specs.declared.ids.NodeId.{NodeId}
use Rattle.qq_group.specs.Reads.{machine_of}
use Rattle.qq_group.proofs.Leaders.{copied-none, leading-none}
use Rattle.qq_group.proofs.group.Group.leading_machine.Goals as goal

pub returns-in-Some-clause-none : goal.returns-in-Some-clause-none
returns-in-Some-clause-none g c =
    let group = c.args.self.now in
    copied-none c.machine.result
    ∙ ap (λ (o : Option g.row.Q.Denot). is_none o) c.machine.ensures
    ∙ ap (λ (o : Option NodeId). is_none (machine_of o group)) c.in-Some.ensures
    ∙ leading-none g.L.LogView.log group
