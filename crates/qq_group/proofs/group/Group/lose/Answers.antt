use Rattle.qq_group.proofs.Travel.{lost-makes}
use Rattle.qq_group.proofs.group.Group.lose.Goals as goal

pub returns-clause-made : goal.returns-clause-made
returns-clause-made g c =
    lost-makes g.L.LogView.log c.args.place c.args.self.now c.take_message.new.self c.take_message.ensures.rest
