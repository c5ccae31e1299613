use Rattle.std.proofs.Common.{ap}
use Rattle.qq_parts.specs.Parts.{Parts}
use Rattle.qq_parts.specs.Work.{with_parts}
use Rattle.qq_machine.specs.Views.{work_of}
use Rattle.qq_machine.proofs.Lists.{if-none}
use Rattle.qq_machine.proofs.queue.Draft.drop_head.Goals as goal

pub returns-in-None-clause-still : goal.returns-in-None-clause-still
returns-in-None-clause-still c no_step =
    ap (λ (m : Parts). with_parts m (work_of c.args.args.now c.args.self.now))
    (if-none _ c.in-None.is c.in_ok-taken.ensures.still c.args.args.now)
