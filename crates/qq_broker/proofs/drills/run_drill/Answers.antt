use Rattle.std.proofs.Common.{inr}
use Rattle.qq_broker.proofs.drills.run_drill.Goals as goal

pub returns-in-Ok-clause-ends : goal.returns-in-Ok-clause-ends
returns-in-Ok-clause-ends g c = λ source.
    inr (record { setup = c.in-Ok.setup; is_setup = c.in-Ok.ensures.ok; ends = c.begin_drill.ensures.ends source })
