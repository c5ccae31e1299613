use Rattle.std.proofs.Common.{ap, ◌∙◌}
use Rattle.qq_entry.specs.declared.queue.QueueArgs.{QueueArgs}
use Rattle.qq_machine.specs.Views.{parts_of}
use Rattle.qq_machine.proofs.Lows.{copy-holds}
use Rattle.qq_machine.proofs.machine.Machine.copy.Goals as goal

pub returns-clause-ok : goal.returns-clause-ok
returns-clause-ok c =
    c.in-Ok-copy-2.ensures.ok c.in-Ok-copy.args
    ∙ ap (λ (a : QueueArgs). parts_of a c.self.inside.draft.queue) c.in-Ok-copy.ensures.ok ∙ c.self.view_is

pub invariant_of-result : goal.invariant_of-result
invariant_of-result c = (
  c.in-Ok-copy-2.ensures.committed,
  c.new-effects.ensures.items,
  copy-holds c.self.inside.args c.self.inside.draft.queue c.in-Ok-copy-2.queue c.self.inside.live.indices
      c.in-Ok.live.indices c.self.invariant.2 c.in-Ok.ensures.ok (c.in-Ok-copy-2.ensures.ok c.self.inside.args),
)
