use Rattle.std.proofs.Common.{◌++◌, ap, ◌∙◌}
use Rattle.qq_ready.specs.Queue.{ReadyState}
use Rattle.qq_dead.specs.Letters.{DeadState}
use Rattle.qq_consumer.specs.Roster.{Roster}
use Rattle.qq_ledger.specs.Ledger.{ready_indices, out_indices, dead_indices}
use Rattle.qq_machine.specs.Views.{content_of}
use Rattle.qq_machine.proofs.Lows.{gathered}
use Rattle.qq_machine.proofs.queue.Queue.live_messages.Goals as goal

pub returns-clause-ok : goal.returns-clause-ok
returns-clause-ok c =
    gathered (content_of c.args.self.now) c.in_ok-live.live.indices c.new-indices.result.items
    c.push_ready.new.indices.items c.push_consumers.new.indices.items c.push_dead.new.indices.items c.new-indices.ensures.items
    (c.in_ok-push_ready.ensures.ok
    ∙ ap (λ (r : ReadyState). c.new-indices.result.items ++ ready_indices r.queue) c.store.ensures)
    (c.in_ok-push_consumers.ensures.ok
    ∙ ap (λ (r : Roster). c.push_ready.new.indices.items ++ out_indices r.served) c.table.ensures)
    (c.in_ok-push_dead.ensures.ok
    ∙ ap (λ (d : DeadState). c.push_consumers.new.indices.items ++ dead_indices d.letters) c.store-2.ensures)
    c.in_ok-live.ensures.ok
