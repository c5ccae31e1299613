use Rattle.std.proofs.Common.{List, None, sym, subst}
use Rattle.qq_entry.specs.Message.{new_message}
use Rattle.qq_entry.specs.declared.command.Unstamped.TheVariants.{Enqueue}
use Rattle.qq_entry.specs.declared.message.Death.{Death}
use Rattle.qq_entry.specs.declared.message.Message.{Message}
use Rattle.qq_queue.specs.Range.{MayStamp}
use Rattle.qq_broker.proofs.Bodies.{publish-stamps}
use Rattle.qq_broker.proofs.routing.publish_with.Goals as goal

pub returns-clause-stamps : goal.returns-clause-stamps
returns-clause-stamps c =
    subst (λ (m : Message). MayStamp (Enqueue None m)) (sym c.in_ok-message.ensures.ok)
    (subst
    (λ (deaths : List Death).
    MayStamp (Enqueue None (new_message (record { body = c.args.body; key = c.args.key; deaths = deaths }))))
    (sym c.new.ensures) (publish-stamps c.args.key c.args.body c.requires c.texts_are_utf8.ensures))
