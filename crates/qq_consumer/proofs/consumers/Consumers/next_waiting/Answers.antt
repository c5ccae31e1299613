use Rattle.std.proofs.Common.{false, map, ap, ◌∙◌}
use Rattle.std.specs.Option.{option_map}
use Rattle.qq_base.specs.declared.ids.ConsumerId.{ConsumerId}
use Rattle.qq_service.specs.Next.{next}
use Rattle.qq_consumer.specs.declared.rising.Numbered.{Numbered}
use Rattle.qq_consumer.specs.Roster.{ConsumersState, standing_one}
use Rattle.qq_consumer.proofs.NextOne.{next-is}
use Rattle.qq_consumer.proofs.consumers.Consumers.next_waiting.Goals as goal

pub returns-in-None : goal.returns-in-None
returns-in-None c =
    ap (option_map (λ (w : Numbered ConsumerId). w.item)) c.in-None.ensures
    ∙ next-is c.self.inside.joined.served c.self.inside.turns c.self.inside.waiting.items c.len.ensures.apart
    c.self.invariant.now_kept.queue
    ∙ ap (λ (s : ConsumersState). next false (map standing_one s.roster.served)) c.self.view_is

pub returns-in-Some : goal.returns-in-Some
returns-in-Some c =
    ap (option_map (λ (w : Numbered ConsumerId). w.item)) c.in-Some.ensures
    ∙ next-is c.self.inside.joined.served c.self.inside.turns c.self.inside.waiting.items c.len.ensures.apart
    c.self.invariant.now_kept.queue
    ∙ ap (λ (s : ConsumersState). next false (map standing_one s.roster.served)) c.self.view_is
