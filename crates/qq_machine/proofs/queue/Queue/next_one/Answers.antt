use Rattle.std.proofs.Common.{Bool, true, false, map, ap, sym, ◌∙◌, subst}
use Rattle.qq_service.specs.Next.{next}
use Rattle.qq_consumer.specs.Roster.{Roster, standing_one}
use Rattle.qq_machine.specs.Views.{IsNextIn}
use Rattle.qq_machine.proofs.NextOne.{next-is}
use Rattle.qq_machine.proofs.queue.Queue.next_one.Goals as goal

pub returns-then-single : goal.returns-then-single
returns-then-single c =
    subst (λ (b : Bool). IsNextIn b c.args.self.now.consumers.roster.served c.next.result) (sym c.if-single.true)
    (next-is true c.args.self.now.consumers.roster.served c.next.result c.len.ensures.apart
    (c.next.ensures.value ∙ ap (λ (r : Roster). next true (map standing_one r.served)) c.table.ensures))

pub returns-else-single : goal.returns-else-single
returns-else-single c =
    subst (λ (b : Bool). IsNextIn b c.args.self.now.consumers.roster.served c.next_waiting.result)
    (sym c.if-single.false)
    (next-is false c.args.self.now.consumers.roster.served c.next_waiting.result c.len.ensures.apart
    c.next_waiting.ensures)
