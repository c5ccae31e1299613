use Rattle.std.proofs.Common.{Option, ap, sym, ◌∙◌}
use Rattle.qq_entry.specs.declared.answer.Answer.TheVariants as answer
use Rattle.qq_entry.specs.declared.answer.Full.{Full}
use Rattle.qq_parts.specs.Parts.{Parts}
use Rattle.qq_parts.specs.Work.{say, with_parts}
use Rattle.qq_parts.specs.Commands.{parts_enqueue, parts_enqueue_by}
use Rattle.qq_machine.specs.Views.{work_of}
use Rattle.qq_machine.proofs.queue.Draft.enqueue.Goals as goal

pub returns-in_ok-arrive-in-None-clause-ok : goal.returns-in_ok-arrive-in-None-clause-ok
unfolding parts_enqueue
returns-in_ok-arrive-in-None-clause-ok c =
    ap (λ (o : Option Full). parts_enqueue_by o c.args.index c.args.message.now
    (work_of c.args.args.now c.args.self.now)) (sym c.in_ok-full.ensures.ok ∙ c.in-None.is)
    ∙ ap (λ (m : Parts). say answer.Confirmed (with_parts m (work_of c.args.args.now c.args.self.now)))
    (c.in_ok-arrive-in-None.ensures.ok c.args.args.now)
