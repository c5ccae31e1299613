use Rattle.std.proofs.Common.{Option, sym, ap, ◌∙◌}
use Rattle.std.proofs.lemmas.Bool.{cond-false}
use Rattle.qq_entry.specs.declared.answer.Answer.TheVariants as answer
use Rattle.qq_parts.specs.Parts.{Parts}
use Rattle.qq_parts.specs.Changes.{Taken}
use Rattle.qq_parts.specs.Work.{say, with_parts}
use Rattle.qq_parts.specs.Commands.{parts_get, parts_get_by}
use Rattle.qq_machine.specs.Views.{work_of}
use Rattle.qq_machine.proofs.Lists.{if-none}
use Rattle.qq_machine.proofs.queue.Draft.get.Goals as goal

pub returns-in-None-clause-ok : goal.returns-in-None-clause-ok
unfolding parts_get
returns-in-None-clause-ok c =
    cond-false _ _ _ c.if-args.false
    ∙ ap (λ (o : Option Taken). parts_get_by o (work_of c.args.args.now c.args.self.now))
    (if-none _ c.in-None.is c.in_ok-taken.ensures.none c.args.args.now)
    ∙ ap (λ (m : Parts). say answer.Empty (with_parts m (work_of c.args.args.now c.args.self.now)))
    (sym (if-none _ c.in-None.is c.in_ok-taken.ensures.still c.args.args.now))
