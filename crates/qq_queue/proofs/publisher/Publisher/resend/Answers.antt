use Rattle.std.proofs.Common.{List, sym, subst}
use Rattle.std.specs.List.{AllByRecursion}
use Rattle.std.proofs.lemmas.Result.{IfOk-weaker}
use Rattle.qq_entry.specs.declared.command.Command.{Command}
use Rattle.qq_queue.specs.Range.{HasBytes}
use Rattle.qq_queue.proofs.Ranges.{open-bytes}
use Rattle.qq_queue.proofs.publisher.Publisher.resend.Goals as goal

pub returns-clause-bytes : goal.returns-clause-bytes
returns-clause-bytes c =
    IfOk-weaker c.resend.result _ _
    (λ commands is. subst (λ (l : List Command). AllByRecursion HasBytes l) (sym is)
    (open-bytes c.self.inside.numbers c.self.invariant)) c.resend.ensures.ok
