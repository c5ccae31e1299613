use Rattle.std.proofs.Common.{sym, subst}
use Rattle.qq_queue.specs.Range.{IsClient}
use Rattle.qq_queue.proofs.Ranges.{client-answers}
use Rattle.qq_queue.proofs.publisher.Publisher.take_answer.Goals as goal

pub invariant_of-self : goal.invariant_of-self
invariant_of-self c =
    subst IsClient (sym c.answer.ensures.after)
    (client-answers c.seq_of.result c.args.row.now.answer c.self.inside.numbers c.self.invariant)
