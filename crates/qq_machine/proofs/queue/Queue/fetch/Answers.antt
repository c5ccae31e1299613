use Rattle.std.proofs.Common.{ap, ◌∙◌}
use Rattle.qq_machine.specs.Reads.{fetched}
use Rattle.qq_machine.proofs.Reading.{fetch-is}
use Rattle.qq_machine.proofs.queue.Queue.fetch.Goals as goal

pub returns-clause-ok : goal.returns-clause-ok
returns-clause-ok c =
    c.in_ok-found.ensures.ok
    ∙ fetch-is c.args.from c.in-Some.row.now.consumer.id c.in-Some.row.now.out.items
    ∙ ap (fetched c.args.from) c.in-Some.ensures
