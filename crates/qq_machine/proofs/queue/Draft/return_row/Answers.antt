use Rattle.std.proofs.Common.{ℕ, ap, sym, ◌∙◌}
use Rattle.qq_consumer.specs.Roster.{item_at}
use Rattle.qq_machine.specs.Views.{work_of, return_counted}
use Rattle.qq_machine.proofs.Ending.{return-is}
use Rattle.qq_machine.proofs.queue.Draft.return_row.Goals as goal

pub returns-clause-ok : goal.returns-clause-ok
returns-clause-ok c place =
    return-is (item_at place c.args.row) (work_of c.args.args.now c.args.self.now)
    ∙ ap (λ (n : ℕ). return_counted (item_at place (record (c.args.row) { count = n }))
    (work_of c.args.args.now c.args.self.now)) (sym c.in_ok-count.ensures.ok)
    ∙ c.in_ok-return_counted.ensures.ok place
