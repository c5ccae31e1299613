use Rattle.qq_consumer.specs.Roster.{item_at}
use Rattle.qq_machine.specs.Views.{work_of, parts_of}
use Rattle.qq_machine.proofs.Ending.{dies-kept}
use Rattle.qq_machine.proofs.queue.Draft.die.Goals as goal

pub returns-in_ok-push_dead-in-AtLeastOnce-clause-ok : goal.returns-in_ok-push_dead-in-AtLeastOnce-clause-ok
returns-in_ok-push_dead-in-AtLeastOnce-clause-ok c place =
    dies-kept c.args.reason (item_at place c.args.row) (work_of c.args.args.now c.args.self.now)
    (parts_of c.args.args.now c.push_dead.new.self) c.in-AtLeastOnce.is
    (c.in_ok-push_dead-in-AtLeastOnce.ensures.ok place c.args.args.now)
