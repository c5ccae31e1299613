use Rattle.qq_machine.specs.Views.{work_of}
use Rattle.qq_machine.proofs.Draining.{credit-links}
use Rattle.qq_machine.proofs.queue.Draft.carry_out.Goals as goal

pub drain_after-requires : goal.drain_after-requires
drain_after-requires c =
    credit-links c.args.index c.args.command.now (work_of c.args.args.now c.args.self.now)
    (work_of c.args.args.now c.act.new.self) (work_of c.args.args.now c.check_out_all.new.self)
    c.in_ok-answer.answer c.in_ok-answer.ensures.ok c.in_default.ensures.ok
