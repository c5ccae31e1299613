use Rattle.std.proofs.Common.{arith}
use Rattle.qq_model.specs.Commands.{return_first}
use Rattle.qq_serial.specs.Views.{progress_of}
use Rattle.qq_serial.proofs.While.{while_next-more}
use Rattle.qq_serial.proofs.queue.Draft.return_all.Goals as goal

pub rounds-preserved : goal.rounds-preserved
rounds-preserved c =
    while_next-more c.out_count-out.result c.rounds._round (return_first c.args.consumer.id)
    (progress_of c.args.store.now c.rounds.self) (progress_of c.args.store.now c.return_first.new.self) _
    c.in_ok-return_first.field-0 (omega arith) c.in_ok-return_first.ensures.ok c.if-not-branch.false
    c.rounds.invariant
