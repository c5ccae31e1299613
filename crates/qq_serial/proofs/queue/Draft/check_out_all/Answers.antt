use Rattle.std.proofs.Common.{arith}
use Rattle.qq_model.specs.Serving.{check_out}
use Rattle.qq_serial.specs.Views.{progress_of}
use Rattle.qq_serial.proofs.While.{while_next-more}
use Rattle.qq_serial.proofs.queue.Draft.check_out_all.Goals as goal

pub rounds-preserved : goal.rounds-preserved
rounds-preserved c =
    while_next-more c.ready_count-ready.result c.rounds._round check_out
    (progress_of c.args.store.now c.rounds.self) (progress_of c.args.store.now c.check_out.new.self) _
    c.in_ok-check_out.field-0 (omega arith) c.in_ok-check_out.ensures.ok c.if-not-branch.false c.rounds.invariant
