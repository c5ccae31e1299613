use Rattle.std.proofs.Common.{arith}
use Rattle.qq_model.specs.Serving.{drop_head}
use Rattle.qq_serial.specs.Views.{progress_of}
use Rattle.qq_serial.proofs.While.{while_next-more}
use Rattle.qq_serial.proofs.queue.Draft.keep_limits.Goals as goal

pub rounds-preserved : goal.rounds-preserved
rounds-preserved c =
    while_next-more c.ready_count-ready.result c.rounds._round drop_head
    (progress_of c.args.store.now c.rounds.self) (progress_of c.args.store.now c.drop_head.new.self) _
    c.in_ok-drop_head.field-0 (omega arith) c.in_ok-drop_head.ensures.ok c.if-not-branch.false c.rounds.invariant
