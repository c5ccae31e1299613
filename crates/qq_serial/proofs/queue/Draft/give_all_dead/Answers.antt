use Rattle.std.proofs.Common.{arith}
use Rattle.qq_model.specs.Serving.{give_dead}
use Rattle.qq_serial.specs.Views.{progress_of}
use Rattle.qq_serial.proofs.While.{while_next-more}
use Rattle.qq_serial.proofs.queue.Draft.give_all_dead.Goals as goal

pub rounds-preserved : goal.rounds-preserved
rounds-preserved c =
    while_next-more c.dead_count-dead.result c.rounds._round give_dead (progress_of c.args.store.now c.rounds.self)
    (progress_of c.args.store.now c.give_dead.new.self) _ c.in_ok-give_dead.field-0 (omega arith)
    c.in_ok-give_dead.ensures.ok c.if-not-branch.false c.rounds.invariant
