use Rattle.qq_model.specs.State.{empty_queue}
use Rattle.qq_queue.proofs.Serially.{serial}
use Rattle.qq_queue.proofs.laws.a_row_is_of_the_serial_audit.Goals as goal

pub returns : goal.returns
returns c = λ args h event old new rows reached was follows shown most all.
    serial args new.audit.items rows
    (c.each_row_is_of_the_audit.ensures.rows (empty_queue args) h event old new rows reached was follows shown most all)
