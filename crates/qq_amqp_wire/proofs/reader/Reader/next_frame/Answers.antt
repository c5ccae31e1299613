use Rattle.qq_amqp_wire.proofs.ReaderLaws.{hands_out, waits, stops, whole_is, fault_is, stopped_is}
use Rattle.qq_amqp_wire.proofs.reader.Reader.next_frame.Goals as goal

pub returns-clause-frame : goal.returns-clause-frame
returns-clause-frame c =
    hands_out c.args.self.now c.step.new.self c.step.result c.step.ensures.bytes c.step.ensures.exact
    c.step.ensures.left

pub returns-clause-none : goal.returns-clause-none
returns-clause-none c =
    waits c.args.self.now c.step.new.self c.step.result c.step.ensures.bytes c.step.ensures.exact c.step.ensures.left

pub returns-clause-err : goal.returns-clause-err
returns-clause-err c =
    stops c.args.self.now c.step.new.self c.step.result c.step.ensures.bytes c.step.ensures.exact c.step.ensures.left

pub returns-clause-whole : goal.returns-clause-whole
returns-clause-whole c = whole_is c.args.self.now c.step.result c.step.ensures.exact

pub returns-clause-fault : goal.returns-clause-fault
returns-clause-fault c = fault_is c.args.self.now c.step.result c.step.ensures.bytes c.step.ensures.exact

pub returns-clause-stopped : goal.returns-clause-stopped
returns-clause-stopped c = stopped_is c.args.self.now c.step.result c.step.ensures.exact
