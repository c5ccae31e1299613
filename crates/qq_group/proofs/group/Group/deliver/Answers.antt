use Rattle.std.proofs.lemmas.Result.{on_ok_weaker, on_err_weaker}
use Rattle.qq_group.proofs.Travel.{adds-delivered, adds-refused, delivered, refused, undelivered}
use Rattle.qq_group.proofs.group.Group.deliver.Goals as goal

pub returns-in_default-clause-ok : goal.returns-in_default-clause-ok
returns-in_default-clause-ok g c =
    undelivered g.L.LogView.log c.args.place c.args.self.now c.take_message.new.self c.in_default.ensures.none
    c.take_message.ensures.rest

pub returns-clause-ok : goal.returns-clause-ok
returns-clause-ok g c =
    on_ok_weaker c.hand_on.result
    (delivered g.L.LogView.log c.what_a_group_committed_stays.ensures.audit c.args.place c.in-Some.rpc c.args.self.now
    c.take_message.new.self c.hand_on.new.self c.in-Some.ensures.some c.take_message.ensures.rest) c.hand_on.ensures.ok

pub returns-clause-err : goal.returns-clause-err
returns-clause-err g c =
    on_err_weaker c.hand_on.result
    (refused g.L.LogView.log c.args.place c.in-Some.rpc c.args.self.now c.take_message.new.self c.hand_on.new.self
    c.in-Some.ensures.some c.take_message.ensures.rest) c.hand_on.ensures.err

pub returns-clause-adds : goal.returns-clause-adds
returns-clause-adds g c =
    on_ok_weaker c.hand_on.result
    (adds-delivered g.L.LogView.log c.args.place c.in-Some.rpc c.args.self.now c.take_message.new.self c.hand_on.new.self
    c.in-Some.ensures.some c.take_message.ensures.rest) c.hand_on.ensures.adds

pub returns-clause-adds_err : goal.returns-clause-adds_err
returns-clause-adds_err g c =
    on_err_weaker c.hand_on.result
    (adds-refused c.args.place c.args.self.now c.take_message.new.self c.hand_on.new.self c.take_message.ensures.rest)
    c.hand_on.ensures.adds_err
