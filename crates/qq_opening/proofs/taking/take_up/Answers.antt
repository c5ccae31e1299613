use Rattle.qq_base.proofs.Exits.{at_exit}
use Rattle.qq_opening.proofs.FoundStands.{check-caused, find-caused, found-stands, log-within}
use Rattle.qq_opening.proofs.taking.take_up.Goals as goal

pub find-requires-clause-ends : goal.find-requires-clause-ends
find-requires-clause-ends c =
    log-within c.args.id c.args.lane c.log_of_lane-log.result.room c.log_of_lane-log.result c.log_of_lane-log.ensures
    c.requires.ends

pub find-requires-clause-whole : goal.find-requires-clause-whole
find-requires-clause-whole c = c.in_ok-check_log.ensures.ok.base

pub returns-in_err-check_log-clause-cause : goal.returns-in_err-check_log-clause-cause
returns-in_err-check_log-clause-cause c =
    at_exit _ _ c.from_residual.ensures.1 (check-caused c.args.node.0 c.args.handed c.args.id c.args.lane c.log_of_lane-log.result.room
    c.log_of_lane-log.result c.args.queue.now c.log_of_lane-log.ensures c.requires.down c.in_err-check_log.field-0.0
    c.in_err-check_log.ensures.cause)

pub returns-clause-ok : goal.returns-clause-ok
returns-clause-ok c =
    found-stands c.args.node.0 c.args.handed c.args.id c.args.lane c.log_of_lane-log.result.room
    c.log_of_lane-log.result c.args.queue.now c.log_of_lane-log.ensures c.requires.down c.find.new.self
    c.requires.member c.in_ok-check_log.ensures.ok c.in_ok-find.ensures.found c.in_ok-find.ensures.ok c.find.ensures.sound
    c.find.ensures.same c.in_ok-find.ensures.begins c.in_ok-find.ensures.up c.find.ensures.others

pub returns-in_err-find-clause-cause : goal.returns-in_err-find-clause-cause
returns-in_err-find-clause-cause c =
    at_exit _ _ c.from_residual-in_err-find.ensures.1 (find-caused c.args.node.0 c.args.handed c.args.id c.args.lane
    c.log_of_lane-log.result.room c.log_of_lane-log.result c.args.queue.now c.log_of_lane-log.ensures c.requires.down
    c.in_ok-check_log.ensures.ok c.in_err-find.field-0.0 c.in_err-find.ensures.cause)
