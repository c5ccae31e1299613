use Rattle.qq_raft_model.specs.Refines.{disk_lane}
use Rattle.qq_raft_model.proofs.Restarting.{restart-only, restart-stands, restart-others, way-left}
use Rattle.qq_raft_model.proofs.laws.a_restart_is_a_move.Goals as goal

pub returns-clause-stand : goal.returns-clause-stand
returns-clause-stand c = λ w k node nodes lane is. restart-stands w k node nodes lane is

pub returns-clause-others : goal.returns-clause-others
returns-clause-others c = λ w k q lane s le other st. restart-others (restart-only w k (disk_lane lane) le) other st

pub returns-clause-way : goal.returns-clause-way
returns-clause-way c = λ w k lane r le x. way-left (restart-only w k (disk_lane lane) le) x
