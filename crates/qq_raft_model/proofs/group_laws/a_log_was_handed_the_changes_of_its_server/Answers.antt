use Rattle.std.proofs.Common.{◌∙◌, length-append}
use Rattle.qq_raft_model.specs.Group.{group_after}
use Rattle.qq_raft_model.proofs.Opening.{follows-opened}
use Rattle.qq_raft_model.proofs.group_laws.a_log_was_handed_the_changes_of_its_server.Goals as goal

pub returns : goal.returns
returns c = λ g whole events k s distinct o up.
    (((follows-opened g whole events distinct o).tied.seats k).up s up).count
    ∙ length-append ((group_after g events).seat k).ops s.ops
