use Rattle.std.proofs.Common.{length}
use Rattle.qq_raft_msg.specs.Bag.{at_place}
use Rattle.qq_group_laws.proofs.GroupCauses.{copy-caused}
use Rattle.qq_group_laws.proofs.group_refusals.a_copy_is_refused_for_want_or_a_full_bag.Goals as goal

pub returns : goal.returns
returns g c = λ place old e cause. copy-caused e (at_place place old.bag) (length old.bag) cause
