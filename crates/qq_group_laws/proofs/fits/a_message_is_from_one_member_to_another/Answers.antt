use Rattle.qq_raft_model.specs.Group.{group_after}
use Rattle.qq_group_laws.proofs.Groups.{between-there, from-opened}
use Rattle.qq_group_laws.proofs.fits.a_message_is_from_one_member_to_another.Goals as goal

pub returns : goal.returns
returns c = λ g whole events rpc opened here.
    between-there (group_after g events) rpc (from-opened g whole events opened) here
