use Rattle.qq_raft_protocol.specs.Moves.{run}
use Rattle.qq_raft_model.specs.Group.{group_after}
use Rattle.qq_raft_model.proofs.Opening.{follows-opened, opening, supported-opened}
use Rattle.qq_raft_model.proofs.Promises.{leaves-lane, majority-left, votes-left}
use Rattle.qq_raft_model.proofs.group_laws.the_disks_support_the_audit.Goals as goal

pub returns-clause-left : goal.returns-clause-left
returns-clause-left c = λ g whole events k upto distinct o late handed.
    let f = follows-opened g whole events distinct o in
    leaves-lane (run (opening g whole) f.moves) (group_after g events) k upto f.tied late handed

pub returns-clause-supported : goal.returns-clause-supported
returns-clause-supported c = λ g whole events distinct o. supported-opened g whole events distinct o

pub returns-clause-logs : goal.returns-clause-logs
returns-clause-logs c = λ g whole events p q l m a b e f distinct o here there first second same.
    (supported-opened g whole events distinct o).logs_match p q l m here there a b e f first second same

pub returns-clause-terms : goal.returns-clause-terms
returns-clause-terms c = λ g whole events k l a e distinct o here front.
    (supported-opened g whole events distinct o).terms_rise k l here a e front

pub returns-clause-majority : goal.returns-clause-majority
returns-clause-majority c = λ g whole events lane a e distinct o each front.
    majority-left lane a e (supported-opened g whole events distinct o) each front

pub returns-clause-votes : goal.returns-clause-votes
returns-clause-votes c = λ g whole events lane k e distinct o each here.
    votes-left lane k e (supported-opened g whole events distinct o) each here
