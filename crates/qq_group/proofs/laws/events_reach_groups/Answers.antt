use Rattle.std.proofs.Common.{[]}
use Rattle.qq_raft_model.specs.Group.{new_group}
use Rattle.qq_group.proofs.Reached.{reached-after, reached-next, reached-opened}
use Rattle.qq_group.proofs.laws.events_reach_groups.Goals as goal

pub returns-clause-first : goal.returns-clause-first
returns-clause-first c = λ queue nodes distinct.
    reached-opened (new_group queue nodes) [] distinct (c.groups_are_opened.ensures.new queue nodes)

pub returns-clause-opened : goal.returns-clause-opened
returns-clause-opened c = λ g whole distinct opened. reached-opened g whole distinct opened

pub returns-clause-next : goal.returns-clause-next
returns-clause-next c = λ g e reached. reached-next g e reached

pub returns-clause-later : goal.returns-clause-later
returns-clause-later c = λ g events reached. reached-after g events reached
