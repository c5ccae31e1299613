use Rattle.std.proofs.Common.{List, ap}
use Rattle.qq_raft_model.specs.Group.{Event as Move, group_after}
use Rattle.qq_cluster_pins.proofs.ends.the_end_of_a_session_goes_to_its_leader.Goals as goal

pub returns-clause-handed : goal.returns-clause-handed
returns-clause-handed c = λ session k q used leads.
    let told = (c.ends_go_to_the_leader.ensures.leader session q).0 used in
    (ap (λ (l : List Move). group_after q.group l) (told.handed k leads), told.silent k leads)

pub returns-clause-lost : goal.returns-clause-lost
returns-clause-lost c = λ session q used none.
    let told = (c.ends_go_to_the_leader.ensures.leader session q).0 used in
    (told.lost none, told.told none)

pub returns-clause-unused : goal.returns-clause-unused
returns-clause-unused c = λ session q unused.
    let nobody = (c.ends_go_to_the_leader.ensures.leader session q).1 unused in
    (nobody.same, nobody.silent)

pub returns-clause-printed : goal.returns-clause-printed
returns-clause-printed c = c.ends_go_to_the_leader.ensures.printed
