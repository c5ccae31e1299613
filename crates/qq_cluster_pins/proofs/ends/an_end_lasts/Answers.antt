use Rattle.std.proofs.Common.{ℕ, Bool, Option, subst}
use Rattle.qq_cluster_model.specs.Cluster.{At}
use Rattle.qq_cluster_model.specs.Queue.{TellsEnded}
use Rattle.qq_cluster_model.specs.Rules.{Is, IsClaimed, if_so, is_ended, not_taken}
use Rattle.qq_cluster_pins.proofs.Bounds.{some-waits}
use Rattle.qq_cluster_pins.proofs.ends.an_end_lasts.Goals as goal

pub returns-clause-ends : goal.returns-clause-ends
returns-clause-ends c = λ session q. (c.an_ended_session_gives_no_commands.ensures.stays session q).ends

pub returns-clause-stays : goal.returns-clause-stays
returns-clause-stays c = λ session q. (c.an_ended_session_gives_no_commands.ensures.stays session q).stays

pub returns-clause-sends : goal.returns-clause-sends
returns-clause-sends c = λ setup session place d.
    (c.an_ended_session_gives_no_commands.ensures.none setup session d).send place

pub returns-clause-resends : goal.returns-clause-resends
returns-clause-resends c = λ setup session place d events within ended.
    (c.an_ended_session_gives_no_commands.ensures.none setup session d).resend events
    (some-waits setup (is_ended session) d place within ended)

pub returns-clause-gives : goal.returns-clause-gives
returns-clause-gives c = λ session place d body events lives taken is.
    subst (λ (o : Option ℕ). IsClaimed o session body place d events) taken
    (subst (λ (b : Bool). if_so b (Is (At place (TellsEnded session)))
    (IsClaimed (not_taken session body (d.queue place)) session body place) d events) lives is)
