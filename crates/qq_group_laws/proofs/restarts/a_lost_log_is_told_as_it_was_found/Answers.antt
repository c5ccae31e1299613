use Rattle.std.proofs.Common.{◌∙◌}
use Rattle.std.specs.Prelude.{slice_get}
use Rattle.qq_group_laws.proofs.Restarting.{known-seat, noticed-told}
use Rattle.qq_group_laws.proofs.restarts.a_lost_log_is_told_as_it_was_found.Goals as goal

pub returns-clause-found : goal.returns-clause-found
returns-clause-found g c = λ k noticed found l old cause. cause.2

pub returns-clause-noticed : goal.returns-clause-noticed
returns-clause-noticed g c = λ h k noticed found l old stands cause.
    cause.1 ∙ noticed-told g.L.LogView.log (h.seat k) (slice_get old.seats.items k) (stands.seats k) cause.0.known

pub returns-clause-known : goal.returns-clause-known
returns-clause-known g c = λ k noticed found l old cause. known-seat (slice_get old.seats.items k) cause.0.known

pub returns-clause-lost : goal.returns-clause-lost
returns-clause-lost g c = λ h k noticed found l old stands cause comes.
    cause.0.other h stands (record { noticed = comes.0; handed = comes.1; is = comes.2 })

pub returns-clause-memory : goal.returns-clause-memory
returns-clause-memory g c = λ k l old e cause. cause
