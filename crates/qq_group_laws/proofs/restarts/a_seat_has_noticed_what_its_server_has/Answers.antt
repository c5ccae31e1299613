use Rattle.std.specs.Prelude.{slice_get}
use Rattle.qq_group_laws.proofs.Restarting.{has-noticed}
use Rattle.qq_group_laws.proofs.restarts.a_seat_has_noticed_what_its_server_has.Goals as goal

pub returns : goal.returns
returns g c = λ h k group seat s stands there up.
    has-noticed g.L.LogView.log (h.seat k) (slice_get group.seats.items k) seat s (stands.seats k) there up
