use Rattle.std.specs.Prelude.{slice_get}
use Rattle.qq_group_laws.proofs.Returned.{returned-next}
use Rattle.qq_group_laws.proofs.handing.an_op_that_was_given_back_is_next.Goals as goal

pub returns : goal.returns
returns g c = λ k op old new seat s keeps there returned up.
    returned-next g.L.LogView.log op (slice_get old.seats.items k) (slice_get new.seats.items k) seat s (keeps k) there
    returned up
