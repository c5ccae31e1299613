use Rattle.qq_group_laws.proofs.Opened.{opened}
use Rattle.qq_group_laws.proofs.openings.an_opened_group_stands_for_a_state.Goals as goal

pub returns : goal.returns
returns g c = λ queue nodes audit starts group apart may opens.
    opened g.L.LogView.log queue nodes audit starts group
    (c.logs_may_be_found.ensures queue nodes audit starts apart may) opens
