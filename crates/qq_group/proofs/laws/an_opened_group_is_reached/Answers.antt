use Rattle.qq_group.proofs.Supported.{opened-reached}
use Rattle.qq_group.proofs.laws.an_opened_group_is_reached.Goals as goal

pub returns : goal.returns
returns g c = λ queue nodes audit whole starts lane group distinct are may others supported front opens.
    opened-reached g.L.LogView.log queue nodes audit whole starts lane group distinct are may others supported front opens
