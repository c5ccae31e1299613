use Rattle.qq_lots.specs.Left.{ops_found}
use Rattle.qq_cluster_laws.specs.Linked.{lot_of}
use Rattle.qq_cluster_laws.proofs.Links.{all-may_find, all-take_up, found-follow, found-linked}
use Rattle.qq_cluster_laws.proofs.linking.a_restart_goes_on_with_the_log.Goals as goal

pub returns-clause-may : goal.returns-clause-may
returns-clause-may c = λ setup d k lanes groups reached down follow between.
    all-may_find setup d k groups reached (ops_found (lot_of setup k) lanes)
    (all-take_up setup d k groups reached lanes down follow between)

pub returns-clause-linked : goal.returns-clause-linked
returns-clause-linked c = λ setup d k lanes disk groups reached down follow between tied.
    found-linked setup d k (ops_found (lot_of setup k) lanes) disk tied
    (all-take_up setup d k groups reached lanes down follow between)

pub returns-clause-members : goal.returns-clause-members
returns-clause-members c = λ setup d k lanes groups reached down follow between.
    found-follow setup d k (ops_found (lot_of setup k) lanes)
    (all-take_up setup d k groups reached lanes down follow between)
