use Rattle.std.proofs.Common.{subst}
use Rattle.std.specs.Prelude.{Bool, IsTrue}
use Rattle.qq_cluster_run.proofs.Checked.{place-there}
use Rattle.qq_cluster_run.proofs.checking.is_place.Goals as goal

pub returns : goal.returns
returns c = λ is. place-there _ _ (subst (λ (b : Bool). IsTrue b) c.has_place.ensures is)
