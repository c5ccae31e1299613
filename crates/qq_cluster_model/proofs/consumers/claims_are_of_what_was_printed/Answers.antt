use Rattle.std.proofs.Common.{Bool, ap, refl}
use Rattle.std.proofs.lemmas.Bool.{eq-eqb}
use Rattle.qq_session.specs.declared.shown.Shown.TheVariants.{NotTaken}
use Rattle.qq_script.specs.Shown.{shown_text}
use Rattle.qq_cluster_model.proofs.Claims.{claims-shown}
use Rattle.qq_cluster_model.proofs.Stopping.{tells-not_taken}
use Rattle.qq_cluster_model.proofs.consumers.claims_are_of_what_was_printed.Goals as goal

pub returns-clause-ids : goal.returns-clause-ids
returns-clause-ids c = claims-shown

pub returns-clause-refused : goal.returns-clause-refused
returns-clause-refused c = tells-not_taken

pub returns-clause-told : goal.returns-clause-told
returns-clause-told c = λ setup id.
    ap (λ (first : Bool). shown_text first (setup.name setup.first) (NotTaken 1 id))
    (eq-eqb setup.first setup.first refl)
