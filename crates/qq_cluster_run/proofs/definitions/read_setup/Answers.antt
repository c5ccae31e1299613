use Rattle.std.proofs.Common.{List, ℕ, subst}
use Rattle.qq_ports.specs.Streams.{shelf_state}
use Rattle.qq_route.specs.Setup.{state_of}
use Rattle.qq_defs.specs.Definitions.{document, read_setup as read_definitions}
use Rattle.qq_defs.specs.Reading.{Fails}
use Rattle.qq_cluster_run.specs.Definitions.{read_export}
use Rattle.qq_cluster_run.proofs.Exports.{refused}
use Rattle.qq_cluster_run.proofs.definitions.read_setup.Goals as goal

pub returns-in-Ok-read-clause-runs : goal.returns-in-Ok-read-clause-runs
returns-in-Ok-read-clause-runs g c =
    c.setups_may_be_run.ensures.read _ c.number.result _ c.as_slice.result.now (state_of c.in-Ok-read.setup)
    c.number.ensures.some c.number.ensures.few c.in-Ok-read.ensures

pub returns-clause-cause : goal.returns-clause-cause
returns-clause-cause g c =
    refused c.args.name.now (shelf_state g.S.Shelf.files g.S.Shelf.faults c.args.shelf.now)
    (shelf_state g.S.Shelf.files g.S.Shelf.faults c.fetch.new.self) c.args.options.now c.in-Ok.bytes.items c.in-Err.fault
    c.refused_export.result c.in-Ok.ensures.ok
    (subst (λ (bytes : List ℕ). Fails c.in-Err.fault (read_export c.args.options.now bytes)) c.as_slice.ensures.value
    (subst (λ (nodes : ℕ). Fails c.in-Err.fault
    (read_definitions c.args.options.now.ignore_policies nodes c.args.options.now.log_bytes
    (document c.as_slice.result.now))) c.number.ensures.value c.in-Err.ensures))
    c.refused_export.ensures
