-- The audits of a cluster's queues, one for each row of its setup.
use Rattle.std.proofs.Common.{◌≡◌, ℕ, ◌<◌, List, [], ◌∷◌, ◌++◌, Some, length, map, flat_map, get_or, refl, sym, ap, subst, ◌∙◌, arith}
use Rattle.std.specs.Prelude.{Contains}
use Rattle.std.specs.List.{AllByRecursion}
use Rattle.std.proofs.lemmas.List.{length-map, get_or-map}
use Rattle.std.proofs.lemmas.List.Elements.{Contains-get_or}
use Rattle.qq_defs.specs.Runnable.{IsRunnable}
use Rattle.qq_route.specs.declared.queue_row.QueueRow.{QueueRow}
use Rattle.qq_route.specs.declared.setup.Setup.{Setup}
use Rattle.qq_route.specs.Setup.{state_of}
use Rattle.qq_script.specs.Audit.{audit_text}
use Rattle.qq_cluster_model.specs.Cluster.{Cluster}
use Rattle.qq_cluster_model.specs.Queue.{audit_rows}
use Rattle.qq_cluster_model.specs.Texts.{audits_text}
use Rattle.qq_cluster_run.specs.Setup.{Logs, cluster_over, name_by, place_of, row_at}
use Rattle.qq_cluster_run.proofs.QueueRows.{each-found}

-- the audit of a row's queue
abbrev pub row_audit : Cluster → QueueRow → List ℕ
row_audit c row = audit_text row.name 0 (audit_rows (c.queue (place_of row)))

place_audit : List QueueRow → Cluster → ℕ → List ℕ
place_audit rows c place = audit_text (name_by (row_at rows place)) 0 (audit_rows (c.queue place))

audits_from : (rows each : List QueueRow) (c : Cluster)
    → AllByRecursion (λ (row : QueueRow). row_at rows (place_of row) ≡ Some row) each
    → flat_map (row_audit c) each ≡ flat_map (place_audit rows c) (map place_of each)
unfolding place_audit
audits_from rows [] c found = refl
audits_from rows (row ∷ each) c found =
    ap (λ (name : List ℕ). audit_text name 0 (audit_rows (c.queue (place_of row))) ++ flat_map (row_audit c) each)
    (sym (ap name_by found.0))
    ∙ ap (λ (l : List ℕ). place_audit rows c (place_of row) ++ l) (audits_from rows each c found.1)

pub audits_by_rows : (s : Setup) (logs : Logs) (c : Cluster) → IsRunnable (state_of s)
    → flat_map (row_audit c) s.queues ≡ audits_text (cluster_over s logs) c
unfolding place_audit
audits_by_rows s logs c runs =
    audits_from s.queues s.queues c (each-found s.nodes 0 s.queues runs.queues_are)

-- a row's queue has a place in the cluster
pub has_place : (rows : List QueueRow) (i : ℕ) (row : QueueRow) → i < length rows → row ≡ get_or rows i row
    → Contains (map place_of rows) (place_of row)
has_place rows i row lt is =
    subst (λ (place : ℕ). Contains (map place_of rows) place)
    (get_or-map place_of rows i row (place_of row) lt ∙ ap place_of (sym is))
    (Contains-get_or (map place_of rows) i (place_of row) (omega (arith, lt, length-map rows place_of)))
