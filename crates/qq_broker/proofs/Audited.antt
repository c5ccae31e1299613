-- Audits are written row by row.
use Rattle.std.proofs.Common.{◌≡◌, ◌<◌, ◌≤◌, ◌+◌, ℕ, List, [], ◌++◌, drop, flat_map, get_or, length, map, sym, ap, subst, ◌∙◌}
use Rattle.std.specs.Prelude.{Contains}
use Rattle.qq_disk.specs.Facts.{DiskFacts}
use Rattle.qq_ports.specs.Streams.{SinkState, Writes, WritesPart}
use Rattle.qq_script.specs.Audit.{audit_text}
use Rattle.qq_route.specs.declared.queue_row.QueueRow.{QueueRow}
use Rattle.qq_route.specs.declared.setup.Setup.{Setup}
use Rattle.qq_cluster_model.specs.Cluster.{Cluster, Setup as ClusterSetup}
use Rattle.qq_cluster_model.specs.Queue.{audit_rows}
use Rattle.qq_cluster_model.specs.Texts.{audits_text}
use Rattle.qq_cluster_run.specs.Pieces.{HasPrefix, HasSomePrefix}
use Rattle.qq_cluster_run.specs.Serving.{Run, cluster_in, setup_in}
use Rattle.qq_cluster_run.specs.Setup.{name_by, place_of, row_at}
use Rattle.qq_cluster_run.proofs.Audits.{audits_by_rows, has_place, row_audit}
use Rattle.qq_cluster_run.proofs.Pieces.{join, last_item, next_item, nothing, some_next, some_rest, whole}
use Rattle.qq_cluster.specs.Nodes.{IsQueueAt, Stands}
use Rattle.qq_cluster.specs.declared.nodes.Nodes.{Nodes}
use Rattle.qq_broker.specs.Lives.{Giving}
use Rattle.qq_broker.specs.Nodes.{Holds, MayRun}
use Rattle.qq_broker.proofs.GoingOn.{queue-there}
use Rattle.qq_broker.proofs.Rows.{row-named}

-- the audits of a run's queues
abbrev pub audits_of : Setup → Run → List ℕ
audits_of s run = audits_text (setup_in s run) (cluster_in s run)

module _ {D : Type 0} (facts : DiskFacts D) (s : Setup) (held : Nodes D) where
  -- of whatever run they stand for
  abbrev pub OfRuns : (Run → Type 0) → Type 0
  OfRuns Is = (given : Giving D) (run : Run) → Holds given facts s held run → Is run

  -- all was written but what stands in a text, and the audits of the rows from one on
  abbrev pub AuditsOn : (a b : SinkState) (said : List ℕ) (rows : List QueueRow) (i : ℕ) → Type 0
  AuditsOn a b said rows i =
      OfRuns (λ run. HasPrefix a b (audits_of s run) (said ++ flat_map (row_audit (cluster_in s run)) (drop i rows)))

  pub audits-start : (a : SinkState) (said : List ℕ) (rows : List QueueRow) → MayRun s → said ≡ []
      → rows ≡ s.queues → AuditsOn a a said rows 0
  audits-start a said rows runs none are = λ given run h.
      subst (HasPrefix a a (audits_of s run))
      (sym (ap (λ (l : List ℕ). l ++ flat_map (row_audit (cluster_in s run)) rows) none
      ∙ ap (flat_map (row_audit (cluster_in s run))) are ∙ audits_by_rows s run.logs (cluster_in s run) runs))
      (nothing a (audits_of s run))

  -- ---- a row

  -- it is the one at an index of the setup's rows
  abbrev pub IsRowAt : List QueueRow → ℕ → QueueRow → Type 0
  IsRowAt rows i row = (rows ≡ s.queues) × (i < length rows) × (row ≡ get_or rows i row)

  -- what is added of its queue is the audit
  abbrev pub AddsAudit : QueueRow → (before later : List ℕ) → Type 0
  AddsAudit row before later =
      (setup : ClusterSetup) (c : Cluster) → Stands facts setup held c
      → later ≡ before ++ audit_text (setup.name (place_of row)) 0 (audit_rows (c.queue (place_of row)))

  pub audit-there : (rows : List QueueRow) (i : ℕ) (row : QueueRow) → IsRowAt rows i row → (given : Giving D)
      (run : Run)
      → Holds given facts s held run → IsQueueAt row.args.queue held
  audit-there rows i row (are, lt, is) given run h =
      queue-there given facts s run held row.args.queue h
      (subst (λ (l : List QueueRow). Contains (map place_of l) (place_of row)) are (has_place rows i row lt is))

  pub row-adds : (rows : List QueueRow) (i : ℕ) (row : QueueRow) (before later : List ℕ) → MayRun s → IsRowAt rows i row
      → AddsAudit row before later → (given : Giving D) (run : Run) → Holds given facts s held run
      → later ≡ before ++ row_audit (cluster_in s run) row
  row-adds rows i row before later runs (are, lt, is) adds given run h =
      let c : Cluster = cluster_in s run in
      let name : name_by (row_at s.queues (place_of row)) ≡ row.name =
      row-named s i row runs (subst (λ (l : List QueueRow). i < length l) are lt)
      (subst (λ (l : List QueueRow). row ≡ get_or l i row) are is) in
      adds (setup_in s run) c h.stands
      ∙ ap (λ (n : List ℕ). before ++ audit_text n 0 (audit_rows (c.queue (place_of row)))) name

  -- it moves from what is left to the text
  row-moves : (a b : SinkState) (said text : List ℕ) (rows : List QueueRow) (i : ℕ) (row : QueueRow) → MayRun s
      → IsRowAt rows i row → AuditsOn a b said rows i → AddsAudit row said text → (given : Giving D) (run : Run)
      → Holds given facts s held run
      → HasPrefix a b (audits_of s run) (text ++ flat_map (row_audit (cluster_in s run)) (drop (i + 1) rows))
  row-moves a b said text rows i row runs at so adds given run h =
      subst
      (λ (l : List ℕ). HasPrefix a b (audits_of s run) (l ++ flat_map (row_audit (cluster_in s run))
      (drop (i + 1) rows)))
      (sym (row-adds rows i row said text runs at adds given run h))
      (next_item (row_audit (cluster_in s run)) a b (audits_of s run) said rows i row at.1 at.2 (so given run h))

  pub audits-next : (a b d : SinkState) (said text later : List ℕ) (rows : List QueueRow) (i : ℕ) (row : QueueRow)
      → MayRun s → IsRowAt rows i row → AuditsOn a b said rows i → AddsAudit row said text → HasPrefix b d text later
      → AuditsOn a d later rows (i + 1)
  audits-next a b d said text later rows i row runs at so adds part = λ given run h.
      join a b d (audits_of s run) text later (flat_map (row_audit (cluster_in s run)) (drop (i + 1) rows))
      (row-moves a b said text rows i row runs at so adds given run h) part

  -- ---- how it ends

  -- a first part was written of a piece
  pub audits-cut : (a b d : SinkState) (said text : List ℕ) (rows : List QueueRow) (i : ℕ) (row : QueueRow)
      → MayRun s → IsRowAt rows i row → AuditsOn a b said rows i → AddsAudit row said text → HasSomePrefix b d text
      → OfRuns (λ run. HasSomePrefix a d (audits_of s run))
  audits-cut a b d said text rows i row runs at so adds part = λ given run h.
      some_next a b d (audits_of s run) text (flat_map (row_audit (cluster_in s run)) (drop (i + 1) rows))
      (row-moves a b said text rows i row runs at so adds given run h) part

  -- no more is written
  pub audits-stop : (a b : SinkState) (said : List ℕ) (rows : List QueueRow) (i : ℕ) → AuditsOn a b said rows i
      → OfRuns (λ run. HasSomePrefix a b (audits_of s run))
  audits-stop a b said rows i so = λ given run h.
      (said ++ flat_map (row_audit (cluster_in s run)) (drop i rows), so given run h)

  -- behind the last row all was added
  audits-last : (a b : SinkState) (said : List ℕ) (rows : List QueueRow) (i : ℕ) → length rows ≤ i
      → AuditsOn a b said rows i → (given : Giving D) (run : Run) → Holds given facts s held run
      → HasPrefix a b (audits_of s run) said
  audits-last a b said rows i le so given run h =
      last_item (row_audit (cluster_in s run)) a b (audits_of s run) said rows i le (so given run h)

  pub audits-whole : (a b d : SinkState) (said : List ℕ) (rows : List QueueRow) (i : ℕ) → length rows ≤ i
      → AuditsOn a b said rows i → Writes b d said → OfRuns (λ run. Writes a d (audits_of s run))
  audits-whole a b d said rows i le so grown = λ given run h.
      whole a b d (audits_of s run) said (audits-last a b said rows i le so given run h) grown

  pub audits-rest : (a b d : SinkState) (said : List ℕ) (rows : List QueueRow) (i : ℕ) → length rows ≤ i
      → AuditsOn a b said rows i → WritesPart b d said → OfRuns (λ run. HasSomePrefix a d (audits_of s run))
  audits-rest a b d said rows i le so part = λ given run h.
      some_rest a b d (audits_of s run) said (audits-last a b said rows i le so given run h) part
