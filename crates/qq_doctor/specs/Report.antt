-- What the doctor prints, and how it ends.
use Rattle.std.specs.Prelude.{◌≡◌, ◌⊎◌, ◌||◌, ◌++◌, ℕ, Bool, true, false, List, [], ◌∷◌, length, codes, Option, Some, None, if◌then◌else◌}
use Rattle.std.specs.List.{list_any, range_with_len}
use Rattle.std.specs.Fmt.{decimal}
use Rattle.qq_base.specs.declared.ids.NodeId.{NodeId}
use Rattle.qq_base.specs.declared.ids.Term.{Term}
use Rattle.qq_disk.specs.Facts.{DiskFacts}
use Rattle.qq_ports.specs.Streams.{ShelfState, SinkFails, SinkState, Writes, WritesPart}
use Rattle.qq_route.specs.declared.queue_row.QueueRow.{QueueRow}
use Rattle.qq_route.specs.declared.setup.Setup.{Setup}
use Rattle.qq_words.specs.declared.options.Options.{Options}
use Rattle.qq_cluster_run.specs.Definitions.{IsSetupOver, MayNotBegin}
use Rattle.qq_cluster_run.specs.Endings.{Ending, no_memory}
use Rattle.qq_cluster_run.specs.Runs.{Closes}
use Rattle.qq_cluster_run.specs.Setup.{place_of}
use Rattle.qq_cluster_run.specs.declared.status.TheConstants.{DONE, USAGE, WRITE_FAULT}
use Rattle.qq_doctor.specs.Lanes.{Found}
use Rattle.qq_doctor.specs.Reading.{AreRead, StopsAtFirst}
use Rattle.qq_doctor.specs.Sorted.{of_queue}
use Rattle.qq_doctor.specs.Verdicts.{Means}
use Rattle.qq_doctor.specs.declared.verdict.Verdict.{Verdict}
use Rattle.qq_doctor.specs.declared.verdict.Verdict.TheVariants as verdicts
use Rattle.qq_doctor.specs.declared.report.Report.{Report}
use Rattle.qq_doctor.specs.declared.report.TheConstants.{DIFFERS}
use Rattle.qq_doctor.specs.declared.words.Request.{Request}

-- ---- the text

abbrev pub side_text : NodeId × Term → List ℕ
side_text by = codes " " ++ (decimal by.0.0 ++ (codes ":" ++ decimal by.1.0))

abbrev pub verdict_text : (name : List ℕ) → Verdict → List ℕ
verdict_text name (verdicts.Agree upto) = codes "agree " ++ (name ++ (codes " " ++ (decimal upto.0 ++ codes "\n")))
verdict_text name (verdicts.Differ index a b) =
    codes "differ " ++ (name ++ (codes " " ++ (decimal index.0 ++ (side_text a ++ (side_text b ++ codes "\n")))))

-- a line for each queue
abbrev pub report_text : List QueueRow → List Verdict → List ℕ
report_text [] verdicts = []
report_text (row ∷ rows) [] = []
report_text (row ∷ rows) (verdict ∷ rest) = verdict_text row.name verdict ++ report_text rows rest

-- ---- what it says

-- what is said of each queue, by the lanes that were found of it
abbrev pub AreSaid : List QueueRow → List Found → List Verdict → Type 0
AreSaid [] found [] = Unit {0}
AreSaid [] found (verdict ∷ rest) = ⊥
AreSaid (row ∷ rows) found [] = ⊥
AreSaid (row ∷ rows) found (verdict ∷ rest) =
    Means (length row.members) (of_queue (place_of row) found) verdict × AreSaid rows found rest

abbrev pub is_difference : Verdict → Bool
is_difference (verdicts.Agree upto) = false
is_difference (verdicts.Differ index a b) = true

abbrev pub status_of : List Verdict → ℕ
status_of said = if list_any is_difference said then DIFFERS else DONE

-- Lines of these queues were added to a text, after which it is known whether two lanes of some queue differ.
pub record AddsLines (rows : List QueueRow) (found : List Found) (old : Report) (new : Report) : Type 0 where
  pub verdicts : List Verdict
  pub said : AreSaid rows found verdicts
  pub text : new.text.items ≡ old.text.items ++ report_text rows verdicts
  pub differs : new.differs ≡ (old.differs || list_any is_difference verdicts)

-- ---- how it ends

-- a report says of each queue what its lanes give
pub record Says (rows : List QueueRow) (found : List Found) (report : Report) : Type 0 where
  pub verdicts : List Verdict
  pub said : AreSaid rows found verdicts
  pub text : report.text.items ≡ report_text rows verdicts
  pub differs : report.differs ≡ list_any is_difference verdicts

-- Each node was read in order, and this is said of what they gave.
pub record IsReported {D : Type 0} (is_given : ℕ → D → Bool) (facts : DiskFacts D) (setup : Setup) (report : Report)
    : Type 0 where
  pub found : List Found
  pub read : AreRead is_given facts setup.queues (range_with_len 1 setup.nodes) found
  pub says : Says setup.queues found report

-- the text was written whole, or the sink has failed in it
abbrev pub HasWritten : (status : ℕ) → List QueueRow → List Verdict → (before later : SinkState) → Type 0
HasWritten status rows said before later =
    ((status ≡ status_of said) × Writes before later (report_text rows said))
    ⊎ ((status ≡ WRITE_FAULT) × SinkFails before later × WritesPart before later (report_text rows said))

-- Each node was read in order, nothing was changed, and each queue's verdict was written.
pub record HasExamined {D : Type 0} (is_given : ℕ → D → Bool) (facts : DiskFacts D) (setup : Setup) (status : ℕ)
    (before later : SinkState) : Type 0 where
  pub found : List Found
  pub read : AreRead is_given facts setup.queues (range_with_len 1 setup.nodes) found
  pub verdicts : List Verdict
  pub said : AreSaid setup.queues found verdicts
  pub written : HasWritten status setup.queues verdicts before later

-- Only a closing line was written, of an ending that may come.
pub record HasClosed (status : ℕ) (before later : SinkState) (May : Ending → Type 0) : Type 0 where
  pub ending : Ending
  pub may : May ending
  pub closes : Closes status ending before later (Writes before later)

-- a cluster as its words, and the export that they name, say
pub record OfSetup (options : Options) (shelf : ShelfState) (Holds : Setup → Type 0) : Type 0 where
  pub setup : Setup
  pub is : IsSetupOver shelf.files options setup
  pub holds : Holds setup

-- why nothing is said of a cluster: there was no memory, or the first node that wasn't read stopped it
abbrev pub MayNotSay : {D : Type 0} → (ℕ → D → Bool) → DiskFacts D → Setup → (yard yard' : ℕ) → Ending → Type 0
MayNotSay is_given facts setup yard yard' ending =
    (ending ≡ no_memory) ⊎ StopsAtFirst is_given facts setup.queues setup.nodes yard yard' ending

-- or there is no such cluster
abbrev pub MayStop : {D : Type 0} → (ℕ → D → Bool) → DiskFacts D → Options → (shelf shelf' : ShelfState)
    → (yard yard' : ℕ) → Ending → Type 0
MayStop is_given facts options shelf shelf' yard yard' ending =
    (ending ≡ no_memory)
    ⊎ (MayNotBegin shelf shelf' options ending
    ⊎ OfSetup options shelf (λ setup. MayNotSay is_given facts setup yard yard' ending))

abbrev pub usage : Ending
usage = record { status = USAGE; text = codes "usage: doctor\n" }

-- what the doctor has done that ends with this status, by what its words say
abbrev pub DoctorEnds : {D : Type 0} → (Option (List ℕ) → ℕ → D → Bool) → DiskFacts D → (status : ℕ)
    → Option Request → (shelf shelf' : ShelfState) → (before later : SinkState) → (yard yard' : ℕ) → Type 0
DoctorEnds is_given facts status None shelf shelf' before later yard yard' =
    HasClosed status before later (λ ending. (ending ≡ usage) ⊎ (ending ≡ no_memory))
DoctorEnds is_given facts status (Some request) shelf shelf' before later yard yard' =
    HasClosed status before later
    (MayStop (is_given (Some request.root)) facts request.options shelf shelf' yard yard')
    ⊎ OfSetup request.options shelf
    (λ setup. HasExamined (is_given (Some request.root)) facts setup status before later)
