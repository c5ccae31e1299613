-- Why a drill stops, and where.
use Rattle.std.proofs.Common.{◌≡◌, ◌≤◌, ℕ, Bool, List, [], ◌∷◌, ◌++◌, refl, sym, ap, subst, ◌∙◌, inl, inr, append-nil}
use Rattle.qq_disk.specs.Facts.{DiskFacts}
use Rattle.qq_script_lines.specs.declared.line.ScriptLine.{ScriptLine}
use Rattle.qq_route.specs.declared.setup.Setup.{Setup}
use Rattle.qq_cluster_model.specs.Cluster.{ClusterEvent, Setup as ClusterSetup}
use Rattle.qq_cluster_model.specs.Outcome.{Outcome}
use Rattle.qq_cluster_run.proofs.Answering.{IsEarlier, may_stop_earlier}
use Rattle.qq_cluster_run.specs.Drilling.{Known, is_led, part_lines}
use Rattle.qq_cluster_run.specs.Drills.{StopsNext, StopsWithin}
use Rattle.qq_cluster_run.specs.Endings.{Ending, no_memory}
use Rattle.qq_cluster_run.specs.Service.{HasServeCause}
use Rattle.qq_cluster_run.specs.Serving.{Histories, Run, cluster_in, setup_in}
use Rattle.qq_cluster_run.specs.Troubles.{Trouble}
use Rattle.qq_cluster_run.specs.declared.drilling.Part.{Part}
use Rattle.qq_cluster_run.specs.declared.playing.Play.{Play}
use Rattle.qq_cluster_run.specs.declared.stop.AskStop.{AskStop}
use Rattle.qq_cluster_run.specs.declared.stop.AskStop.TheVariants.{Ended, NoMemory}
use Rattle.qq_cluster.specs.declared.nodes.Nodes.{Nodes}
use Rattle.qq_broker.specs.Drilling.{LinesServed, LinesStop, PartStops, PartsDone, PartsStop, Plays, ending_at, run_with}
use Rattle.qq_broker.specs.Faults.{IsStepStopOf, step_stop}
use Rattle.qq_broker.specs.Lives.{Giving}
use Rattle.qq_broker.specs.Nodes.{Had, Meets}
use Rattle.qq_broker.specs.declared.faults.StepFault.{StepFault}
use Rattle.qq_broker.proofs.GoingOn.{had-so}
use Rattle.qq_broker.proofs.Meeting.{meets-earlier}
use Rattle.qq_broker.proofs.Stops.{told-stop}

-- ---- at a line

caused-next : (met : Trouble → Type 0) (S : ClusterSetup) (events : List ClusterEvent) (number : ℕ) (line : ScriptLine)
    (left : List ScriptLine) (stop : AskStop) → HasServeCause met S events number line stop
    → StopsNext met S events (line ∷ left) (ending_at stop)
caused-next met S events number line left (Ended ending) so = inr (number, so)
caused-next met S events number line left NoMemory so = inl refl

pub next-stop : (met : Trouble → Type 0) (s : Setup) (S : ClusterSetup) (events : List ClusterEvent) (number : ℕ)
    (line : ScriptLine) (fault : StepFault) (stop : AskStop) → IsStepStopOf s number fault stop
    → HasServeCause met S events number line (step_stop s number fault)
    → StopsNext met S events (line ∷ []) (ending_at stop)
next-stop met s S events number line fault stop is so =
    told-stop (λ (a : AskStop). StopsNext met S events (line ∷ []) (ending_at a)) s number fault stop (inl refl) is
    (caused-next met S events number line [] (step_stop s number fault) so)

-- there may be no memory before any line
pub next-want : (met : Trouble → Type 0) (S : ClusterSetup) (events : List ClusterEvent) (left : List ScriptLine)
    → StopsNext met S events left no_memory
next-want met S events [] = refl
next-want met S events (line ∷ left) = inl refl

next-earlier : (met met' : Trouble → Type 0) → IsEarlier met met' → (S : ClusterSetup) (events : List ClusterEvent)
    (left : List ScriptLine) (ending : Ending) → StopsNext met S events left ending → StopsNext met' S events left ending
next-earlier met met' f S events [] ending so = so
next-earlier met met' f S events (line ∷ left) ending (inl none) = inl none
next-earlier met met' f S events (line ∷ left) ending (inr (number, so)) =
    inr (number, may_stop_earlier met met' f S events number line ending so)

pub within-earlier : (met met' : Trouble → Type 0) → IsEarlier met met' → (had : Histories) (S : ClusterSetup)
    (events : List ClusterEvent) (next : List ScriptLine) (ending : Ending)
    → StopsWithin met had S events next ending → StopsWithin met' had S events next ending
within-earlier met met' f had S events next ending so = record {
  served = so.served;
  left = so.left;
  are = so.are;
  more = so.more;
  allowed = so.allowed;
  disks = so.disks;
  may = next-earlier met met' f S (events ++ so.more) so.left ending so.may;
}

module _ {D : Type 0} (given : Giving D) (facts : DiskFacts D) (s : Setup) where
  -- no line was served
  pub lines-want : (before after : ℕ) (run : Run) (lines : List ScriptLine) (k : Known) (held : Nodes D)
      (told : Outcome) (play : Play) → Plays given facts s run held told play k
      → LinesStop given facts before after s run lines NoMemory
  lines-want before after run lines k held told play so = record {
    served = [];
    left = lines;
    are = refl;
    more = [];
    allowed = refl;
    disks = subst (Had given facts (setup_in s run)) (sym (append-nil run.events))
        (had-so given facts s held run so.holds);
    may = next-want (Meets given facts before after) (setup_in s run) (run.events ++ []) lines;
  }

  pub lines-stop : (first before after : ℕ) → first ≤ before → (run : Run) (all done : List ScriptLine)
      (line : ScriptLine) (rest : List ScriptLine) (k : Known) (held : Nodes D) (told : Outcome) (play : Play)
      (stop : AskStop) → all ≡ done ++ line ∷ rest
      → (so : LinesServed given facts s run done k held told play)
      → StopsNext (Meets given facts before after) (setup_in s run) (run_with run so.more).events (line ∷ [])
      (ending_at stop)
      → LinesStop given facts first after s run all stop
  lines-stop first before after le run all done line rest k held told play stop are so next = record {
    served = done;
    left = line ∷ rest;
    are = are;
    more = so.more;
    allowed = so.allowed;
    disks = had-so given facts s held (run_with run so.more) so.plays.holds;
    may = next-earlier (Meets given facts before after) (Meets given facts first after)
        (meets-earlier given facts first before after le) (setup_in s run) (run.events ++ so.more) (line ∷ rest)
        (ending_at stop) next;
  }

  -- within a part
  pub part-stops : (before after : ℕ) (run : Run) (part : Part) (led : Bool) (lines : List ScriptLine) (k : Known)
      (stop : AskStop) → led ≡ is_led part (cluster_in s run) → lines ≡ part_lines part led k.drill
      → LinesStop given facts before after s run lines stop → PartStops given facts before after s run part k stop
  part-stops before after run part led lines k stop is are so =
      subst (λ (l : List ScriptLine). LinesStop given facts before after s run l stop)
      (are ∙ ap (λ (b : Bool). part_lines part b k.drill) is) so

  pub parts-stop : (first before after : ℕ) → first ≤ before → (run : Run) (all done : List Part) (part : Part)
      (rest : List Part) (k : Known) (held : Nodes D) (told : Outcome) (play : Play) (stop : AskStop)
      → all ≡ done ++ part ∷ rest → (so : PartsDone given facts s run done k held told play)
      → PartStops given facts before after s (run_with run so.more) part so.later stop
      → PartsStop given facts first after s run all k stop
  parts-stop first before after le run all done part rest k held told play stop are so stops = record {
    done = done;
    part = part;
    later = rest;
    split = are;
    more = so.more;
    known = so.later;
    are = so.are;
    disks = had-so given facts s held (run_with run so.more) so.plays.holds;
    stops = within-earlier (Meets given facts before after) (Meets given facts first after)
        (meets-earlier given facts first before after le) (Had given facts) (setup_in s run)
        (run_with run so.more).events
        (part_lines part (is_led part (cluster_in s (run_with run so.more))) so.later.drill) (ending_at stop) stops;
  }
