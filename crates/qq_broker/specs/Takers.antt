-- The takers of a run: which of them it gives to consumers, and what they have seen.
use Rattle.std.specs.Prelude.{◌≡◌, ℕ, true, false, List, [], ◌∷◌}
use Rattle.qq_disk.specs.Facts.{DiskFacts}
use Rattle.qq_script_lines.specs.declared.line.ScriptLine.{ScriptLine}
use Rattle.qq_script_lines.specs.declared.line.ScriptLine.TheVariants.{Attach}
use Rattle.qq_route.specs.declared.setup.Setup.{Setup}
use Rattle.qq_taker.specs.Takers.{Takers, is_free}
use Rattle.qq_cluster_model.specs.Cluster.{At, Cluster, ClusterEvent, Setup as ClusterSetup, cluster_happens, new_cluster}
use Rattle.qq_cluster_model.specs.Outcome.{takers_after}
use Rattle.qq_cluster_model.specs.Queue.{Attaches, Event}
use Rattle.qq_cluster_run.specs.declared.stop.AskStop.{AskStop}
use Rattle.qq_cluster_run.specs.declared.stop.AskStop.TheVariants.{Ended, NoMemory}
use Rattle.qq_cluster_run.specs.Runs.{IsRefusal}
use Rattle.qq_cluster_run.specs.Serving.{Claims, Histories, Run, all_seen, setup_in}
use Rattle.qq_cluster_run.specs.Troubles.{TakerIsGone, Trouble}
use Rattle.qq_cluster.specs.declared.nodes.Nodes.{Nodes}
use Rattle.qq_broker.specs.Lives.{Giving}
use Rattle.qq_broker.specs.Nodes.{Had, Holds, Meets}
use Rattle.qq_broker.specs.declared.faults.StepFault.{StepFault}
use Rattle.qq_broker.specs.declared.faults.StepFault.TheVariants.{NoSuch}

-- ---- takers that are given

-- a taker that an event gives to a consumer is free
abbrev pub GivesFreeAt : Event → Takers → Type 0
GivesFreeAt (Attaches session tag number) takers = is_free number takers ≡ true
GivesFreeAt _ takers = Unit {0}

abbrev pub GivesFree : ClusterEvent → Takers → Type 0
GivesFree (At place event) takers = GivesFreeAt event takers
GivesFree _ takers = Unit {0}

-- each one that events give to a consumer is free then
abbrev pub AreFree : ClusterSetup → Cluster → List ClusterEvent → Takers → Type 0
AreFree setup c [] takers = Unit {0}
AreFree setup c (event ∷ events) takers =
    GivesFree event takers
    × AreFree setup (cluster_happens c event) events (takers_after setup c (event ∷ []) takers)

-- of a run whose takers were these at first
abbrev pub GaveFree : Takers → Histories
GaveFree first setup events = AreFree setup (new_cluster setup) events first

-- a line that gives a consumer a taker has one that is free
abbrev pub AsksFree : ScriptLine → Takers → Type 0
AsksFree (Attach by at tag number) takers = is_free number takers ≡ true
AsksFree _ takers = Unit {0}

-- and one that isn't
abbrev pub AsksGone : ScriptLine → Takers → Type 0
AsksGone (Attach by at tag number) takers = is_free number takers ≡ false
AsksGone _ takers = ⊥

-- the fault that comes where it isn't
abbrev pub IsGoneCaused : StepFault → ScriptLine → Takers → Type 0
IsGoneCaused NoSuch line takers = AsksGone line takers
IsGoneCaused _ line takers = AsksFree line takers

-- ---- a run with takers

-- a line isn't served at all
abbrev pub IsRefusedBy : AskStop → Type 0
IsRefusedBy (Ended ending) = IsRefusal ending
IsRefusedBy NoMemory = ⊥

-- what its disks had, and that each taker that was given was free then
abbrev pub RunHad : {D : Type 0} → Giving D → DiskFacts D → Takers → Histories
RunHad given facts first setup events =
    Had given facts setup events × GaveFree first setup events

-- in the end its takers, which were the first, have seen what these events show
abbrev pub RunClaims : {D : Type 0} → Giving D → DiskFacts D → (first last : Takers) → Claims
RunClaims given facts first last = record {
  during = RunHad given facts first;
  finally = λ setup events. last ≡ all_seen setup events first;
}

-- what it meets: below it, and of its takers
abbrev pub RunMeets : {D : Type 0} → Giving D → DiskFacts D → (first : Takers)
    → (before after : ℕ) → Trouble → Type 0
RunMeets given facts first before after (TakerIsGone setup events number) =
    is_free number (all_seen setup events first) ≡ false
RunMeets given facts first before after trouble = Meets given facts before after trouble

-- Nodes stand for a run, whose takers were the first and are these.
pub record HoldsAll {D : Type 0} (given : Giving D) (facts : DiskFacts D) (s : Setup) (first : Takers) (held : Nodes D)
    (takers : Takers) (run : Run) : Type 0 where
  pub holds : Holds given facts s held run
  pub seen : takers ≡ all_seen (setup_in s run) run.events first
  pub gave : GaveFree first (setup_in s run) run.events
