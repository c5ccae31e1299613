-- A taker that a line is to give to a consumer is free, or the line is refused.
use Rattle.std.proofs.Common.{◌≡◌, ℕ, false, List, Result, Ok, Err, refl, inr, subst}
use Rattle.std.specs.Prelude.{IfErr, OnOk}
use Rattle.std.proofs.lemmas.Result.{IfErr-weaker}
use Rattle.qq_disk.specs.Facts.{DiskFacts}
use Rattle.qq_script_lines.specs.declared.line.ScriptLine.{ScriptLine}
use Rattle.qq_script_lines.specs.declared.line.ScriptLine.TheVariants.{Attach}
use Rattle.qq_route.specs.declared.setup.Setup.{Setup}
use Rattle.qq_taker.specs.Takers.{Takers, is_free}
use Rattle.qq_cluster_model.specs.Cluster.{ClusterEvent, Setup as ClusterSetup}
use Rattle.qq_cluster_run.specs.declared.stop.AskStop.{AskStop}
use Rattle.qq_cluster_run.specs.declared.stop.AskStop.TheVariants as asks
use Rattle.qq_cluster_run.specs.Service.{HasServeCause}
use Rattle.qq_cluster_run.specs.Serving.{Claims, Run, all_seen, setup_in}
use Rattle.qq_cluster_run.specs.Troubles.{Trouble}
use Rattle.qq_cluster_run.proofs.Answering.{IsEarlier, IsSoAt, may_stop_earlier}
use Rattle.qq_broker.specs.Faults.{step_stop}
use Rattle.qq_broker.specs.Lives.{Giving}
use Rattle.qq_broker.specs.Nodes.{Meets}
use Rattle.qq_broker.specs.Takers.{AsksFree, AsksGone, IsGoneCaused, IsRefusedBy, RunMeets}
use Rattle.qq_broker.specs.declared.faults.StepFault.{StepFault}
use Rattle.qq_broker.specs.declared.faults.StepFault.TheVariants.{NoSuch, Nodes, Yard}
use Rattle.qq_broker.proofs.Meeting.{run-meets}

-- ---- there is no such taker

pub gone-caused : {D : Type 0} (given : Giving D) (facts : DiskFacts D) (first takers : Takers) (before after : ℕ)
    (s : Setup) (setup : ClusterSetup) (events : List ClusterEvent)
    (number : ℕ) (line : ScriptLine) → takers ≡ all_seen setup events first → AsksGone line takers
    → HasServeCause (RunMeets given facts first before after) setup events number line (step_stop s number NoSuch)
gone-caused given facts first takers before after s setup events number (Attach by at tag taker) seen gone =
    inr (subst (λ (all : Takers). is_free taker all ≡ false) seen gone, refl)
gone-caused given facts first takers before after s setup events number _ seen gone = absurd gone

-- ---- another fault

other-fault : (fault : StepFault) (line : ScriptLine) (takers : Takers) → AsksFree line takers → (fault ≡ NoSuch → ⊥)
    → IsGoneCaused fault line takers
other-fault NoSuch line takers free other = absurd (other refl)
other-fault Yard line takers free other = free
other-fault (Nodes fault) line takers free other = free

pub other-faults : {A : Type 0} (r : Result A StepFault) (line : ScriptLine) (takers : Takers) → AsksFree line takers
    → IfErr r (λ fault. fault ≡ NoSuch → ⊥) → IfErr r (λ fault. IsGoneCaused fault line takers)
other-faults r line takers free =
    IfErr-weaker r (λ fault. fault ≡ NoSuch → ⊥) (λ fault. IsGoneCaused fault line takers)
    (λ fault other. other-fault fault line takers free other)

pub others-same : {A : Type 0} (r : Result A StepFault) (P : Type 0) → IfErr r (λ fault. fault ≡ NoSuch → ⊥)
    → IfErr r (λ fault. fault ≡ NoSuch → P)
others-same r P =
    IfErr-weaker r (λ fault. fault ≡ NoSuch → ⊥) (λ fault. fault ≡ NoSuch → P)
    (λ fault other is. absurd (other is))

-- what was met below a run is met by it
cause-earlier : (met met' : Trouble → Type 0) → IsEarlier met met' → (setup : ClusterSetup)
    (events : List ClusterEvent) (number : ℕ) (line : ScriptLine) (stop : AskStop)
    → HasServeCause met setup events number line stop → HasServeCause met' setup events number line stop
cause-earlier met met' f setup events number line (asks.Ended ending) so =
    may_stop_earlier met met' f setup events number line ending so
cause-earlier met met' f setup events number line asks.NoMemory so = tt

pub run-causes : {A D : Type 0} (given : Giving D) (facts : DiskFacts D) (first : Takers) (before after : ℕ) (s : Setup)
    (setup : ClusterSetup) (events : List ClusterEvent) (number : ℕ)
    (line : ScriptLine) (r : Result A StepFault)
    → IfErr r (λ fault. HasServeCause (Meets given facts before after) setup events number line
    (step_stop s number fault))
    → IfErr r (λ fault. HasServeCause (RunMeets given facts first before after) setup events number line
    (step_stop s number fault))
run-causes given facts first before after s setup events number line r =
    IfErr-weaker r
    (λ fault. HasServeCause (Meets given facts before after) setup events number line (step_stop s number fault))
    (λ fault. HasServeCause (RunMeets given facts first before after) setup events number line
    (step_stop s number fault))
    (λ fault so. cause-earlier (Meets given facts before after) (RunMeets given facts first before after)
    (run-meets given facts first before after) setup events number line (step_stop s number fault) so)

-- ---- a line that is served, and one that is refused

pub always-ok : {A : Type 0} (r : Result A StepFault) (P : Type 0) → P → OnOk r P
always-ok (Ok x) P so = so
always-ok (Err e) P so = tt

pub so-at : (claims : Claims) (s : Setup) (run : Run) (stop : AskStop)
    → (IsRefusedBy stop → claims.finally (setup_in s run) run.events) → IsSoAt claims s run stop
so-at claims s run (asks.Ended ending) so = so
so-at claims s run asks.NoMemory so = tt
