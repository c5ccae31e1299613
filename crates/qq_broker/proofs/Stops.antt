-- How a fault ends a run.
use Rattle.std.proofs.Common.{◌≡◌, ℕ, refl, sym, subst, inl, inr, arith}
use Rattle.qq_base.specs.declared.memory.Memory.{Memory}
use Rattle.qq_base.specs.declared.memory.Memory.TheVariants.{Spent, Want}
use Rattle.qq_disk.specs.declared.image.Image.{Image}
use Rattle.qq_disk.specs.Facts.{DiskFacts}
use Rattle.qq_ports.specs.Yard.{IsYardCaused}
use Rattle.qq_ports.specs.declared.yard_fault.YardFault.{YardFault}
use Rattle.qq_ports.specs.declared.yard_fault.YardFault.TheVariants as yard_faults
use Rattle.qq_script_lines.specs.declared.line.Nodes.{Nodes as Which}
use Rattle.qq_script_lines.specs.declared.line.ScriptLine.TheVariants.{Crash}
use Rattle.qq_route.specs.declared.setup.Setup.{Setup}
use Rattle.qq_cluster_run.specs.declared.stop.AskStop.{AskStop}
use Rattle.qq_cluster_run.specs.declared.stop.AskStop.TheVariants.{NoMemory}
use Rattle.qq_cluster_run.specs.Service.{HasServeCause}
use Rattle.qq_cluster_run.specs.Serving.{Run, setup_in}
use Rattle.qq_opening.specs.declared.restarting.RestartFault.{RestartFault}
use Rattle.qq_opening.specs.declared.restarting.RestartFault.TheVariants as faults_of
use Rattle.qq_broker.specs.Faults.{IsStepStopOf, crash_fault, step_stop, stop_for}
use Rattle.qq_broker.specs.Lives.{Giving}
use Rattle.qq_broker.specs.Nodes.{Meets}
use Rattle.qq_broker.specs.Serving.{IsStopOf, memory_stop}
use Rattle.qq_broker.specs.Takers.{IsRefusedBy}
use Rattle.qq_broker.specs.declared.faults.StepFault.{StepFault}
use Rattle.qq_broker.specs.declared.faults.StepFault.TheVariants.{NoSuch, Yard, Nodes}

-- where there is memory for a queue's name
pub own-stop : (s : Setup) (fault : RestartFault) → IsStopOf s fault (stop_for s fault)
own-stop s (faults_of.Damaged node file place) = refl
own-stop s (faults_of.Version node file byte) = refl
own-stop s (faults_of.Lost node queue noticed found) = inr refl
own-stop s (faults_of.Memory memory) = refl

-- what holds of the stop, and where there is no memory, holds of how a run ends
nodes-stop : (P : AskStop → Type 0) (s : Setup) (fault : RestartFault) (stop : AskStop) → P NoMemory
    → IsStopOf s fault stop → P (stop_for s fault) → P stop
nodes-stop P s (faults_of.Damaged node file place) stop want is so = subst P (sym is) so
nodes-stop P s (faults_of.Version node file byte) stop want is so = subst P (sym is) so
nodes-stop P s (faults_of.Lost node queue noticed found) stop want (inl none) so = subst P (sym none) want
nodes-stop P s (faults_of.Lost node queue noticed found) stop want (inr is) so = subst P (sym is) so
nodes-stop P s (faults_of.Memory memory) stop want is so = subst P (sym is) so

pub told-stop : (P : AskStop → Type 0) (s : Setup) (number : ℕ) (fault : StepFault) (stop : AskStop) → P NoMemory
    → IsStepStopOf s number fault stop → P (step_stop s number fault) → P stop
told-stop P s number NoSuch stop want is so = subst P (sym is) so
told-stop P s number Yard stop want is so = subst P (sym is) so
told-stop P s number (Nodes fault) stop want is so = nodes-stop P s fault stop want is so

-- a yard and nodes refuse no line
nodes-refuse : (s : Setup) (fault : RestartFault) → IsRefusedBy (stop_for s fault) → ⊥
nodes-refuse s (faults_of.Damaged node file place) (inl is) = absurd (omega (arith, is))
nodes-refuse s (faults_of.Damaged node file place) (inr is) = absurd (omega (arith, is))
nodes-refuse s (faults_of.Version node file byte) (inl is) = absurd (omega (arith, is))
nodes-refuse s (faults_of.Version node file byte) (inr is) = absurd (omega (arith, is))
nodes-refuse s (faults_of.Lost node queue noticed found) (inl is) = absurd (omega (arith, is))
nodes-refuse s (faults_of.Lost node queue noticed found) (inr is) = absurd (omega (arith, is))
nodes-refuse s (faults_of.Memory Want) refused = refused
nodes-refuse s (faults_of.Memory (Spent number)) (inl is) = absurd (omega (arith, is))
nodes-refuse s (faults_of.Memory (Spent number)) (inr is) = absurd (omega (arith, is))

-- so a line that is refused has no such taker
pub refused-gone : (s : Setup) (number : ℕ) (fault : StepFault) → IsRefusedBy (step_stop s number fault)
    → fault ≡ NoSuch
refused-gone s number NoSuch refused = refl
refused-gone s number Yard (inl is) = absurd (omega (arith, is))
refused-gone s number Yard (inr is) = absurd (omega (arith, is))
refused-gone s number (Nodes fault) refused = absurd (nodes-refuse s fault refused)

-- a yard makes no crash
pub crash-caused : {D : Type 0} (given : Giving D) (facts : DiskFacts D) (before after : ℕ) (s : Setup) (run : Run)
    (number : ℕ) (which : Which) (image : Image) (fault : YardFault)
    (told : StepFault) → told ≡ crash_fault fault → IsYardCaused before after fault
    → HasServeCause (Meets given facts before after) (setup_in s run) run.events number (Crash which image)
    (step_stop s number told)
crash-caused given facts before after s run number which image yard_faults.Failed told is rose =
    subst
    (λ (f : StepFault). HasServeCause (Meets given facts before after) (setup_in s run) run.events number
    (Crash which image) (step_stop s number f))
    (sym is) (inr (rose, refl))
crash-caused given facts before after s run number which image (yard_faults.Memory memory) told is want =
    subst
    (λ (f : StepFault). HasServeCause (Meets given facts before after) (setup_in s run) run.events number
    (Crash which image) (step_stop s number f))
    (sym is)
    (subst
    (λ (m : Memory). HasServeCause (Meets given facts before after) (setup_in s run) run.events number
    (Crash which image) (memory_stop m))
    (sym want) tt)
