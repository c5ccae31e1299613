-- Which states a machine of parts stands for.
use Rattle.qq_laws.specs.Far.{IsReached}
use Rattle.qq_model.specs.State.{State}
use Rattle.qq_parts.specs.Changes.{Holds}
use Rattle.qq_parts.specs.Parts.{Parts}

-- a state that entries in range have reached, of which the machine has the live messages
pub record StandsFor (s : State) (machine : Parts) : Type 0 where
  pub reached : IsReached s
  pub holds : Holds machine s
