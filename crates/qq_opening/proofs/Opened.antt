-- What follows the restarts of an opening.
use Rattle.qq_cluster_model.specs.Outcome.{Outcome}
use Rattle.std.proofs.Common.{Bool, true, false, List, ◌++◌, refl}
use Rattle.qq_base.specs.declared.memory.Memory.{Memory}
use Rattle.qq_disk.specs.Facts.{DiskFacts}
use Rattle.qq_cluster_model.specs.Cluster.{Cluster, ClusterEvent, Setup, cluster_after}
use Rattle.qq_cluster_model.specs.Rules.{ForEach, IsFirstTick, IsPump, Then, most_rounds}
use Rattle.qq_cluster.specs.Nodes.{GaveUp, Served}
use Rattle.qq_cluster.specs.declared.nodes.Nodes.{Nodes as Held}
use Rattle.qq_cluster.proofs.Stands.{gave_up-first, gave_up-second, served-then}
use Rattle.qq_cluster.proofs.Ticked.{total-first_tick}
use Rattle.qq_cluster.proofs.Total.{Total, total-each, total-pumps, total-then}
use Rattle.qq_opening.specs.Restarting.{IsOpenedTo, RestartEachTo}
use Rattle.qq_opening.proofs.RestartRules.{fails-first, findings-none}

abbrev pub Opens : Setup → Cluster → List ClusterEvent → Type 0
Opens setup = Then (ForEach setup.places (IsFirstTick setup)) (IsPump setup)

pub total-opens : (setup : Setup) → Total (Opens setup)
total-opens setup =
    total-then (ForEach setup.places (IsFirstTick setup)) (IsPump setup)
    (total-each setup.places (IsFirstTick setup) (total-first_tick setup)) (total-pumps most_rounds setup)

-- each is restarted, and then that follows
pub opens-to : (some : Bool) (setup : Setup) (c : Cluster) (events others : List ClusterEvent)
    → RestartEachTo some setup c events
    → Opens setup (cluster_after c events) others → IsOpenedTo some setup c (events ++ others)
opens-to true setup c events others one other = (
  record { early = events; late = others; is = refl; first = one.0; second = other },
  λ none. one.1 (findings-none events others none).0,
)
opens-to false setup c events others one other = (
  record { early = events; late = others; is = refl; first = one.0; second = other },
  λ k here down. fails-first k events others (one.1 k here down),
)

abbrev Ticks : Setup → Cluster → List ClusterEvent → Type 0
Ticks setup = ForEach setup.places (IsFirstTick setup)

module _ {D : Type 0} {facts : DiskFacts D} where
  pub opens-served : {mid last new : Held D} {before middle later : Outcome}
      → Served facts (λ (setup : Setup). ForEach setup.places (IsFirstTick setup)) mid last before middle
      → Served facts IsPump last new middle later → Served facts Opens mid new before later
  opens-served first second = served-then {First = Ticks} {Second = IsPump} first second

  pub ticks-gave_up : {mid new : Held D} {memory : Memory}
      → GaveUp facts (λ (setup : Setup). ForEach setup.places (IsFirstTick setup)) mid new memory
      → GaveUp facts Opens mid new memory
  ticks-gave_up given = gave_up-first {First = Ticks} {Second = IsPump} (total-pumps most_rounds) given

  pub pump-gave_up : {mid last new : Held D} {before middle : Outcome} {memory : Memory}
      → Served facts (λ (setup : Setup). ForEach setup.places (IsFirstTick setup)) mid last before middle
      → GaveUp facts IsPump last new memory → GaveUp facts Opens mid new memory
  pump-gave_up first given = gave_up-second {First = Ticks} {Second = IsPump} first given
