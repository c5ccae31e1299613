-- The first rounds of a pump.
use Rattle.std.specs.Prelude.{ℕ, zero, suc}
use Rattle.qq_cluster_model.specs.Cluster.{Setup}
use Rattle.qq_cluster_model.specs.Rules.{Rule, IsNothing, Then, if_so, is_idle, IsRound}

-- so many rounds, or fewer where nothing is left to do before
abbrev pub Rounds : ℕ → Setup → Rule
Rounds zero setup c events = IsNothing c events
Rounds (suc more) setup c events =
    if_so (is_idle setup c) IsNothing (Then (IsRound setup) (Rounds more setup)) c events
