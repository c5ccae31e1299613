-- What comes of events outside of the nodes.
use Rattle.std.proofs.Common.{◌≡◌, ℕ, List, [], ◌∷◌, ◌++◌, sym, ap, append-nil}
use Rattle.qq_taker.specs.Takers.{no_takers}
use Rattle.qq_cluster_model.specs.Cluster.{Cluster, ClusterEvent, Setup}
use Rattle.qq_cluster_model.specs.Outcome.{Outcome, takers_after}
use Rattle.qq_cluster_model.specs.Texts.{text_of}
use Rattle.qq_cluster_laws.proofs.Serves.{ShowsOne}
use Rattle.qq_cluster.specs.Showing.{with_line}

abbrev pub outcome_after : Setup → Cluster → List ClusterEvent → Outcome → Outcome
outcome_after setup c events before =
    record { text = before.text ++ text_of setup c events; takers = takers_after setup c events before.takers }

-- nothing was printed, and there are no takers
abbrev pub no_outcome : Outcome
no_outcome = record { text = []; takers = no_takers }

-- nothing comes of what shows nothing
pub same-outcome : (outcome : Outcome) → outcome ≡ with_line [] outcome
same-outcome outcome = ap (λ (l : List ℕ). record outcome { text = l }) (sym (append-nil outcome.text))

pub line-outcome : (line : List ℕ) (before : Outcome) → with_line line before ≡ with_line (line ++ []) before
line-outcome line before = ap (λ (l : List ℕ). with_line l before) (sym (append-nil line))

pub shows-one : (setup : Setup) (c : Cluster) (event : ClusterEvent) (before later : Outcome)
    → later ≡ outcome_after setup c (event ∷ []) before → ShowsOne setup c event before later
shows-one setup c event before later is =
    record { text = ap (λ (o : Outcome). o.text) is; takers = ap (λ (o : Outcome). o.takers) is }
