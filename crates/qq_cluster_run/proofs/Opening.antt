-- An opening at which no disk fails recovers a node.
use Rattle.std.proofs.Common.{◌≡◌, ℕ, zero, suc, false, true, List, [], ◌∷◌, ◌++◌, inl, inr, refl, sym, ap, subst, ◌∙◌, append-nil, append_assoc, arith}
use Rattle.std.specs.List.{range_with_len}
use Rattle.std.specs.Prelude.{◌<◌}
use Rattle.std.proofs.lemmas.Bool.{false≢true}
use Rattle.std.proofs.lemmas.Grind.{flat_map-append}
use Rattle.qq_defs.specs.Runnable.{IsRunnable}
use Rattle.qq_route.specs.declared.setup.Setup.{Setup}
use Rattle.qq_script_lines.specs.declared.line.ScriptLine.{ScriptLine}
use Rattle.qq_cluster_model.specs.Cluster.{Setup as ClusterSetup, ClusterEvent, Fails, FindsEach, new_cluster}
use Rattle.qq_cluster_model.specs.ClusterLaws.{IsServedBy, finding, findings, has_failure}
use Rattle.qq_cluster_model.specs.Rules.{ForEach, IsOpening, IsRestart}
use Rattle.qq_cluster_run.specs.Inputs.{Input}
use Rattle.qq_cluster_run.specs.Reading.{AskFor}
use Rattle.qq_cluster_run.specs.Serving.{AnyDisks, Behind, HasRecovered}
use Rattle.qq_cluster_run.specs.Setup.{CanBegin, Logs, cluster_over}
use Rattle.qq_route.specs.Setup.{state_of}

-- no front of events without a failure has one
front-fine : (early late : List ClusterEvent) → has_failure (early ++ late) ≡ false → has_failure early ≡ false
front-fine [] late fine = refl
front-fine (Fails k ∷ early) late fine = absurd (false≢true (sym fine))
front-fine (event ∷ early) late fine = grind (arith, front-fine early late fine)

-- the first node is down, so it is recovered
first-found : (setup : ClusterSetup) (k : ℕ) (early late : List ClusterEvent)
    → IsRestart setup k (new_cluster setup) early → has_failure early ≡ false → findings (early ++ late) ≡ [] → ⊥
first-found setup k early late (inl found) fine none =
    let is : FindsEach k found.ops ∷ late ≡ early ++ late =
    ap (λ (l : List ClusterEvent). l ++ late) (sym found.is) in
    let some : found.ops ∷ findings late ≡ [] = ap findings is ∙ none in
    absurd cc
first-found setup k early late (inr is) fine none =
    let bad : true ≡ false = ap has_failure (sym is) ∙ fine in absurd cc

pub recovered : (setup : ClusterSetup) (k : ℕ) (nodes : List ℕ) (events : List ClusterEvent) → setup.nodes ≡ k ∷ nodes
    → IsOpening setup (new_cluster setup) events → has_failure events ≡ false → HasRecovered events
recovered setup k nodes events are opens fine =
    let all = subst (λ (l : List ℕ). ForEach l (IsRestart setup) (new_cluster setup) opens.early) are opens.first in
    let early : has_failure opens.early ≡ false =
    front-fine opens.early opens.late (ap has_failure (sym opens.is) ∙ fine) in
    let first : has_failure all.early ≡ false =
    front-fine all.early all.late (ap has_failure (sym all.is) ∙ early) in
    λ none.
    first-found setup k all.early (all.late ++ opens.late) all.first first
    (ap findings (sym (append_assoc all.early all.late opens.late)
    ∙ ap (λ (l : List ClusterEvent). l ++ opens.late) (sym all.is) ∙ sym opens.is) ∙ none)

-- a run goes on only then
front-none : (early late : List ClusterEvent) → findings (early ++ late) ≡ [] → findings early ≡ []
front-none early late none = both-none (findings early) (sym (flat_map-append finding early late) ∙ none)
  where
    both-none : (first : List (ℕ → ℕ)) → first ++ findings late ≡ [] → first ≡ []
    both-none [] is = refl
    both-none (ops ∷ first) is = absurd cc

pub has-node : (s : Setup) (all left : List Input) (b : Behind AnyDisks s all left) → findings b.events ≡ [] → ⊥
has-node s all left b none =
    b.opened (front-none b.allowed.early b.allowed.late (ap findings (sym b.allowed.is) ∙ none))

first-node : (n : ℕ) → 0 < n → (k : ℕ) × ((nodes : List ℕ) × (range_with_len 1 n ≡ k ∷ nodes))
first-node zero some = absurd (omega (arith, some))
first-node (suc n) some = (1, (range_with_len 2 n, refl))

-- what serves all lines
pub served-behind : (s : Setup) (logs : Logs) (all : List Input) (lines : List ScriptLine) (events : List ClusterEvent)
    → IsRunnable (state_of s) → CanBegin s logs → AskFor s 0 all lines
    → IsServedBy (cluster_over s logs) lines events
    → (b : Behind AnyDisks s all []) × (b.logs ≡ logs) × (has_failure b.events ≡ false)
served-behind s logs all lines events runs begins asked served =
    let first = first-node s.nodes runs.some in
    let fine : has_failure served.is.early ≡ false =
    front-fine served.is.early served.is.late (ap has_failure (sym served.is.is) ∙ served.fine) in (
      record {
        read = all;
        is = sym (append-nil all);
        lines = lines;
        asked = asked;
        logs = logs;
        begins = begins;
        events = events;
        allowed = served.is;
        opened = recovered (cluster_over s logs) first.0 first.1.0 served.is.early first.1.1 served.is.first fine;
        disks = tt;
      },
      refl,
      served.fine,
    )
