-- Events without a failure of a disk, and without a restart.
use Rattle.std.proofs.Common.{◌≡◌, ℕ, Bool, false, ◌||◌, List, [], ◌∷◌, ◌++◌, refl, sym, ap, ◌∙◌, inl, inr}
use Rattle.std.proofs.lemmas.Bool.{false≢true, or_parts}
use Rattle.qq_base.proofs.Lists.{In}
use Rattle.qq_cluster_model.specs.Cluster.{ClusterEvent, Sets, Alike, At, NodeWrites, NodeSyncs, Fails, Crashes, FindsEach, Shows, SaysDown, SaysNoSuch, SaysUnroutable, SaysBusy, SaysEnded}
use Rattle.qq_cluster_model.specs.ClusterLaws.{finding, findings, has_failure, is_failure, verdict_at, verdict_by, verdicts}
use Rattle.qq_cluster_model.specs.Queue.{Event, Judges}
use Rattle.qq_taker.specs.declared.taker.Verdict.{Verdict}

verdict-one : (event : Event) → ((verdict : Verdict) → Judges verdict ≡ event → ⊥) → verdict_by event ≡ []
verdict-one (Judges verdict) none = absurd (none verdict refl)
verdict-one event none = refl

verdict-none : (event : ClusterEvent) → ((place : ℕ) (verdict : Verdict) → At place (Judges verdict) ≡ event → ⊥)
    → verdict_at event ≡ []
verdict-none (At place event) none = verdict-one event (λ verdict same. none place verdict (ap (At place) same))
verdict-none event none = refl

pub verdicts-none : (events : List ClusterEvent)
    → ((place : ℕ) (verdict : Verdict) → In (At place (Judges verdict)) events → ⊥) → verdicts events ≡ []
verdicts-none [] none = refl
verdicts-none (event ∷ events) none =
    ap (λ (l : List Verdict). l ++ verdicts events)
    (verdict-none event (λ place verdict same. none place verdict (inl same)))
    ∙ verdicts-none events (λ place verdict later. none place verdict (inr later))

abbrev pub HasNoFailure : List ClusterEvent → Type 0
HasNoFailure events = (k : ℕ) → In (Fails k) events → ⊥

fine-one : (event : ClusterEvent) → ((k : ℕ) → Fails k ≡ event → ⊥) → is_failure event ≡ false
fine-one (Fails k) none = absurd (none k refl)
fine-one (Sets auto) none = refl
fine-one (Alike event) none = refl
fine-one (At place event) none = refl
fine-one (NodeWrites k) none = refl
fine-one (NodeSyncs k) none = refl
fine-one (Crashes k image) none = refl
fine-one (FindsEach k ops) none = refl
fine-one (Shows place) none = refl
fine-one (SaysDown k) none = refl
fine-one SaysNoSuch none = refl
fine-one SaysUnroutable none = refl
fine-one SaysBusy none = refl
fine-one SaysEnded none = refl

pub fine-from : (events : List ClusterEvent) → HasNoFailure events → has_failure events ≡ false
fine-from [] none = refl
fine-from (event ∷ events) none =
    ap (λ (b : Bool). b || has_failure events) (fine-one event (λ k same. none k (inl same)))
    ∙ fine-from events (λ k later. none k (inr later))

pub from-fine : (events : List ClusterEvent) → has_failure events ≡ false → HasNoFailure events
from-fine [] fine k here = here
from-fine (event ∷ events) fine k here =
    let both = or_parts (is_failure event) (has_failure events) fine in
    elim here [
      | inl same ↦ false≢true (sym both.0 ∙ ap is_failure (sym same))
      | inr later ↦ from-fine events both.1 k later
    ]

found-one : (event : ClusterEvent) → ((k : ℕ) (ops : ℕ → ℕ) → FindsEach k ops ≡ event → ⊥) → finding event ≡ []
found-one (FindsEach k ops) none = absurd (none k ops refl)
found-one (Sets auto) none = refl
found-one (Alike event) none = refl
found-one (At place event) none = refl
found-one (NodeWrites k) none = refl
found-one (NodeSyncs k) none = refl
found-one (Fails k) none = refl
found-one (Crashes k image) none = refl
found-one (Shows place) none = refl
found-one (SaysDown k) none = refl
found-one SaysNoSuch none = refl
found-one SaysUnroutable none = refl
found-one SaysBusy none = refl
found-one SaysEnded none = refl

pub found-none : (events : List ClusterEvent) → ((k : ℕ) (ops : ℕ → ℕ) → In (FindsEach k ops) events → ⊥)
    → findings events ≡ []
found-none [] none = refl
found-none (event ∷ events) none =
    ap (λ (l : List (ℕ → ℕ)). l ++ findings events) (found-one event (λ k ops same. none k ops (inl same)))
    ∙ found-none events (λ k ops later. none k ops (inr later))
