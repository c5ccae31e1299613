-- The first restart of a node, as events follow.
use Rattle.std.proofs.Common.{◌≡◌, ℕ, Bool, true, false, List, [], ◌∷◌, ◌++◌, Option, Some, None, refl, sym, ap, ◌∙◌, inl, inr}
use Rattle.std.specs.Prelude.{nat_eq}
use Rattle.std.proofs.lemmas.Bool.{cases_Bool, or_left, or_right}
use Rattle.qq_cluster_model.specs.Cluster.{ClusterEvent, Fails, FindsEach}
use Rattle.qq_cluster_laws.specs.Restarts.{first_of, first_restart, restarted_by}
use Rattle.qq_cluster_laws.specs.Serves.{fails_at, is_failure_at}

first-assoc : (a b c : Option Bool) → first_of (first_of a b) c ≡ first_of a (first_of b c)
first-assoc None b c = refl
first-assoc (Some up) b c = refl

pub first-both : (k : ℕ) (first second : List ClusterEvent)
    → first_restart k (first ++ second) ≡ first_of (first_restart k first) (first_restart k second)
first-both k [] second = refl
first-both k (event ∷ first) second =
    ap (first_of (restarted_by k event)) (first-both k first second)
    ∙ sym (first-assoc (restarted_by k event) (first_restart k first) (first_restart k second))

-- it stays, whatever happens later
pub first-stays : (k : ℕ) (events more : List ClusterEvent) (up : Bool) → first_restart k events ≡ Some up
    → first_restart k (events ++ more) ≡ Some up
first-stays k events more up is =
    first-both k events more ∙ ap (λ (o : Option Bool). first_of o (first_restart k more)) is

-- a node whose first restart was a failure has failed
pub failed-first : (k : ℕ) (events : List ClusterEvent) → first_restart k events ≡ Some false → fails_at k events ≡ true
failed-first k [] is = absurd cc
failed-first k (event ∷ events) is = by (restarted_by k event) refl (failed-first k events) is
  where
    here : (e : ClusterEvent) → restarted_by k e ≡ Some false → is_failure_at k e ≡ true
    here (Fails j) so = elim (cases_Bool (nat_eq j k)) [
      | inl same ↦ same
      | inr other ↦ absurd (let e : None ≡ Some false = rw other at so in cc)
    ]
    here (FindsEach j ops) so = elim (cases_Bool (nat_eq j k)) [
      | inl same ↦ absurd (let e : Some true ≡ Some false = rw same at so in cc)
      | inr other ↦ absurd (let e : None ≡ Some false = rw other at so in cc)
    ]
    here _ so = absurd cc

    by : (o : Option Bool) → restarted_by k event ≡ o → (first_restart k events ≡ Some false → fails_at k events ≡ true)
        → first_of o (first_restart k events) ≡ Some false → fails_at k (event ∷ events) ≡ true
    by None so later rest = or_right (is_failure_at k event) (fails_at k events) (later rest)
    by (Some true) so later rest = absurd cc
    by (Some false) so later rest = or_left (is_failure_at k event) (fails_at k events) (here event so)
