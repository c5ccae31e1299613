-- Events that a node's log doesn't see leave its disk as it is.
use Rattle.std.proofs.Common.{◌≡◌, ◌≢◌, ℕ, Bool, true, false, List, [], ◌∷◌, ◌++◌, Option, None, refl, sym, ap, subst, ◌∙◌, inl, inr, arith}
use Rattle.std.specs.List.{AllByRecursion}
use Rattle.std.proofs.lemmas.Bool.{eq-eqb, false≢true, ne_eqb}
use Rattle.qq_disk.specs.Disk.{now}
use Rattle.qq_disk.specs.Facts.{DiskFacts}
use Rattle.qq_disk.proofs.Moments.{adds-none}
use Rattle.qq_raft_protocol.specs.Facts.{In}
use Rattle.qq_cluster_model.specs.Cluster.{Cluster, ClusterEvent, Fails, Crashes, FindsEach, Setup, cluster_after, cluster_happens}
use Rattle.qq_cluster_model.specs.Rules.{ForEach, IsFound, IsNothing, IsRestart, if_so}
use Rattle.qq_cluster_laws.specs.Linked.{IsLinked, IsPromised}
use Rattle.qq_cluster_laws.specs.Restarts.{first_of, first_restart, restarted_by}
use Rattle.qq_cluster_laws.specs.Serves.{is_failure_at}
use Rattle.qq_cluster_laws.specs.Traced.{HasNoCrash, IsNoCrash, IsTracedAt, KeepsWhere}
use Rattle.qq_cluster_laws.specs.Unseen.{sees}
use Rattle.qq_cluster_laws.proofs.Unseen.{unseen-linked}
use Rattle.qq_broker.specs.Lives.{IsOneDisk, failures}

abbrev pub AreUnseen : ℕ → List ClusterEvent → Type 0
AreUnseen k events = AllByRecursion (λ (event : ClusterEvent). sees k event ≡ false) events

-- ---- what such an event isn't

not-failure : (k : ℕ) (event : ClusterEvent) → sees k event ≡ false → is_failure_at k event ≡ false
not-failure k (Fails j) unseen = unseen
not-failure k _ unseen = refl

not-crash : (k : ℕ) (event : ClusterEvent) → sees k event ≡ false → IsNoCrash k event
not-crash k (Crashes j image) unseen = λ same. false≢true (sym unseen ∙ eq-eqb j k same)
not-crash k _ unseen = tt

not-restart : (k : ℕ) (event : ClusterEvent) → sees k event ≡ false → restarted_by k event ≡ None
not-restart k (FindsEach j ops) unseen = rw unseen refl
not-restart k (Fails j) unseen = rw unseen refl
not-restart k _ unseen = refl

pub no-failures : (k : ℕ) (events : List ClusterEvent) → AreUnseen k events → failures k events ≡ 0
no-failures k [] unseen = refl
no-failures k (event ∷ events) unseen = rw (not-failure k event unseen.0) (no-failures k events unseen.1)

pub no-crash : (k : ℕ) (events : List ClusterEvent) → AreUnseen k events → HasNoCrash k events
no-crash k [] unseen = tt
no-crash k (event ∷ events) unseen = (not-crash k event unseen.0, no-crash k events unseen.1)

pub no-restart : (k : ℕ) (events : List ClusterEvent) → AreUnseen k events → first_restart k events ≡ None
no-restart k [] unseen = refl
no-restart k (event ∷ events) unseen =
    ap (λ (o : Option Bool). first_of o (first_restart k events)) (not-restart k event unseen.0)
    ∙ no-restart k events unseen.1

-- ---- the disk

module _ {D : Type 0} (facts : DiskFacts D) (setup : Setup) (k : ℕ) where
  traced : (c : Cluster) (events : List ClusterEvent) (d : D) → AreUnseen k events → IsLinked setup c k
      (now (facts.past d))
      → IsTracedAt setup c k events (facts.past d) (facts.past d)
  traced c [] d unseen linked = (linked.promised, adds-none (IsPromised setup c k) (facts.past d), linked)
  traced c (event ∷ events) d unseen linked = (
    linked.promised,
    facts.past d,
    facts.past d,
    adds-none (IsPromised setup c k) (facts.past d),
    subst (λ (b : Bool). KeepsWhere b setup c k event (facts.past d) (facts.past d)) (sym unseen.0) refl,
    λ fair. traced (cluster_happens c event) events d unseen.1
        (unseen-linked setup c k event (now (facts.past d)) unseen.0 linked),
  )

  pub same-disk : (c : Cluster) (events : List ClusterEvent) (d : D) → AreUnseen k events
      → IsOneDisk facts setup k c events d d
  same-disk c events d unseen = record {
    told = refl;
    rose = inl (omega (arith, no-failures k events unseen));
    traced = λ tell linked. traced c events d unseen linked;
  }

-- ---- restarts of other nodes

both-unseen : (k : ℕ) (first second : List ClusterEvent) → AreUnseen k first → AreUnseen k second
    → AreUnseen k (first ++ second)
both-unseen k [] second one other = other
both-unseen k (event ∷ first) second one other = (one.0, both-unseen k first second one.1 other)

found-unseen : (setup : Setup) (j k : ℕ) (c : Cluster) (events : List ClusterEvent) → j ≢ k → IsFound setup j c events
    → AreUnseen k events
found-unseen setup j k c events other (inl so) = subst (AreUnseen k) (sym so.is) (ne_eqb j k other, tt)
found-unseen setup j k c events other (inr is) = subst (AreUnseen k) (sym is) (ne_eqb j k other, tt)

pub restart-unseen : (setup : Setup) (j k : ℕ) (c : Cluster) (events : List ClusterEvent) → j ≢ k
    → IsRestart setup j c events → AreUnseen k events
restart-unseen setup j k c events other so = by (c.up j) so
  where
    by : (b : Bool) → if_so b IsNothing (IsFound setup j) c events → AreUnseen k events
    by true is = subst (AreUnseen k) (sym is) tt
    by false is = found-unseen setup j k c events other is

pub restarts-unseen : (setup : Setup) (k : ℕ) (list : List ℕ) (c : Cluster) (events : List ClusterEvent)
    → (In k list → ⊥) → ForEach list (IsRestart setup) c events → AreUnseen k events
restarts-unseen setup k [] c events none is = subst (AreUnseen k) (sym is) tt
restarts-unseen setup k (j ∷ list) c events none so =
    subst (AreUnseen k) (sym so.is)
    (both-unseen k so.early so.late
    (restart-unseen setup j k c so.early (λ same. none (inl (sym same))) so.first)
    (restarts-unseen setup k list (cluster_after c so.early) so.late (λ there. none (inr there)) so.second))
