-- A disk goes on while more events happen.
use Rattle.std.proofs.Common.{◌≡◌, ◌+◌, ◌⊎◌, ℕ, Bool, true, false, List, [], ◌∷◌, ◌++◌, Option, Some, None, refl, sym, ap, subst, ◌∙◌, inl, inr, append-nil, append_assoc, arith}
use Rattle.std.specs.Prelude.{IsTrue, is_some}
use Rattle.std.proofs.lemmas.Bool.{eq-eqb, ne_eqb}
use Rattle.qq_base.specs.Causes.{Rose}
use Rattle.qq_disk.specs.declared.image.Image.{Image}
use Rattle.qq_disk.specs.Disk.{now}
use Rattle.qq_disk.specs.Facts.{DiskFacts}
use Rattle.qq_disk.proofs.Moments.{adds-none}
use Rattle.qq_cluster_model.specs.Cluster.{Cluster, ClusterEvent, Sets, Alike, At, NodeWrites, NodeSyncs, Fails, Crashes, FindsEach, Shows, SaysDown, SaysNoSuch, SaysUnroutable, SaysBusy, SaysEnded, Setup, cluster_after, cluster_happens}
use Rattle.qq_cluster_laws.specs.Linked.{IsLinked, IsPromised}
use Rattle.qq_cluster_laws.specs.Restarts.{first_restart}
use Rattle.qq_cluster_laws.specs.Serves.{fails_at, is_failure_at}
use Rattle.qq_cluster_laws.specs.Traced.{HasNoCrash, IsNoCrash, IsTracedAt}
use Rattle.qq_cluster_laws.proofs.Reached.{after-both}
use Rattle.qq_cluster_laws.proofs.Restarts.{first-stays}
use Rattle.qq_cluster_laws.proofs.Traces.{traces-then}
use Rattle.qq_broker.specs.Lives.{BeginsBy, Giving, IsLeft, IsOneDisk, Lives, RoseBy, at_crash, crash_of, failures}
use Rattle.qq_broker.proofs.Failing.{failures-both}

-- ---- crashes

pub not-crash : (k : ℕ) (event : ClusterEvent) → IsNoCrash k event → crash_of k event ≡ None
not-crash k (Sets auto) calm = refl
not-crash k (Alike event) calm = refl
not-crash k (At place event) calm = refl
not-crash k (NodeWrites j) calm = refl
not-crash k (NodeSyncs j) calm = refl
not-crash k (Fails j) calm = refl
not-crash k (Crashes j image) calm = rw (ne_eqb j k calm) refl
not-crash k (FindsEach j ops) calm = refl
not-crash k (Shows place) calm = refl
not-crash k (SaysDown j) calm = refl
not-crash k SaysNoSuch calm = refl
not-crash k SaysUnroutable calm = refl
not-crash k SaysBusy calm = refl
not-crash k SaysEnded calm = refl

-- ---- counts

rose-both : (a b c m n : ℕ) → RoseBy m a b → RoseBy n b c → RoseBy (m + n) a c
rose-both a b c m n (inl le) (inl more) = inl (omega (arith, le, more))
rose-both a b c m n (inr end) (inl more) = inr (omega (arith, end, more))
rose-both a b c m n so (inr end) = inr end

pub rose-once : (a b : ℕ) → Rose a b → RoseBy 1 a b
rose-once a b (inl less) = inl (omega (arith, less))
rose-once a b (inr end) = inr (omega (arith, end))

pub fails-some : (k : ℕ) (events : List ClusterEvent) → (failures k events ≡ 0) ⊎ (fails_at k events ≡ true)
fails-some k [] = inl refl
fails-some k (event ∷ events) = by (is_failure_at k event) refl (fails-some k events)
  where
    by : (b : Bool) → is_failure_at k event ≡ b → (failures k events ≡ 0) ⊎ (fails_at k events ≡ true)
        → (failures k (event ∷ events) ≡ 0) ⊎ (fails_at k (event ∷ events) ≡ true)
    by true is rest = inr (rw is refl)
    by false is rest = rw is rest

-- ---- first restarts

-- a node that was restarted stays so
pub restarted-stays : (k : ℕ) (events more : List ClusterEvent) → is_some (first_restart k events) ≡ true
    → is_some (first_restart k (events ++ more)) ≡ true
restarted-stays k events more some = by (first_restart k events) refl some
  where
    by : (o : Option Bool) → first_restart k events ≡ o → is_some o ≡ true
        → is_some (first_restart k (events ++ more)) ≡ true
    by None is none = absurd cc
    by (Some up) is some' = ap is_some (first-stays k events more up is)

-- it isn't as it was given any more
pub not-first : {A : Type 0} (k : ℕ) (events : List ClusterEvent) → is_some (first_restart k events) ≡ true
    → first_restart k events ≡ None → A
not-first k events some none = absurd (let e : false ≡ true = ap is_some (sym none) ∙ some in cc)

module _ {D : Type 0} (facts : DiskFacts D) (setup : Setup) (k : ℕ) where
  -- the logs that a node has begun with
  pub begins-stay : (disk : D) (events more : List ClusterEvent) → is_some (first_restart k events) ≡ true
      → BeginsBy facts setup k disk (first_restart k events)
      → BeginsBy facts setup k disk (first_restart k (events ++ more))
  begins-stay disk events more some begins = by (first_restart k events) refl some begins
    where
      by : (o : Option Bool) → first_restart k events ≡ o → is_some o ≡ true → BeginsBy facts setup k disk o
          → BeginsBy facts setup k disk (first_restart k (events ++ more))
      by None is none so = absurd cc
      by (Some up) is some' so = subst (BeginsBy facts setup k disk) (sym (first-stays k events more up is)) so

  abbrev One : Cluster → List ClusterEvent → D → D → Type 0
  One c events first last = IsOneDisk facts setup k c events first last

  one-both : (cx c : Cluster) (since more : List ClusterEvent) (first mid last : D) → cluster_after c since ≡ cx
      → One c since first mid → One cx more mid last → One c (since ++ more) first last
  one-both cx c since more first mid last at a b = record {
    told = b.told ∙ a.told;
    rose = subst (λ (n : ℕ). RoseBy n (facts.faults first) (facts.faults last)) (sym (failures-both k since more))
        (rose-both (facts.faults first) (facts.faults mid) (facts.faults last) (failures k since)
        (failures k more) a.rose b.rose);
    traced = λ tell linked.
        traces-then IsLinked setup k c since more (facts.past first) (facts.past mid) (facts.past last)
        (a.traced tell linked)
        (λ later. subst (λ (d : Cluster). IsTracedAt setup d k more (facts.past mid) (facts.past last)) (sym at)
        (b.traced (subst IsTrue (sym a.told) tell)
        (subst (λ (d : Cluster). IsLinked setup d k (now (facts.past mid))) at later)));
  }

  -- nothing happened yet
  pub one-none : (c : Cluster) (d : D) → One c [] d d
  one-none c d = record {
    told = refl;
    rose = inl (omega arith);
    traced = λ tell linked. (linked.promised, adds-none (IsPromised setup c k) (facts.past d), linked);
  }

module _ {D : Type 0} (given : Giving D) (facts : DiskFacts D) (setup : Setup) (k : ℕ) where
  abbrev One' : Cluster → List ClusterEvent → D → D → Type 0
  One' c events first last = IsOneDisk facts setup k c events first last

  abbrev Live : Cluster → List ClusterEvent → List ClusterEvent → D → D → Type 0
  Live c since events first last = Lives given facts setup k c since events first last

  stays : (o : Option Image) (Ends : D → Type 0) (GoesOn : D → Type 0) (Stays : Type 0) → o ≡ None → Stays
      → at_crash o Ends (IsLeft given facts) GoesOn Stays
  stays o Ends GoesOn Stays none so =
      subst (λ (p : Option Image). at_crash p Ends (IsLeft given facts) GoesOn Stays) (sym none) so

  -- without a crash of the node it is one disk
  one-lives : (c : Cluster) (since events : List ClusterEvent) (first last : D) → HasNoCrash k events
      → One' c (since ++ events) first last → Live c since events first last
  one-lives c since [] first last calm one =
      subst (λ (l : List ClusterEvent). One' c l first last) (append-nil since) one
  one-lives c since (event ∷ events) first last calm one =
      stays (crash_of k event) _ _ _ (not-crash k event calm.0)
      (one-lives c (since ++ event ∷ []) events first last calm.1
      (subst (λ (l : List ClusterEvent). One' c l first last) (sym (append_assoc since (event ∷ []) events)) one))

  -- from a disk on, whatever it was before
  abbrev pub GoesOn : Cluster → List ClusterEvent → D → D → Type 0
  GoesOn cx more mid last =
      (c : Cluster) (since : List ClusterEvent) (first : D) → cluster_after c since ≡ cx → One' c since first mid
      → Live c since more first last

  pub lives-then : (cx c : Cluster) (since events more : List ClusterEvent) (first mid last : D)
      → cluster_after (cluster_after c since) events ≡ cx → Live c since events first mid → GoesOn cx more mid last
      → Live c since (events ++ more) first last
  lives-then cx c since [] more first mid last at so on = on c since first at so
  lives-then cx c since (event ∷ events) more first mid last at so on =
      by (crash_of k event)
      (λ same. lives-then cx c (since ++ event ∷ []) events more first mid last
      (ap (λ (d : Cluster). cluster_after d events) (after-both c since (event ∷ [])) ∙ at) same on)
      (λ new goes. lives-then cx (cluster_happens (cluster_after c since) event) [] events more new mid last at goes on) so
    where
      by : (o : Option Image)
          → (Live c (since ++ event ∷ []) events first mid → Live c (since ++ event ∷ []) (events ++ more) first last)
          → ((new : D) → Live (cluster_happens (cluster_after c since) event) [] events new mid
          → Live (cluster_happens (cluster_after c since) event) [] (events ++ more) new last)
          → at_crash o (λ old. One' c since first old) (IsLeft given facts)
          (λ new. Live (cluster_happens (cluster_after c since) event) [] events new mid)
          (Live c (since ++ event ∷ []) events first mid)
          → at_crash o (λ old. One' c since first old) (IsLeft given facts)
          (λ new. Live (cluster_happens (cluster_after c since) event) [] (events ++ more) new last)
          (Live c (since ++ event ∷ []) (events ++ more) first last)
      by None further next so = further so
      by (Some image) further next (old, (new, ends, left, goes)) = (old, (new, ends, left, next new goes))

  -- events without a crash of the node
  pub goes-on : (cx : Cluster) (more : List ClusterEvent) (mid last : D) → HasNoCrash k more → One' cx more mid last
      → GoesOn cx more mid last
  goes-on cx more mid last calm so = λ c since first at one.
      one-lives c since more first last calm
      (one-both facts setup k cx c since more first mid last at one so)

  -- a crash of the node
  pub goes-crashed : (cx : Cluster) (image : Image) (mid last : D) → IsLeft given facts image mid last
      → GoesOn cx (Crashes k image ∷ []) mid last
  goes-crashed cx image mid last left = λ c since first at one.
      crashed (crash_of k (Crashes k image)) (rw (eq-eqb k k refl) refl) c since first one
    where
      crashed : (o : Option Image) → o ≡ Some image → (c : Cluster) (since : List ClusterEvent) (first : D)
          → One' c since first mid
          → at_crash o (λ old. One' c since first old) (IsLeft given facts)
          (λ new. Live (cluster_happens (cluster_after c since) (Crashes k image)) [] [] new last)
          (Live c (since ++ Crashes k image ∷ []) [] first last)
      crashed o is c since first one =
          subst (λ (p : Option Image). at_crash p (λ old. One' c since first old) (IsLeft given facts)
          (λ new. Live (cluster_happens (cluster_after c since) (Crashes k image)) [] [] new last)
          (Live c (since ++ Crashes k image ∷ []) [] first last)) (sym is) (
            mid,
            (
              last,
              one,
              left,
              one-none facts setup k (cluster_happens (cluster_after c since) (Crashes k image)) last,
            ),
          )
