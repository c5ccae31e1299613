-- A disk's history, cut where its node was crashed.
use Rattle.std.proofs.Common.{◌≡◌, ◌⊎◌, ◌≤◌, ◌<◌, ◌-◌, ◌^◌, ℕ, Bool, true, false, ◌||◌, List, [], ◌∷◌, ◌++◌, length, suc, Option, Some, None, refl, sym, ap, subst, ◌∙◌, inl, inr, append-nil, append_assoc, arith}
use Rattle.std.specs.Prelude.{filter}
use Rattle.std.proofs.lemmas.Bool.{cases_Bool, eq-eqb, false≢true}
use Rattle.std.proofs.lemmas.Bool.Decides.{eqb_tells}
use Rattle.std.proofs.lemmas.List.Folds.{list_any-append}
use Rattle.qq_base.proofs.Lists.{AllByRecursion-append}
use Rattle.qq_disk.specs.declared.image.Image.{Image}
use Rattle.qq_disk.specs.Facts.{DiskFacts}
use Rattle.qq_cluster_model.specs.Cluster.{Cluster, ClusterEvent, Crashes, Setup, cluster_after, cluster_happens}
use Rattle.qq_cluster_laws.specs.Restarts.{first_restart}
use Rattle.qq_cluster_laws.specs.Serves.{fails_at, is_failure_at}
use Rattle.qq_cluster_laws.specs.Traced.{HasNoCrash, IsNoCrash}
use Rattle.qq_cluster_laws.proofs.Reached.{after-both}
use Rattle.qq_cluster_laws.proofs.Restarts.{first-stays}
use Rattle.qq_broker.specs.Lives.{BeginsBy, Giving, IsLeft, IsOneDisk, Lives, RoseBy, at_crash, crash_of, failures}
use Rattle.qq_broker.proofs.Living.{goes-crashed, goes-on, lives-then, not-crash}

-- ---- crashes

-- an event that names an image for a node is its crash
pub crash-is : (k : ℕ) (event : ClusterEvent) (image : Image) → crash_of k event ≡ Some image → event ≡ Crashes k image
crash-is k (Crashes j named) image is = elim (eqb_tells j k) [
  | inl (same, equal) ↦
      let some : Some named ≡ Some image = rw same at is in
      let e : named ≡ image = cc in
      ap (λ (i : ℕ). Crashes i named) equal ∙ ap (Crashes k) e
  | inr (other, unequal) ↦ absurd (let e : None ≡ Some image = rw other at is in cc)
]
crash-is k _ image is = absurd cc

-- and one that names none is no crash of it
pub calm-event : (k : ℕ) (event : ClusterEvent) → crash_of k event ≡ None → IsNoCrash k event
calm-event k (Crashes j image) none =
    λ same. absurd (let e : Some image ≡ None = rw (eq-eqb j k same) at none in cc)
calm-event k _ none = tt

pub calm-more : (k : ℕ) (events : List ClusterEvent) (event : ClusterEvent) → HasNoCrash k events
    → crash_of k event ≡ None → HasNoCrash k (events ++ event ∷ [])
calm-more k events event calm none =
    AllByRecursion-append (IsNoCrash k) events (event ∷ []) calm (calm-event k event none, tt)

-- ---- counts

failures-some : (k : ℕ) (events : List ClusterEvent) → fails_at k events ≡ true → 1 ≤ failures k events
failures-some k [] any = absurd (false≢true any)
failures-some k (event ∷ events) any = by (is_failure_at k event) refl (failures-some k events) any
  where
    by : (b : Bool) → is_failure_at k event ≡ b → (fails_at k events ≡ true → 1 ≤ failures k events)
        → b || fails_at k events ≡ true → 1 ≤ failures k (event ∷ events)
    by true is rest any =
        rw is (let e : 1 ≤ suc (length (filter (is_failure_at k) events)) = omega arith in e)
    by false is rest any = rw is (rest any)

-- a count that rose as often as a node has failed rose where it has
pub rose-some : (k : ℕ) (events : List ClusterEvent) (before after : ℕ) → fails_at k events ≡ true
    → RoseBy (failures k events) before after → (before < after) ⊎ (2 ^ 64 - 1 ≤ after)
rose-some k events before after any (inl rose) =
    inl (let some = failures-some k events any in omega (arith, some, rose))
rose-some k events before after any (inr end) = inr end

module _ {D : Type 0} (given : Giving D) (facts : DiskFacts D) (setup : Setup) (k : ℕ) where
  -- what a crash leaves shows its contents as the old disk does
  pub left-told : (image : Image) (old new : D) → IsLeft given facts image old new → facts.tells new ≡ facts.tells old
  left-told image old new (inl left) = left.told
  left-told image old new (inr (hand, same)) = ap facts.tells same

  -- with which logs a node begins, by fewer of the events
  pub begins-front : (disk : D) (early late : List ClusterEvent)
      → BeginsBy facts setup k disk (first_restart k (early ++ late))
      → BeginsBy facts setup k disk (first_restart k early)
  begins-front disk early late so = by (first_restart k early) refl
    where
      by : (o : Option Bool) → first_restart k early ≡ o → BeginsBy facts setup k disk o
      by None is = tt
      by (Some up) is = subst (BeginsBy facts setup k disk) (first-stays k early late up is) so

  abbrev One : Cluster → List ClusterEvent → D → D → Type 0
  One c events first last = IsOneDisk facts setup k c events first last

  abbrev Live : Cluster → List ClusterEvent → List ClusterEvent → D → D → Type 0
  Live c since events first last = Lives given facts setup k c since events first last

  -- at an event that names this image, or none
  abbrev AtEvent : Option Image → Cluster → List ClusterEvent → ClusterEvent → List ClusterEvent → D → D → Type 0
  AtEvent o c since event events first last =
      at_crash o (λ old. One c since first old) (IsLeft given facts)
      (λ new. Live (cluster_happens (cluster_after c since) event) [] events new last)
      (Live c (since ++ event ∷ []) events first last)

  -- each disk shows its contents as the first does
  pub lives-told : (c : Cluster) (since events : List ClusterEvent) (first last : D) → Live c since events first last
      → facts.tells last ≡ facts.tells first
  lives-told c since [] first last so = so.told
  lives-told c since (event ∷ events) first last so =
      by (crash_of k event) (λ same. lives-told c (since ++ event ∷ []) events first last same)
      (λ new goes. lives-told (cluster_happens (cluster_after c since) event) [] events new last goes) so
    where
      by : (o : Option Image) → (Live c (since ++ event ∷ []) events first last → facts.tells last ≡ facts.tells first)
          → ((new : D) → Live (cluster_happens (cluster_after c since) event) [] events new last
          → facts.tells last ≡ facts.tells new)
          → AtEvent o c since event events first last → facts.tells last ≡ facts.tells first
      by None further next same = further same
      by (Some image) further next (old, (new, ends, left, goes)) =
          next new goes ∙ left-told image old new left ∙ ends.told

  -- without a crash of the node it is one disk
  pub one-disk : (c : Cluster) (since events : List ClusterEvent) (first last : D) → HasNoCrash k events
      → Live c since events first last → One c (since ++ events) first last
  one-disk c since [] first last calm so =
      subst (λ (l : List ClusterEvent). One c l first last) (sym (append-nil since)) so
  one-disk c since (event ∷ events) first last calm so =
      subst (λ (l : List ClusterEvent). One c l first last) (append_assoc since (event ∷ []) events)
      (one-disk c (since ++ event ∷ []) events first last calm.1
      (subst (λ (o : Option Image). AtEvent o c since event events first last) (not-crash k event calm.0) so))

  -- ---- at a crash one disk ends, and what is left of it goes on

  abbrev pub IsCut : Cluster → Cluster → (since early later : List ClusterEvent) → Image → D → D → Type 0
  IsCut c crashed since early later image first last =
      (old : D) × ((new : D) × Live c since early first old × IsLeft given facts image old new
      × One crashed later new last)

  abbrev Next : Cluster → List ClusterEvent → ClusterEvent → Cluster
  Next c since event = cluster_happens (cluster_after c since) event

  abbrev Crashed : Cluster → List ClusterEvent → Image → Cluster
  Crashed c early image = cluster_happens (cluster_after c early) (Crashes k image)

  abbrev CutAt : Option Image → Cluster → (since : List ClusterEvent) → ClusterEvent
      → (early later : List ClusterEvent) → Image → D → D → Type 0
  CutAt o c since event early later image first last =
      (old : D) × ((new : D) × AtEvent o c since event early first old × IsLeft given facts image old new
      × One (Crashed (Next c since event) early image) later new last)

  pub cut-there : (c : Cluster) (since early later : List ClusterEvent) (image : Image) (first last : D)
      → HasNoCrash k later → Live c since (early ++ Crashes k image ∷ later) first last
      → IsCut c (cluster_happens (cluster_after (cluster_after c since) early) (Crashes k image)) since early later
      image
      first last
  cut-there c since [] later image first last calm so = by (crash_of k (Crashes k image)) (rw (eq-eqb k k refl) refl) so
    where
      by : (o : Option Image) → o ≡ Some image → AtEvent o c since (Crashes k image) later first last
          → IsCut c (cluster_happens (cluster_after c since) (Crashes k image)) since [] later image first last
      by None is so = absurd cc
      by (Some named) is (old, (new, ends, left, goes)) = (
        old,
        (
          new,
          ends,
          subst (λ (i : Image). IsLeft given facts i old new) (let same : named ≡ image = cc in same) left,
          one-disk (cluster_happens (cluster_after c since) (Crashes k image)) [] later new last calm goes,
        ),
      )
  cut-there c since (event ∷ early) later image first last calm so =
      by (crash_of k event)
      (λ same. subst (λ (d : Cluster). IsCut c (cluster_happens (cluster_after d early) (Crashes k image))
      (since ++ event ∷ []) early later image first last) (after-both c since (event ∷ []))
      (cut-there c (since ++ event ∷ []) early later image first last calm same))
      (λ new goes. cut-there (cluster_happens (cluster_after c since) event) [] early later image new last calm goes) so
    where
      again : (named : Image) (mid begun : D) → One c since first mid → IsLeft given facts named mid begun
          → IsCut (Next c since event) (Crashed (Next c since event) early image) [] early later image begun last
          → CutAt (Some named) c since event early later image first last
      again named mid begun ends left (old, (new, live, image_left, one)) =
          (old, (new, (mid, (begun, ends, left, live)), image_left, one))

      by : (o : Option Image)
          → (Live c (since ++ event ∷ []) (early ++ Crashes k image ∷ later) first last
          → IsCut c (Crashed (Next c since event) early image) (since ++ event ∷ []) early later image first last)
          → ((new : D) → Live (Next c since event) [] (early ++ Crashes k image ∷ later) new last
          → IsCut (Next c since event) (Crashed (Next c since event) early image) [] early later image new last)
          → AtEvent o c since event (early ++ Crashes k image ∷ later) first last
          → CutAt o c since event early later image first last
      by None further next same = further same
      by (Some named) further next (mid, (begun, ends, left, goes)) =
          again named mid begun ends left (next begun goes)

  -- ---- a disk counts each failure

  -- with a disk that was given, before any event
  module _ (c0 : Cluster) (origin : D) (all : List ClusterEvent) (P : Type 0)
      (found : (behind since rest : List ClusterEvent) (before after : D) → all ≡ behind ++ (since ++ rest)
      → HasNoCrash k since → fails_at k since ≡ true → Live c0 [] behind origin before
      → One (cluster_after c0 behind) since before after → P) where
    -- the disk that is left of a crash has become of the given one
    lives-crashed : (c : Cluster) (behind since : List ClusterEvent) (event : ClusterEvent) (image : Image)
        (first old new : D) → cluster_after c0 behind ≡ c → HasNoCrash k since → crash_of k event ≡ Some image
        → Live c0 [] behind origin first → One c since first old → IsLeft given facts image old new
        → Live c0 [] ((behind ++ since) ++ event ∷ []) origin new
    lives-crashed c behind since event image first old new at calm is live ends left =
        subst (λ (e : ClusterEvent). Live c0 [] ((behind ++ since) ++ e ∷ []) origin new)
        (sym (crash-is k event image is))
        (lives-then given facts setup k (cluster_after c0 (behind ++ since)) c0 [] (behind ++ since)
        (Crashes k image ∷ []) origin old new refl
        (lives-then given facts setup k c c0 [] behind since origin first old at live
        (goes-on given facts setup k c since first old calm ends))
        (goes-crashed given facts setup k (cluster_after c0 (behind ++ since)) image old new left))

    -- a failure that isn't before a crash is after it
    later-fails : (since events : List ClusterEvent) (event : ClusterEvent) (image : Image)
        → crash_of k event ≡ Some image → fails_at k since ≡ false → fails_at k (since ++ event ∷ events) ≡ true
        → fails_at k events ≡ true
    later-fails since events event image is none any =
        let whole : fails_at k since || fails_at k (event ∷ events) ≡ true =
        sym (list_any-append (is_failure_at k) since (event ∷ events)) ∙ any in
        let rest : fails_at k (event ∷ events) ≡ true = ap (λ (b : Bool). b || fails_at k (event ∷ events)) (sym none)
        ∙ whole in
        ap (λ (e : ClusterEvent). fails_at k (e ∷ events)) (sym (crash-is k event image is)) ∙ rest

    pub failure-found : (c : Cluster) (behind since events : List ClusterEvent) (first last : D)
        → cluster_after c0 behind ≡ c → Live c0 [] behind origin first → HasNoCrash k since
        → behind ++ (since ++ events) ≡ all → fails_at k (since ++ events) ≡ true → Live c since events first last → P
    failure-found c behind since [] first last at live calm whole any so =
        found behind since [] first last (sym whole) calm (ap (fails_at k) (sym (append-nil since)) ∙ any) live
        (subst (λ (d : Cluster). One d since first last) (sym at) so)
    failure-found c behind since (event ∷ events) first last at live calm whole any so =
        by (crash_of k event) refl
        (λ calm' same. failure-found c behind (since ++ event ∷ []) events first last at live calm'
        (ap (λ (l : List ClusterEvent). behind ++ l) (append_assoc since (event ∷ []) events) ∙ whole)
        (ap (fails_at k) (append_assoc since (event ∷ []) events) ∙ any) same)
        (λ new live' any' goes. failure-found (cluster_happens (cluster_after c since) event)
        ((behind ++ since) ++ event ∷ []) [] events new last
        (after-both c0 (behind ++ since) (event ∷ [])
        ∙ ap (λ (d : Cluster). cluster_happens d event)
        (after-both c0 behind since ∙ ap (λ (d : Cluster). cluster_after d since) at))
        live' tt
        (append_assoc (behind ++ since) (event ∷ []) events ∙ append_assoc behind since (event ∷ events)
        ∙ whole) any' goes)
        so
      where
        by : (o : Option Image) → crash_of k event ≡ o
            → (HasNoCrash k (since ++ event ∷ []) → Live c (since ++ event ∷ []) events first last → P)
            → ((new : D) → Live c0 [] ((behind ++ since) ++ event ∷ []) origin new → fails_at k events ≡ true
            → Live (cluster_happens (cluster_after c since) event) [] events new last → P)
            → AtEvent o c since event events first last → P
        by None is further next same = further (calm-more k since event calm is) same
        by (Some image) is further next (old, (new, ends, left, goes)) = elim (cases_Bool (fails_at k since)) [
          | inl here ↦
              found behind since (event ∷ events) first old (sym whole) calm here live
              (subst (λ (d : Cluster). One d since first old) (sym at) ends)
          | inr none ↦
              next new (lives-crashed c behind since event image first old new at calm is live ends left)
              (later-fails since events event image is none any) goes
        ]
