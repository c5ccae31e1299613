-- What the restarts of several nodes come to.
use Rattle.std.proofs.Common.{◌≡◌, ◌⊎◌, ◌≤◌, ◌<◌, ◌+◌, ℕ, zero, suc, Bool, true, false, not, ◌&&◌, ◌||◌, List, [], ◌∷◌, ◌++◌, drop, get_or, length, take, refl, sym, ap, ◌∙◌, subst, inl, inr, arith, append_assoc, append-nil}
use Rattle.std.specs.List.{range_with_len}
use Rattle.std.proofs.lemmas.Bool.{eq-eqb, false≢true, or_left, or_right, true≢false}
use Rattle.std.proofs.lemmas.Grind.{flat_map-append}
use Rattle.std.proofs.lemmas.List.{take-append-drop, take_more}
use Rattle.std.proofs.lemmas.List.Folds.{list_any-append}
use Rattle.std.proofs.lemmas.List.FromFn.{get_or-range_with_len, length-range_with_len}
use Rattle.qq_base.proofs.Puts.{put-other, put-same}
use Rattle.qq_raft_protocol.specs.Facts.{In}
use Rattle.qq_raft_protocol.proofs.Lists.{In-append}
use Rattle.qq_cluster_model.specs.Cluster.{Cluster, ClusterEvent, Fails, Setup, cluster_after}
use Rattle.qq_cluster_model.specs.ClusterLaws.{finding, findings}
use Rattle.qq_cluster_model.specs.Rules.{ForEach, IsFound, IsNothing, IsRestart, if_so}
use Rattle.qq_cluster_laws.specs.Serves.{fails_at, is_failure_at}
use Rattle.qq_cluster_laws.proofs.Reached.{after-both}
use Rattle.qq_cluster.specs.Nodes.{LeadsIn, nodes_in}
use Rattle.qq_opening.specs.Opened.{FirstTo, Found, RestartedTo}
use Rattle.qq_opening.specs.Restarting.{RestartEachTo}

-- ---- a rule for each

module _ (Each : ℕ → Cluster → List ClusterEvent → Type 0) where
  -- for some items, and then for others
  pub each-both : (xs ys : List ℕ) (c : Cluster) (events others : List ClusterEvent) → ForEach xs Each c events
      → ForEach ys Each (cluster_after c events) others → ForEach (xs ++ ys) Each c (events ++ others)
  each-both [] ys c events others one other =
      subst (λ (l : List ClusterEvent). ForEach ys Each c (l ++ others)) (sym one)
      (subst (λ (l : List ClusterEvent). ForEach ys Each (cluster_after c l) others) one other)
  each-both (x ∷ xs) ys c events others one other = record {
    early = one.early;
    late = one.late ++ others;
    is = ap (λ (l : List ClusterEvent). l ++ others) one.is ∙ append_assoc one.early one.late others;
    first = one.first;
    second = each-both xs ys (cluster_after c one.early) one.late others one.second
        (subst (λ (d : Cluster). ForEach ys Each d others)
        (ap (cluster_after c) one.is ∙ after-both c one.early one.late) other);
  }

  pub each-one : (x : ℕ) (c : Cluster) (events : List ClusterEvent) → Each x c events → ForEach (x ∷ []) Each c events
  each-one x c events rule =
      record { early = events; late = []; is = sym (append-nil events); first = rule; second = refl }

-- ---- the first so many of the nodes

pub taken-more : (nodes : List ℕ) (n at k : ℕ) → nodes ≡ range_with_len 1 n → at < n → k ≡ at + 1
    → take (at + 1) nodes ≡ take at nodes ++ k ∷ []
taken-more nodes n at k are lt is =
    take_more nodes at 0 (let e = ap length are in let long = length-range_with_len 1 n in omega (arith, e, long, lt))
    ∙ ap (λ (j : ℕ). take at nodes ++ j ∷ []) own
  where
    own : get_or nodes at 0 ≡ k
    own =
        ap (λ (l : List ℕ). get_or l at 0) are ∙ get_or-range_with_len 1 n at 0 lt
        ∙ (let e : 1 + at ≡ k = omega (arith, is) in e)

pub taken-below : (a n at k : ℕ) → In k (take at (range_with_len a n)) → k < a + at
taken-below a zero zero k here = absurd here
taken-below a zero (suc at) k here = absurd here
taken-below a (suc n) zero k here = absurd here
taken-below a (suc n) (suc at) k (inl same) = omega (arith, same)
taken-below a (suc n) (suc at) k (inr later) =
    let rest = taken-below (a + 1) n at k later in omega (arith, rest)

pub taken-away : (nodes : List ℕ) (n at k : ℕ) → nodes ≡ range_with_len 1 n → k ≡ at + 1 → In k (take at nodes) → ⊥
taken-away nodes n at k are is here =
    let below = taken-below 1 n at k (subst (λ (l : List ℕ). In k (take at l)) are here) in
    absurd (omega (arith, below, is))

pub taken-whole : (nodes : List ℕ) (n at : ℕ) → nodes ≡ range_with_len 1 n → n ≤ at → take at nodes ≡ nodes
taken-whole nodes n at are le =
    by nodes at (let e = ap length are in let long = length-range_with_len 1 n in omega (arith, e, long, le))
  where
    by : (xs : List ℕ) (i : ℕ) → length xs ≤ i → take i xs ≡ xs
    by [] zero most = refl
    by [] (suc i) most = refl
    by (x ∷ xs) zero most = absurd (omega (arith, most))
    by (x ∷ xs) (suc i) most = ap (λ (l : List ℕ). x ∷ l) (by xs i (omega (arith, most)))

-- ---- one restart

pub up-kept : (setup : Setup) (k j : ℕ) (c : Cluster) (events : List ClusterEvent) → IsRestart setup j c events
    → (k ≡ j → ⊥) → (cluster_after c events).up k ≡ c.up k
up-kept setup k j c events rule other = by (c.up j) rule
  where
    by : (b : Bool) → if_so b IsNothing (IsFound setup j) c events → (cluster_after c events).up k ≡ c.up k
    by true none = ap (λ (l : List ClusterEvent). (cluster_after c l).up k) none
    by false (inl found) =
        ap (λ (l : List ClusterEvent). (cluster_after c l).up k) found.is ∙ put-other j true c.up k other
    by false (inr failed) =
        ap (λ (l : List ClusterEvent). (cluster_after c l).up k) failed ∙ put-other j false c.up k other

pub each-up : (setup : Setup) (k : ℕ) (list : List ℕ) (c : Cluster) (events : List ClusterEvent)
    → ForEach list (IsRestart setup) c events → (In k list → ⊥) → (cluster_after c events).up k ≡ c.up k
each-up setup k [] c events none away = ap (λ (l : List ClusterEvent). (cluster_after c l).up k) none
each-up setup k (j ∷ list) c events t away =
    ap (λ (l : List ClusterEvent). (cluster_after c l).up k) t.is
    ∙ ap (λ (d : Cluster). d.up k) (after-both c t.early t.late)
    ∙ each-up setup k list (cluster_after c t.early) t.late t.second (λ later. away (inr later))
    ∙ up-kept setup k j c t.early t.first (λ same. away (inl same))

-- of a node that was down and is up something was found
was-found : (setup : Setup) (k : ℕ) (c : Cluster) (events : List ClusterEvent) → IsRestart setup k c events
    → c.up k ≡ false → (cluster_after c events).up k ≡ true → findings events ≡ [] → ⊥
was-found setup k c events rule down up none = by (c.up k) down rule
  where
    by : (b : Bool) → b ≡ false → if_so b IsNothing (IsFound setup k) c events → ⊥
    by true is same = true≢false is
    by false is (inl found) =
        let e : found.ops ∷ [] ≡ [] = sym (ap findings found.is) ∙ none in absurd cc
    by false is (inr failed) =
        false≢true (sym (put-same k false c.up)
        ∙ sym (ap (λ (l : List ClusterEvent). (cluster_after c l).up k) failed) ∙ up)

-- of one that is still down the disk failed
pub has-failed : (setup : Setup) (k : ℕ) (c : Cluster) (events : List ClusterEvent) → IsRestart setup k c events
    → c.up k ≡ false → (cluster_after c events).up k ≡ false → fails_at k events ≡ true
has-failed setup k c events rule down still = by (c.up k) down rule
  where
    by : (b : Bool) → b ≡ false → if_so b IsNothing (IsFound setup k) c events → fails_at k events ≡ true
    by true is same = absurd (true≢false is)
    by false is (inl found) =
        absurd (true≢false (sym (put-same k true c.up)
        ∙ sym (ap (λ (l : List ClusterEvent). (cluster_after c l).up k) found.is) ∙ still))
    by false is (inr failed) =
        ap (fails_at k) failed ∙ or_left (is_failure_at k (Fails k)) false (eq-eqb k k refl)

-- ---- what was found, and which disks failed

append-none : {A : Type 0} (xs ys : List A) → xs ++ ys ≡ [] → (xs ≡ []) × (ys ≡ [])
append-none [] ys none = (refl, none)
append-none (x ∷ xs) ys none = absurd cc

pub findings-none : (events others : List ClusterEvent) → findings (events ++ others) ≡ []
    → (findings events ≡ []) × (findings others ≡ [])
findings-none events others none =
    append-none (findings events) (findings others) (sym (flat_map-append finding events others) ∙ none)

pub fails-first : (k : ℕ) (events others : List ClusterEvent) → fails_at k events ≡ true
    → fails_at k (events ++ others) ≡ true
fails-first k events others is =
    list_any-append (is_failure_at k) events others ∙ or_left (fails_at k events) (fails_at k others) is

pub fails-second : (k : ℕ) (events others : List ClusterEvent) → fails_at k others ≡ true
    → fails_at k (events ++ others) ≡ true
fails-second k events others is =
    list_any-append (is_failure_at k) events others ∙ or_right (fails_at k events) (fails_at k others) is

found-more : (setup : Setup) (some was up : Bool) (list : List ℕ) (k : ℕ) (c : Cluster)
    (events others : List ClusterEvent) → Found some list c events → IsRestart setup k (cluster_after c events) others
    → (cluster_after c events).up k ≡ c.up k → was ≡ (cluster_after c events).up k
    → up ≡ (cluster_after (cluster_after c events) others).up k
    → Found (some || (up && not was)) (list ++ k ∷ []) c (events ++ others)
found-more setup true was up list k c events others found rule kept was_is up_is =
    λ none. found (findings-none events others none).0
found-more setup false false true list k c events others found rule kept was_is up_is =
    λ none. was-found setup k (cluster_after c events) others rule (sym was_is) (sym up_is)
    (findings-none events others none).1
found-more setup false true true list k c events others found rule kept was_is up_is =
    λ j here down. by j down (In-append j list (k ∷ []) here)
  where
    by : (j : ℕ) → c.up j ≡ false → In j list ⊎ In j (k ∷ []) → fails_at j (events ++ others) ≡ true
    by j down (inl first) = fails-first j events others (found j first down)
    by j down (inr (inl same)) = absurd (true≢false (was_is ∙ kept ∙ ap c.up (sym same) ∙ down))
    by j down (inr (inr none)) = absurd none
found-more setup false was false list k c events others found rule kept was_is up_is =
    λ j here down. by j down (In-append j list (k ∷ []) here)
  where
    by : (j : ℕ) → c.up j ≡ false → In j list ⊎ In j (k ∷ []) → fails_at j (events ++ others) ≡ true
    by j down (inl first) = fails-first j events others (found j first down)
    by j down (inr (inl same)) =
        fails-second j events others (ap (λ (i : ℕ). fails_at i others) same
        ∙ has-failed setup k (cluster_after c events) others rule (kept ∙ ap c.up (sym same) ∙ down) (sym up_is))
    by j down (inr (inr none)) = absurd none

-- ---- the restarts so far

pub first-more : (setup : Setup) (at k n : ℕ) (c : Cluster) (events others : List ClusterEvent)
    → setup.nodes ≡ range_with_len 1 n → at < n → k ≡ at + 1 → FirstTo at setup c events
    → IsRestart setup k (cluster_after c events) others → FirstTo (at + 1) setup c (events ++ others)
first-more setup at k n c events others nodes lt is one other =
    subst (λ (l : List ℕ). ForEach l (IsRestart setup) c (events ++ others))
    (sym (taken-more setup.nodes n at k nodes lt is))
    (each-both (IsRestart setup) (take at setup.nodes) (k ∷ []) c events others one
    (each-one (IsRestart setup) k (cluster_after c events) others other))

pub first-whole : (setup : Setup) (at n : ℕ) (c : Cluster) (events : List ClusterEvent)
    → setup.nodes ≡ range_with_len 1 n → n ≤ at → FirstTo at setup c events
    → ForEach setup.nodes (IsRestart setup) c events
first-whole setup at n c events nodes le allowed =
    subst (λ (l : List ℕ). ForEach l (IsRestart setup) c events) (taken-whole setup.nodes n at nodes le) allowed

pub restarted-rule : (setup : Setup) (at : ℕ) (some was up more : Bool) (k n : ℕ) (c : Cluster)
    (events others : List ClusterEvent) → setup.nodes ≡ range_with_len 1 n → at < n → k ≡ at + 1
    → was ≡ (cluster_after c events).up k → up ≡ (cluster_after (cluster_after c events) others).up k
    → more ≡ (some || (up && not was)) → RestartedTo at some setup c events
    → IsRestart setup k (cluster_after c events) others → RestartedTo (at + 1) more setup c (events ++ others)
restarted-rule setup at some was up more k n c events others nodes lt is was_is up_is more_is one other = (
  first-more setup at k n c events others nodes lt is one.0 other,
  subst (λ (l : List ℕ). Found more l c (events ++ others)) (sym (taken-more setup.nodes n at k nodes lt is))
      (subst (λ (b : Bool). Found b (take at setup.nodes ++ k ∷ []) c (events ++ others)) (sym more_is)
      (found-more setup some was up (take at setup.nodes) k c events others one.1 other
      (each-up setup k (take at setup.nodes) c events one.0 (taken-away setup.nodes n at k nodes is)) was_is up_is)),
)

-- all of them
pub restarted-whole : (at : ℕ) (some : Bool) (n : ℕ) (setup : Setup) (c : Cluster) (events : List ClusterEvent)
    → setup.nodes ≡ range_with_len 1 n → n ≤ at → RestartedTo at some setup c events → RestartEachTo some setup c events
restarted-whole at true n setup c events nodes le allowed =
    (first-whole setup at n c events nodes le allowed.0, allowed.1)
restarted-whole at false n setup c events nodes le allowed = (
  first-whole setup at n c events nodes le allowed.0,
  λ k here. allowed.1 k (subst (In k) (sym (taken-whole setup.nodes n at nodes le)) here),
)

-- what the restarts that are left allow, all of them do
pub restarted-leads : (at : ℕ) (setup : Setup) (c : Cluster) (events : List ClusterEvent)
    → FirstTo at setup c events → LeadsIn nodes_in at IsRestart setup c events
restarted-leads at setup c events allowed late more =
    subst (λ (l : List ℕ). ForEach l (IsRestart setup) c (events ++ late)) (take-append-drop at setup.nodes)
    (each-both (IsRestart setup) (take at setup.nodes) (drop at setup.nodes) c events late allowed more)
