-- What restarts of some nodes leave as it was: the seats of other nodes, and that these have yet to restart.
use Rattle.std.proofs.Common.{◌≡◌, ◌⊎◌, ◌<◌, ◌≤◌, ◌+◌, ◌-◌, ℕ, zero, suc, Bool, true, false, ◌&&◌, List, [], ◌∷◌, ◌++◌, Option, Some, None, length, refl, sym, ap, ◌∙◌, subst, inl, inr, arith}
use Rattle.std.specs.Prelude.{is_some, nat_eq, nat_le}
use Rattle.std.specs.List.{list_all, range_with_len}
use Rattle.std.proofs.lemmas.Bool.{and_from, cond_both, eq-eqb, false≢true, le-leb, ne_eqb}
use Rattle.qq_base.proofs.Puts.{put-other, put-same}
use Rattle.qq_log.specs.declared.op.Op.{Op}
use Rattle.qq_raft_model.specs.Group.{Seat, has_node, is_down, may_restart}
use Rattle.qq_raft_protocol.specs.Facts.{In}
use Rattle.qq_raft_protocol.proofs.Lists.{In-append}
use Rattle.qq_wal_chain.specs.Lanes.{Lanes}
use Rattle.qq_cluster_model.specs.Cluster.{Cluster, ClusterEvent, Fails, FindsEach, Setup, cluster_after, new_cluster}
use Rattle.qq_cluster_model.specs.Queue.{Queue}
use Rattle.qq_cluster_model.specs.Rules.{ForEach, IsFound, IsNothing, IsRestart, if_so, may_find}
use Rattle.qq_cluster_laws.specs.Restarts.{first_of, first_restart}
use Rattle.qq_cluster_laws.proofs.Reached.{after-both}
use Rattle.qq_cluster_laws.proofs.Restarts.{first-both, first-stays}
use Rattle.qq_cluster.proofs.Pumping.{rule-else}
use Rattle.qq_cluster.proofs.Walks.{in-range}
use Rattle.qq_opening.specs.Opening.{HaveRestarted, Logs, StopsBefore, seat_over}
use Rattle.qq_opening.proofs.FoundQueues.{found-others}
use Rattle.qq_opening.proofs.RestartRules.{each-both, each-one, each-up}

abbrev pub seat_at : Cluster → ℕ → ℕ → Seat
seat_at c place k = (c.queue place).group.seat k

-- ---- one restart

seat-kept : (setup : Setup) (k j place : ℕ) (c : Cluster) (events : List ClusterEvent) → IsRestart setup j c events
    → (k ≡ j → ⊥) → seat_at (cluster_after c events) place k ≡ seat_at c place k
seat-kept setup k j place c events rule other = by (c.up j) rule
  where
    stopped : Seat
    stopped = record {
      server = None;
      ops = ((c.queue place).group.seat j).ops;
      noticed = ((c.queue place).group.seat j).noticed;
    }

    by : (b : Bool) → if_so b IsNothing (IsFound setup j) c events
        → seat_at (cluster_after c events) place k ≡ seat_at c place k
    by true none = ap (λ (l : List ClusterEvent). seat_at (cluster_after c l) place k) none
    by false (inl found) =
        ap (λ (l : List ClusterEvent). seat_at (cluster_after c l) place k) found.is
        ∙ found-others j (found.ops place) (c.queue place).group k other
    by false (inr failed) =
        ap (λ (l : List ClusterEvent). seat_at (cluster_after c l) place k) failed
        ∙ put-other j stopped (c.queue place).group.seat k other

not-first : (setup : Setup) (k j : ℕ) (c : Cluster) (events : List ClusterEvent) → IsRestart setup j c events
    → (k ≡ j → ⊥) → first_restart k events ≡ None
not-first setup k j c events rule other = by (c.up j) rule
  where
    apart : nat_eq j k ≡ false
    apart = ne_eqb j k (λ same. other (sym same))

    by : (b : Bool) → if_so b IsNothing (IsFound setup j) c events → first_restart k events ≡ None
    by true none = ap (first_restart k) none
    by false (inl found) = ap (first_restart k) found.is ∙ rw apart refl
    by false (inr failed) = ap (first_restart k) failed ∙ rw apart refl

-- of a node that was down it is known afterwards
pub restart-first : (setup : Setup) (k : ℕ) (c : Cluster) (events : List ClusterEvent) → IsRestart setup k c events
    → c.up k ≡ false → first_restart k events ≡ Some ((cluster_after c events).up k)
restart-first setup k c events rule down = by (c.up k) down rule
  where
    same : nat_eq k k ≡ true
    same = eq-eqb k k refl

    by : (b : Bool) → b ≡ false → if_so b IsNothing (IsFound setup k) c events
        → first_restart k events ≡ Some ((cluster_after c events).up k)
    by true is none = absurd (false≢true (sym is))
    by false is (inl found) =
        ap (first_restart k) found.is ∙ rw same refl
        ∙ ap Some (sym (put-same k true c.up)
        ∙ sym (ap (λ (l : List ClusterEvent). (cluster_after c l).up k) found.is))
    by false is (inr failed) =
        ap (first_restart k) failed ∙ rw same refl
        ∙ ap Some (sym (put-same k false c.up)
        ∙ sym (ap (λ (l : List ClusterEvent). (cluster_after c l).up k) failed))

-- ---- several

pub each-seat : (setup : Setup) (k place : ℕ) (list : List ℕ) (c : Cluster) (events : List ClusterEvent)
    → ForEach list (IsRestart setup) c events → (In k list → ⊥)
    → seat_at (cluster_after c events) place k ≡ seat_at c place k
each-seat setup k place [] c events none away =
    ap (λ (l : List ClusterEvent). seat_at (cluster_after c l) place k) none
each-seat setup k place (j ∷ list) c events t away =
    ap (λ (l : List ClusterEvent). seat_at (cluster_after c l) place k) t.is
    ∙ ap (λ (d : Cluster). seat_at d place k) (after-both c t.early t.late)
    ∙ each-seat setup k place list (cluster_after c t.early) t.late t.second (λ later. away (inr later))
    ∙ seat-kept setup k j place c t.early t.first (λ same. away (inl same))

pub each-first : (setup : Setup) (k : ℕ) (list : List ℕ) (c : Cluster) (events : List ClusterEvent)
    → ForEach list (IsRestart setup) c events → (In k list → ⊥) → first_restart k events ≡ None
each-first setup k [] c events none away = ap (first_restart k) none
each-first setup k (j ∷ list) c events t away =
    ap (first_restart k) t.is ∙ first-both k t.early t.late
    ∙ ap (λ (o : Option Bool). first_of o (first_restart k t.late))
    (not-first setup k j c t.early t.first (λ same. away (inl same)))
    ∙ each-first setup k list (cluster_after c t.early) t.late t.second (λ later. away (inr later))

-- ---- the first so many nodes

pub range-below : (a n k : ℕ) → In k (range_with_len a n) → (a ≤ k) × (k < a + n)
range-below a zero k here = absurd here
range-below a (suc n) k (inl same) = (omega (arith, same), omega (arith, same))
range-below a (suc n) k (inr later) =
    let rest = range-below (a + 1) n k later in
    let low = rest.0 in
    let high = rest.1 in
    (omega (arith, low), omega (arith, high))

pub in-first : (n k : ℕ) → 0 < k → k ≤ n → In k (range_with_len 1 n)
in-first n k low high =
    subst (λ (j : ℕ). In j (range_with_len 1 n)) (let e : (k - 1) + 1 ≡ k = omega (arith, low) in e)
    (in-range n (k - 1) (omega (arith, low, high)))

pub range-more : (a n : ℕ) → range_with_len a (suc n) ≡ range_with_len a n ++ (a + n) ∷ []
range-more a zero = ap (λ (x : ℕ). x ∷ []) (let e : a ≡ a + 0 = omega arith in e)
range-more a (suc n) =
    ap (λ (l : List ℕ). a ∷ l) (range-more (a + 1) n
    ∙ ap (λ (x : ℕ). range_with_len (a + 1) n ++ x ∷ []) (let e : (a + 1) + n ≡ a + suc n = omega arith in e))

pub first-next : (n : ℕ) → range_with_len 1 (n + 1) ≡ range_with_len 1 n ++ (n + 1) ∷ []
first-next n =
    ap (range_with_len 1) (let e : n + 1 ≡ suc n = omega arith in e) ∙ range-more 1 n
    ∙ ap (λ (x : ℕ). range_with_len 1 n ++ x ∷ []) (let e : 1 + n ≡ n + 1 = omega arith in e)

-- a node with durable logs may restart with all of them
may-all : (k : ℕ) (ops : List Op) (q : Queue) → q.group.seat k ≡ seat_over ops → may_find k (length ops) q ≡ true
may-all k ops q is =
    cond_both (has_node k q.group.nodes) (may_restart k (length ops) q.group) true (λ (b : Bool). b ≡ true)
    (λ has. and_from (is_down (q.group.seat k).server)
    (has_node k q.group.nodes && (nat_le (q.group.seat k).noticed (length ops)
    && nat_le (length ops) (length (q.group.seat k).ops)))
    (ap (λ (s : Seat). is_down s.server) is)
    (and_from (has_node k q.group.nodes) (nat_le (q.group.seat k).noticed (length ops)
    && nat_le (length ops) (length (q.group.seat k).ops)) has
    (and_from (nat_le (q.group.seat k).noticed (length ops)) (nat_le (length ops) (length (q.group.seat k).ops))
    (le-leb (q.group.seat k).noticed (length ops)
    (let e = ap (λ (s : Seat). s.noticed) is in omega (arith, e)))
    (le-leb (length ops) (length (q.group.seat k).ops)
    (let e = ap (λ (s : Seat). length s.ops) is in omega (arith, e))))))
    (λ _. refl)

all-places : (test : ℕ → Bool) (places : List ℕ) → ((place : ℕ) → test place ≡ true) → list_all test places ≡ true
all-places test [] each = refl
all-places test (place ∷ places) each =
    and_from (test place) (list_all test places) (each place) (all-places test places each)

-- ---- they may have been restarted, whatever was read of them

module _ (setup : Setup) (lanes : ℕ → Option Lanes) where
  -- some first nodes, and the seats and nodes behind them are as they were
  pub record RestartsFirst (n : ℕ) : Type 0 where
    pub events : List ClusterEvent
    pub restarted : ForEach (range_with_len 1 n) (IsRestart setup) (new_cluster setup) events
    pub came : HaveRestarted (range_with_len 1 n) lanes events

  first-away : (n k : ℕ) → n < k → In k (range_with_len 1 n) → ⊥
  first-away n k lt here = let high = (range-below 1 n k here).1 in absurd (omega (arith, lt, high))

  pub first-down : (n k : ℕ) (events : List ClusterEvent)
      → ForEach (range_with_len 1 n) (IsRestart setup) (new_cluster setup) events → n < k
      → (cluster_after (new_cluster setup) events).up k ≡ false
  first-down n k events rule lt =
      each-up setup k (range_with_len 1 n) (new_cluster setup) events rule (first-away n k lt)

  pub first-seat : (n k place : ℕ) (events : List ClusterEvent)
      → ForEach (range_with_len 1 n) (IsRestart setup) (new_cluster setup) events → n < k
      → seat_at (cluster_after (new_cluster setup) events) place k ≡ (setup.group place).seat k
  first-seat n k place events rule lt =
      each-seat setup k place (range_with_len 1 n) (new_cluster setup) events rule (first-away n k lt)

  -- with one more
  pub came-more : (n : ℕ) (events others : List ClusterEvent) → HaveRestarted (range_with_len 1 n) lanes events
      → first_restart (n + 1) events ≡ None → first_restart (n + 1) others ≡ Some (is_some (lanes (n + 1)))
      → HaveRestarted (range_with_len 1 (n + 1)) lanes (events ++ others)
  came-more n events others came none own k here =
      by (In-append k (range_with_len 1 n) ((n + 1) ∷ []) (subst (In k) (first-next n) here))
    where
      last : first_restart (n + 1) (events ++ others) ≡ Some (is_some (lanes (n + 1)))
      last =
          first-both (n + 1) events others
          ∙ ap (λ (o : Option Bool). first_of o (first_restart (n + 1) others)) none ∙ own

      by : In k (range_with_len 1 n) ⊎ In k ((n + 1) ∷ [])
          → first_restart k (events ++ others) ≡ Some (is_some (lanes k))
      by (inl first) = first-stays k events others (is_some (lanes k)) (came k first)
      by (inr (inl same)) =
          subst (λ (j : ℕ). first_restart j (events ++ others) ≡ Some (is_some (lanes j))) (sym same) last
      by (inr (inr past_end)) = absurd past_end

  pub more-restarts : (n : ℕ) (others : List ClusterEvent) (f : RestartsFirst n)
      → IsRestart setup (n + 1) (cluster_after (new_cluster setup) f.events) others
      → is_some (lanes (n + 1)) ≡ (cluster_after (cluster_after (new_cluster setup) f.events) others).up (n + 1)
      → RestartsFirst (n + 1)
  more-restarts n others f rule own = record {
    events = f.events ++ others;
    restarted = subst (λ (l : List ℕ). ForEach l (IsRestart setup) (new_cluster setup) (f.events ++ others))
        (sym (first-next n))
        (each-both (IsRestart setup) (range_with_len 1 n) ((n + 1) ∷ []) (new_cluster setup) f.events others
        f.restarted (each-one (IsRestart setup) (n + 1) (cluster_after (new_cluster setup) f.events) others rule));
    came = came-more n f.events others f.came
        (each-first setup (n + 1) (range_with_len 1 n) (new_cluster setup) f.events f.restarted
        (first-away n (n + 1) (omega arith)))
        (restart-first setup (n + 1) (cluster_after (new_cluster setup) f.events) others rule
        (first-down n (n + 1) f.events f.restarted (omega arith)) ∙ ap Some (sym own));
  }

  module _ (logs : Logs) (seats : (place k : ℕ) → (setup.group place).seat k ≡ seat_over (logs place k)) where
    restarts-next : (n : ℕ) → RestartsFirst n → RestartsFirst (n + 1)
    restarts-next n f = by (lanes (n + 1)) refl
      where
        c : Cluster
        c = cluster_after (new_cluster setup) f.events

        down : c.up (n + 1) ≡ false
        down = first-down n (n + 1) f.events f.restarted (omega arith)

        all_ops : ℕ → ℕ
        all_ops place = length (logs place (n + 1))

        found : IsRestart setup (n + 1) c (FindsEach (n + 1) all_ops ∷ [])
        found =
            rule-else (c.up (n + 1)) IsNothing (IsFound setup (n + 1)) c (FindsEach (n + 1) all_ops ∷ []) down
            (inl (record {
              ops = all_ops;
              may = all-places (λ (place : ℕ). may_find (n + 1) (all_ops place) (c.queue place)) setup.places
                  (λ place. may-all (n + 1) (logs place (n + 1)) (c.queue place)
                  (first-seat n (n + 1) place f.events f.restarted (omega arith) ∙ seats place (n + 1)));
              is = refl;
            }))

        failed : IsRestart setup (n + 1) c (Fails (n + 1) ∷ [])
        failed = rule-else (c.up (n + 1)) IsNothing (IsFound setup (n + 1)) c (Fails (n + 1) ∷ []) down (inr refl)

        by : (o : Option Lanes) → lanes (n + 1) ≡ o → RestartsFirst (n + 1)
        by None is =
            more-restarts n (Fails (n + 1) ∷ []) f failed (ap is_some is ∙ sym (put-same (n + 1) false c.up))
        by (Some l) is =
            more-restarts n (FindsEach (n + 1) all_ops ∷ []) f found
            (ap is_some is ∙ sym (put-same (n + 1) true c.up))

    pub restarts-first : (n : ℕ) → RestartsFirst n
    restarts-first zero = record { events = []; restarted = refl; came = λ k here. absurd here }
    restarts-first (suc n) =
        subst RestartsFirst (let e : n + 1 ≡ suc n = omega arith in e) (restarts-next n (restarts-first n))

    pub stops-before : (n : ℕ) → StopsBefore setup (range_with_len 1 n) (n + 1) lanes
    stops-before n =
        let f = restarts-first n in
        record {
          events = f.events;
          restarted = f.restarted;
          down = first-down n (n + 1) f.events f.restarted (omega arith);
          came = f.came;
        }
