-- A queue that is quiet does nothing in a round, and stays so where others act.
use Rattle.std.proofs.Common.{◌≡◌, ◌≢◌, ◌⊎◌, ℕ, Bool, true, false, ◌&&◌, cond, List, [], ◌∷◌, None, length, refl, sym, ap, ◌∙◌, subst, inl, inr, arith}
use Rattle.std.proofs.Math.Path.{fun_ext}
use Rattle.std.specs.Prelude.{is_some, nat_eq, nat_lt, replicate}
use Rattle.std.specs.List.{list_all}
use Rattle.std.proofs.lemmas.Bool.{and_parts, and_from, cases_eq, cond_both, eqb-true, le-ltb}
use Rattle.qq_base.proofs.Puts.{put-each, put-other, put-same}
use Rattle.qq_base.specs.Fronts.{put}
use Rattle.qq_raft_model.specs.Group.{Seat, group_after}
use Rattle.qq_raft_model.specs.Group.Event.{Take}
use Rattle.qq_raft_protocol.specs.Facts.{In}
use Rattle.qq_cluster_model.specs.Cluster.{Cluster, Setup}
use Rattle.qq_cluster_model.specs.Laws.{CountsRise}
use Rattle.qq_cluster_model.specs.Queue.{Queue, Stops, Syncs, Writes, happens, synced_after, waiting}
use Rattle.qq_cluster_model.proofs.Takerless.{untold-still}
use Rattle.qq_cluster_model.specs.Rules.{is_idle, is_quiet, is_quiet_at, is_settled, waits_noticed, waits_synced, waits_written}

-- ---- what a quiet queue has

pub all-in : {A : Type 0} (test : A → Bool) (xs : List A) (x : A) → list_all test xs ≡ true → In x xs → test x ≡ true
all-in test [] x all here = absurd here
all-in test (y ∷ ys) x all (inl same) = ap test same ∙ (and_parts (test y) (list_all test ys) all).0
all-in test (y ∷ ys) x all (inr later) = all-in test ys x (and_parts (test y) (list_all test ys) all).1 later

pub all-from : {A : Type 0} (test : A → Bool) (xs : List A) → ((x : A) → In x xs → test x ≡ true)
    → list_all test xs ≡ true
all-from test [] each = refl
all-from test (x ∷ xs) each =
    and_from (test x) (list_all test xs) (each x (inl refl)) (all-from test xs (λ y later. each y (inr later)))

-- nothing waits at a node that is up
pub record IsDone (k : ℕ) (q : Queue) : Type 0 where
  pub written : waiting k q.group ≡ 0
  pub noticed : (q.group.seat k).noticed ≡ length (q.group.seat k).ops

pub done : (setup : Setup) (up : ℕ → Bool) (q : Queue) (k : ℕ) → In k setup.nodes → up k ≡ true
    → is_quiet setup up q ≡ true → IsDone k q
done setup up q k node is quiet =
    let all = (and_parts (nat_eq (length q.group.bag) 0) (list_all (is_quiet_at q up) setup.nodes) quiet).1 in
    let at = all-in (is_quiet_at q up) setup.nodes k all node in
    let settled : is_settled k q ≡ true =
    subst (λ (b : Bool). cond b (is_settled k q) true ≡ true) is at in
    let parts = and_parts (nat_eq (waiting k q.group) 0)
    (nat_eq (q.group.seat k).noticed (length (q.group.seat k).ops)) settled in
    record {
      written = eqb-true (waiting k q.group) 0 parts.0;
      noticed = eqb-true (q.group.seat k).noticed (length (q.group.seat k).ops) parts.1;
    }

pub quiet-bag : (setup : Setup) (up : ℕ → Bool) (q : Queue) → is_quiet setup up q ≡ true → length q.group.bag ≡ 0
quiet-bag setup up q quiet =
    eqb-true (length q.group.bag) 0
    (and_parts (nat_eq (length q.group.bag) 0) (list_all (is_quiet_at q up) setup.nodes) quiet).0

-- ---- a node's write and sync

pub quiet-writes : (setup : Setup) (up : ℕ → Bool) (q : Queue) (k : ℕ) → In k setup.nodes → up k ≡ true
    → is_quiet setup up q ≡ true → happens q (Writes k) ≡ q
quiet-writes setup up q k node is quiet =
    sym (untold-still (record q { group = group_after q.group (replicate (waiting k q.group) (Take k)) }))
    ∙ ap (λ (n : ℕ). record q { group = group_after q.group (replicate n (Take k)) })
    (done setup up q k node is quiet).written

-- a function that is given the value that it has
pub put-own : {A : Type 0} (k : ℕ) (x : A) (f : ℕ → A) → f k ≡ x → put k x f ≡ f
put-own k x f is =
    fun_ext (λ i. put-each (λ (j : ℕ) y. y ≡ f j) k x f (sym is) (λ j other. refl) i)

synced-all : (setup : Setup) (up : ℕ → Bool) (q : Queue) (k : ℕ) → In k setup.nodes → up k ≡ true → CountsRise q k
    → is_quiet setup up q ≡ true → q.synced k ≡ length (q.group.seat k).ops
synced-all setup up q k node is rise quiet =
    let low = rise.noticed in
    let high = rise.synced in
    let noticed = (done setup up q k node is quiet).noticed in
    omega (arith, low, high, noticed)

pub quiet-syncs : (setup : Setup) (up : ℕ → Bool) (q : Queue) (k : ℕ) → In k setup.nodes → up k ≡ true
    → CountsRise q k → is_quiet setup up q ≡ true → happens q (Syncs k) ≡ q
quiet-syncs setup up q k node is rise quiet =
    sym (untold-still (record q { synced = synced_after q (Syncs k) }))
    ∙ ap (λ (synced : ℕ → ℕ). record q { synced = synced })
    (cond_both (is_some (q.group.seat k).server) (put k (length (q.group.seat k).ops) q.synced) q.synced
    (λ (synced : ℕ → ℕ). synced ≡ q.synced)
    (λ _. put-own k (length (q.group.seat k).ops) q.synced (synced-all setup up q k node is rise quiet))
    (λ _. refl))

-- ---- what is tested of it

pub quiet-written : (setup : Setup) (up : ℕ → Bool) (q : Queue) (k : ℕ) → In k setup.nodes → up k ≡ true
    → is_quiet setup up q ≡ true → waits_written k q ≡ false
quiet-written setup up q k node is quiet = ap (nat_lt 0) (done setup up q k node is quiet).written

pub quiet-synced : (setup : Setup) (up : ℕ → Bool) (q : Queue) (k : ℕ) → In k setup.nodes → up k ≡ true
    → CountsRise q k → is_quiet setup up q ≡ true → waits_synced k q ≡ false
quiet-synced setup up q k node is rise quiet =
    le-ltb (q.synced k) (length (q.group.seat k).ops)
    (let all = synced-all setup up q k node is rise quiet in omega (arith, all))

pub quiet-noticed : (setup : Setup) (up : ℕ → Bool) (q : Queue) (k : ℕ) → In k setup.nodes → CountsRise q k
    → is_quiet setup up q ≡ true → (up k && waits_noticed k q) ≡ false
quiet-noticed setup up q k node rise quiet = by (up k) refl
  where
    by : (b : Bool) → up k ≡ b → (b && waits_noticed k q) ≡ false
    by true is =
        le-ltb (q.group.seat k).noticed (q.synced k)
        (let all = (done setup up q k node is quiet).noticed in let high = rise.synced in omega (arith, all, high))
    by false is = refl

-- ---- what leaves it quiet

-- a node stops
pub quiet-stopped : (setup : Setup) (up : ℕ → Bool) (q : Queue) (k : ℕ) → is_quiet setup up q ≡ true
    → is_quiet setup (put k false up) (happens q (Stops k)) ≡ true
quiet-stopped setup up q k quiet =
    and_from (nat_eq (length q.group.bag) 0) (list_all (is_quiet_at (happens q (Stops k)) (put k false up)) setup.nodes)
    parts.0 (all-from (is_quiet_at (happens q (Stops k)) (put k false up)) setup.nodes
    (λ j node. at j (all-in (is_quiet_at q up) setup.nodes j parts.1 node)))
  where
    parts : (nat_eq (length q.group.bag) 0 ≡ true) × (list_all (is_quiet_at q up) setup.nodes ≡ true)
    parts = and_parts (nat_eq (length q.group.bag) 0) (list_all (is_quiet_at q up) setup.nodes) quiet

    crashed : Seat
    crashed = record { server = None; ops = (q.group.seat k).ops; noticed = (q.group.seat k).noticed }

    at : (j : ℕ) → is_quiet_at q up j ≡ true → is_quiet_at (happens q (Stops k)) (put k false up) j ≡ true
    at j is = by (cases_eq j k)
      where
        by : ((j ≡ k) ⊎ (j ≢ k)) → is_quiet_at (happens q (Stops k)) (put k false up) j ≡ true
        by (inl same) =
            ap (λ (b : Bool). cond b (is_settled j (happens q (Stops k))) true)
            (ap (put k false up) same ∙ put-same k false up)
        by (inr other) =
            ap (λ (b : Bool). cond b (is_settled j (happens q (Stops k))) true) (put-other k false up j other)
            ∙ ap (λ (seat : Seat). cond (up j) (settled seat) true) (put-other k crashed q.group.seat j other) ∙ is
          where
            settled : Seat → Bool
            settled seat = is_settled j (record q { group = record q.group { seat = λ i. seat } })

-- ---- a whole cluster

pub idle-from : (setup : Setup) (c : Cluster)
    → ((place : ℕ) → In place setup.places → is_quiet setup c.up (c.queue place) ≡ true) → is_idle setup c ≡ true
idle-from setup c each = all-from (λ (place : ℕ). is_quiet setup c.up (c.queue place)) setup.places each

pub idle-not : (setup : Setup) (c : Cluster) (place : ℕ) → In place setup.places
    → is_quiet setup c.up (c.queue place) ≡ false → is_idle setup c ≡ false
idle-not setup c place here busy = not-all (λ (p : ℕ). is_quiet setup c.up (c.queue p)) setup.places here busy
  where
    not-all : (test : ℕ → Bool) (xs : List ℕ) → In place xs → test place ≡ false → list_all test xs ≡ false
    not-all test [] here is = absurd here
    not-all test (x ∷ xs) (inl same) is = ap (λ (b : Bool). b && list_all test xs) (ap test (sym same) ∙ is)
    not-all test (x ∷ xs) (inr later) is =
        by (test x) (not-all test xs later is)
      where
        by : (b : Bool) → list_all test xs ≡ false → (b && list_all test xs) ≡ false
        by true rest = rest
        by false rest = refl
