-- A command that is given to a queue whose leader may commit soon is a row after two rounds.
use Rattle.std.proofs.Common.{◌≡◌, ◌⊎◌, ℕ, ◌≤◌, ◌<◌, ◌+◌, ◌*◌, Bool, true, false, not, cond, ◌&&◌, ◌||◌, List, [], ◌∷◌, ◌++◌, length, map, count_by, Option, refl, sym, ap, ◌∙◌, subst, inl, inr, arith}
use Rattle.std.specs.Prelude.{nat_eq, replicate}
use Rattle.std.specs.List.{list_all, list_any}
use Rattle.std.proofs.lemmas.Bool.{and_from, and_parts, cases_Bool, cond-true, cond-false, eq-eqb, eqb-true, false≢true, lt-ltb, ne_eqb, or_cases}
use Rattle.std.proofs.lemmas.List.{length-map}
use Rattle.std.proofs.lemmas.List.Sums.{sum_by-cons}
use Rattle.qq_base.specs.declared.ids.NodeId.{NodeId}
use Rattle.qq_raft_protocol.specs.Facts.{In, tally}
use Rattle.qq_raft_model.specs.declared.peer.Peer.{Peer}
use Rattle.qq_raft_model.specs.Group.{has_node}
use Rattle.qq_raft_model.specs.Handing.{peer_number}
use Rattle.qq_raft_model.specs.Leading.{is_majority}
use Rattle.qq_raft_model.specs.Promises.{AreDistinct, members_of}
use Rattle.qq_raft_model.specs.Refines.{number}
use Rattle.qq_raft_model.specs.State.{Server}
use Rattle.qq_cluster_model.specs.Cluster.{Cluster, Setup}
use Rattle.qq_cluster_model.specs.Queue.{Queue, Event, Delivers, after, waiting_by, waiting}
use Rattle.qq_cluster_model.specs.Rules.{is_quiet, is_quiet_at, is_settled}
use Rattle.qq_cluster_model.proofs.Counts.{IsCounted}
use Rattle.qq_cluster_progress_laws.specs.Alone.{round_alone, turn_where, turns}
use Rattle.qq_cluster_progress_laws.proofs.Fit.{others}
use Rattle.qq_cluster_progress_laws.proofs.Rounds.{IsSettled}

-- ---- a queue that is quiet

pub all-in : (test : ℕ → Bool) (xs : List ℕ) (x : ℕ) → list_all test xs ≡ true → In x xs → test x ≡ true
all-in test [] x all here = absurd here
all-in test (y ∷ ys) x all (inl same) = ap test same ∙ (and_parts (test y) (list_all test ys) all).0
all-in test (y ∷ ys) x all (inr more) = all-in test ys x (and_parts (test y) (list_all test ys) all).1 more

none-left : {A : Type 0} (xs : List A) → length xs ≡ 0 → xs ≡ []
none-left [] is = refl
none-left (x ∷ xs) is = absurd (omega (arith, is))

pub quiet-bag : (setup : Setup) (up : ℕ → Bool) (q : Queue) → is_quiet setup up q ≡ true → q.group.bag ≡ []
quiet-bag setup up q quiet =
    none-left q.group.bag (eqb-true (length q.group.bag) 0
    (and_parts (nat_eq (length q.group.bag) 0) (list_all (is_quiet_at q up) setup.nodes) quiet).0)

pub quiet-settled : (setup : Setup) (up : ℕ → Bool) (q : Queue) (j : ℕ) → IsCounted q → In j setup.nodes
    → up j ≡ true → is_quiet setup up q ≡ true → IsSettled j q
quiet-settled setup up q j counted node j_up quiet =
    let all = (and_parts (nat_eq (length q.group.bag) 0) (list_all (is_quiet_at q up) setup.nodes) quiet).1 in
    let settled : is_settled j q ≡ true =
    subst (λ (b : Bool). cond b (is_settled j q) true ≡ true) j_up (all-in (is_quiet_at q up) setup.nodes j all node) in
    let parts = and_parts (nat_eq (waiting j q.group) 0)
    (nat_eq (q.group.seat j).noticed (length (q.group.seat j).ops)) settled in
    let noticed = eqb-true (q.group.seat j).noticed (length (q.group.seat j).ops) parts.1 in
    let low = (counted j).noticed in
    let high = (counted j).synced_is in (
      record { synced = omega (arith, noticed, low, high); noticed = noticed },
      λ s is. none-left s.ops
          (ap (λ (o : Option Server). waiting_by o) (sym is)
          ∙ eqb-true (waiting j q.group) 0 parts.0),
    )

-- ---- nodes that are up, of those there are

abbrev pub runs : Setup → Cluster → ℕ → Bool
runs setup c j = c.up j && list_any (λ (k : ℕ). nat_eq k j) setup.nodes

any-from : (xs : List ℕ) (x : ℕ) → In x xs → list_any (λ (k : ℕ). nat_eq k x) xs ≡ true
any-from [] x here = absurd here
any-from (y ∷ ys) x (inl same) =
    ap (λ (b : Bool). b || list_any (λ (k : ℕ). nat_eq k x) ys) (eq-eqb y x (sym same))
any-from (y ∷ ys) x (inr more) = by (nat_eq y x) (any-from ys x more)
  where
    by : (b : Bool) → list_any (λ (k : ℕ). nat_eq k x) ys ≡ true → (b || list_any (λ (k : ℕ). nat_eq k x) ys) ≡ true
    by true is = refl
    by false is = is

from-any : (xs : List ℕ) (x : ℕ) → list_any (λ (k : ℕ). nat_eq k x) xs ≡ true → In x xs
from-any [] x is = absurd (false≢true is)
from-any (y ∷ ys) x is = elim (or_cases (nat_eq y x) (list_any (λ (k : ℕ). nat_eq k x) ys) is) [
  | inl same ↦ inl (sym (eqb-true y x same))
  | inr more ↦ inr (from-any ys x more)
]

pub runs-up : (setup : Setup) (c : Cluster) (j : ℕ) → runs setup c j ≡ true → (c.up j ≡ true) × In j setup.nodes
runs-up setup c j is =
    let parts = and_parts (c.up j) (list_any (λ (k : ℕ). nat_eq k j) setup.nodes) is in
    (parts.0, from-any setup.nodes j parts.1)

pub runs-from : (setup : Setup) (c : Cluster) (j : ℕ) → c.up j ≡ true → In j setup.nodes → runs setup c j ≡ true
runs-from setup c j j_up node =
    and_from (c.up j) (list_any (λ (k : ℕ). nat_eq k j) setup.nodes) j_up (any-from setup.nodes j node)

turns-same : (f g : ℕ → Bool) (nodes : List ℕ) (q : Queue) → ((j : ℕ) → In j nodes → f j ≡ g j)
    → turns f nodes q ≡ turns g nodes q
turns-same f g [] q same = refl
turns-same f g (j ∷ nodes) q same =
    ap (λ (b : Bool). turn_where b j q ++ turns f nodes (after q (turn_where b j q))) (same j (inl refl))
    ∙ ap (λ (l : List Event). turn_where (g j) j q ++ l)
    (turns-same f g nodes (after q (turn_where (g j) j q)) (λ i here. same i (inr here)))

pub round-same : (setup : Setup) (c : Cluster) (q : Queue)
    → round_alone (runs setup c) setup.nodes q ≡ round_alone c.up setup.nodes q
round-same setup c q =
    ap (λ (l : List Event). l ++ replicate (length (after q l).group.bag) (Delivers 0))
    (turns-same (runs setup c) c.up setup.nodes q (λ j here. by (c.up j) (any-from setup.nodes j here)))
  where
    by : (b : Bool) {d : Bool} → d ≡ true → (b && d) ≡ b
    by true is = is
    by false is = refl

-- ---- majorities

abbrev pub counted_by : List NodeId → (ℕ → Bool) → ℕ → Bool
counted_by nodes counts j = has_node j nodes && counts j

others-none : (k : ℕ) (nodes : List NodeId) → ((m : NodeId) → In m nodes → m.0 ≡ k → ⊥) → others k nodes ≡ nodes
others-none k [] none = refl
others-none k (n ∷ nodes) none =
    cond-true (not (nat_eq n.0 k)) (n ∷ others k nodes) (others k nodes)
    (ap not (ne_eqb n.0 k (none n (inl refl))))
    ∙ ap (λ (l : List NodeId). n ∷ l) (others-none k nodes (λ m here. none m (inr here)))

-- one of the members left out
record LeavesOne (counts : ℕ → Bool) (k : ℕ) (nodes : List NodeId) : Type 0 where
  long : length nodes ≡ length (others k nodes) + 1
  tally_is : tally counts (members_of nodes) ≤ 1 + tally counts (members_of (others k nodes))

tally-cons : (counts : ℕ → Bool) (x : ℕ) (xs : List ℕ)
    → tally counts (x ∷ xs) ≡ cond (counts x) 1 0 + tally counts xs
tally-cons counts x xs = by (counts x)
  where
    by : (b : Bool) → cond b (1 + tally counts xs) (tally counts xs) ≡ cond b 1 0 + tally counts xs
    by true = omega arith
    by false = omega arith

leaves-one : (counts : ℕ → Bool) (k : ℕ) (nodes : List NodeId) → AreDistinct nodes → has_node k nodes ≡ true
    → LeavesOne counts k nodes
leaves-one counts k [] distinct here = absurd (false≢true here)
leaves-one counts k (n ∷ nodes) distinct here =
    by (cases_Bool (nat_eq n.0 k)) (λ more. leaves-one counts k nodes distinct.1 more)
  where
    one : (b : Bool) → cond b 1 0 ≤ 1
    one true = omega arith
    one false = omega arith

    by : ((nat_eq n.0 k ≡ true) ⊎ (nat_eq n.0 k ≡ false))
        → (has_node k nodes ≡ true → LeavesOne counts k nodes) → LeavesOne counts k (n ∷ nodes)
    by (inl own) rest =
        let same : n.0 ≡ k = eqb-true n.0 k own in
        let left : others k (n ∷ nodes) ≡ nodes =
        cond-false (not (nat_eq n.0 k)) (n ∷ others k nodes) (others k nodes) (ap not own)
        ∙ others-none k nodes (λ m there is. distinct.0 m there (is ∙ sym same)) in
        let t = tally-cons counts n.0 (members_of nodes) in
        let o = one (counts n.0) in
        record {
          long = (let e = ap length left in omega (arith, e));
          tally_is = (let e = ap (λ (l : List NodeId). tally counts (members_of l)) left in omega (arith, e, t, o));
        }
    by (inr other) rest =
        let there : has_node k nodes ≡ true =
        ap (λ (b : Bool). b || has_node k nodes) (sym other) ∙ here in
        let r = rest there in
        let left : others k (n ∷ nodes) ≡ n ∷ others k nodes =
        cond-true (not (nat_eq n.0 k)) (n ∷ others k nodes) (others k nodes) (ap not other) in
        let long = r.long in
        let less = r.tally_is in
        let a = tally-cons counts n.0 (members_of nodes) in
        let b = tally-cons counts n.0 (members_of (others k nodes)) in
        record {
          long = (let e = ap length left in omega (arith, e, long));
          tally_is = (let e = ap (λ (l : List NodeId). tally counts (members_of l)) left in omega (arith, e, a, b, less));
        }

count-tally : (counts : ℕ → Bool) (peers : List Peer)
    → count_by (λ (x : Peer). counts x.node.0) peers ≡ tally counts (map peer_number peers)
count-tally counts [] = refl
count-tally counts (x ∷ peers) =
    sum_by-cons (λ (y : Peer). cond (counts y.node.0) 1 0) x peers
    ∙ ap (λ (n : ℕ). cond (counts x.node.0) 1 0 + n) (count-tally counts peers)
    ∙ sym (tally-cons counts x.node.0 (map peer_number peers))

-- a majority of the members is one of the leader and its peers
pub peers-majority : (nodes : List NodeId) (k : ℕ) (counts : ℕ → Bool) (peers : List Peer) → AreDistinct nodes
    → has_node k nodes ≡ true → map peer_number peers ≡ map number (others k nodes)
    → length (members_of nodes) < 2 * tally counts (members_of nodes)
    → is_majority true (λ (x : Peer). counts x.node.0) peers ≡ true
peers-majority nodes k counts peers distinct here are most =
    let l = leaves-one counts k nodes distinct here in
    let long = l.long in
    let less = l.tally_is in
    let a = length-map nodes number in
    let b = length-map peers peer_number in
    let c = ap length are in
    let d = length-map (others k nodes) number in
    let e = count-tally counts peers in
    let f = ap (tally counts) are in
    lt-ltb (length peers + 1) (2 * (1 + count_by (λ (x : Peer). counts x.node.0) peers))
    (omega (arith, long, less, a, b, c, d, e, f, most))
