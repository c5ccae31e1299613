-- A queue over new logs has a leader after four rounds, or two where its group has one member.
use Rattle.std.proofs.Common.{◌≡◌, ◌≢◌, ℕ, ◌≤◌, ◌+◌, ◌*◌, Bool, true, false, cond, not, ◌||◌, List, [], ◌∷◌, length, map, count_by, Some, refl, sym, ap, ◌∙◌, subst, inl, inr, arith}
use Rattle.std.specs.Prelude.{nat_eq}
use Rattle.std.specs.List.{AllByRecursion}
use Rattle.std.proofs.lemmas.Bool.{eq-eqb, le-ltb}
use Rattle.std.proofs.lemmas.List.{length-map}
use Rattle.std.proofs.lemmas.List.Sums.{sum_by-cons}
use Rattle.qq_base.specs.declared.ids.NodeId.{NodeId}
use Rattle.qq_entry.specs.declared.command.Entry.{Entry}
use Rattle.qq_raft_protocol.specs.Facts.{In}
use Rattle.qq_raft_protocol.proofs.Lists.{In-filter, In-map, map-In}
use Rattle.qq_raft_msg.specs.declared.rpc.Rpc.{Rpc}
use Rattle.qq_raft_model.specs.declared.peer.Peer.{Peer}
use Rattle.qq_raft_model.specs.Group.{has_node}
use Rattle.qq_raft_model.specs.Handing.{peer_number}
use Rattle.qq_raft_model.specs.Leading.{ask, clear_vote, is_majority, start_peer}
use Rattle.qq_raft_model.specs.Promises.{AreDistinct}
use Rattle.qq_raft_model.specs.Refines.{number}
use Rattle.qq_raft_model.specs.State.{Server, last, wait}
use Rattle.qq_cluster_model.specs.Queue.{Queue}
use Rattle.qq_cluster_progress_laws.specs.Soon.{AreOnce}
use Rattle.qq_cluster_progress_laws.proofs.Committing.{IsSending}
use Rattle.qq_cluster_progress_laws.proofs.Delivering.{Plan, talk}
use Rattle.qq_cluster_progress_laws.proofs.Electing.{IsLed, IsStanding, all-majority, based, first_entry, first_messages}
use Rattle.qq_cluster_progress_laws.proofs.Exchange.{Seated, receivers}
use Rattle.qq_cluster_progress_laws.proofs.Fit.{others}
use Rattle.qq_cluster_progress_laws.proofs.Member.{rpcs_of}
use Rattle.qq_cluster_progress_laws.proofs.Rounds.{IsSettled}
use Rattle.qq_cluster_progress_laws.proofs.Sending.{other-in, others-once, receivers-are, sent-of}
use Rattle.qq_cluster_progress_laws.proofs.Sound.{IsSound}
use Rattle.qq_cluster_progress_laws.proofs.Turns.{IsEven}
use Rattle.qq_cluster_progress_laws.proofs.Voting.{IsNew}

-- ---- a new queue

-- all members are up with new logs, and nothing is on its way
pub record IsFreshQueue (members : List NodeId) (up : ℕ → Bool) (q : Queue) : Type 0 where
  pub sound : IsSound members q
  pub distinct : AreDistinct members
  pub bag : q.group.bag ≡ []
  pub new : (j : ℕ) (t : Server) → (q.group.seat j).server ≡ Some t → IsNew t
  pub there : (j : ℕ) → has_node j members ≡ true → (t : Server) × ((q.group.seat j).server ≡ Some t)
  pub ops : (j : ℕ) → (q.group.seat j).ops ≡ []
  pub noticed : (j : ℕ) → (q.group.seat j).noticed ≡ 0
  pub synced : (j : ℕ) → q.synced j ≡ 0
  pub members_up : (j : ℕ) → has_node j members ≡ true → up j ≡ true

-- ---- lists

pub numbers-start : (n : ℕ) (xs : List Peer) → map peer_number (map (start_peer n) xs) ≡ map peer_number xs
numbers-start n [] = refl
numbers-start n (x ∷ xs) = ap (λ (l : List ℕ). x.node.0 ∷ l) (numbers-start n xs)

pub asked-receivers : (s : Server) (xs : List Peer) → receivers (map (ask s) xs) ≡ map peer_number xs
asked-receivers s [] = refl
asked-receivers s (x ∷ xs) = ap (λ (l : List ℕ). x.node.0 ∷ l) (asked-receivers s xs)

pub numbers-clear : (xs : List Peer) → map peer_number (map clear_vote xs) ≡ map peer_number xs
numbers-clear [] = refl
numbers-clear (x ∷ xs) = ap (λ (l : List ℕ). x.node.0 ∷ l) (numbers-clear xs)

pub rpcs-wait : (n : ℕ) (rs : List Rpc) → rpcs_of (map (wait n) rs) ≡ rs
rpcs-wait n [] = refl
rpcs-wait n (r ∷ rs) = ap (λ (l : List Rpc). r ∷ l) (rpcs-wait n rs)

pub each-in : {A : Type 0} (P : A → Type 0) (xs : List A) → ((x : A) → In x xs → P x) → AllByRecursion P xs
each-in P [] each = tt
each-in P (x ∷ xs) each = (each x (inl refl), each-in P xs (λ y here. each y (inr here)))

-- nobody has granted
none-granted : (xs : List Peer) → count_by (λ (x : Peer). x.granted) (map clear_vote xs) ≡ 0
none-granted [] = refl
none-granted (x ∷ xs) =
    (let one = sum_by-cons (λ (y : Peer). cond y.granted 1 0) (clear_vote x) (map clear_vote xs) in
    let rest = none-granted xs in omega (arith, one, rest))

pub beaten : (xs : List Peer) → 1 ≤ length xs → is_majority true (λ (x : Peer). x.granted) (map clear_vote xs) ≡ false
beaten xs some =
    le-ltb (length (map clear_vote xs) + 1) (2 * (1 + count_by (λ (x : Peer). x.granted) (map clear_vote xs)))
    (let n = none-granted xs in let l = length-map xs clear_vote in omega (arith, n, l, some))

-- ---- a leader of the first term

abbrev pub first_plan : List NodeId → (ℕ → Bool) → ℕ → Plan
first_plan members up k = record {
  node = k;
  term = 1;
  upto = 1;
  log = [];
  most = λ j. has_node j members;
  up = up;
  asked = λ j. has_node j members;
}

pub in-numbers : (k : ℕ) (members : List NodeId) (n : ℕ) → In n (map number (others k members))
    → has_node n members ≡ true
in-numbers k members n here =
    let m = In-map number n (others k members) here in
    let i = In-filter (λ (q : NodeId). not (nat_eq q.0 k)) m.item members m.here in
    subst (λ (j : ℕ). has_node j members ≡ true) (sym m.is) (has-in m.item members i.0)
  where
    has-in : (x : NodeId) (xs : List NodeId) → In x xs → has_node x.0 xs ≡ true
    has-in x [] here = absurd here
    has-in x (y ∷ ys) (inl same) =
        ap (λ (b : Bool). b || has_node x.0 ys) (eq-eqb y.0 x.0 (ap (λ (z : NodeId). z.0) (sym same)))
    has-in x (y ∷ ys) (inr more) = either (nat_eq y.0 x.0) (has-in x ys more)
      where
        either : (b : Bool) {c : Bool} → c ≡ true → (b || c) ≡ true
        either true is = refl
        either false is = is

-- what its first entry is sent by
pub led-sends : (members : List NodeId) (up : ℕ → Bool) (k : ℕ) (q : Queue) (base u : Server) → AreDistinct members
    → IsSound members q → ((j : ℕ) → has_node j members ≡ true → up j ≡ true) → has_node k members ≡ true
    → IsStanding base → base.node.0 ≡ k → map peer_number base.peers ≡ map number (others k members) → IsLed base u
    → (q.group.seat k).server ≡ Some u → q.group.bag ≡ first_messages base → IsEven k q
    → ((j : ℕ) → j ≢ k → up j ≡ true → IsSettled j q)
    → ((j : ℕ) → j ≢ k → Seated (talk (first_plan members up k) (first_entry base)) (first_messages base) [] j (q.group.seat j))
    → IsSending members (first_plan members up k) (first_entry base) q u (first_messages base)
led-sends members up k q base u distinct sound members_up member standing node peers led here bag even settled begins =
    record {
      sound = sound;
      node_up = members_up k member;
      here = here;
      leads = led.role;
      log = led.log;
      term = led.term;
      own = standing.term;
      upto = refl;
      op = led.op;
      ops = led.ops;
      within = led.commit;
      noticed = (let a = led.noticed in let b = led.op_is in omega (arith, a, b));
      waiting = led.waiting;
      majority = all-majority (λ (x : Peer). has_node x.node.0 members) u.peers (λ x there.
          in-numbers k members x.node.0
          (subst (λ (l : List ℕ). In x.node.0 l) (sound.fit.each k u here).peers (map-In peer_number x u.peers there)));
      even = even;
      settled = settled;
      counts_up = members_up;
      bag = bag;
      sent = sent-of (first_plan members up k) (first_entry base) (based base) node standing.term standing.log
          (ap (λ (l : List Entry). length l + 1) (sym standing.log))
          (λ x there. other-in k members x.node.0 (number-in x there))
          (λ x there. in-numbers k members x.node.0 (number-in x there))
          (λ x there counts. (let w = In-map (start_peer (last base + 1)) x base.peers there in
          ap (λ (y : Peer). y.next) w.is));
      once = subst AreOnce
          (sym (receivers-are (first_entry base) (based base) (based base).peers ∙ started))
          (others-once k members distinct);
      begins = begins;
    }
  where
    started : map peer_number (based base).peers ≡ map number (others k members)
    started = numbers-start (last base + 1) base.peers ∙ peers

    number-in : (x : Peer) → In x (based base).peers → In x.node.0 (map number (others k members))
    number-in x there = subst (λ (l : List ℕ). In x.node.0 l) started (map-In peer_number x (based base).peers there)
