-- A leader is given a command, and sends its entry to all others.
use Rattle.std.proofs.Common.{◌≡◌, ◌≢◌, ℕ, zero, suc, ◌≤◌, ◌-◌, ◌+◌, Bool, true, false, not, cond, eqb, leb, ◌&&◌, ◌||◌, List, [], ◌∷◌, ◌++◌, length, map, filter, drop, Some, refl, sym, ap, ◌∙◌, subst, inl, inr, arith}
use Rattle.std.specs.Prelude.{nat_eq}
use Rattle.std.specs.List.{AllByRecursion}
use Rattle.std.proofs.lemmas.Bool.{cond-true, cond_both, eq-eqb, le-leb, false≢true, ne_eqb, or_cases, eqb-true}
use Rattle.std.proofs.lemmas.List.{take-append-le}
use Rattle.std.proofs.Math.Seq.{drop-append_seam}
use Rattle.qq_base.proofs.Lists.{AllByRecursion-map}
use Rattle.qq_base.specs.declared.ids.NodeId.{NodeId}
use Rattle.qq_entry.specs.declared.command.Command.{Command}
use Rattle.qq_entry.specs.declared.command.Entry.{Entry}
use Rattle.qq_log.specs.declared.op.Op.{Op}
use Rattle.qq_log.specs.declared.op.Op.TheVariants.{Change}
use Rattle.qq_raft_protocol.specs.Facts.{In}
use Rattle.qq_raft_protocol.specs.Moves.{last_term}
use Rattle.qq_raft_protocol.proofs.Lists.{In-map, map-In, In-filter}
use Rattle.qq_raft_msg.specs.declared.rpc.AppendMsg.{AppendMsg}
use Rattle.qq_raft_msg.specs.declared.rpc.Rpc.{Rpc}
use Rattle.qq_raft_msg.specs.declared.rpc.Rpc.TheVariants.{Append}
use Rattle.qq_raft_model.specs.declared.limits.TheConstants.{BATCH_BYTES, BATCH_ENTRIES}
use Rattle.qq_raft_model.specs.declared.peer.Peer.{Peer}
use Rattle.qq_raft_model.specs.Group.{has_node}
use Rattle.qq_raft_model.specs.Handing.{peer_number}
use Rattle.qq_raft_model.specs.Leading.{add_entry, append_entry, append_to, batch, batch_from, everyone, fit, is_majority, pass, send, weight}
use Rattle.qq_raft_model.specs.Promises.{AreDistinct}
use Rattle.qq_raft_model.specs.Refines.{entry_of, number}
use Rattle.qq_raft_model.specs.Server.{end, is_match, is_ready, submit}
use Rattle.qq_raft_model.specs.State.{Server, change, last, term_at}
use Rattle.qq_raft_model.proofs.Leads.{whole}
use Rattle.qq_cluster_model.specs.Queue.{Queue}
use Rattle.qq_cluster_progress_laws.specs.Soon.{AreOnce}
use Rattle.qq_cluster_progress_laws.proofs.Delivering.{IsSent, Plan, talk}
use Rattle.qq_cluster_progress_laws.proofs.Exchange.{Seated, receivers, same_some}
use Rattle.qq_cluster_progress_laws.proofs.Fit.{IsFit, others}
use Rattle.qq_cluster_progress_laws.proofs.Leader.{majority-map}
use Rattle.qq_cluster_progress_laws.proofs.Rounds.{IsSettled}
use Rattle.qq_cluster_progress_laws.proofs.Sound.{AreHanded, IsSound, ops-counted}
use Rattle.qq_cluster_progress_laws.proofs.Waiting.{none-waits, Rises}

-- ---- the entry

filter-all : (xs : List Peer) → filter everyone xs ≡ xs
filter-all [] = refl
filter-all (x ∷ xs) = ap (λ (l : List Peer). x ∷ l) (filter-all xs)

-- a leader with the entry, before it is sent
abbrev pub with_entry : Entry → Server → Server
with_entry e s = append_entry e s

-- a peer is sent what comes after these entries next, and isn't known to have more
abbrev pub IsNext : ℕ → Peer → Type 0
IsNext n x = (x.next ≡ n + 1) × (x.matched ≤ n)

-- each peer was sent all that there is
abbrev pub AllNext : Server → Type 0
AllNext s = (x : Peer) → In x s.peers → IsNext (last s) x

pub record Added (e : Entry) (s u : Server) : Type 0 where
  pub node : u.node ≡ s.node
  pub role : u.role ≡ s.role
  pub term : u.term ≡ s.term
  pub log : u.log ≡ s.log ++ e ∷ []
  pub op : u.op ≡ s.op + 1
  pub noticed : u.noticed ≡ s.noticed
  pub commit : u.commit ≡ s.commit
  pub waiting : u.waiting ≡ s.waiting
  pub ops : (op : Op) × (u.ops ≡ s.ops ++ op ∷ [])
  pub out : u.out ≡ s.out ++ map (append_to (with_entry e s)) s.peers
  pub peers : (most : ℕ → Bool) → is_majority true (λ (x : Peer). most x.node.0) s.peers ≡ true
      → is_majority true (λ (x : Peer). most x.node.0) u.peers ≡ true
  pub numbers : map peer_number u.peers ≡ map peer_number s.peers
  pub next : AllNext s → (x : Peer) → In x u.peers → IsNext (last s + 1) x

abbrev passed : Entry → Server → Peer → Peer
passed e s x = cond (everyone x) (pass (with_entry e s).log x) x

passed-node : (e : Entry) (s : Server) (x : Peer) → (passed e s x).node ≡ x.node
passed-node e s x = refl

passed-numbers : (e : Entry) (s : Server) (xs : List Peer) → map peer_number (map (passed e s) xs) ≡ map peer_number xs
passed-numbers e s [] = refl
passed-numbers e s (x ∷ xs) = ap (λ (l : List ℕ). x.node.0 ∷ l) (passed-numbers e s xs)

-- ---- its message

fit-none : (count room : ℕ) → fit count room [] ≡ []
fit-none zero room = refl
fit-none (suc count) room = refl

-- what a peer is sent that lacks only the last entry
last-batch : (log : List Entry) (e : Entry) → batch_from (length log + 1) (log ++ e ∷ []) ≡ e ∷ []
last-batch log e =
    let at : (length log + 1) - 1 ≡ length log = omega arith in
    ap (λ (n : ℕ). batch (drop n (log ++ e ∷ []))) at
    ∙ ap batch (drop-append_seam log (e ∷ []))
    ∙ ap (λ (l : List Entry). e ∷ l) (fit-none (BATCH_ENTRIES - 1) (BATCH_BYTES - weight e))

with-log : (e : Entry) (s : Server) → (with_entry e s).log ≡ s.log ++ e ∷ []
unfolding change
with-log e s = sym (whole s.log e)

-- what is sent next to a peer that lacked only the last entry
passed-next : (e : Entry) (s : Server) → AllNext s → (x : Peer) → In x (map (passed e s) s.peers)
    → IsNext (last s + 1) x
passed-next e s next x here =
    let w = In-map (passed e s) x s.peers here in
    let old = next w.item w.here in
    let sent : length (batch_from w.item.next (with_entry e s).log) ≡ 1 =
    ap (λ (i : ℕ). length (batch_from i (with_entry e s).log)) old.0
    ∙ ap (λ (l : List Entry). length (batch_from (last s + 1) l)) (with-log e s) ∙ ap length (last-batch s.log e) in
    let now : x.next ≡ w.item.next + length (batch_from w.item.next (with_entry e s).log) =
    ap (λ (y : Peer). y.next) w.is in
    let was = old.0 in
    let low = old.1 in
    let same : x.matched ≡ w.item.matched = ap (λ (y : Peer). y.matched) w.is in
    (omega (arith, was, sent, now), omega (arith, low, same))

pub sent-added : (e : Entry) (s : Server) → Added e s (send everyone (with_entry e s))
unfolding send change
sent-added e s = record {
  node = refl;
  role = refl;
  term = refl;
  log = sym (whole s.log e);
  op = refl;
  noticed = refl;
  commit = refl;
  waiting = refl;
  ops = (Change s.queue (s.op + 1) s.term s.vote (record { 0 = last s }) (e ∷ []), refl);
  out = ap (λ (l : List Peer). s.out ++ map (append_to (with_entry e s)) l) (filter-all s.peers);
  peers = λ most is. majority-map most (passed e s) s.peers (passed-node e s) is;
  numbers = passed-numbers e s s.peers;
  next = passed-next e s;
}

pub submits-adds : (time : ℕ) (command : Command) (s : Server) → is_ready s ≡ true
    → Added (entry_of time command s) s (submit time command s)
unfolding submit add_entry
submits-adds time command s ready =
    subst (Added (entry_of time command s) s)
    (sym (cond-true (is_ready s) (add_entry (entry_of time command s) s) s ready)) (sent-added (entry_of time command s) s)

prev-term : (log : List Entry) (e : Entry) → term_at (log ++ e ∷ []) (length log) ≡ term_at log (length log)
prev-term log e = ap last_term (take-append-le (length log) log (e ∷ []) (omega arith))

-- the message to a peer that lacks only the last entry
message : Entry → Server → Peer → AppendMsg
message e s x =
    let before = x.next - 1 in
    record {
      from = s.node;
      to = x.node;
      term = s.term;
      prev_index = record { 0 = before };
      prev_term = record { 0 = term_at (with_entry e s).log before };
      commit = record { 0 = s.commit };
      entries = batch_from x.next (with_entry e s).log;
    }

message-is : (e : Entry) (s : Server) (x : Peer) → append_to (with_entry e s) x ≡ Append (message e s x)
unfolding change message
message-is e s x = refl

message-good : (e : Entry) (s : Server) (x : Peer) → x.next ≡ last s + 1
    → (is_match (message e s x) s.log ≡ true) × (end (message e s x) ≡ last s + 1)
unfolding message
message-good e s x next = (matches, reaches)
  where
    n : ℕ
    n = length s.log

    before : x.next - 1 ≡ length s.log
    before = omega (arith, next)

    matches : is_match (message e s x) s.log ≡ true
    matches =
        ap (λ (i : ℕ). eqb i 0 || (leb i (length s.log) && eqb (term_at s.log i) (term_at (with_entry e s).log i))) before
        ∙ ap (λ (b : Bool). eqb (length s.log) 0 || (b && eqb (term_at s.log (length s.log)) (term_at (with_entry e s).log (length s.log))))
        (le-leb (length s.log) (length s.log) (omega arith))
        ∙ ap (λ (b : Bool). eqb (length s.log) 0 || b)
        (eq-eqb (term_at s.log (length s.log)) (term_at (with_entry e s).log (length s.log))
        (sym (prev-term s.log e) ∙ ap (λ (l : List Entry). term_at l (length s.log)) (sym (with-log e s))))
        ∙ either (eqb (length s.log) 0)
      where
        either : (b : Bool) → (b || true) ≡ true
        either true = refl
        either false = refl

    reaches : end (message e s x) ≡ last s + 1
    reaches =
        ap (λ (i : ℕ). (x.next - 1) + length (batch_from i (with_entry e s).log)) next
        ∙ ap (λ (l : List Entry). (x.next - 1) + length (batch_from (last s + 1) l)) (with-log e s)
        ∙ ap (λ (l : List Entry). (x.next - 1) + length l) (last-batch s.log e)
        ∙ ap (λ (i : ℕ). i + 1) before

message-brings : (e : Entry) (s : Server) (x : Peer) → x.next ≡ last s + 1
    → ((message e s x).prev_index.0 ≡ length s.log) × ((message e s x).entries ≡ e ∷ [])
unfolding message
message-brings e s x next = (
  omega (arith, next),
  ap (λ (i : ℕ). batch_from i (with_entry e s).log) next
      ∙ ap (λ (l : List Entry). batch_from (last s + 1) l) (with-log e s) ∙ last-batch s.log e,
)

-- ---- the other members

pub other-in : (k : ℕ) (members : List NodeId) (n : ℕ) → In n (map number (others k members)) → n ≢ k
other-in k members n here =
    let m = In-map number n (others k members) here in
    let f = In-filter (λ (q : NodeId). not (nat_eq q.0 k)) m.item members m.here in
    λ same. false≢true (sym (ap not (eq-eqb m.item.0 k (sym m.is ∙ same))) ∙ f.1)

pub others-have : (k j : ℕ) (members : List NodeId) → has_node j members ≡ true → j ≢ k
    → In j (map number (others k members))
others-have k j [] here other = absurd (false≢true here)
others-have k j (n ∷ members) here other =
    cond_both (not (nat_eq n.0 k)) (n ∷ others k members) (others k members)
    (λ (l : List NodeId). In j (map number l))
    (λ _. elim (or_cases (nat_eq n.0 j) (has_node j members) here) [
      | inl own ↦ inl (sym (eqb-true n.0 j own))
      | inr later ↦ inr (others-have k j members later other)
    ])
    (λ is. elim (or_cases (nat_eq n.0 j) (has_node j members) here) [
      | inl own ↦ absurd (false≢true (sym is
          ∙ ap not (ne_eqb n.0 k (λ same. other (sym (eqb-true n.0 j own) ∙ same)))))
      | inr later ↦ others-have k j members later other
    ])

pub others-once : (k : ℕ) (members : List NodeId) → AreDistinct members → AreOnce (map number (others k members))
others-once k [] distinct = tt
others-once k (n ∷ members) distinct =
    cond_both (not (nat_eq n.0 k)) (n ∷ others k members) (others k members)
    (λ (l : List NodeId). AreOnce (map number l))
    (λ _. (
      λ here. (let m = In-map number n.0 (others k members) here in
          distinct.0 m.item (In-filter (λ (q : NodeId). not (nat_eq q.0 k)) m.item members m.here).0 (sym m.is)),
      others-once k members distinct.1,
    ))
    (λ _. others-once k members distinct.1)

pub receivers-are : (e : Entry) (s : Server) (xs : List Peer)
    → receivers (map (append_to (with_entry e s)) xs) ≡ map peer_number xs
receivers-are e s [] = refl
receivers-are e s (x ∷ xs) = ap (λ (l : List ℕ). x.node.0 ∷ l) (receivers-are e s xs)

all-in : {A : Type 0} (P : A → Type 0) (xs : List A) → ((x : A) → In x xs → P x) → AllByRecursion P xs
all-in P [] each = tt
all-in P (x ∷ xs) each = (each x (inl refl), all-in P xs (λ y here. each y (inr here)))

-- what a leader sends of an entry behind the plan's log
pub sent-of : (p : Plan) (e : Entry) (s : Server) → s.node.0 ≡ p.node → s.term.0 ≡ p.term → s.log ≡ p.log
    → p.upto ≡ last s + 1 → ((x : Peer) → In x s.peers → x.node.0 ≢ p.node)
    → ((x : Peer) → In x s.peers → p.asked x.node.0 ≡ true)
    → ((x : Peer) → In x s.peers → p.most x.node.0 ≡ true → x.next ≡ last s + 1)
    → AllByRecursion (IsSent p e) (map (append_to (with_entry e s)) s.peers)
unfolding message
sent-of p e s node term log upto others known next =
    AllByRecursion-map (λ (x : Peer). In x s.peers) (IsSent p e) (append_to (with_entry e s)) s.peers
    (λ x here. record {
      msg = message e s x;
      is = message-is e s x;
      term = term;
      from = node;
      other = others x here;
      known = known x here;
      good = λ counts. (let g = message-good e s x (next x here counts) in
          (ap (is_match (message e s x)) (sym log) ∙ g.0, g.1 ∙ sym upto));
      brings = λ counts. (let b = message-brings e s x (next x here counts) in (b.0 ∙ ap length log, b.1));
    }) (all-in (λ (x : Peer). In x s.peers) s.peers (λ x here. here))

-- ---- a leader that may commit soon

-- Its member's log is the whole of what it handed out. Those that count have its log and are sent the entry after it next,
-- and with it are a majority.
pub record CanCommit (members : List NodeId) (up most : ℕ → Bool) (q : Queue) (k : ℕ) (s : Server) : Type 0 where
  pub sound : IsSound members q
  pub distinct : AreDistinct members
  pub here : (q.group.seat k).server ≡ Some s
  pub ready : is_ready s ≡ true
  pub node_up : up k ≡ true
  pub bag : q.group.bag ≡ []
  pub settled : (j : ℕ) → up j ≡ true → IsSettled j q
  pub latest : (j : ℕ) (t : Server) → (q.group.seat j).server ≡ Some t → t.term.0 ≤ s.term.0
  pub counts_up : (j : ℕ) → most j ≡ true → up j ≡ true
  pub log : (j : ℕ) → most j ≡ true → (t : Server) × ((q.group.seat j).server ≡ Some t) × (t.log ≡ s.log)
  pub next : (j : ℕ) → most j ≡ true → j ≢ k → (x : Peer) → In x s.peers → x.node.0 ≡ j → x.next ≡ last s + 1
  pub majority : is_majority true (λ (x : Peer). most x.node.0) s.peers ≡ true
  pub within : s.commit ≤ last s

abbrev pub plan_of : (ℕ → Bool) → (ℕ → Bool) → ℕ → Server → Plan
plan_of up most k s =
    record {
      node = k;
      term = s.term.0;
      upto = last s + 1;
      log = s.log;
      most = most;
      up = up;
      asked = λ j. true;
    }

-- a member that is up and has nothing to do has noticed all its changes, and nothing waits there
pub all-noticed : AreHanded → (members : List NodeId) (q : Queue) (j : ℕ) (t : Server) → IsSound members q
    → (q.group.seat j).server ≡ Some t → IsSettled j q → (t.noticed ≡ t.op) × (t.waiting ≡ [])
all-noticed handed members q j t sound up settled =
    let count = ops-counted handed members q sound j t up in
    let none = ap length (settled.1 t up) in
    let told = (sound.counted j).server t up in
    let noticed = settled.0.noticed in
    let same : t.noticed ≡ t.op = omega (arith, count, none, told, noticed) in (
      same,
      none-waits t.op t.waiting (subst (λ (n : ℕ). Rises (n + 1) t.op t.waiting) same (sound.fit.each j t up).waiting),
    )

module _ (handed : AreHanded) (members : List NodeId) (up most : ℕ → Bool) (q : Queue) (k : ℕ) (s : Server) (e : Entry)
    (can : CanCommit members up most q k s) where
  abbrev messages : List Rpc
  messages = map (append_to (with_entry e s)) s.peers

  abbrev plan : Plan
  plan = plan_of up most k s

  fits : IsFit members k s
  fits = can.sound.fit.each k s can.here

  peer-other : (x : Peer) → In x s.peers → x.node.0 ≢ k
  peer-other x here =
      other-in k members x.node.0 (subst (λ (l : List ℕ). In x.node.0 l) fits.peers (map-In peer_number x s.peers here))

  pub sent-all : AllByRecursion (IsSent plan e) messages
  sent-all = sent-of plan e s fits.node refl refl refl peer-other (λ x here. refl) (λ x here counts.
      can.next x.node.0 counts (peer-other x here) x here refl)

  to-all : receivers messages ≡ map number (others k members)
  to-all = receivers-are e s s.peers ∙ fits.peers

  pub sent-once : AreOnce (receivers messages)
  sent-once = subst AreOnce (sym to-all) (others-once k members can.distinct)

  -- a member that is up is sent the entry
  gets : (j : ℕ) (t : Server) → j ≢ k → (q.group.seat j).server ≡ Some t → In j (receivers messages)
  gets j t other up_there =
      subst (λ (l : List ℕ). In j l) (sym to-all)
      (others-have k j members (can.sound.fit.each j t up_there).member other)

  pub begins : (j : ℕ) → j ≢ k → Seated (talk plan e) messages [] j (q.group.seat j)
  begins j other = record {
    fresh = λ _. record {
      term = can.latest j;
      waiting = λ t is j_up. (all-noticed handed members q j t can.sound is (can.settled j j_up)).1;
      log = λ t is counts. (let l = can.log j counts in
          ap (λ (x : Server). x.log) (same_some t l.0 (sym is ∙ l.1)) ∙ l.2);
      there = λ counts. (let l = can.log j counts in (l.0, l.1));
    };
    heard = λ gone. record {
      follows = λ t is. absurd (gone (gets j t other is));
      since = λ t is. absurd (gone (gets j t other is));
      alive = λ counts. (let l = can.log j counts in (l.0, l.1));
      waiting = λ t is. absurd (gone (gets j t other is));
      answered = λ counts. (let l = can.log j counts in absurd (gone (gets j l.0 other l.1)));
    };
  }
