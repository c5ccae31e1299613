-- A candidate of the first term hears the others' votes, and leads.
use Rattle.std.proofs.Common.{◌≡◌, ◌≢◌, ◌⊎◌, ℕ, suc, ◌≤◌, ◌+◌, ◌*◌, Bool, true, false, cond, ltb, leb, ◌&&◌, List, [], ◌∷◌, ◌++◌, length, map, count_by, Some, None, refl, sym, ap, ◌∙◌, subst, inl, inr, arith, append-nil, length-append}
use Rattle.std.specs.Prelude.{replicate}
use Rattle.std.specs.List.{AllByRecursion}
use Rattle.std.proofs.lemmas.Bool.{cond-true, cond-false, cond_both, eq-eqb, false≢true, le-ltb, lt-ltb}
use Rattle.std.proofs.lemmas.List.Sums.{sum_by-cons}
use Rattle.qq_entry.specs.declared.command.Entry.{Entry}
use Rattle.qq_log.specs.declared.op.Op.{Op}
use Rattle.qq_raft_protocol.specs.Facts.{In}
use Rattle.qq_raft_protocol.proofs.Lists.{In-map}
use Rattle.qq_raft_msg.specs.Rpc.{envelope}
use Rattle.qq_raft_msg.specs.declared.rpc.Rpc.{Rpc}
use Rattle.qq_raft_msg.specs.declared.rpc.Rpc.TheVariants.{Voted}
use Rattle.qq_raft_msg.specs.declared.rpc.VotedMsg.{VotedMsg}
use Rattle.qq_raft_msg.specs.declared.state.Role.{Role}
use Rattle.qq_raft_msg.specs.declared.state.Role.TheVariants.{Candidate, Leader}
use Rattle.qq_raft_model.specs.declared.peer.Peer.{Peer}
use Rattle.qq_raft_model.specs.Group.{Seat}
use Rattle.qq_raft_model.specs.Handing.{peer_number}
use Rattle.qq_raft_model.specs.Leading.{add_entry, advance, append_to, is_elected, is_majority, lead, lead_if_elected, noop, start_peer}
use Rattle.qq_cluster_progress_laws.proofs.Member.{noticed-all, takes-all}
use Rattle.qq_cluster_progress_laws.proofs.Waiting.{WaitsLater}
use Rattle.qq_raft_model.specs.Server.{Input, accept, notice, at_peer, count_vote, grant_peer, is_peer, receive, receive_voted, refuse}
use Rattle.qq_raft_model.specs.State.{Server, change, enter, follow, is_candidate, last}
use Rattle.qq_cluster_model.specs.Queue.{Queue, Delivers, after, happens}
use Rattle.qq_cluster_progress_laws.proofs.Exchange.{Replied, delivers}
use Rattle.qq_cluster_progress_laws.proofs.Feeding.{Feeds, FeedsOne, feeds-one}
use Rattle.qq_cluster_progress_laws.proofs.Leader.{majority-le}
use Rattle.qq_cluster_progress_laws.proofs.Sending.{Added, AllNext, IsNext, sent-added, with_entry}
use Rattle.qq_cluster_progress_laws.proofs.Voting.{Ballot, IsVote}

-- ---- a candidate

-- of the first term, whose vote for itself is durable
pub record IsStanding (s : Server) : Type 0 where
  pub role : s.role ≡ Candidate
  pub term : s.term.0 ≡ 1
  pub op : s.op ≡ 1
  pub noticed : s.noticed ≡ 1
  pub log : s.log ≡ []
  pub commit : s.commit ≡ 0
  pub waiting : s.waiting ≡ []
  pub ops : s.ops ≡ []
  pub out : s.out ≡ []

-- what it is as a leader, before it adds its first entry
abbrev pub based : Server → Server
based s = record s { role = Leader; leader = Some s.node; peers = map (start_peer (last s + 1)) s.peers }

-- that entry
abbrev pub first_entry : Server → Entry
first_entry s = noop s.term

abbrev pub first_messages : Server → List Rpc
first_messages s = map (append_to (with_entry (first_entry s) (based s))) (based s).peers

-- it leads, and has sent its first entry
pub record IsLed (base u : Server) : Type 0 where
  pub role : u.role ≡ Leader
  pub term : u.term.0 ≡ 1
  pub log : u.log ≡ first_entry base ∷ []
  pub op : Op
  pub ops : u.ops ≡ op ∷ []
  pub op_is : u.op ≡ 2
  pub noticed : u.noticed ≡ 1
  pub commit : u.commit ≤ 1
  pub waiting : u.waiting ≡ []
  pub next : AllNext u

pub leads : (s : Server) → IsStanding s → IsLed s (lead s) × ((lead s).out ≡ first_messages s)
unfolding lead add_entry
leads s is =
    let a : Added (first_entry s) (based s) (lead s) = sent-added (first_entry s) (based s) in (
      record {
        role = a.role;
        term = ap (λ x. x.0) a.term ∙ is.term;
        log = a.log ∙ ap (λ (l : List Entry). l ++ first_entry s ∷ []) is.log;
        op = a.ops.0;
        ops = a.ops.1 ∙ ap (λ (l : List Op). l ++ a.ops.0 ∷ []) is.ops;
        op_is = a.op ∙ ap (λ (n : ℕ). n + 1) is.op;
        noticed = a.noticed ∙ is.noticed;
        commit = (let c = a.commit ∙ is.commit in omega (arith, c));
        waiting = a.waiting ∙ is.waiting;
        next = λ x here. (let more = a.next (λ y there. (let w = In-map (start_peer (last s + 1)) y s.peers there in
            let none : y.matched ≡ 0 = ap (λ (z : Peer). z.matched) w.is in
            (ap (λ (z : Peer). z.next) w.is, omega (arith, none)))) x here in
            let long : last (lead s) ≡ last s + 1 =
            ap length a.log ∙ length-append s.log (first_entry s ∷ []) in
            subst (λ (n : ℕ). IsNext n x) (sym long) more);
      },
      a.out ∙ ap (λ (l : List Rpc). l ++ first_messages s) is.out,
    )

elected-is : (s : Server) → lead_if_elected s ≡ cond (is_elected s) (lead s) s
unfolding lead_if_elected
elected-is s = refl

-- a candidate that its own vote elects
pub elected-notice : (s : Server) → is_elected (noticed-all s) ≡ true → s.noticed ≤ s.op → WaitsLater s
    → notice s.op s ≡ advance (lead (noticed-all s))
unfolding notice
elected-notice s won le later =
    ap advance (ap lead_if_elected (takes-all s le later) ∙ elected-is (noticed-all s)
    ∙ cond-true (is_elected (noticed-all s)) (lead (noticed-all s)) (noticed-all s) won)

-- ---- a vote comes

abbrev pub HasGranted : ℕ → List Peer → Type 0
HasGranted j peers = (x : Peer) → In x peers → x.node.0 ≡ j → x.granted ≡ true

abbrev granting : VotedMsg → Peer → Peer
granting m x = cond (is_peer m.from x) (grant_peer x) x

granted-still : (m : VotedMsg) (j : ℕ) (peers : List Peer) → HasGranted j peers → HasGranted j (map (granting m) peers)
granted-still m j peers has x here is =
    let w = In-map (granting m) x peers here in
    subst (λ (y : Peer). y.granted ≡ true) (sym w.is)
    (cond_both (is_peer m.from w.item) (grant_peer w.item) w.item (λ (y : Peer). y.granted ≡ true) (λ _. refl)
    (λ _. has w.item w.here (node w.item ∙ ap (λ (y : Peer). y.node.0) (sym w.is) ∙ is)))
  where
    node : (y : Peer) → y.node.0 ≡ (granting m y).node.0
    node y = cond_both (is_peer m.from y) (grant_peer y) y (λ (z : Peer). y.node.0 ≡ z.node.0) (λ _. refl) (λ _. refl)

granted-now : (m : VotedMsg) (peers : List Peer) → HasGranted m.from.0 (map (granting m) peers)
granted-now m peers x here is =
    let w = In-map (granting m) x peers here in
    let own : w.item.node.0 ≡ m.from.0 = node w.item ∙ ap (λ (y : Peer). y.node.0) (sym w.is) ∙ is in
    ap (λ (y : Peer). y.granted) w.is
    ∙ ap (λ (y : Peer). y.granted)
    (cond-true (is_peer m.from w.item) (grant_peer w.item) w.item (eq-eqb w.item.node.0 m.from.0 own))
  where
    node : (y : Peer) → y.node.0 ≡ (granting m y).node.0
    node y = cond_both (is_peer m.from y) (grant_peer y) y (λ (z : Peer). y.node.0 ≡ z.node.0) (λ _. refl) (λ _. refl)

-- an answer of its own term
hears-vote : (m : VotedMsg) (s : Server) → m.term.0 ≡ s.term.0 → receive (Voted m) s ≡ count_vote m s
unfolding receive accept refuse receive_voted enter
hears-vote m s term =
    cond-false (ltb m.term.0 s.term.0) s
    (count_vote m (cond (ltb s.term.0 m.term.0) (follow None (change m.term None (last s) [] s)) s))
    (le-ltb m.term.0 s.term.0 (omega (arith, term)))
    ∙ ap (count_vote m) (cond-false (ltb s.term.0 m.term.0) (follow None (change m.term None (last s) [] s)) s
    (le-ltb s.term.0 m.term.0 (omega (arith, term))))

candidate-hears : (m : VotedMsg) (s : Server) → IsStanding s → m.term.0 ≡ 1 → m.granted ≡ true
    → receive (Voted m) s ≡ lead_if_elected (at_peer m.from grant_peer s)
candidate-hears m s is term granted =
    hears-vote m s (term ∙ sym is.term)
    ∙ cond-true (is_candidate s.role && m.granted) (lead_if_elected (at_peer m.from grant_peer s)) s
    (ap (λ (r : Role). is_candidate r && m.granted) is.role ∙ granted)

leader-hears : (m : VotedMsg) (base s : Server) → IsLed base s → m.term.0 ≡ 1 → receive (Voted m) s ≡ s
leader-hears m base s is term =
    hears-vote m s (term ∙ sym is.term)
    ∙ cond-false (is_candidate s.role && m.granted) (lead_if_elected (at_peer m.from grant_peer s)) s
    (ap (λ (r : Role). is_candidate r && m.granted) is.role)

standing-at : (m : VotedMsg) (s : Server) → IsStanding s → IsStanding (at_peer m.from grant_peer s)
standing-at m s is = record {
  role = is.role;
  term = is.term;
  op = is.op;
  noticed = is.noticed;
  log = is.log;
  commit = is.commit;
  waiting = is.waiting;
  ops = is.ops;
  out = is.out;
}

standing-out : (s : Server) (out : List Rpc) → IsStanding s → out ≡ [] → IsStanding (record s { out = out })
standing-out s out is none = record {
  role = is.role;
  term = is.term;
  op = is.op;
  noticed = is.noticed;
  log = is.log;
  commit = is.commit;
  waiting = is.waiting;
  ops = is.ops;
  out = none;
}

pub led-out : (base s : Server) (out : List Rpc) → IsLed base s → IsLed base (record s { out = out })
led-out base s out is = record {
  role = is.role;
  term = is.term;
  log = is.log;
  op = is.op;
  ops = is.ops;
  op_is = is.op_is;
  noticed = is.noticed;
  commit = is.commit;
  waiting = is.waiting;
  next = is.next;
}

-- ---- a majority of all

count-all : {A : Type 0} (xs : List A) → count_by (λ (x : A). true) xs ≡ length xs
count-all [] = refl
count-all {A = A} (x ∷ xs) = sum_by-cons (λ (y : A). 1) x xs ∙ next (count_by (λ (y : A). true) xs) (length xs) (count-all xs)
  where
    next : (a b : ℕ) → a ≡ b → 1 + a ≡ suc b
    next a b is = omega (arith, is)

pub all-majority : (passes : Peer → Bool) (peers : List Peer) → ((x : Peer) → In x peers → passes x ≡ true)
    → is_majority true passes peers ≡ true
all-majority passes peers each =
    majority-le (λ (x : Peer). true) passes peers (λ x here _. each x here)
    (lt-ltb (length peers + 1) (2 * (1 + count_by (λ (x : Peer). true) peers))
    (let c = count-all peers in omega (arith, c)))

-- ---- all votes come

-- who leads was a candidate that stood, with the same peers
pub record HasLed (k : ℕ) (numbers : List ℕ) (q : Queue) (rest : List Rpc) : Type 0 where
  pub base : Server
  pub server : Server
  pub standing : IsStanding base
  pub node : base.node.0 ≡ k
  pub peers : map peer_number base.peers ≡ numbers
  pub is : IsLed base server
  pub silent : server.out ≡ []
  pub here : (q.group.seat k).server ≡ Some server
  pub bag : q.group.bag ≡ rest ++ first_messages base

-- it waits for votes
pub record IsPolling (b : Ballot) (numbers : List ℕ) (q : Queue) (rs : List Rpc) : Type 0 where
  pub server : Server
  pub standing : IsStanding server
  pub node : server.node.0 ≡ b.node
  pub peers : map peer_number server.peers ≡ numbers
  pub here : (q.group.seat b.node).server ≡ Some server
  pub bag : q.group.bag ≡ rs
  pub beaten : is_elected server ≡ false
  pub polled : (j : ℕ) → b.most j ≡ true → Replied j rs ⊎ HasGranted j server.peers

-- what votes leave of the rest
pub record Polls (k : ℕ) (q r : Queue) : Type 0 where
  pub others : (i : ℕ) → i ≢ k → r.group.seat i ≡ q.group.seat i
  pub synced : r.synced ≡ q.synced
  pub ops : (r.group.seat k).ops ≡ (q.group.seat k).ops

polls-refl : (k : ℕ) (q : Queue) → Polls k q q
polls-refl k q = record { others = λ i other. refl; synced = refl; ops = refl }

polls-then : (k : ℕ) (q r s : Queue) → Polls k q r → Polls k r s → Polls k q s
polls-then k q r s a b = record {
  others = λ i other. b.others i other ∙ a.others i other;
  synced = b.synced ∙ a.synced;
  ops = b.ops ∙ a.ops;
}

numbers-at : (m : VotedMsg) (peers : List Peer) → map peer_number (map (granting m) peers) ≡ map peer_number peers
numbers-at m [] = refl
numbers-at m (x ∷ peers) =
    ap (λ (n : ℕ). n ∷ map peer_number (map (granting m) peers))
    (cond_both (is_peer m.from x) (grant_peer x) x (λ (y : Peer). y.node.0 ≡ x.node.0) (λ _. refl) (λ _. refl))
    ∙ ap (λ (l : List ℕ). x.node.0 ∷ l) (numbers-at m peers)

module _ (b : Ballot) (numbers : List ℕ) where
  fed-vote : (q : Queue) (s : Server) (m : VotedMsg) (rest : List Rpc) → (q.group.seat b.node).server ≡ Some s
      → q.group.bag ≡ Voted m ∷ rest → m.to.0 ≡ b.node
      → FeedsOne q (happens q (Delivers 0)) b.node s (receive (Voted m) s) rest
  fed-vote q s m rest up bag to =
      feeds-one q (Delivers 0) b.node (Input.Receive (Voted m)) rest s
      (subst (λ (n : ℕ). Feeds q (Delivers 0) n (Input.Receive (Voted m)) rest) to (delivers q (Voted m) rest bag)) up

  polls-one : (q r : Queue) (s u : Server) (rest : List Rpc) → FeedsOne q r b.node s u rest → Polls b.node q r
  polls-one q r s u rest f =
      record { others = f.others; synced = f.synced; ops = ap (λ (x : Seat). x.ops) f.seat }

  -- a vote to one that leads already
  led-hears : (q : Queue) (m : VotedMsg) (rest : List Rpc) → HasLed b.node numbers q (Voted m ∷ rest)
      → m.term.0 ≡ 1 → m.to.0 ≡ b.node
      → Polls b.node q (happens q (Delivers 0)) × HasLed b.node numbers (happens q (Delivers 0)) rest
  led-hears q m rest led term to =
      let s = led.server in
      let f = fed-vote q s m (rest ++ first_messages led.base) led.here led.bag to in
      let same = leader-hears m led.base s led.is term in (
        polls-one q (happens q (Delivers 0)) s (receive (Voted m) s) (rest ++ first_messages led.base) f,
        record {
          base = led.base;
          server = record (receive (Voted m) s) { out = [] };
          standing = led.standing;
          node = led.node;
          peers = led.peers;
          is = subst (λ (u : Server). IsLed led.base (record u { out = [] })) (sym same) (led-out led.base s [] led.is);
          here = ap (λ (x : Seat). x.server) f.seat;
          silent = refl;
          bag = f.bag ∙ ap (λ (u : Server). (rest ++ first_messages led.base) ++ u.out) same
              ∙ ap (λ (l : List Rpc). (rest ++ first_messages led.base) ++ l) led.silent
              ∙ append-nil (rest ++ first_messages led.base);
        },
      )

  -- a vote to one that waits for votes
  polling-hears : (q : Queue) (r : Rpc) (rest : List Rpc) (p : IsPolling b numbers q (r ∷ rest)) → IsVote b r
      → Polls b.node q (happens q (Delivers 0))
      × (IsPolling b numbers (happens q (Delivers 0)) rest ⊎ HasLed b.node numbers (happens q (Delivers 0)) rest)
  polling-hears q r rest p vote = (polls-one q next s u rest f, by (is_elected s2) refl)
    where
      m : VotedMsg
      m = vote.msg

      s : Server
      s = p.server

      next : Queue
      next = happens q (Delivers 0)

      u : Server
      u = receive (Voted m) s

      f : FeedsOne q next b.node s u rest
      f = fed-vote q s m rest p.here (p.bag ∙ ap (λ (x : Rpc). x ∷ rest) vote.is) vote.to

      s2 : Server
      s2 = at_peer m.from grant_peer s

      is_u : u ≡ cond (is_elected s2) (lead s2) s2
      is_u = candidate-hears m s p.standing vote.term vote.granted ∙ elected-is s2

      stands : IsStanding s2
      stands = standing-at m s p.standing

      numbers2 : map peer_number s2.peers ≡ numbers
      numbers2 = numbers-at m s.peers ∙ p.peers

      by : (e : Bool) → is_elected s2 ≡ e → IsPolling b numbers next rest ⊎ HasLed b.node numbers next rest
      by true won =
          let is : u ≡ lead s2 = is_u ∙ cond-true (is_elected s2) (lead s2) s2 won in
          let l = leads s2 stands in
          inr (record {
            base = s2;
            server = record u { out = [] };
            standing = stands;
            node = p.node;
            peers = numbers2;
            is = subst (λ (x : Server). IsLed s2 (record x { out = [] })) (sym is) (led-out s2 (lead s2) [] l.0);
            silent = refl;
            here = ap (λ (x : Seat). x.server) f.seat;
            bag = f.bag ∙ ap (λ (x : Server). rest ++ x.out) is ∙ ap (λ (x : List Rpc). rest ++ x) l.1;
          })
      by false lost =
          let is : u ≡ s2 = is_u ∙ cond-false (is_elected s2) (lead s2) s2 lost in
          inl (record {
            server = record u { out = [] };
            standing = subst (λ (x : Server). IsStanding (record x { out = [] })) (sym is) (standing-out s2 [] stands refl);
            node = ap (λ (x : Server). x.node.0) is ∙ p.node;
            peers = ap (λ (x : Server). map peer_number x.peers) is ∙ numbers2;
            here = ap (λ (x : Seat). x.server) f.seat;
            bag = f.bag ∙ ap (λ (x : Server). rest ++ x.out) is
                ∙ ap (λ (l : List Rpc). rest ++ l) p.standing.out ∙ append-nil rest;
            beaten = ap (λ (x : Server). is_elected (record x { out = [] })) is ∙ lost;
            polled = λ j counts. subst (λ (x : Server). Replied j rest ⊎ HasGranted j x.peers) (sym is)
                (elim (p.polled j counts) [
                  | inl replied ↦ elim replied.here [
                    | inl same ↦ inr (subst (λ (n : ℕ). HasGranted n s2.peers)
                        (ap (λ (x : Rpc). (envelope x).from.0) (sym vote.is ∙ sym same) ∙ replied.from)
                        (granted-now m s.peers))
                    | inr later ↦ inl (record { msg = replied.msg; here = later; from = replied.from })
                  ]
                  | inr has ↦ inr (granted-still m j s.peers has)
                ]);
          })

  -- all that are there: then it leads
  all-voted : (rs : List Rpc) (q : Queue) → AllByRecursion (IsVote b) rs → HasLed b.node numbers q rs
      → Polls b.node q (after q (replicate (length rs) (Delivers 0)))
      × HasLed b.node numbers (after q (replicate (length rs) (Delivers 0))) []
  all-voted [] q votes led = (polls-refl b.node q, led)
  all-voted (r ∷ rs) q votes led =
      let vote : IsVote b r = votes.0 in
      let next : Queue = happens q (Delivers 0) in
      let one =
      led-hears q vote.msg rs
      (record {
        base = led.base;
        server = led.server;
        standing = led.standing;
        node = led.node;
        peers = led.peers;
        is = led.is;
        silent = led.silent;
        here = led.here;
        bag = led.bag ∙ ap (λ (x : Rpc). x ∷ rs ++ first_messages led.base) vote.is;
      }) vote.term vote.to in
      let more = all-voted rs next votes.1 one.1 in
      (polls-then b.node q next (after next (replicate (length rs) (Delivers 0))) one.0 more.0, more.1)

  pub all-polled : (rs : List Rpc) (q : Queue) → AllByRecursion (IsVote b) rs → IsPolling b numbers q rs
      → ((s : Server) → map peer_number s.peers ≡ numbers → (x : Peer) → In x s.peers → b.most x.node.0 ≡ true)
      → Polls b.node q (after q (replicate (length rs) (Delivers 0)))
      × HasLed b.node numbers (after q (replicate (length rs) (Delivers 0))) []
  all-polled [] q votes p all =
      absurd (false≢true (sym p.beaten ∙ elected))
    where
      granted : (x : Peer) → In x p.server.peers → x.granted ≡ true
      granted x here = elim (p.polled x.node.0 (all p.server p.peers x here)) [
        | inl replied ↦ absurd replied.here
        | inr has ↦ has x here refl
      ]

      elected : is_elected p.server ≡ true
      elected =
          ap (λ (r : Role). is_candidate r && is_majority (leb p.server.op p.server.noticed) (λ (x : Peer). x.granted) p.server.peers)
          p.standing.role
          ∙ ap (λ (n : ℕ). is_majority (leb n p.server.noticed) (λ (x : Peer). x.granted) p.server.peers) p.standing.op
          ∙ ap (λ (n : ℕ). is_majority (leb 1 n) (λ (x : Peer). x.granted) p.server.peers) p.standing.noticed
          ∙ all-majority (λ (x : Peer). x.granted) p.server.peers granted
  all-polled (r ∷ rs) q votes p all = by one.1 (λ x. all-polled rs next votes.1 x all) (λ x. all-voted rs next votes.1 x)
    where
      next : Queue
      next = happens q (Delivers 0)

      one : Polls b.node q next × (IsPolling b numbers next rs ⊎ HasLed b.node numbers next rs)
      one = polling-hears q r rs p votes.0

      by : (IsPolling b numbers next rs ⊎ HasLed b.node numbers next rs)
          → (IsPolling b numbers next rs → Polls b.node next (after next (replicate (length rs) (Delivers 0)))
          × HasLed b.node numbers (after next (replicate (length rs) (Delivers 0))) [])
          → (HasLed b.node numbers next rs → Polls b.node next (after next (replicate (length rs) (Delivers 0)))
          × HasLed b.node numbers (after next (replicate (length rs) (Delivers 0))) [])
          → Polls b.node q (after next (replicate (length rs) (Delivers 0)))
          × HasLed b.node numbers (after next (replicate (length rs) (Delivers 0))) []
      by (inl polling) go went = (let m = go polling in
          (polls-then b.node q next (after next (replicate (length rs) (Delivers 0))) one.0 m.0, m.1))
      by (inr led) go went = (let m = went led in
          (polls-then b.node q next (after next (replicate (length rs) (Delivers 0))) one.0 m.0, m.1))
