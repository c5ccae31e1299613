-- Two rounds commit an entry.
use Rattle.std.proofs.Common.{◌≡◌, ◌≢◌, ℕ, ◌≤◌, ◌+◌, Bool, true, List, [], ◌∷◌, ◌++◌, length, Some, refl, sym, ap, ◌∙◌, subst, inl, inr, arith, append-nil, length-append}
use Rattle.std.specs.List.{AllByRecursion}
use Rattle.std.specs.Prelude.{replicate, take}
use Rattle.std.proofs.lemmas.Bool.{cases_eq}
use Rattle.std.proofs.lemmas.List.{take_all}
use Rattle.qq_base.specs.declared.ids.NodeId.{NodeId}
use Rattle.qq_entry.specs.declared.command.Entry.{Entry}
use Rattle.qq_entry.specs.declared.queue.QueueArgs.{QueueArgs}
use Rattle.qq_log.specs.declared.op.Op.{Op}
use Rattle.qq_raft_protocol.specs.Facts.{In}
use Rattle.qq_raft_protocol.specs.Moves.{last_term}
use Rattle.qq_raft_protocol.proofs.Lists.{map-In}
use Rattle.qq_raft_protocol.proofs.Logs.{last_term-add}
use Rattle.qq_raft_model.specs.Handing.{peer_number}
use Rattle.qq_raft_msg.specs.declared.rpc.Rpc.{Rpc}
use Rattle.qq_raft_msg.specs.declared.state.Role.TheVariants.{Follower, Leader}
use Rattle.qq_raft_model.specs.declared.peer.Peer.{Peer}
use Rattle.qq_raft_model.specs.Group.{Seat, has_node}
use Rattle.qq_raft_model.specs.Leading.{is_majority}
use Rattle.qq_raft_model.specs.Server.{is_ready, notice}
use Rattle.qq_raft_model.specs.State.{Server, last, term_at}
use Rattle.qq_cluster_model.specs.Queue.{Queue, Delivers, after, all_said, own_rows}
use Rattle.qq_cluster_model.proofs.Groups.{after-append}
use Rattle.qq_session.specs.Clients.{Clients, printed}
use Rattle.qq_session.specs.declared.shown.Shown.{Shown}
use Rattle.qq_session.specs.declared.shown.Shown.TheVariants.{Answered}
use Rattle.qq_cluster_progress_laws.specs.Alone.{round_alone, turns}
use Rattle.qq_cluster_progress_laws.proofs.Answering.{HaveAnswered, IsAnswering, all-answered, none-pends, still-busy}
use Rattle.qq_cluster_progress_laws.proofs.Calm.{all-calm}
use Rattle.qq_cluster_progress_laws.proofs.Delivering.{IsSent, Plan, entries-go, talk}
use Rattle.qq_cluster_progress_laws.proofs.Exchange.{HasHeard, IsDelivering, Leaves, Replied, Seated, all-delivered, receivers, same_some}
use Rattle.qq_cluster_progress_laws.specs.Soon.{AreOnce}
use Rattle.qq_cluster_progress_laws.proofs.Hearing.{HasHeardAll, IsGiven, LeaderIs, Shows, all-heard, leader-tells, leads-ready, shows-nothing, shows-then, shows-told, waits-out}
use Rattle.qq_cluster_progress_laws.proofs.Leader.{HasOwnCommit, Notices, Waits, notice-waits}
use Rattle.qq_cluster_progress_laws.proofs.Printing.{Tells as ToldOf, row_after}
use Rattle.qq_cluster_progress_laws.proofs.Rounds.{IsSettled, OneTells, one-tells}
use Rattle.qq_cluster_progress_laws.proofs.Following.{said-append}
use Rattle.qq_cluster_progress_laws.proofs.Sending.{AllNext, IsNext, other-in}
use Rattle.qq_cluster_progress_laws.proofs.Sound.{AreHanded, IsSound, ops-counted, sound-all}
use Rattle.qq_cluster_progress_laws.proofs.Turns.{HasNone, IsEven}

-- ---- one round, and another

-- A leader sends an entry that it has just added. Its log before it is the plan's, the entry is its only change that its
-- log wasn't given, and the messages to all others are all that is on its way.
pub record IsSending (members : List NodeId) (p : Plan) (e : Entry) (q : Queue) (s : Server) (messages : List Rpc)
    : Type 0 where
  pub sound : IsSound members q
  pub node_up : p.up p.node ≡ true
  pub here : (q.group.seat p.node).server ≡ Some s
  pub leads : s.role ≡ Leader
  pub log : s.log ≡ p.log ++ e ∷ []
  pub term : s.term.0 ≡ p.term
  pub own : e.term.0 ≡ p.term
  pub upto : p.upto ≡ length p.log + 1
  pub op : Op
  pub ops : s.ops ≡ op ∷ []
  pub within : s.commit ≤ p.upto
  pub noticed : s.noticed ≤ s.op
  pub waiting : s.waiting ≡ []
  pub majority : is_majority true (λ (x : Peer). p.most x.node.0) s.peers ≡ true
  pub even : IsEven p.node q
  pub settled : (j : ℕ) → j ≢ p.node → p.up j ≡ true → IsSettled j q
  pub counts_up : (j : ℕ) → p.most j ≡ true → p.up j ≡ true
  pub bag : q.group.bag ≡ messages
  pub sent : AllByRecursion (IsSent p e) messages
  pub once : AreOnce (receivers messages)
  pub begins : (j : ℕ) → j ≢ p.node → Seated (talk p e) messages [] j (q.group.seat j)

-- the leader has the entry, and where it is committed by then that is shown, if it took commands before
pub record Reaches (p : Plan) (e : Entry) (s : Server) (q r : Queue) (shown : List Shown) : Type 0 where
  pub server : Server
  pub is : LeaderIs p e r server
  pub args : r.args ≡ q.args
  pub rises : s.commit ≤ server.commit
  pub shows : (session seq : ℕ) → IsGiven p e session seq → HasOwnCommit s
      → Shows p.upto s.commit server.commit session seq (row_after q.args p.log e) q.clients r.clients shown

-- and where nothing is left to do, it is committed
pub record HasRun (p : Plan) (e : Entry) (s : Server) (q r : Queue) (shown : List Shown) : Type 0 where
  pub reaches : Reaches p e s q r shown
  pub enough : r.group.bag ≡ [] → ((j : ℕ) → p.up j ≡ true → IsSettled j r) → p.upto ≤ reaches.server.commit

-- it is committed in any case
pub record HasCommitted (p : Plan) (e : Entry) (s : Server) (q r : Queue) (shown : List Shown) : Type 0 where
  pub reaches : Reaches p e s q r shown
  pub committed : p.upto ≤ reaches.server.commit

-- Nothing is left to do, one member leads and takes commands, and the others follow, have its log and are known to.
pub record IsLedQuietly (members : List NodeId) (up : ℕ → Bool) (k : ℕ) (q : Queue) : Type 0 where
  pub bag : q.group.bag ≡ []
  pub settled : (j : ℕ) → up j ≡ true → IsSettled j q
  pub server : Server
  pub here : (q.group.seat k).server ≡ Some server
  pub ready : is_ready server ≡ true
  pub others : (j : ℕ) → j ≢ k → (t : Server) → (q.group.seat j).server ≡ Some t → t.role ≡ Follower
  pub terms : (j : ℕ) → j ≢ k → (t : Server) → (q.group.seat j).server ≡ Some t → t.term.0 ≡ server.term.0
  pub logs : (j : ℕ) → j ≢ k → has_node j members ≡ true
      → (t : Server) × ((q.group.seat j).server ≡ Some t) × (t.log ≡ server.log)
  pub next : AllNext server

-- what is committed up to the last entry, which is of the leader's term
ready-at : (i : ℕ) (most : ℕ → Bool) (s : Server) → Waits i most s → i ≤ s.commit → is_ready s ≡ true
ready-at i most s waits reaches =
    let within = waits.may.within in
    let same : s.commit ≡ i = omega (arith, within, reaches) in
    leads-ready i most s waits (ap (λ (n : ℕ). term_at s.log n) same ∙ waits.may.own)

module _ (handed : AreHanded) (members : List NodeId) (nodes : List ℕ) (plan : Plan) (e : Entry) (one : Queue)
    (first : Server) (messages : List Rpc) (sends : IsSending members plan e one first messages)
    (among : (j : ℕ) → plan.up j ≡ true → In j nodes) where
  abbrev k : ℕ
  k = plan.node

  abbrev up : ℕ → Bool
  up = plan.up

  -- it isn't settled before
  pub first-busy : IsSettled k one → ⊥
  first-busy settled =
      let none = ap length (sym (settled.1 first sends.here) ∙ sends.ops) in
      absurd (omega (arith, none))

  abbrev pub bare : Server
  bare = record first { ops = [] }

  abbrev pub told : Server
  told = notice first.op bare

  long : last bare ≡ plan.upto
  long = ap length sends.log ∙ length-append plan.log (e ∷ []) ∙ sym sends.upto

  own : term_at bare.log plan.upto ≡ bare.term.0
  own =
      ap (λ (n : ℕ). term_at bare.log n) sends.upto
      ∙ ap (λ (l : List Entry). last_term (take (length plan.log + 1) l)) sends.log
      ∙ ap last_term (take_all (length plan.log + 1) (plan.log ++ e ∷ [])
      (let n = length-append plan.log (e ∷ []) in omega (arith, n)))
      ∙ last_term-add plan.log e ∙ sends.own ∙ sym sends.term

  pub noticed : Waits plan.upto plan.most told × Notices plan.upto bare told
  noticed =
      notice-waits plan.upto plan.most bare sends.leads long own
      sends.within sends.majority sends.noticed sends.waiting

  -- the nodes' turns
  abbrev pub two : Queue
  two = after one (turns up nodes one)

  turn : OneTells up nodes one k first
  turn =
      one-tells handed members up k first sends.op [] sends.ops sends.node_up nodes one sends.sound sends.here sends.even
      (λ j there other j_up. sends.settled j other j_up) (among k sends.node_up) (inl noticed.1.ops)

  empty : told.out ≡ []
  empty = noticed.1.out ∙ ap (λ (l : List Rpc). l ++ []) (sends.sound.fit.each k first sends.here).out

  pub sent : two.group.bag ≡ messages
  sent =
      turn.tells.bag ∙ ap (λ (l : List Rpc). one.group.bag ++ l) empty ∙ append-nil one.group.bag ∙ sends.bag

  pub starts : IsDelivering (talk plan e) two messages []
  starts = record {
    bag = sent ∙ sym (append-nil messages);
    sent = sends.sent;
    once = sends.once;
    replies = tt;
    seats = λ j other.
        subst (Seated (talk plan e) messages [] j) (sym (turn.tells.others j other)) (sends.begins j other);
  }

  pub sound-two : IsSound members two
  sound-two = sound-all members one (turns up nodes one) sends.sound

  abbrev pub three : Queue
  three = after two (replicate (length messages) (Delivers 0))

  pub came : Leaves (talk plan e) two three × ((more : List Rpc) × IsDelivering (talk plan e) three [] more)
  came = all-delivered members (talk plan e) (entries-go plan e) messages [] two sound-two starts

  leader-two : (two.group.seat k).server ≡ Some (record told { out = [] })
  leader-two = ap (λ (x : Seat). x.server) turn.tells.seat

  pub leader-three : (three.group.seat k).server ≡ Some (record told { out = [] })
  leader-three = ap (λ (x : Seat). x.server) came.0.leader ∙ leader-two

  even-two : (j : ℕ) → up j ≡ true → IsEven j two
  even-two j j_up = elim (cases_eq j k) [
    | inl same ↦ subst (λ (n : ℕ). IsEven n two) (sym same) turn.tells.even
    | inr other ↦ record {
      synced = turn.tells.synced j other ∙ (sends.settled j other j_up).0.synced
          ∙ ap (λ (x : Seat). length x.ops) (sym (turn.tells.others j other));
      noticed = ap (λ (x : Seat). x.noticed) (turn.tells.others j other) ∙ (sends.settled j other j_up).0.noticed
          ∙ ap (λ (x : Seat). length x.ops) (sym (turn.tells.others j other));
    }
  ]

  pub answering : IsAnswering (talk plan e) three came.1.0
  answering = record {
    bag = came.1.1.bag;
    replies = came.1.1.replies;
    heard = λ j other. (came.1.1.seats j other).heard (λ gone. gone);
    even = λ j j_up. (let a = even-two j j_up in record {
      synced = ap (λ (f : ℕ → ℕ). f j) came.0.synced ∙ a.synced ∙ ap length (sym (came.0.ops j));
      noticed = came.0.noticed j ∙ a.noticed ∙ ap length (sym (came.0.ops j));
    });
    leader = λ t is. ap (λ (x : Server). x.ops) (sym (same_some (record told { out = [] }) t (sym leader-three ∙ is)))
        ∙ noticed.1.ops;
  }

  -- ---- after the first round

  abbrev pub server : Server
  server = record told { out = [] }

  pub leader-is : (r : Queue) → (r.group.seat k).server ≡ Some server → LeaderIs plan e r server
  leader-is r is = record {
    up = is;
    waits = waits-out plan.upto plan.most told [] noticed.0;
    log = noticed.1.log ∙ sends.log;
    term = ap (λ x. x.0) noticed.1.term ∙ sends.term;
  }

  pub after-first : after one (round_alone up nodes one) ≡ three
  after-first =
      after-append one (turns up nodes one) (replicate (length two.group.bag) (Delivers 0))
      ∙ ap (λ (l : List Rpc). after two (replicate (length l) (Delivers 0))) sent

  pub said-first : all_said one (round_alone up nodes one)
      ≡ all_said one (turns up nodes one) ++ all_said two (replicate (length messages) (Delivers 0))
  said-first =
      said-append one (turns up nodes one) (replicate (length two.group.bag) (Delivers 0))
      ∙ ap (λ (l : List Rpc). all_said one (turns up nodes one) ++ all_said two (replicate (length l) (Delivers 0))) sent

  shows-turns : (session seq : ℕ) → IsGiven plan e session seq → HasOwnCommit first
      → Shows plan.upto first.commit server.commit session seq (row_after one.args plan.log e) one.clients two.clients
      (all_said one (turns up nodes one))
  shows-turns session seq given old =
      shows-told plan.upto first.commit server.commit session seq (row_after one.args plan.log e) one.clients two.clients
      (printed (own_rows one.args bare server) one.clients) (all_said one (turns up nodes one))
      (subst (λ (c : Clients). ToldOf plan.upto first.commit server.commit session seq (row_after one.args plan.log e)
      one.clients c (printed (own_rows one.args bare server) one.clients)) (sym turn.tells.clients)
      (leader-tells plan e session seq one.args bare server one.clients given sends.own
      (waits-out plan.upto plan.most told [] noticed.0) (noticed.1.log ∙ sends.log)
      (ap (λ x. x.0) noticed.1.term ∙ sends.term) (noticed.1.ready old)))
      (turn.shows (Answered (row_after one.args plan.log e)))

  reaches-three : Reaches plan e first one three
      (all_said one (turns up nodes one) ++ all_said two (replicate (length messages) (Delivers 0)))
  reaches-three =
      let rose = noticed.1.rises in
      record {
        server = server;
        is = leader-is three leader-three;
        args = came.0.args ∙ turn.tells.args;
        rises = rose;
        shows = λ session seq given old.
            shows-then plan.upto first.commit server.commit server.commit session seq (row_after one.args plan.log e)
            one.clients two.clients three.clients (all_said one (turns up nodes one))
            (all_said two (replicate (length messages) (Delivers 0))) (omega arith) (shows-turns session seq given old)
            (shows-nothing plan.upto server.commit session seq (row_after one.args plan.log e) two.clients three.clients
            (all_said two (replicate (length messages) (Delivers 0))) came.0.clients);
      }

  pub sound-three : IsSound members three
  sound-three = sound-all members two (replicate (length messages) (Delivers 0)) sound-two

  -- a peer of the leader is another member
  not-own : (r : Queue) (t : Server) (x : Peer) → IsSound members r → (r.group.seat k).server ≡ Some t → In x t.peers
      → x.node.0 ≢ k
  not-own r t x safe is there =
      other-in k members x.node.0
      (subst (λ (l : List ℕ). In x.node.0 l) (safe.fit.each k t is).peers (map-In peer_number x t.peers there))

  -- where nothing is left to do the leader alone is a majority
  first-enough : came.1.0 ≡ [] → ((j : ℕ) → up j ≡ true → IsSettled j three) → plan.upto ≤ server.commit
  first-enough none idle =
      (waits-out plan.upto plan.most told [] noticed.0).counts (λ j counts x there is.
      let other : j ≢ k = subst (λ (n : ℕ). n ≢ k) is (not-own three server x sound-three leader-three there) in
      absurd (elim ((answering.heard j other).answered counts) [
        | inl replied ↦ subst (λ (l : List Rpc). Replied j l → ⊥) (sym none) (λ r. r.here) replied
        | inr pends ↦ none-pends handed members (talk plan e) (entries-go plan e) three j sound-three
            (idle j (sends.counts_up j counts)).0 (idle j (sends.counts_up j counts)).1 pends
      ]))

  pub first-run : HasRun plan e first one (after one (round_alone up nodes one))
      (all_said one (round_alone up nodes one))
  unfolding reaches-three notice
  first-run =
      subst (λ (r : Queue). HasRun plan e first one r (all_said one (round_alone up nodes one))) (sym after-first)
      (subst (HasRun plan e first one three) (sym said-first) (record {
        reaches = reaches-three;
        enough = λ none idle. first-enough (sym came.1.1.bag ∙ none) idle;
      }))

  -- ---- after the second round

  abbrev pub four : Queue
  four = after three (turns up nodes three)

  pub have : HaveAnswered (talk plan e) three four came.1.0 nodes
  have = all-answered handed members (talk plan e) (entries-go plan e) nodes three came.1.0 sound-three answering

  abbrev pub five : Queue
  five = after four (replicate (length have.more) (Delivers 0))

  all : HasHeardAll plan e four five server have.more (all_said four (replicate (length have.more) (Delivers 0)))
  all =
      all-heard plan e sends.own have.more [] four server
      (leader-is four (ap (λ (x : Seat). x.server) have.keeps.leader ∙ leader-three))
      (have.answering.bag ∙ sym (append-nil have.more)) have.answering.replies

  sound-five : IsSound members five
  sound-five =
      sound-all members four (replicate (length have.more) (Delivers 0))
      (sound-all members three (turns up nodes three) sound-three)

  committed : plan.upto ≤ all.server.commit
  committed =
      all.is.waits.counts (λ j counts x there is.
      let other : j ≢ k = subst (λ (n : ℕ). n ≢ k) is (not-own five all.server x sound-five all.is.up there) in
      let j_up = sends.counts_up j counts in
      all.gains j counts (have.own j (among j j_up) j_up other counts) x there is)

  after-second : after three (round_alone up nodes three) ≡ five
  after-second =
      after-append three (turns up nodes three) (replicate (length four.group.bag) (Delivers 0))
      ∙ ap (λ (l : List Rpc). after four (replicate (length l) (Delivers 0))) have.answering.bag

  said-second : all_said three (round_alone up nodes three)
      ≡ all_said three (turns up nodes three) ++ all_said four (replicate (length have.more) (Delivers 0))
  said-second =
      said-append three (turns up nodes three) (replicate (length four.group.bag) (Delivers 0))
      ∙ ap (λ (l : List Rpc). all_said three (turns up nodes three) ++ all_said four (replicate (length l) (Delivers 0)))
      have.answering.bag

  abbrev pub said_one : List Shown
  said_one = all_said one (turns up nodes one) ++ all_said two (replicate (length messages) (Delivers 0))

  abbrev pub said_three : List Shown
  said_three = all_said three (turns up nodes three) ++ all_said four (replicate (length have.more) (Delivers 0))

  args-three : three.args ≡ one.args
  args-three = came.0.args ∙ turn.tells.args

  -- answers are heard by which it is committed
  module _ (r : Queue) (rs : List Rpc) (shown : List Shown) (h : HasHeardAll plan e four r server rs shown) where
    shows-second : (session seq : ℕ) → IsGiven plan e session seq → HasOwnCommit server
        → Shows plan.upto server.commit h.server.commit session seq (row_after one.args plan.log e) three.clients
        r.clients (all_said three (turns up nodes three) ++ shown)
    shows-second session seq given old =
        let rose = h.rises in
        shows-then plan.upto server.commit server.commit h.server.commit session seq (row_after one.args plan.log e)
        three.clients four.clients r.clients (all_said three (turns up nodes three)) shown rose
        (shows-nothing plan.upto server.commit session seq (row_after one.args plan.log e) three.clients four.clients
        (all_said three (turns up nodes three)) have.keeps.clients)
        (subst (λ (args : QueueArgs). Shows plan.upto server.commit h.server.commit session seq
        (row_after args plan.log e) four.clients r.clients shown) (have.keeps.args ∙ args-three)
        (h.shows session seq given old))

    pub heard-commits : plan.upto ≤ h.server.commit
        → HasCommitted plan e first one r (said_one ++ (all_said three (turns up nodes three) ++ shown))
    unfolding reaches-three notice
    heard-commits reaches = record {
      reaches = record {
        server = h.server;
        is = h.is;
        args = h.args ∙ have.keeps.args ∙ args-three;
        rises = (let a = reaches-three.rises in let b = h.rises in omega (arith, a, b));
        shows = λ session seq given old.
            shows-then plan.upto first.commit server.commit h.server.commit session seq
            (row_after one.args plan.log e) one.clients three.clients r.clients said_one
            (all_said three (turns up nodes three) ++ shown) h.rises
            (reaches-three.shows session seq given old) (shows-second session seq given (noticed.1.ready old));
      };
      committed = reaches;
    }

  pub commits-five : HasCommitted plan e first one five (said_one ++ said_three)
  commits-five =
      heard-commits five have.more (all_said four (replicate (length have.more) (Delivers 0))) all committed

  pub second-run : HasCommitted plan e first one
      (after (after one (round_alone up nodes one)) (round_alone up nodes (after one (round_alone up nodes one))))
      (all_said one (round_alone up nodes one)
      ++ all_said (after one (round_alone up nodes one)) (round_alone up nodes (after one (round_alone up nodes one))))
  second-run =
      subst (λ (r : Queue). HasCommitted plan e first one (after r (round_alone up nodes r))
      (all_said one (round_alone up nodes one) ++ all_said r (round_alone up nodes r))) (sym after-first)
      (subst (λ (r : Queue). HasCommitted plan e first one r
      (all_said one (round_alone up nodes one) ++ all_said three (round_alone up nodes three))) (sym after-second)
      (subst (λ (l : List Shown). HasCommitted plan e first one five
      (all_said one (round_alone up nodes one) ++ l)) (sym said-second)
      (subst (λ (l : List Shown). HasCommitted plan e first one five (l ++ said_three)) (sym said-first)
      commits-five)))

  -- ---- where all members count

  settled-three : (j : ℕ) → j ≢ k → up j ≡ true → messages ≡ [] → IsSettled j three
  settled-three j other j_up none =
      let same : (three.group.seat j) ≡ (one.group.seat j) =
      ap (λ (l : List Rpc). ((after two (replicate (length l) (Delivers 0))).group.seat j)) none
      ∙ turn.tells.others j other in (
        answering.even j j_up,
        λ t is. (sends.settled j other j_up).1 t (ap (λ (x : Seat). x.server) (sym same) ∙ is),
      )

  own-settled : IsSettled k three
  own-settled = (
    answering.even k sends.node_up,
    λ t is. ap (λ (x : Server). x.ops) (sym (same_some server t (sym leader-three ∙ is))) ∙ noticed.1.ops,
  )

  -- another member, once it has heard
  has-log : (q : Queue) (rs : List Rpc) (t : Server) → IsSound members q
      → ((j : ℕ) → j ≢ k → HasHeard (talk plan e) rs j (q.group.seat j))
      → ((j : ℕ) → has_node j members ≡ true → plan.most j ≡ true) → LeaderIs plan e q t → (j : ℕ) → j ≢ k
      → has_node j members ≡ true → (u : Server) × ((q.group.seat j).server ≡ Some u) × (u.log ≡ t.log)
  has-log q rs t sound heard full leader j other is =
      let h = heard j other in
      let there = h.alive (full j is) in
      let node = (sound.fit.each j there.0 there.1).node in (
        there.0,
        there.1,
        (h.since there.0 there.1).log (ap plan.most node ∙ full j is) ∙ sym leader.log,
      )

  -- what the leader was told leaves what its peers are sent next
  next-told : AllNext first → AllNext server
  next-told sent x here =
      subst (λ (l : List Entry). IsNext (length l) x) (sym noticed.1.log)
      (sent x (subst (λ (l : List Peer). In x l) noticed.1.peers here))

  -- a group of one: one round is enough
  pub first-quiet : ((j : ℕ) → has_node j members ≡ true → plan.most j ≡ true) → AllNext first → messages ≡ []
      → IsLedQuietly members up k (after one (round_alone up nodes one))
  first-quiet full next none =
      subst (IsLedQuietly members up k) (sym after-first) (record {
        bag = empty-bag;
        settled = settled;
        server = server;
        here = leader-three;
        ready = ready-at plan.upto plan.most server (waits-out plan.upto plan.most told [] noticed.0)
            (first-enough (sym came.1.1.bag ∙ empty-bag) settled);
        others = λ j other t is. (answering.heard j other).follows t is;
        terms = λ j other t is.
            ((answering.heard j other).since t is).term ∙ sym (leader-is three leader-three).term;
        logs = has-log three came.1.0 server sound-three answering.heard full (leader-is three leader-three);
        next = next-told next;
      })
    where
      empty-bag : three.group.bag ≡ []
      empty-bag =
          ap (λ (l : List Rpc). (after two (replicate (length l) (Delivers 0))).group.bag) none ∙ sent ∙ none

      settled : (j : ℕ) → up j ≡ true → IsSettled j three
      settled j j_up = elim (cases_eq j k) [
        | inl same ↦ subst (λ (n : ℕ). IsSettled n three) (sym same) own-settled
        | inr other ↦ settled-three j other j_up none
      ]

  -- where another member counts, something is left to do after one round
  pub first-goes-on : (j : ℕ) → j ≢ k → plan.most j ≡ true → three.group.bag ≡ [] → IsSettled j three → ⊥
  first-goes-on j other counts none settled =
      still-busy handed members (talk plan e) (entries-go plan e) three came.1.0 j sound-three answering none other counts
      settled

  pub first-busy-then : (j : ℕ) → j ≢ k → plan.most j ≡ true
      → (after one (round_alone up nodes one)).group.bag ≡ [] → IsSettled j (after one (round_alone up nodes one)) → ⊥
  first-busy-then j other counts =
      subst (λ (r : Queue). r.group.bag ≡ [] → IsSettled j r → ⊥) (sym after-first) (first-goes-on j other counts)

  -- and two rounds are enough
  pub second-quiet : ((j : ℕ) → plan.asked j ≡ true → plan.most j ≡ true)
      → ((j : ℕ) → has_node j members ≡ true → plan.most j ≡ true) → AllNext first → IsLedQuietly members up k
      (after (after one (round_alone up nodes one)) (round_alone up nodes (after one (round_alone up nodes one))))
  second-quiet every full next =
      subst (λ (r : Queue). IsLedQuietly members up k (after r (round_alone up nodes r))) (sym after-first)
      (subst (IsLedQuietly members up k) (sym after-second) (record {
        bag = calm.0;
        settled = settled;
        server = all.server;
        here = all.is.up;
        ready = ready-at plan.upto plan.most all.server all.is.waits committed;
        others = λ j other t is.
            (have.answering.heard j other).follows t (ap (λ (x : Seat). x.server) (sym (all.others j other)) ∙ is);
        terms = λ j other t is. ((heard-five j other).since t is).term ∙ sym all.is.term;
        logs = has-log five have.more all.server sound-five heard-five full all.is;
        next = calm.1 all.server all.is.up;
      }))
    where
      leader-four : LeaderIs plan e four server
      leader-four = leader-is four (ap (λ (x : Seat). x.server) have.keeps.leader ∙ leader-three)

      calm : (five.group.bag ≡ []) × ((t : Server) → (five.group.seat k).server ≡ Some t → AllNext t)
      calm =
          all-calm plan e sends.own every have.more [] four server leader-four
          (have.answering.bag ∙ sym (append-nil have.more)) have.answering.replies (next-told next) refl

      heard-five : (j : ℕ) → j ≢ k → HasHeard (talk plan e) have.more j (five.group.seat j)
      heard-five j other =
          subst (HasHeard (talk plan e) have.more j) (sym (all.others j other)) (have.answering.heard j other)

      none-five : HasNone k five
      none-five t is =
          ap (λ (x : Server). x.ops) (sym (same_some all.server t (sym all.is.up ∙ is))) ∙ all.ops ∙ noticed.1.ops

      settled : (j : ℕ) → up j ≡ true → IsSettled j five
      settled j j_up = elim (cases_eq j k) [
        | inl same ↦ subst (λ (n : ℕ). IsSettled n five) (sym same) (
          (let e4 = have.answering.even k sends.node_up in
              let synced = ap (λ (f : ℕ → ℕ). f k) all.synced ∙ e4.synced ∙ ap length (sym all.given) in
              let told' = (sound-five.counted k).server all.server all.is.up in
              let now = all.is.waits.may.noticed in
              let count = ops-counted handed members five sound-five k all.server all.is.up in
              let none = ap length (all.ops ∙ noticed.1.ops) in
              record { synced = synced; noticed = omega (arith, told', now, count, none) }),
          none-five,
        )
        | inr other ↦ (
          (let e4 = have.answering.even j j_up in record {
            synced = ap (λ (f : ℕ → ℕ). f j) all.synced ∙ e4.synced
                ∙ ap (λ (x : Seat). length x.ops) (sym (all.others j other));
            noticed = ap (λ (x : Seat). x.noticed) (all.others j other) ∙ e4.noticed
                ∙ ap (λ (x : Seat). length x.ops) (sym (all.others j other));
          }),
          λ t is. have.none j (among j j_up) j_up t (ap (λ (x : Seat). x.server) (sym (all.others j other)) ∙ is),
        )
      ]
