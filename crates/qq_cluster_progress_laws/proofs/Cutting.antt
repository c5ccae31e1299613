-- The first events of two rounds after which an entry is committed, where its leader had committed its whole log before.
-- Nothing is handed out before the last of them.
use Rattle.std.proofs.Common.{◌≡◌, ◌≢◌, ◌⊎◌, ℕ, zero, suc, ◌≤◌, ◌<◌, ◌+◌, Bool, true, List, [], ◌∷◌, ◌++◌, length, Some, refl, sym, ap, ◌∙◌, subst, inl, inr, arith, append_assoc, append-nil}
use Rattle.std.specs.Prelude.{replicate}
use Rattle.std.proofs.lemmas.Bool.{cases_eq, cases_lt, cond-true}
use Rattle.qq_base.specs.declared.ids.NodeId.{NodeId}
use Rattle.qq_entry.specs.declared.command.Entry.{Entry}
use Rattle.qq_raft_protocol.specs.Facts.{In}
use Rattle.qq_raft_protocol.proofs.Lists.{In-right}
use Rattle.qq_raft_msg.specs.declared.rpc.Rpc.{Rpc}
use Rattle.qq_raft_model.specs.Group.{Seat}
use Rattle.qq_raft_model.specs.State.{Server}
use Rattle.qq_cluster_model.specs.Queue.{Queue, Event, Delivers, after, all_said, own_rows}
use Rattle.qq_cluster_model.proofs.Groups.{after-append}
use Rattle.qq_session.specs.Clients.{Clients, printed}
use Rattle.qq_session.specs.declared.shown.Shown.{Shown}
use Rattle.qq_session.specs.declared.shown.Shown.TheVariants.{Answered}
use Rattle.qq_cluster_progress_laws.specs.Alone.{round_alone, turn as turn_of, turn_where, turns}
use Rattle.qq_cluster_progress_laws.proofs.Answering.{HaveAnswered, IsAnswering, answers-quiet}
use Rattle.qq_cluster_progress_laws.proofs.Committing.{HasCommitted, IsSending}
use Rattle.qq_cluster_progress_laws.proofs.Committing as rounds
use Rattle.qq_cluster_progress_laws.proofs.Delivering.{Plan, entries-go, talk}
use Rattle.qq_cluster_progress_laws.proofs.Exchange.{IsDelivering, deliveries-quiet}
use Rattle.qq_cluster_progress_laws.proofs.Following.{AllQuiet, IsQuiet, QuietBefore, before-append, quiet-after, quiet-append, said-append}
use Rattle.qq_cluster_progress_laws.proofs.Hearing.{HasHeardAll, HeardPart, LeaderIs, heard-cut, leader-tells, no-effects, shows-told, waits-out}
use Rattle.qq_cluster_progress_laws.proofs.Leader.{Notices, Waits}
use Rattle.qq_cluster_progress_laws.proofs.Printing.{Tells as ToldOf, row_after}
use Rattle.qq_cluster_progress_laws.proofs.Rounds.{IsSettled, OneTells, one-tells, tells-quiet, turns-append, turns-quiet}
use Rattle.qq_cluster_progress_laws.proofs.Sound.{AreHanded, IsSound}
use Rattle.qq_cluster_progress_laws.proofs.Turns.{turn-before}

-- Of what happens to a queue these are the first events, after which the entry is committed. No delivery waits for a
-- taker before the last of them.
pub record CutAt (p : Plan) (e : Entry) (s : Server) (q mid : Queue) (early : List Shown) (alone : List Event) : Type 0
  where
    pub first : List Event
    pub rest : List Event
    pub is : alone ≡ first ++ rest
    pub quiet : QuietBefore mid first
    pub done : HasCommitted p e s q (after mid first) (early ++ all_said mid first)

-- in the first round, or in the second
abbrev pub HasCuts : Plan → Entry → Server → Queue → (Queue → List Event) → Type 0
HasCuts p e s q round =
    CutAt p e s q q [] (round q)
    ⊎ (AllQuiet q (round q) × CutAt p e s q (after q (round q)) (all_said q (round q)) (round (after q (round q))))

-- the first place of a node
record Parted (k : ℕ) (nodes : List ℕ) : Type 0 where
  first : List ℕ
  rest : List ℕ
  is : nodes ≡ first ++ k ∷ rest
  gone : In k first → ⊥

part-at : (k : ℕ) (nodes : List ℕ) → In k nodes → Parted k nodes
part-at k [] here = absurd here
part-at k (n ∷ nodes) here = by (cases_eq n k) (λ later. part-at k nodes later)
  where
    by : ((n ≡ k) ⊎ (n ≢ k)) → (In k nodes → Parted k nodes) → Parted k (n ∷ nodes)
    by (inl same) rest = record {
      first = [];
      rest = nodes;
      is = ap (λ (m : ℕ). m ∷ nodes) same;
      gone = λ none. none;
    }
    by (inr other) rest =
        let later : In k nodes = elim here [ inl same ↦ absurd (other (sym same)) | inr there ↦ there ] in
        let p = rest later in
        record {
          first = n ∷ p.first;
          rest = p.rest;
          is = ap (λ (l : List ℕ). n ∷ l) p.is;
          gone = λ there. elim there [ inl same ↦ other (sym same) | inr behind ↦ p.gone behind ];
        }

replicate-both : {A : Type 0} (a b : ℕ) (x : A) → replicate (a + b) x ≡ replicate a x ++ replicate b x
replicate-both zero b x = (let e : 0 + b ≡ b = omega arith in ap (λ (n : ℕ). replicate n x) e)
replicate-both (suc a) b x =
    (let e : suc a + b ≡ suc (a + b) = omega arith in ap (λ (n : ℕ). replicate n x) e)
    ∙ ap (λ l. x ∷ l) (replicate-both a b x)

module _ (handed : AreHanded) (members : List NodeId) (nodes : List ℕ) (plan : Plan) (e : Entry) (one : Queue)
    (first : Server) (messages : List Rpc) (sends : IsSending members plan e one first messages)
    (among : (j : ℕ) → plan.up j ≡ true → In j nodes) (before : plan.upto ≡ first.commit + 1) (quiet : IsQuiet one) where
  abbrev k : ℕ
  k = plan.node

  abbrev up : ℕ → Bool
  up = plan.up

  -- what two rounds make of the queue, and of the leader
  abbrev two : Queue
  two = rounds.two handed members nodes plan e one first messages sends among

  abbrev three : Queue
  three = rounds.three handed members nodes plan e one first messages sends among

  abbrev four : Queue
  four = rounds.four handed members nodes plan e one first messages sends among

  abbrev bare : Server
  bare = rounds.bare handed members nodes plan e one first messages sends among

  abbrev told : Server
  told = rounds.told handed members nodes plan e one first messages sends among

  abbrev server : Server
  server = rounds.server handed members nodes plan e one first messages sends among

  abbrev said_one : List Shown
  said_one = rounds.said_one handed members nodes plan e one first messages sends among

  noticed : Waits plan.upto plan.most told × Notices plan.upto bare told
  noticed = rounds.noticed handed members nodes plan e one first messages sends among

  leader-is : (r : Queue) → (r.group.seat k).server ≡ Some server → LeaderIs plan e r server
  leader-is = rounds.leader-is handed members nodes plan e one first messages sends among

  abbrev answers : List Rpc
  answers = (rounds.came handed members nodes plan e one first messages sends among).1.0

  abbrev have : HaveAnswered (talk plan e) three four answers nodes
  have = rounds.have handed members nodes plan e one first messages sends among

  sound-two : IsSound members two
  sound-two = rounds.sound-two handed members nodes plan e one first messages sends among

  sound-three : IsSound members three
  sound-three = rounds.sound-three handed members nodes plan e one first messages sends among

  sent : two.group.bag ≡ messages
  sent = rounds.sent handed members nodes plan e one first messages sends among

  starts : IsDelivering (talk plan e) two messages []
  starts = rounds.starts handed members nodes plan e one first messages sends among

  answering : IsAnswering (talk plan e) three answers
  answering = rounds.answering handed members nodes plan e one first messages sends among

  leader-three : (three.group.seat k).server ≡ Some server
  leader-three = rounds.leader-three handed members nodes plan e one first messages sends among

  after-first : after one (round_alone up nodes one) ≡ three
  after-first = rounds.after-first handed members nodes plan e one first messages sends among

  said-first : all_said one (round_alone up nodes one) ≡ said_one
  said-first = rounds.said-first handed members nodes plan e one first messages sends among

  heard-commits : (r : Queue) (rs : List Rpc) (shown : List Shown) (h : HasHeardAll plan e four r server rs shown)
      → plan.upto ≤ h.server.commit
      → HasCommitted plan e first one r (said_one ++ (all_said three (turns up nodes three) ++ shown))
  heard-commits = rounds.heard-commits handed members nodes plan e one first messages sends among

  commits-five : HasCommitted plan e first one (after four (replicate (length have.more) (Delivers 0)))
      (said_one ++ (all_said three (turns up nodes three) ++ all_said four (replicate (length have.more) (Delivers 0))))
  commits-five = rounds.commits-five handed members nodes plan e one first messages sends among

  others-settled : (ns : List ℕ) (j : ℕ) → In j ns → j ≢ k → up j ≡ true → IsSettled j one
  others-settled ns j here other j_up = sends.settled j other j_up

  -- the turns of the nodes up to the leader's
  abbrev parted : Parted k nodes
  parted = part-at k nodes (among k sends.node_up)

  abbrev ns : List ℕ
  ns = parted.first ++ k ∷ []

  turn-at : OneTells up ns one k first
  turn-at =
      one-tells handed members up k first sends.op [] sends.ops sends.node_up ns one sends.sound sends.here sends.even
      (others-settled ns) (In-right k parted.first (k ∷ []) (inl refl)) (inl noticed.1.ops)

  commits-at : plan.upto ≤ server.commit
      → HasCommitted plan e first one (after one (turns up ns one)) (all_said one (turns up ns one))
  commits-at reaches = record {
    reaches = record {
      server = server;
      is = leader-is (after one (turns up ns one)) (ap (λ (x : Seat). x.server) turn-at.tells.seat);
      args = turn-at.tells.args;
      rises = noticed.1.rises;
      shows = λ session seq given old.
          shows-told plan.upto first.commit server.commit session seq (row_after one.args plan.log e) one.clients
          (after one (turns up ns one)).clients (printed (own_rows one.args bare server) one.clients)
          (all_said one (turns up ns one))
          (subst (λ (c : Clients). ToldOf plan.upto first.commit server.commit session seq
          (row_after one.args plan.log e) one.clients c (printed (own_rows one.args bare server) one.clients))
          (sym turn-at.tells.clients)
          (leader-tells plan e session seq one.args bare server one.clients given sends.own
          (waits-out plan.upto plan.most told [] noticed.0) (noticed.1.log ∙ sends.log)
          (ap (λ x. x.0) noticed.1.term ∙ sends.term) (noticed.1.ready old)))
          (turn-at.shows (Answered (row_after one.args plan.log e)));
    };
    committed = reaches;
  }

  before-turn : QuietBefore one (turns up ns one)
  before-turn =
      let r : Queue = after one (turns up parted.first one) in
      let early : AllQuiet one (turns up parted.first one) =
      turns-quiet up parted.first one (λ j here j_up. sends.settled j
      (λ same. parted.gone (subst (λ (n : ℕ). In n parted.first) same here)) j_up) quiet in
      let own : turns up (k ∷ []) r ≡ turn_of k r =
      append-nil (turn_where (up k) k r) ∙ cond-true (up k) (turn_of k r) [] sends.node_up in
      subst (QuietBefore one) (sym (turns-append up parted.first (k ∷ []) one))
      (before-append one (turns up parted.first one) (turns up (k ∷ []) r) early
      (subst (QuietBefore r) (sym own) (turn-before k r (quiet-after one (turns up parted.first one) quiet early))))

  turns-split : turns up nodes one
      ≡ turns up ns one ++ turns up parted.rest (after one (turns up ns one))
  turns-split =
      ap (λ (l : List ℕ). turns up l one) (parted.is ∙ sym (append_assoc parted.first (k ∷ []) parted.rest))
      ∙ turns-append up ns parted.rest one

  -- its own notice commits it
  first-cut : plan.upto ≤ server.commit → CutAt plan e first one one [] (round_alone up nodes one)
  first-cut reaches =
      let rest : List Event = replicate (length two.group.bag) (Delivers 0) in
      let others : List Event = turns up parted.rest (after one (turns up ns one)) in
      record {
        first = turns up ns one;
        rest = others ++ rest;
        is = ap (λ (l : List Event). l ++ rest) turns-split ∙ append_assoc (turns up ns one) others rest;
        quiet = before-turn;
        done = commits-at reaches;
      }

  -- the first round hands nothing out
  module _ (left : server.commit < plan.upto) where
    quiet-one : AllQuiet one (turns up nodes one)
    quiet-one =
        tells-quiet handed members up k first sends.op [] sends.ops sends.node_up nodes one sends.sound sends.here
        sends.even (others-settled nodes) noticed.1.ops quiet
        (no-effects one.args bare server (omega (arith, left, before)))

    quiet-two : IsQuiet two
    quiet-two = quiet-after one (turns up nodes one) quiet quiet-one

    quiet-messages : AllQuiet two (replicate (length messages) (Delivers 0))
    quiet-messages =
        deliveries-quiet members (talk plan e) (entries-go plan e) messages [] two sound-two starts quiet-two

    quiet-first : AllQuiet one (round_alone up nodes one)
    quiet-first =
        quiet-append one (turns up nodes one) (replicate (length two.group.bag) (Delivers 0)) quiet-one
        (subst (λ (l : List Rpc). AllQuiet two (replicate (length l) (Delivers 0))) (sym sent) quiet-messages)

    quiet-three : IsQuiet three
    quiet-three = quiet-after two (replicate (length messages) (Delivers 0)) quiet-two quiet-messages

    quiet-answers : AllQuiet three (turns up nodes three)
    quiet-answers =
        answers-quiet handed members (talk plan e) (entries-go plan e) nodes three answers sound-three answering
        quiet-three

    same-commit : plan.upto ≡ server.commit + 1
    same-commit = let rose = noticed.1.rises in omega (arith, left, before, rose)

    heard : QuietBefore four (replicate (length have.more) (Delivers 0))
        ⊎ HeardPart plan e sends.own four server (length have.more)
    heard =
        heard-cut plan e sends.own have.more [] four server
        (leader-is four (ap (λ (x : Seat). x.server) have.keeps.leader ∙ leader-three))
        (have.answering.bag ∙ sym (append-nil have.more)) have.answering.replies same-commit
        (quiet-after three (turns up nodes three) quiet-three quiet-answers)

    abbrev begun : List Event
    begun = turns up nodes three

    cut-three : CutAt plan e first one three said_one (round_alone up nodes three)
    cut-three = elim heard [
      | inl all-before ↦
          let rest : List Event = replicate (length have.more) (Delivers 0) in
          record {
            first = begun ++ rest;
            rest = [];
            is = ap (λ (l : List Rpc). begun ++ replicate (length l) (Delivers 0)) have.answering.bag
                ∙ sym (append-nil (begun ++ rest));
            quiet = before-append three begun rest quiet-answers all-before;
            done = done-at rest commits-five;
          }
      | inr part ↦
          let early : List Event = replicate part.count (Delivers 0) in
          let late : List Event = replicate part.rest (Delivers 0) in
          record {
            first = begun ++ early;
            rest = late;
            is = ap (λ (l : List Rpc). begun ++ replicate (length l) (Delivers 0)) have.answering.bag
                ∙ ap (λ (n : ℕ). begun ++ replicate n (Delivers 0)) (sym part.split)
                ∙ ap (λ (l : List Event). begun ++ l) (replicate-both part.count part.rest (Delivers 0))
                ∙ sym (append_assoc begun early late);
            quiet = before-append three begun early quiet-answers part.quiet;
            done = done-at early (heard-commits (after four early) [] (all_said four early) part.heard part.reaches);
          }
    ]
      where
        done-at : (rest : List Event)
            → HasCommitted plan e first one (after four rest) (said_one ++ (all_said three begun ++ all_said four rest))
            → HasCommitted plan e first one (after three (begun ++ rest)) (said_one ++ all_said three (begun ++ rest))
        done-at rest done =
            subst (λ (r : Queue). HasCommitted plan e first one r (said_one ++ all_said three (begun ++ rest)))
            (sym (after-append three begun rest))
            (subst (λ (l : List Shown). HasCommitted plan e first one (after four rest) (said_one ++ l))
            (sym (said-append three begun rest)) done)

    second-cut : CutAt plan e first one (after one (round_alone up nodes one)) (all_said one (round_alone up nodes one))
        (round_alone up nodes (after one (round_alone up nodes one)))
    second-cut =
        subst (λ (r : Queue). CutAt plan e first one r (all_said one (round_alone up nodes one)) (round_alone up nodes r))
        (sym after-first)
        (subst (λ (l : List Shown). CutAt plan e first one three l (round_alone up nodes three)) (sym said-first)
        cut-three)

  pub cuts : HasCuts plan e first one (round_alone up nodes)
  cuts = elim (cases_lt server.commit plan.upto) [
    | inl left ↦ inr (quiet-first left, second-cut left)
    | inr reaches ↦ inl (first-cut reaches)
  ]
