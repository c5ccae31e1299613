-- A queue whose group has more than one member: two rounds elect the first one.
use Rattle.std.proofs.Common.{◌≡◌, ◌≢◌, ℕ, ◌≤◌, ◌+◌, Bool, true, leb, ◌&&◌, List, [], ◌++◌, length, map, take, Some, refl, sym, ap, ◌∙◌, subst, inl, inr, arith, append-nil}
use Rattle.std.specs.Prelude.{replicate}
use Rattle.std.proofs.lemmas.Bool.{cases_eq, le-leb}
use Rattle.qq_base.proofs.Lists.{AllByRecursion-map}
use Rattle.qq_base.specs.declared.ids.NodeId.{NodeId}
use Rattle.qq_entry.specs.declared.command.Entry.{Entry}
use Rattle.qq_raft_protocol.specs.Facts.{In}
use Rattle.qq_raft_protocol.specs.Moves.{last_term}
use Rattle.qq_raft_protocol.proofs.Lists.{map-In}
use Rattle.qq_raft_msg.specs.declared.rpc.Rpc.{Rpc}
use Rattle.qq_raft_msg.specs.declared.state.Role.{Role}
use Rattle.qq_raft_model.specs.declared.peer.Peer.{Peer}
use Rattle.qq_raft_model.specs.Group.{Seat, has_node}
use Rattle.qq_raft_model.specs.Handing.{peer_number}
use Rattle.qq_raft_model.specs.Leading.{advance, append_to, ask, become_candidate, clear_vote, is_elected, is_majority, lead, start_peer}
use Rattle.qq_raft_model.specs.Refines.{number}
use Rattle.qq_raft_model.specs.Server.{notice, tick}
use Rattle.qq_raft_model.specs.State.{Server, change, is_candidate, is_leader, last}
use Rattle.qq_cluster_model.proofs.Groups.{after-append}
use Rattle.qq_cluster_model.specs.Queue.{Queue, Delivers, Ticks, after, happens}
use Rattle.qq_cluster_progress_laws.specs.Alone.{round_alone, turns}
use Rattle.qq_cluster_progress_laws.specs.Soon.{AreOnce}
use Rattle.qq_cluster_progress_laws.proofs.Answering.{HaveAnswered, IsAnswering, all-answered, still-busy}
use Rattle.qq_cluster_progress_laws.proofs.Asking.{Asks}
use Rattle.qq_cluster_progress_laws.proofs.Committing.{IsLedQuietly, IsSending, first-busy-then, first-quiet, second-quiet, first-busy as committing-busy}
use Rattle.qq_cluster_progress_laws.proofs.Delivering.{Plan, talk}
use Rattle.qq_cluster_progress_laws.proofs.Electing.{HasLed, IsLed, elected-notice, leads, IsPolling, IsStanding, Polls, all-polled, based, first_entry, first_messages}
use Rattle.qq_cluster_progress_laws.proofs.Exchange.{HasHeard, IsDelivering, Leaves, Seated, all-delivered, receivers, same_some}
use Rattle.qq_cluster_progress_laws.proofs.Leader.{Advances, advances}
use Rattle.qq_cluster_progress_laws.proofs.Fit.{IsFit, others}
use Rattle.qq_cluster_progress_laws.proofs.Opening.{Stands, asked, tick-stands, ticks-asks}
use Rattle.qq_cluster_progress_laws.proofs.Member.{noticed-all, plain-notice, rpcs_of}
use Rattle.qq_cluster_progress_laws.proofs.Rising.{IsFreshQueue, asked-receivers, beaten, each-in, first_plan, in-numbers, led-sends, numbers-clear, numbers-start, rpcs-wait}
use Rattle.qq_cluster_progress_laws.proofs.Rounds.{IsSettled, OneTells, one-tells}
use Rattle.qq_cluster_progress_laws.proofs.Sending.{AllNext, all-noticed, other-in, others-have, others-once, receivers-are, with_entry}
use Rattle.qq_cluster_progress_laws.proofs.Sound.{AreHanded, IsSound, sound-all, sound-event}
use Rattle.qq_cluster_progress_laws.proofs.Turns.{IsEven}
use Rattle.qq_cluster_progress_laws.proofs.Voting.{Ballot, IsAsk, ballot_talk, votes-go}

module _ (handed : AreHanded) (members : List NodeId) (up : ℕ → Bool) (nodes : List ℕ) (q : Queue) (k : ℕ)
    (fresh : IsFreshQueue members up q) (member : has_node k members ≡ true)
    (among : (j : ℕ) → up j ≡ true → In j nodes) where
  abbrev next : Queue → Queue
  next r = after r (round_alone up nodes r)

  abbrev s : Server
  s = (fresh.there k member).0

  here : (q.group.seat k).server ≡ Some s
  here = (fresh.there k member).1

  abbrev u : Server
  u = tick s

  abbrev one : Queue
  one = happens q (Ticks k)

  asks : Asks q one k s u
  asks = ticks-asks q k s here

  stands : Stands s u
  stands = tick-stands s (fresh.new k s here)

  abbrev first : Server
  first = record u { out = [] }

  sound-one : IsSound members one
  sound-one = sound-event members q (Ticks k) fresh.sound

  pub first-here : (one.group.seat k).server ≡ Some first
  first-here = ap (λ (x : Seat). x.server) asks.seat

  fits : IsFit members k first
  fits = sound-one.fit.each k first first-here

  pub even-one : IsEven k one
  even-one = record {
    synced = ap (λ (f : ℕ → ℕ). f k) asks.synced ∙ fresh.synced k ∙ ap length (sym (fresh.ops k))
        ∙ ap (λ (x : Seat). length x.ops) (sym asks.seat);
    noticed = ap (λ (x : Seat). x.noticed) asks.seat ∙ stands.noticed ∙ ap length (sym (fresh.ops k))
        ∙ ap (λ (x : Seat). length x.ops) (sym asks.seat);
  }

  pub settled-one : (j : ℕ) → j ≢ k → IsSettled j one
  settled-one j other = (
    record {
      synced = ap (λ (f : ℕ → ℕ). f j) asks.synced ∙ fresh.synced j ∙ ap length (sym (fresh.ops j))
          ∙ ap (λ (x : Seat). length x.ops) (sym (asks.others j other));
      noticed = ap (λ (x : Seat). x.noticed) (asks.others j other) ∙ fresh.noticed j ∙ ap length (sym (fresh.ops j))
          ∙ ap (λ (x : Seat). length x.ops) (sym (asks.others j other));
    },
    λ t is. (fresh.new j t (ap (λ (x : Seat). x.server) (sym (asks.others j other)) ∙ is)).ops,
  )

  -- it has something to do
  pub one-busy : IsSettled k one → ⊥
  one-busy settled =
      let none = ap length (sym (settled.1 first first-here) ∙ stands.ops) in
      absurd (omega (arith, none))

  abbrev bare : Server
  bare = record first { ops = [] }

  abbrev numbers : List ℕ
  numbers = map number (others k members)

  peers-numbers : map peer_number s.peers ≡ numbers
  peers-numbers = (fresh.sound.fit.each k s here).peers

  module _ (more : 1 ≤ length s.peers) where
    told-is : notice first.op bare ≡ noticed-all bare
    told-is =
        plain-notice bare (ap is_leader stands.role)
        (ap (λ (r : Role). is_candidate r && is_majority (leb first.op first.op) (λ (x : Peer). x.granted) first.peers) stands.role
        ∙ ap (λ (b : Bool). is_majority b (λ (x : Peer). x.granted) first.peers) (le-leb first.op first.op (omega arith))
        ∙ ap (λ (l : List Peer). is_majority true (λ (x : Peer). x.granted) l) stands.peers
        ∙ beaten s.peers more)
        (let n = stands.noticed in let o = stands.op in omega (arith, n, o)) fits.waiting

    turn : OneTells up nodes one k first
    turn =
        one-tells handed members up k first stands.change [] stands.ops (fresh.members_up k member) nodes one sound-one
        first-here even-one (λ j there other j_up. settled-one j other) (among k (fresh.members_up k member))
        (inl (ap (λ (x : Server). x.ops) told-is))

    abbrev two : Queue
    two = after one (turns up nodes one)

    abbrev candidate : Server
    candidate = record (noticed-all bare) { out = [] }

    left : (noticed-all bare).out ≡ asked s
    left = ap (rpcs_of) stands.waiting ∙ rpcs-wait 1 (asked s)

    bag-one : one.group.bag ≡ []
    bag-one = asks.bag ∙ ap (λ (l : List Rpc). l ++ u.out) fresh.bag ∙ stands.out ∙ (fresh.sound.fit.each k s here).out

    bag-two : two.group.bag ≡ asked s
    bag-two =
        turn.tells.bag ∙ ap (λ (x : Server). one.group.bag ++ x.out) told-is
        ∙ ap (λ (l : List Rpc). one.group.bag ++ l) left
        ∙ ap (λ (l : List Rpc). l ++ asked s) bag-one

    here-two : (two.group.seat k).server ≡ Some candidate
    here-two =
        ap (λ (x : Seat). x.server) turn.tells.seat ∙ ap (λ (x : Server). Some (record x { out = [] })) told-is

    standing : IsStanding candidate
    standing = record {
      role = stands.role;
      term = stands.term;
      op = stands.op;
      noticed = stands.op;
      log = stands.log;
      commit = stands.commit;
      waiting = refl;
      ops = refl;
      out = refl;
    }

    abbrev ballot : Ballot
    ballot = record { node = k; most = λ j. has_node j members; up = up }

    candidate-numbers : map peer_number (become_candidate s).peers ≡ numbers
    candidate-numbers = numbers-clear s.peers ∙ peers-numbers

    other-peer : (x : Peer) → In x (become_candidate s).peers → x.node.0 ≢ k
    other-peer x there =
        other-in k members x.node.0
        (subst (λ (l : List ℕ). In x.node.0 l) candidate-numbers
        (map-In peer_number x (become_candidate s).peers there))

    is-ask : (x : Peer) → In x (become_candidate s).peers → IsAsk ballot (ask (become_candidate s) x)
    unfolding change
    is-ask x there =
        let new = fresh.new k s here in
        record {
          msg = record {
            from = s.node;
            to = x.node;
            term = record { 0 = s.term.0 + 1 };
            last_index = record { 0 = length (take (length s.log) s.log ++ []) };
            last_term = record { 0 = last_term (take (length s.log) s.log ++ []) };
          };
          is = refl;
          term = ap (λ (n : ℕ). n + 1) new.term;
          from = (fresh.sound.fit.each k s here).node;
          other = other-peer x there;
          index = ap (λ (l : List Entry). length (take (length l) l ++ [])) new.log;
          last = ap (λ (l : List Entry). last_term (take (length l) l ++ [])) new.log;
        }

    seat-two : (j : ℕ) → j ≢ k → two.group.seat j ≡ q.group.seat j
    seat-two j other = turn.tells.others j other ∙ asks.others j other

    receivers-two : receivers (asked s) ≡ numbers
    receivers-two = asked-receivers (become_candidate s) (become_candidate s).peers ∙ candidate-numbers

    gets : (j : ℕ) (t : Server) → j ≢ k → (q.group.seat j).server ≡ Some t → In j (receivers (asked s))
    gets j t other is =
        subst (λ (l : List ℕ). In j l) (sym receivers-two)
        (others-have k j members (fresh.sound.fit.each j t is).member other)

    starts : IsDelivering (ballot_talk ballot) two (asked s) []
    starts = record {
      bag = bag-two ∙ sym (append-nil (asked s));
      sent = AllByRecursion-map (λ (x : Peer). In x (become_candidate s).peers) (IsAsk ballot) (ask (become_candidate s))
          (become_candidate s).peers is-ask
          (each-in (λ (x : Peer). In x (become_candidate s).peers) (become_candidate s).peers (λ x there. there));
      once = subst AreOnce (sym receivers-two) (others-once k members fresh.distinct);
      replies = tt;
      seats = λ j other. subst (Seated (ballot_talk ballot) (asked s) [] j) (sym (seat-two j other)) (record {
        fresh = λ _. record {
          new = λ t is. fresh.new j t is;
          there = λ counts. fresh.there j counts;
        };
        heard = λ gone. record {
          follows = λ t is. absurd (gone (gets j t other is));
          since = λ t is. absurd (gone (gets j t other is));
          alive = λ counts. fresh.there j counts;
          waiting = λ t is. absurd (gone (gets j t other is));
          answered = λ counts. (let t = fresh.there j counts in absurd (gone (gets j t.0 other t.1)));
        };
      });
    }

    sound-two : IsSound members two
    sound-two = sound-all members one (turns up nodes one) sound-one

    abbrev three : Queue
    three = after two (replicate (length (asked s)) (Delivers 0))

    came : Leaves (ballot_talk ballot) two three
        × ((rs : List Rpc) × IsDelivering (ballot_talk ballot) three [] rs)
    came = all-delivered members (ballot_talk ballot) (votes-go ballot) (asked s) [] two sound-two starts

    sound-three : IsSound members three
    sound-three = sound-all members two (replicate (length (asked s)) (Delivers 0)) sound-two

    here-three : (three.group.seat k).server ≡ Some candidate
    here-three = ap (λ (x : Seat). x.server) came.0.leader ∙ here-two

    even-two : (j : ℕ) → IsEven j two
    even-two j = elim (cases_eq j k) [
      | inl same ↦ subst (λ (n : ℕ). IsEven n two) (sym same) turn.tells.even
      | inr other ↦ record {
        synced = turn.tells.synced j other ∙ (settled-one j other).0.synced
            ∙ ap (λ (x : Seat). length x.ops) (sym (turn.tells.others j other));
        noticed = ap (λ (x : Seat). x.noticed) (turn.tells.others j other) ∙ (settled-one j other).0.noticed
            ∙ ap (λ (x : Seat). length x.ops) (sym (turn.tells.others j other));
      }
    ]

    answering : IsAnswering (ballot_talk ballot) three came.1.0
    answering = record {
      bag = came.1.1.bag;
      replies = came.1.1.replies;
      heard = λ j other. (came.1.1.seats j other).heard (λ gone. gone);
      even = λ j j_up. (let a = even-two j in record {
        synced = ap (λ (f : ℕ → ℕ). f j) came.0.synced ∙ a.synced ∙ ap length (sym (came.0.ops j));
        noticed = came.0.noticed j ∙ a.noticed ∙ ap length (sym (came.0.ops j));
      });
      leader = λ t is. ap (λ (x : Server). x.ops) (sym (same_some candidate t (sym here-three ∙ is)));
    }

    after-first : after one (round_alone up nodes one) ≡ three
    after-first =
        after-append one (turns up nodes one) (replicate (length two.group.bag) (Delivers 0))
        ∙ ap (λ (l : List Rpc). after two (replicate (length l) (Delivers 0))) bag-two

    -- another member has something to do
    pub first-busy : (j : ℕ) → j ≢ k → has_node j members ≡ true
        → (after one (round_alone up nodes one)).group.bag ≡ [] → IsSettled j (after one (round_alone up nodes one)) → ⊥
    first-busy j other counts =
        subst (λ (r : Queue). r.group.bag ≡ [] → IsSettled j r → ⊥) (sym after-first)
        (λ none settled. still-busy handed members (ballot_talk ballot) (votes-go ballot) three came.1.0 j sound-three
        answering none other counts settled)

    abbrev four : Queue
    four = after three (turns up nodes three)

    have : HaveAnswered (ballot_talk ballot) three four came.1.0 nodes
    have = all-answered handed members (ballot_talk ballot) (votes-go ballot) nodes three came.1.0 sound-three answering

    sound-four : IsSound members four
    sound-four = sound-all members three (turns up nodes three) sound-three

    here-four : (four.group.seat k).server ≡ Some candidate
    here-four = ap (λ (x : Seat). x.server) have.keeps.leader ∙ here-three

    polling : IsPolling ballot numbers four have.more
    polling = record {
      server = candidate;
      standing = standing;
      node = fits.node;
      peers = (sound-four.fit.each k candidate here-four).peers;
      here = here-four;
      bag = have.answering.bag;
      beaten = ap (λ (r : Role). is_candidate r && is_majority (leb first.op first.op) (λ (x : Peer). x.granted) first.peers)
          stands.role
          ∙ ap (λ (b : Bool). is_majority b (λ (x : Peer). x.granted) first.peers) (le-leb first.op first.op (omega arith))
          ∙ ap (λ (l : List Peer). is_majority true (λ (x : Peer). x.granted) l) stands.peers
          ∙ beaten s.peers more;
      polled = λ j counts. elim (cases_eq j k) [
        | inl same ↦ inr (λ x there is. absurd (other-in k members x.node.0
            (subst (λ (l : List ℕ). In x.node.0 l) (sound-four.fit.each k candidate here-four).peers
            (map-In peer_number x candidate.peers there)) (is ∙ same)))
        | inr other ↦ inl (have.own j (among j (fresh.members_up j counts)) (fresh.members_up j counts) other counts)
      ];
    }

    abbrev five : Queue
    five = after four (replicate (length have.more) (Delivers 0))

    polled : Polls k four five × HasLed k numbers five []
    polled =
        all-polled ballot numbers have.more four have.answering.replies polling (λ t is x there.
        in-numbers k members x.node.0 (subst (λ (l : List ℕ). In x.node.0 l) is (map-In peer_number x t.peers there)))

    led : HasLed k numbers five []
    led = polled.1

    sound-five : IsSound members five
    sound-five = sound-all members four (replicate (length have.more) (Delivers 0)) sound-four

    even-five : IsEven k five
    even-five =
        let e = have.answering.even k (fresh.members_up k member) in
        let a = (sound-five.counted k).server led.server led.here in
        let b = (sound-four.counted k).server candidate here-four in
        let c = led.is.noticed in
        let d = standing.noticed in
        let ops = ap length polled.0.ops in
        let noticed = e.noticed in
        record {
          synced = ap (λ (f : ℕ → ℕ). f k) polled.0.synced ∙ e.synced ∙ ap length (sym polled.0.ops);
          noticed = omega (arith, a, b, c, d, ops, noticed);
        }

    settled-five : (j : ℕ) → j ≢ k → up j ≡ true → IsSettled j five
    settled-five j other j_up = (
      (let e = have.answering.even j j_up in record {
        synced = ap (λ (f : ℕ → ℕ). f j) polled.0.synced ∙ e.synced
            ∙ ap (λ (x : Seat). length x.ops) (sym (polled.0.others j other));
        noticed = ap (λ (x : Seat). x.noticed) (polled.0.others j other) ∙ e.noticed
            ∙ ap (λ (x : Seat). length x.ops) (sym (polled.0.others j other));
      }),
      λ t is. have.none j (among j j_up) j_up t (ap (λ (x : Seat). x.server) (sym (polled.0.others j other)) ∙ is),
    )

    heard-five : (j : ℕ) → j ≢ k → HasHeard (ballot_talk ballot) have.more j (five.group.seat j)
    heard-five j other = subst (HasHeard (ballot_talk ballot) have.more j) (sym (polled.0.others j other)) (have.answering.heard j other)

    abbrev plan : Plan
    plan = first_plan members up k

    led-receivers : receivers (first_messages led.base) ≡ numbers
    led-receivers =
        receivers-are (first_entry led.base) (based led.base) (based led.base).peers
        ∙ numbers-start (last led.base + 1) led.base.peers ∙ led.peers

    begins-five : (j : ℕ) → j ≢ k → Seated (talk plan (first_entry led.base)) (first_messages led.base) [] j (five.group.seat j)
    begins-five j other = record {
      fresh = λ _. record {
        term = λ t is. (let v = (heard-five j other).since t is in let w = v.0 in omega (arith, w));
        waiting = λ t is j_up. (all-noticed handed members five j t sound-five is (settled-five j other j_up)).1;
        log = λ t is counts. ((heard-five j other).since t is).1;
        there = (heard-five j other).alive;
      };
      heard = λ gone. record {
        follows = (heard-five j other).follows;
        since = λ t is. absurd (gone (found t is));
        alive = (heard-five j other).alive;
        waiting = λ t is. absurd (gone (found t is));
        answered = λ counts. (let t = (heard-five j other).alive counts in absurd (gone (found t.0 t.1)));
      };
    }
      where
        found : (t : Server) → (five.group.seat j).server ≡ Some t → In j (receivers (first_messages led.base))
        found t is =
            subst (λ (l : List ℕ). In j l) (sym led-receivers)
            (others-have k j members (sound-five.fit.each j t is).member other)

    after-second : after three (round_alone up nodes three) ≡ five
    after-second =
        after-append three (turns up nodes three) (replicate (length four.group.bag) (Delivers 0))
        ∙ ap (λ (l : List Rpc). after four (replicate (length l) (Delivers 0))) have.answering.bag

    -- the first member leads and has sent its first entry
    pub second-sends : (b : Server) × (v : Server) × (ms : List Rpc)
        × IsSending members plan (first_entry b)
        (after (after one (round_alone up nodes one)) (round_alone up nodes (after one (round_alone up nodes one)))) v ms
        × AllNext v
    second-sends = (
      led.base,
      led.server,
      first_messages led.base,
      subst (λ (r : Queue). IsSending members plan (first_entry led.base) (after r (round_alone up nodes r)) led.server
          (first_messages led.base)) (sym after-first)
          (subst (λ (r : Queue). IsSending members plan (first_entry led.base) r led.server (first_messages led.base))
          (sym after-second) sends),
      led.is.next,
    )
      where
        sends : IsSending members plan (first_entry led.base) five led.server (first_messages led.base)
        sends =
            led-sends members up k five led.base led.server fresh.distinct sound-five fresh.members_up member led.standing
            led.node led.peers led.is led.here led.bag even-five settled-five begins-five

    -- it takes commands after four rounds, and nothing is left to do
    pub fourth-leads : IsLedQuietly members up k (next (next (next (next one))))
    fourth-leads =
        let b = second-sends in
        second-quiet handed members nodes plan (first_entry b.0) (next (next one)) b.1 b.2 b.3 (λ j j_up. among j j_up)
        (λ j is. is) (λ j is. is) b.4

    -- and no fewer are enough
    pub second-busy : IsSettled k (next (next one)) → ⊥
    second-busy =
        let b = second-sends in
        committing-busy handed members nodes plan (first_entry b.0) (next (next one)) b.1 b.2 b.3
        (λ j j_up. among j j_up)

    pub third-busy : (j : ℕ) → j ≢ k → has_node j members ≡ true → (next (next (next one))).group.bag ≡ []
        → IsSettled j (next (next (next one))) → ⊥
    third-busy =
        let b = second-sends in
        first-busy-then handed members nodes plan (first_entry b.0) (next (next one)) b.1 b.2 b.3
        (λ j j_up. among j j_up)

  -- ---- a group of one

  module _ (single : s.peers ≡ []) (once : AreOnce nodes) where
    abbrev own : Server
    own = noticed-all bare

    nothing-asked : asked s ≡ []
    nothing-asked = ap (λ (l : List Peer). map (ask (become_candidate s)) (map clear_vote l)) single

    own-standing : IsStanding own
    own-standing = record {
      role = stands.role;
      term = stands.term;
      op = stands.op;
      noticed = stands.op;
      log = stands.log;
      commit = stands.commit;
      waiting = refl;
      ops = refl;
      out = ap (rpcs_of) stands.waiting ∙ rpcs-wait 1 (asked s) ∙ nothing-asked;
    }

    own-none : own.peers ≡ []
    own-none = stands.peers ∙ ap (map clear_vote) single

    wins : is_elected own ≡ true
    wins =
        ap (λ (r : Role). is_candidate r && is_majority (leb first.op first.op) (λ (x : Peer). x.granted) first.peers) stands.role
        ∙ ap (λ (b : Bool). is_majority b (λ (x : Peer). x.granted) first.peers) (le-leb first.op first.op (omega arith))
        ∙ ap (λ (l : List Peer). is_majority true (λ (x : Peer). x.granted) l) own-none

    leading : IsLed own (lead own) × ((lead own).out ≡ first_messages own)
    leading = leads own own-standing

    goes : Advances (lead own) (advance (lead own))
    goes = advances (lead own) leading.0.role

    own-told : notice first.op bare ≡ record (lead own) { commit = goes.commit }
    own-told =
        elected-notice bare wins (let n = stands.noticed in let o = stands.op in omega (arith, n, o)) fits.waiting ∙ goes.is

    own-turn : OneTells up nodes one k first
    own-turn =
        one-tells handed members up k first stands.change [] stands.ops (fresh.members_up k member) nodes one sound-one
        first-here even-one (λ j there other j_up. settled-one j other) (among k (fresh.members_up k member)) (inr once)

    abbrev own-two : Queue
    own-two = after one (turns up nodes one)

    abbrev leads-alone : Server
    leads-alone = record (lead own) { commit = goes.commit; out = [] }

    own-here : (own-two.group.seat k).server ≡ Some leads-alone
    own-here =
        ap (λ (x : Seat). x.server) own-turn.tells.seat ∙ ap (λ (x : Server). Some (record x { out = [] })) own-told

    no-messages : first_messages own ≡ []
    no-messages =
        ap (λ (l : List Peer). map (append_to (with_entry (first_entry own) (based own))) (map (start_peer (last own + 1)) l))
        own-none

    own-bag : own-two.group.bag ≡ []
    own-bag =
        own-turn.tells.bag ∙ ap (λ (x : Server). one.group.bag ++ x.out) own-told
        ∙ ap (λ (l : List Rpc). one.group.bag ++ l) (leading.1 ∙ no-messages)
        ∙ append-nil one.group.bag ∙ asks.bag ∙ ap (λ (l : List Rpc). l ++ u.out) fresh.bag ∙ stands.out
        ∙ (fresh.sound.fit.each k s here).out

    own-led : IsLed own leads-alone
    own-led = record {
      role = leading.0.role;
      term = leading.0.term;
      log = leading.0.log;
      op = leading.0.op;
      ops = leading.0.ops;
      op_is = leading.0.op_is;
      noticed = leading.0.noticed;
      commit = (let within = leading.0.commit in
          let long = ap length leading.0.log in
          let most = goes.most (omega (arith, within, long)) in omega (arith, most, long));
      waiting = leading.0.waiting;
      next = leading.0.next;
    }

    own-numbers : map peer_number own.peers ≡ map number (others k members)
    own-numbers = ap (map peer_number) own-none ∙ ap (map peer_number) (sym single) ∙ peers-numbers

    no-others : (j : ℕ) → has_node j members ≡ true → j ≢ k → ⊥
    no-others j is other =
        subst (λ (l : List ℕ). In j l) (sym peers-numbers ∙ ap (map peer_number) single)
        (others-have k j members is other)

    own-settled : (j : ℕ) → j ≢ k → up j ≡ true → IsSettled j own-two
    own-settled j other j_up = (
      record {
        synced = own-turn.tells.synced j other ∙ (settled-one j other).0.synced
            ∙ ap (λ (x : Seat). length x.ops) (sym (own-turn.tells.others j other));
        noticed = ap (λ (x : Seat). x.noticed) (own-turn.tells.others j other) ∙ (settled-one j other).0.noticed
            ∙ ap (λ (x : Seat). length x.ops) (sym (own-turn.tells.others j other));
      },
      λ t is. (settled-one j other).1 t (ap (λ (x : Seat). x.server) (sym (own-turn.tells.others j other)) ∙ is),
    )

    sound-own : IsSound members own-two
    sound-own = sound-all members one (turns up nodes one) sound-one

    own-sends : IsSending members (first_plan members up k) (first_entry own) own-two leads-alone (first_messages own)
    own-sends =
        led-sends members up k own-two own leads-alone fresh.distinct sound-own fresh.members_up member own-standing
        fits.node own-numbers own-led own-here (own-bag ∙ sym no-messages) own-turn.tells.even own-settled
        (λ j other. record {
          fresh = λ gets. absurd (subst (λ (l : List Rpc). In j (receivers l)) no-messages gets);
          heard = λ gone. record {
            follows = λ t is. absurd (no-others j (sound-own.fit.each j t is).member other);
            since = λ t is. absurd (no-others j (sound-own.fit.each j t is).member other);
            alive = λ counts. absurd (no-others j counts other);
            waiting = λ t is. absurd (no-others j (sound-own.fit.each j t is).member other);
            answered = λ counts. absurd (no-others j counts other);
          };
        })

    own-next : next one ≡ own-two
    own-next =
        after-append one (turns up nodes one) (replicate (length own-two.group.bag) (Delivers 0))
        ∙ ap (λ (l : List Rpc). after own-two (replicate (length l) (Delivers 0))) own-bag

    -- two rounds are enough
    pub single-leads : IsLedQuietly members up k (next (next one))
    single-leads =
        subst (λ (r : Queue). IsLedQuietly members up k (next r)) (sym own-next)
        (first-quiet handed members nodes (first_plan members up k) (first_entry own) own-two leads-alone (first_messages own)
        own-sends (λ j j_up. among j j_up) (λ j is. is) own-led.next no-messages)

    -- and one isn't
    pub single-busy : IsSettled k (next one) → ⊥
    single-busy =
        subst (λ (r : Queue). IsSettled k r → ⊥) (sym own-next)
        (committing-busy handed members nodes (first_plan members up k) (first_entry own) own-two leads-alone
        (first_messages own) own-sends (λ j j_up. among j j_up))
