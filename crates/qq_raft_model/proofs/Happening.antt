-- Each event is moves of the protocol, and so is each list of events.
use Rattle.std.proofs.Common.{◌≡◌, ◌⊎◌, ℕ, ◌+◌, ◌≤◌, true, leb, List, [], ◌∷◌, ◌++◌, length, take, drop, Option, Some, None, refl, sym, ap, subst, ◌∙◌, append_assoc, arith, inl, inr}
use Rattle.std.proofs.lemmas.Bool.{cond_both, leb-true}
use Rattle.std.proofs.lemmas.List.{length-append, take-append-le, take-append-drop}
use Rattle.qq_base.proofs.Fronts.{front-refl}
use Rattle.qq_base.proofs.Puts.{put-each}
use Rattle.qq_base.specs.declared.ids.NodeId.{NodeId}
use Rattle.qq_entry.specs.declared.command.Command.{Command}
use Rattle.qq_entry.specs.declared.command.Entry.{Entry}
use Rattle.qq_log.specs.declared.op.Op.{Op}
use Rattle.qq_log.specs.Stable.{stable}
use Rattle.qq_raft_protocol.specs.Facts.{In}
use Rattle.qq_raft_protocol.specs.World.{Member, World}
use Rattle.qq_raft_protocol.proofs.Lists.{In-append, In-left}
use Rattle.qq_raft_msg.specs.Rpc.{envelope}
use Rattle.qq_raft_msg.specs.declared.rpc.Rpc.{Rpc}
use Rattle.qq_raft_model.specs.Refines.{entry_of, Stands}
use Rattle.qq_raft_model.specs.Server.{Input, is_ready}
use Rattle.qq_raft_model.specs.State.{Server}
use Rattle.qq_raft_model.specs.Group.{Event, Group, Seat, deliver_by, feed, group_after, happens, may_restart, restart_by, take_by, take_op}
use Rattle.qq_raft_model.specs.Group.Event.{Tick, Submit, Add, Flush, Deliver, Lose, Copy, Take, Notice, Crash, Restart}
use Rattle.qq_raft_model.specs.Promises.{AreDistinct, IsSubmitted, members_of}
use Rattle.qq_raft_model.proofs.Feeding.{feed-follows, same_some}
use Rattle.qq_raft_model.proofs.GroupRestarting.{restart-follows}
use Rattle.qq_raft_model.proofs.Tied.{HasLane, HasLanes, IsTied, IsSeat, Tied, Follows, In-drop, In-right, In-take, follows-refl, follows-then, follows-weaker, pending, tied-bag}

-- ---- messages

still-in : (r : Rpc) (at next : ℕ) (bag : List Rpc) → In r (take at bag ++ drop next bag) → In r bag
still-in r at next bag here = elim (In-append r (take at bag) (drop next bag) here) [
  | inl before ↦ In-take r at bag before
  | inr behind ↦ In-drop r next bag behind
]

copied-in : (r : Rpc) (at : ℕ) (bag : List Rpc) → In r (bag ++ take 1 (drop at bag)) → In r bag
copied-in r at bag here = elim (In-append r bag (take 1 (drop at bag)) here) [
  | inl old ↦ old
  | inr again ↦ In-drop r at bag (In-take r 1 (drop at bag) again)
]

-- what lies before and behind a message, and it itself
found-in : (r : Rpc) (at : ℕ) (bag behind : List Rpc) → drop at bag ≡ behind → In r (take at bag ++ behind)
    → In r bag
found-in r at bag behind is here =
    subst (λ (l : List Rpc). In r l)
    (ap (λ (l : List Rpc). take at bag ++ l) (sym is) ∙ take-append-drop at bag) here

bag-follows : {nodes : List NodeId} {S : List Entry → Entry → Type 0} {w : World} {g : Group} (bag : List Rpc)
    → Tied nodes g w
    → ((r : Rpc) → In r bag → In r g.bag) → Follows nodes S w g (record g { bag = bag })
bag-follows {g = g} bag tied each =
    record { moves = []; allowed = tt; sourced = tt; tied = tied-bag bag tied each; audit = front-refl g.audit }

deliver-follows : {nodes : List NodeId} {w : World} {g : Group} (S : List Entry → Entry → Type 0) (at : ℕ)
    (behind : List Rpc) → Tied nodes g w
    → drop at g.bag ≡ behind → Follows nodes S w g (deliver_by (take at g.bag) behind g)
deliver-follows S at [] tied is = follows-refl tied
deliver-follows {nodes} {w} {g} S at (rpc ∷ behind) tied is =
    let before = take at g.bag in
    let rest : Group = record g { bag = before ++ behind } in
    let fewer : (r : Rpc) → In r (before ++ behind) → In r g.bag =
    λ r here. found-in r at g.bag (rpc ∷ behind) is (elim (In-append r before behind here) [
      | inl first ↦ In-left r before (rpc ∷ behind) first
      | inr later ↦ In-right r before (rpc ∷ behind) (inr later)
    ]) in
    let way = tied.bag rpc (found-in rpc at g.bag (rpc ∷ behind) is (In-right rpc before (rpc ∷ behind) (inl refl))) in
    let f : Follows nodes S w rest (feed (envelope rpc).to.0 (Input.Receive rpc) rest) =
    feed-follows S (envelope rpc).to.0 (Input.Receive rpc) (tied-bag (before ++ behind) tied fewer)
    (λ s up. ((refl, way), tt)) in
    record { moves = f.moves; allowed = f.allowed; sourced = f.sourced; tied = f.tied; audit = f.audit }

-- ---- logs

-- a server whose ops were taken
taken-stands : {w : World} {k : ℕ} {s : Server} (ops : List Op) → Stands w k s → Stands w k (record s { ops = ops })
taken-stands ops st = record {
  node = st.node;
  lane = st.lane;
  noticed = st.noticed;
  role = st.role;
  commit = st.commit;
  own_vote = st.own_vote;
  votes = st.votes;
  matches = st.matches;
  within = st.within;
  itself = st.itself;
  waiting = st.waiting;
  out = st.out;
}

take_by-follows : {nodes : List NodeId} {S : List Entry → Entry → Type 0} {w : World} {g : Group} (k : ℕ)
    (s : Server) (left : List Op)
    → Tied nodes g w → (g.seat k).server ≡ Some s → s.ops ≡ left → Follows nodes S w g (take_by k s left g)
take_by-follows k s [] tied is ops = follows-refl tied
take_by-follows {nodes} {S} {w} {g} k s (op ∷ left) tied is ops =
    let seat = g.seat k in
    let old = (tied.seats k).up s is in
    let list : (seat.ops ++ op ∷ []) ++ left ≡ seat.ops ++ s.ops =
    append_assoc seat.ops (op ∷ []) left ∙ ap (λ (l : List Op). seat.ops ++ l) (sym ops) in
    let lanes : HasLanes (w.member k) seat.noticed (seat.ops ++ s.ops) =
    subst (λ (o : Option Server). HasLanes (w.member k) seat.noticed (seat.ops ++ pending o)) is (tied.seats k).lanes in
    let next : Seat =
    record { server = Some (record s { ops = left }); ops = seat.ops ++ op ∷ []; noticed = seat.noticed } in
    record {
      moves = [];
      allowed = tt;
      sourced = tt;
      tied = record {
        reached = tied.reached;
        nodes_are = tied.nodes_are;
        seats =
            put-each (λ i x. IsSeat (members_of nodes) w g.audit i x) k next g.seat
            (record {
              up = λ u e.
                  subst (IsTied (members_of nodes) w k (seat.ops ++ op ∷ []) seat.noticed g.audit)
                  (same_some (record s { ops = left }) u e) (record {
                    stands = taken-stands left old.stands;
                    group = old.group;
                    holds = ap stable list ∙ old.holds;
                    count = old.count ∙ ap length (sym list);
                    noticed_is = old.noticed_is;
                    known = old.known;
                  });
              lanes = subst (λ (l : List Op). HasLanes (w.member k) seat.noticed l) (sym list) lanes;
            })
            (λ i other. tied.seats i);
        bag = tied.bag;
        audit = tied.audit;
      };
      audit = front-refl g.audit;
    }

take-follows : {nodes : List NodeId} {S : List Entry → Entry → Type 0} {w : World} {g : Group} (k : ℕ)
    (o : Option Server) → Tied nodes g w
    → (g.seat k).server ≡ o → Follows nodes S w g (take_op k o g)
take-follows k None tied is = follows-refl tied
take-follows k (Some s) tied is = take_by-follows k s s.ops tied is refl

pub none_some : {A : Type 0} (a : A) → None ≡ Some a → ⊥
none_some a e = absurd cc

-- what its log was handed is left
crashed-lanes : {m : Member} (noticed : ℕ) (ops lost : List Op) → HasLanes m noticed (ops ++ lost)
    → HasLanes m noticed (ops ++ [])
crashed-lanes {m = m} noticed ops lost lanes n late within =
    let few : n ≤ length ops = omega (arith, within, length-append ops []) in
    let same : take n (ops ++ lost) ≡ take n (ops ++ []) =
    take-append-le n ops lost few ∙ sym (take-append-le n ops [] few) in
    subst (λ (l : List Op). HasLane m n l) same
    (lanes n late (omega (arith, few, length-append ops lost)))

crash-follows : {nodes : List NodeId} {S : List Entry → Entry → Type 0} {w : World} {g : Group} (k : ℕ) → Tied nodes g w
    → Follows nodes S w g (happens (Crash k) g)
crash-follows {nodes} {S} {w} {g} k tied =
    let seat = g.seat k in
    let next : Seat = record { server = None; ops = seat.ops; noticed = seat.noticed } in
    record {
      moves = [];
      allowed = tt;
      sourced = tt;
      tied = record {
        reached = tied.reached;
        nodes_are = tied.nodes_are;
        seats =
            put-each (λ i x. IsSeat (members_of nodes) w g.audit i x) k next g.seat
            (record {
              up = λ u e. absurd (none_some u e);
              lanes = crashed-lanes seat.noticed seat.ops (pending seat.server) (tied.seats k).lanes;
            })
            (λ i other. tied.seats i);
        bag = tied.bag;
        audit = tied.audit;
      };
      audit = front-refl g.audit;
    }

-- ---- any event

-- an op that the log was handed is one of the server's
handed-within : {nodes : List NodeId} {w : World} {g : Group} (k op : ℕ) (s : Server) → Tied nodes g w
    → (g.seat k).server ≡ Some s → op ≤ length (g.seat k).ops → op ≤ s.op
handed-within {g = g} k op s tied is le =
    let count : s.op ≡ length ((g.seat k).ops ++ s.ops) = ((tied.seats k).up s is).count in
    omega (arith, le, count, length-append (g.seat k).ops s.ops)

-- what a command that reaches a server may add
given-takes : (g : Group) (k time : ℕ) (command : Command) (event : Event)
    → (event ≡ Submit k time command) ⊎ (event ≡ Add k time command) → (s : Server) → (g.seat k).server ≡ Some s
    → is_ready s ≡ true → IsSubmitted g (event ∷ []) s.log (entry_of time command s)
given-takes g k time command event gives s up ready = record {
  first = [];
  node = k;
  event = event;
  gives = gives;
  rest = [];
  is = refl;
  server = s;
  up = up;
  ready = ready;
  term = refl;
  log = refl;
}

pub happens-follows : {nodes : List NodeId} {w : World} {g : Group} (e : Event) → AreDistinct nodes
    → Tied nodes g w → Follows nodes (IsSubmitted g (e ∷ [])) w g (happens e g)
happens-follows {g = g} (Tick k) distinct tied =
    feed-follows (IsSubmitted g (Tick k ∷ [])) k Input.Tick tied (λ s up. (tt, tt))
happens-follows {g = g} (Submit k time command) distinct tied =
    feed-follows (IsSubmitted g (Submit k time command ∷ [])) k (Input.Submit time command) tied
    (λ s up. (tt, given-takes g k time command (Submit k time command) (inl refl) s up))
happens-follows {g = g} (Add k time command) distinct tied =
    feed-follows (IsSubmitted g (Add k time command ∷ [])) k (Input.Add time command) tied
    (λ s up. (tt, given-takes g k time command (Add k time command) (inr refl) s up))
happens-follows {g = g} (Flush k) distinct tied =
    feed-follows (IsSubmitted g (Flush k ∷ [])) k Input.Flush tied (λ s up. (tt, tt))
happens-follows {g = g} (Deliver at) distinct tied =
    deliver-follows (IsSubmitted g (Deliver at ∷ [])) at (drop at g.bag) tied refl
happens-follows {g = g} (Lose at) distinct tied =
    bag-follows (take at g.bag ++ drop (at + 1) g.bag) tied (λ r here. still-in r at (at + 1) g.bag here)
happens-follows {g = g} (Copy at) distinct tied =
    bag-follows (g.bag ++ take 1 (drop at g.bag)) tied (λ r here. copied-in r at g.bag here)
happens-follows {g = g} (Take k) distinct tied = take-follows k (g.seat k).server tied refl
happens-follows {nodes} {w} {g} (Notice k op) distinct tied =
    cond_both (leb op (length (g.seat k).ops)) (feed k (Input.Notice op) g) g
    (Follows nodes (IsSubmitted g (Notice k op ∷ [])) w g)
    (λ e.
    feed-follows (IsSubmitted g (Notice k op ∷ [])) k (Input.Notice op) tied (λ s up.
    (handed-within k op s tied up (leb-true op (length (g.seat k).ops) e), tt)))
    (λ _. follows-refl tied)
happens-follows (Crash k) distinct tied = crash-follows k tied
happens-follows {nodes} {w} {g} (Restart k op) distinct tied =
    cond_both (may_restart k op g) (restart_by k op (stable (take op (g.seat k).ops)) g) g
    (Follows nodes (IsSubmitted g (Restart k op ∷ [])) w g)
    (λ may. restart-follows k op tied distinct may) (λ _. follows-refl tied)

-- ---- any events

submitted-now : (g : Group) (x : Event) (events : List Event) (a : List Entry) (e : Entry)
    → IsSubmitted g (x ∷ []) a e → IsSubmitted g (x ∷ events) a e
submitted-now g x events a e y = record {
  first = y.first;
  node = y.node;
  event = y.event;
  gives = y.gives;
  rest = y.rest ++ events;
  is = ap (λ (es : List Event). es ++ events) y.is ∙ append_assoc y.first (y.event ∷ y.rest) events;
  server = y.server;
  up = y.up;
  ready = y.ready;
  term = y.term;
  log = y.log;
}

submitted-later : (g : Group) (x : Event) (events : List Event) (a : List Entry) (e : Entry)
    → IsSubmitted (happens x g) events a e → IsSubmitted g (x ∷ events) a e
submitted-later g x events a e y = record {
  first = x ∷ y.first;
  node = y.node;
  event = y.event;
  gives = y.gives;
  rest = y.rest;
  is = ap (λ (es : List Event). x ∷ es) y.is;
  server = y.server;
  up = y.up;
  ready = y.ready;
  term = y.term;
  log = y.log;
}

pub group-follows : {nodes : List NodeId} (events : List Event) (w : World) (g : Group) → AreDistinct nodes
    → Tied nodes g w → Follows nodes (IsSubmitted g events) w g (group_after g events)
group-follows [] w g distinct tied = follows-refl tied
group-follows (e ∷ events) w g distinct tied =
    follows-then {i = group_after g (e ∷ events)}
    (follows-weaker (λ a x y. submitted-now g e events a x y) (happens-follows e distinct tied)) (λ v there.
    follows-weaker (λ a x y. submitted-later g e events a x y) (group-follows events v (happens e g) distinct there))
