-- What a group promises, by the protocol's promises.
use Rattle.std.proofs.Common.{◌≡◌, ℕ, ◌≤◌, ◌<◌, true, List, [], ◌++◌, length, take, Option, Some, refl, sym, ap, subst, ◌∙◌, arith}
use Rattle.std.proofs.lemmas.Bool.{and_parts, cond-true}
use Rattle.std.proofs.lemmas.List.{length-append, length-take-le, take-append-le}
use Rattle.std.specs.Prelude.{option_map}
use Rattle.qq_base.specs.Fronts.{IsFront}
use Rattle.qq_base.proofs.Fronts.{front-length, front-shorter, front-take, front-trans}
use Rattle.qq_base.proofs.Puts.{put-same}
use Rattle.qq_base.specs.declared.ids.NodeId.{NodeId}
use Rattle.qq_entry.specs.declared.command.Command.{Command}
use Rattle.qq_entry.specs.declared.command.Entry.{Entry}
use Rattle.qq_log.specs.Stable.{Stable, stable}
use Rattle.qq_raft_protocol.specs.Facts.{add, In, Most}
use Rattle.qq_raft_protocol.specs.Moves.{run}
use Rattle.qq_raft_protocol.specs.Safe.{HasVoted, IsSupported}
use Rattle.qq_raft_protocol.specs.World.{Role as ModelRole, Lane, World, lanes}
use Rattle.qq_raft_protocol.proofs.Fewer.{supported-fewer}
use Rattle.qq_raft_protocol.proofs.Logs.{length-add}
use Rattle.qq_raft_protocol.proofs.Majorities.{Most-map}
use Rattle.qq_raft_protocol.proofs.Shades.{shaded-leader, shaded-log}
use Rattle.qq_raft_msg.specs.declared.state.Role.TheVariants.{Leader}
use Rattle.qq_raft_model.specs.Handing.{lane_in, plain_state}
use Rattle.qq_raft_model.specs.Leading.{add_entry, send}
use Rattle.qq_raft_model.specs.Refines.{number, role_of, Stands}
use Rattle.qq_raft_model.specs.Server.{Input, is_ready, step, submit}
use Rattle.qq_raft_model.specs.State.{Server, change, last, is_leader}
use Rattle.qq_raft_model.proofs.Adding.{done-front, is_leader_of}
use Rattle.qq_raft_model.proofs.Handing.{known-all}
use Rattle.qq_raft_model.proofs.Leads.{whole}
use Rattle.qq_raft_model.proofs.Reached.{shaded-there, safe-there}
use Rattle.qq_raft_model.specs.Group.{Event, Group, Seat, feed_by, group_after, happens}
use Rattle.qq_raft_model.specs.Group.Event.{Submit}
use Rattle.qq_raft_model.specs.Promises.{AreDistinct, HasLater, IsLeft, IsUp, members_of}
use Rattle.qq_raft_model.proofs.Feeding.{same_some}
use Rattle.qq_raft_model.proofs.Happening.{group-follows, happens-follows}
use Rattle.qq_raft_model.proofs.Tied.{HasLane, Tied, pending}

-- ---- leaders

stands-leader : {w : World} {k : ℕ} {s : Server} → Stands w k s → s.role ≡ Leader → w.role k ≡ ModelRole.Leader
stands-leader st leads = st.role ∙ ap role_of leads

same-term : {w v : World} {p q : ℕ} {s t : Server} → Stands w p s → Stands v q t → s.term.0 ≡ t.term.0
    → (w.member p).mine.term ≡ (v.member q).mine.term
same-term first second same =
    ap (λ (l : Lane). l.term) first.lane ∙ same ∙ sym (ap (λ (l : Lane). l.term) second.lane)

pub one-leader : {nodes : List NodeId} (w : World) (g : Group) (events : List Event) (p q : ℕ) (s t : Server)
    → AreDistinct nodes → Tied nodes g w → IsUp g p s → IsUp (group_after g events) q t → s.role ≡ Leader
    → t.role ≡ Leader → s.term.0 ≡ t.term.0 → p ≡ q
one-leader {nodes} w g events p q s t distinct tied up there leads other same =
    let f = group-follows events w g distinct tied in
    let first : Stands w p s = ((tied.seats p).up s up).stands in
    let second : Stands (run w f.moves) q t = ((f.tied.seats q).up t there).stands in
    shaded-leader f.moves w (shaded-there (members_of nodes) w tied.reached) f.allowed p q
    (stands-leader first leads) (stands-leader second other) (same-term first second same)

-- ---- what is committed

pub commit-within : {nodes : List NodeId} (w : World) (g : Group) (k : ℕ) (s : Server) → Tied nodes g w → IsUp g k s
    → s.commit ≤ last s
commit-within {nodes} w g k s tied up =
    let st : Stands w k s = ((tied.seats k).up s up).stands in
    let done : IsFront (w.done k) s.log = done-front {members = members_of nodes} tied.reached st in
    let le : length (w.done k) ≤ length s.log = front-length done in
    let same : length (w.done k) ≡ s.commit = st.commit in
    omega (arith, le, same)

-- ---- answers

-- a ready leader that adds a command
submitted : (time : ℕ) (command : Command) (s : Server) → is_ready s ≡ true
    → submit time command s ≡ add_entry (record { term = s.term; time = time; command = command }) s
unfolding submit
submitted time command s ready =
    cond-true (is_ready s) (add_entry (record { term = s.term; time = time; command = command }) s) s ready

added-role : (e : Entry) (s : Server) → (add_entry e s).role ≡ s.role
unfolding add_entry send change
added-role e s = refl

added-term : (e : Entry) (s : Server) → (add_entry e s).term.0 ≡ s.term.0
unfolding add_entry send change
added-term e s = refl

added-log : (e : Entry) (s : Server) → (add_entry e s).log ≡ add s.log e
unfolding add_entry send change
added-log e s = sym (whole s.log e)

-- the server after an input
fed-up : (g : Group) (k : ℕ) (input : Input) (s : Server) → IsUp g k s
    → IsUp (feed_by k input (g.seat k).server g) k (record (step s input) { out = [] })
fed-up g k input s up =
    let t = step s input in
    ap (λ (o : Option Server). ((feed_by k input o g).seat k).server) up
    ∙ ap (λ (x : Seat). x.server)
    (put-same k (record { server = Some (record t { out = [] }); ops = (g.seat k).ops; noticed = t.noticed }) g.seat)

pub answered : {nodes : List NodeId} (w : World) (g : Group) (k time : ℕ) (command : Command) (events : List Event)
    (p : ℕ) (s t : Server) → AreDistinct nodes → Tied nodes g w → IsUp g k s → is_ready s ≡ true
    → IsUp (group_after (happens (Submit k time command) g) events) p t → t.role ≡ Leader → t.term.0 ≡ s.term.0
    → last s < t.commit
    → IsFront (add s.log (record { term = s.term; time = time; command = command }))
    (group_after (happens (Submit k time command) g) events).audit
answered {nodes} w g k time command events p s t distinct tied up ready there leads same reaches =
    let e : Entry = record { term = s.term; time = time; command = command } in
    let h = happens (Submit k time command) g in
    let i = group_after h events in
    let first = happens-follows (Submit k time command) distinct tied in
    let v = run w first.moves in
    let second = group-follows events v h distinct first.tied in
    let z = run v second.moves in
    let u : Server = record (submit time command s) { out = [] } in
    let added : IsUp h k u = fed-up g k (Input.Submit time command) s up in
    let before : Stands v k u = ((first.tied.seats k).up u added).stands in
    let behind : Stands z p t = ((second.tied.seats p).up t there).stands in
    let is = submitted time command s ready in
    let role : u.role ≡ Leader =
    ap (λ (x : Server). x.role) is ∙ added-role e s
    ∙ is_leader_of s.role (and_parts (is_leader s.role) _ ready).0 in
    let term : u.term.0 ≡ t.term.0 =
    ap (λ (x : Server). x.term.0) is ∙ added-term e s ∙ sym same in
    let log : u.log ≡ add s.log e = ap (λ (x : Server). x.log) is ∙ added-log e s in
    let extends : IsFront (v.member k).mine.log (z.member p).mine.log =
    shaded-log second.moves v (shaded-there (members_of nodes) v first.tied.reached) second.allowed k p
    (stands-leader before role) (stands-leader behind leads) (same-term before behind term) in
    let front : IsFront (add s.log e) t.log =
    subst (λ (x : List Entry). IsFront x t.log) (ap (λ (l : Lane). l.log) before.lane ∙ log)
    (subst (λ (x : List Entry). IsFront (v.member k).mine.log x) (ap (λ (l : Lane). l.log) behind.lane) extends) in
    let le : t.commit ≤ last t = commit-within z i p t second.tied there in
    let long : length (take t.commit t.log) ≡ t.commit = length-take-le t.commit t.log le in
    let known : IsFront (take t.commit t.log) i.audit = ((second.tied.seats p).up t there).known in
    front-trans
    (front-shorter front (front-take t.commit t.log) (omega (arith, long, reaches, length-add s.log e))) known

-- ---- what the disks support

-- what a crash may leave is a lane of the member
pub left-lane : {nodes : List NodeId} {w : World} {g : Group} (k : ℕ) (l : Lane) → Tied nodes g w → IsLeft g k l
    → In l (lanes (w.member k))
left-lane {w = w} {g = g} k l tied x =
    let seat = g.seat k in
    let n = x.upto in
    let lost = pending seat.server in
    let handed : n ≤ length seat.ops = x.handed in
    let same : take n (seat.ops ++ lost) ≡ take n seat.ops = take-append-le n seat.ops lost handed in
    let h : HasLane (w.member k) n (take n (seat.ops ++ lost)) =
    (tied.seats k).lanes n x.noticed (omega (arith, handed, length-append seat.ops lost)) in
    let state : x.state ≡ plain_state n h.term h.vote h.log =
    same_some x.state (plain_state n h.term h.vote h.log) (sym x.is ∙ ap stable (sym same) ∙ h.is) in
    let with_log : List Entry → Lane =
    λ (log : List Entry). record { op = n; term = h.term.0; vote = option_map number h.vote; log = log } in
    let is : l ≡ with_log h.log = x.lane_is ∙ ap lane_in state ∙ ap with_log (known-all h.log) in
    subst (λ (y : Lane). In y (lanes (w.member k))) (sym is) h.here

pub leaves-lane : {nodes : List NodeId} (w : World) (g : Group) (k upto : ℕ) → Tied nodes g w
    → (g.seat k).noticed ≤ upto → upto ≤ length (g.seat k).ops
    → (lane : Lane) × (lane.op ≡ upto) × IsLeft g k lane
leaves-lane w g k upto tied late handed =
    let seat = g.seat k in
    let lost = pending seat.server in
    let h : HasLane (w.member k) upto (take upto (seat.ops ++ lost)) =
    (tied.seats k).lanes upto late (omega (arith, handed, length-append seat.ops lost)) in
    let state : Stable = plain_state upto h.term h.vote h.log in (
      lane_in state,
      refl,
      record {
        upto = upto;
        noticed = late;
        handed = handed;
        state = state;
        is = ap stable (sym (take-append-le upto seat.ops lost handed)) ∙ h.is;
        lane_is = refl;
      },
    )

pub supported : {nodes : List NodeId} {audit : List Entry} (w : World) (g : Group) → Tied nodes g w
    → IsFront audit w.audit → IsSupported (members_of nodes) (IsLeft g) audit
supported {nodes} w g tied front =
    supported-fewer (λ q l here. left-lane q l tied here) front
    (safe-there (members_of nodes) w tied.reached).supported

-- ---- the same in words

-- a majority of the logs that are left has each entry of the audit, and so has each that is of a later term
pub majority-left : {members : List ℕ} {L : ℕ → Lane → Type 0} {audit : List Entry} (lane : ℕ → Lane)
    (a : List Entry) (e : Entry) → IsSupported members L audit → ((q : ℕ) → L q (lane q))
    → IsFront (add a e) audit
    → (b : List Entry) × (f : Entry) × IsFront (add a e) (add b f) ×
    Most members (λ q. IsFront (add b f) (lane q).log) ×
    ((q : ℕ) → HasLater f.term.0 (lane q).log → IsFront (add b f) (lane q).log)
majority-left lane a e s each front =
    let c = s.carried (add a e) front a e refl in (
      c.before,
      c.entry,
      c.front,
      Most-map (λ q has. has (lane q) (each q)) c.majority,
      λ q x. c.later q (lane q) (each q) x.0 x.1 x.3 x.2,
    )

-- a term of an entry has a node that a majority voted for
pub votes-left : {members : List ℕ} {L : ℕ → Lane → Type 0} {audit : List Entry} (lane : ℕ → Lane) (k : ℕ)
    (e : Entry) → IsSupported members L audit → ((q : ℕ) → L q (lane q)) → In e (lane k).log
    → (node : ℕ) × (e.term.0 ≤ (lane node).term) × Most members (λ q. HasVoted e.term.0 node (lane q))
votes-left lane k e s each here =
    let c = s.elected k (lane k) (each k) e here in
    (c.node, c.own (lane c.node) (each c.node), Most-map (λ q voted. voted (lane q) (each q)) c.majority)
