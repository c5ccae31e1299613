-- What an event makes of a queue that its code stands for.
use Rattle.std.proofs.Common.{◌≡◌, ℕ, zero, suc, ◌-◌, ◌<◌, List, [], ◌∷◌, ◌++◌, length, drop, Option, Some, None, refl, sym, ap, subst, ◌∙◌, append-nil, arith}
use Rattle.std.specs.Prelude.{nat_le, slice_get}
use Rattle.std.proofs.lemmas.Bool.{cond_both}
use Rattle.std.proofs.lemmas.Option.{none-some}
use Rattle.qq_entry.specs.declared.audit.AuditRow.{AuditRow}
use Rattle.qq_entry.specs.declared.audit.Effect.{Effect}
use Rattle.qq_entry.specs.declared.queue.QueueArgs.{QueueArgs}
use Rattle.qq_raft_model.specs.Group.{Event as Move, Group as GroupState, feed, feed_by, group_after, happens as moved}
use Rattle.qq_raft_model.specs.Group.Event.{Copy, Deliver, Lose, Notice}
use Rattle.qq_raft_model.specs.Server.{Input}
use Rattle.qq_raft_model.specs.State.{Server as Raft}
use Rattle.qq_raft_msg.specs.Bag.{at_place}
use Rattle.qq_raft_msg.specs.declared.rpc.Rpc.{Rpc}
use Rattle.qq_raft.specs.declared.row.AppliedRow.{AppliedRow}
use Rattle.qq_group.specs.Group.{Represents, server_at}
use Rattle.qq_group.specs.Reads.{receiver_of}
use Rattle.qq_session.specs.Clients.{Clients, hear_all, printed}
use Rattle.qq_session.specs.declared.shown.Shown.{Shown}
use Rattle.qq_taker.specs.declared.handed.Handed.{Handed}
use Rattle.qq_taker.specs.declared.seats.Seat.{Seat}
use Rattle.qq_cluster_model.specs.Delivering.{come_all, hand_all}
use Rattle.qq_cluster_model.specs.Taking.{answers, delivered, seated, told_then, waiting_then}
use Rattle.qq_cluster_model.specs.Queue.{Queue, Event, Copies, Delivers, Loses, Notices, acts, effects_shown, effects_told, group_then, handed_out, happens, known, moves, receiver_by, rows_told, said, seats_after, stepping, synced_after, told, untold_after}
use Rattle.qq_queue.specs.ClusterQueue.{Becomes, Stands, count_at}
use Rattle.qq_queue.specs.Telling.{HasTold}
use Rattle.qq_queue.specs.Members.{AreTold, IsGroupOf, Makes, Member, Members, StayDown, audit_rows_of, effects_in, move_at, number_of, own_log}
use Rattle.qq_queue.specs.Sessions.{Standings, clients_of, numbers_of}
use Rattle.qq_queue.specs.declared.cluster_queue.ClusterQueue.{ClusterQueue}
use Rattle.qq_queue.proofs.Members.{raft_of, seat-is}
use Rattle.qq_queue.proofs.Showing.{shows-of}

-- ---- any event that syncs and finds nothing

-- who is up behind such an event was up before
was-up : (old new : Members) → StayDown old new → (k : ℕ) (t : Member) → server_at k new ≡ Some t
    → (s : Member) × (server_at k old ≡ Some s)
was-up old new stay k t up = by (server_at k old) refl
  where
    by : (o : Option Member) → server_at k old ≡ o → (s : Member) × (server_at k old ≡ Some s)
    by None is = absurd (none-some t (sym (stay k is) ∙ up))
    by (Some s) is = (s, is)

-- who has a taker then, and what waits
pub record HasTakers (q : Queue) (event : Event) (new : ClusterQueue) : Type 0 where
  pub seats : seats_after q event ≡ new.seats
  pub untold : untold_after q event ≡ new.untold

pub stands-then : (sessions : Standings) (old new : ClusterQueue) (q : Queue) (event : Event) → Stands sessions old q
    → IsGroupOf old.args (group_then q event) new.group × StayDown old.group new.group → new.args ≡ old.args
    → (happens q event).clients ≡ clients_of sessions (numbers_of new.publishers)
    → (happens q event).consumers ≡ new.consumers → HasTakers q event new → new.synced ≡ old.synced
    → synced_after q event ≡ q.synced → Stands sessions new (happens q event)
stands-then sessions old new q event st group args clients consumers takers synced same = record {
  args = st.args ∙ sym args;
  clients = clients;
  consumers = consumers;
  seats = takers.seats;
  untold = takers.untold;
  group = subst (λ (a : QueueArgs). IsGroupOf a (group_then q event) new.group) (sym args) group.0;
  synced = λ k t up.
      let s = was-up old.group new.group group.1 k t up in
      ap (λ (f : ℕ → ℕ). f k) same ∙ st.synced k s.0 s.1
      ∙ ap (λ (c : _). count_at c.each k) (sym synced);
}

-- ---- events at which nothing is answered or handed out

pub waits-nothing : (waiting : List Handed) (seats : List Seat) → waiting_then waiting seats [] ≡ waiting
waits-nothing [] seats = refl
waits-nothing (h ∷ more) seats = ap (λ (l : List Handed). h ∷ l) (append-nil more)

pub tells-nothing : (waiting : List Handed) (seats : List Seat) → delivered (told_then waiting seats []) ≡ []
tells-nothing [] seats = refl
tells-nothing (h ∷ more) seats = refl

-- takers stay as they are
pub record KeepsTakers (q : Queue) (event : Event) : Type 0 where
  pub seats : seats_after q event ≡ q.seats
  pub untold : untold_after q event ≡ q.untold

pub keeps-takers : (sessions : Standings) (old new : ClusterQueue) (q : Queue) (event : Event) → Stands sessions old q
    → KeepsTakers q event → new.seats ≡ old.seats → new.untold ≡ old.untold → HasTakers q event new
keeps-takers sessions old new q event st keeps seats untold = record {
  seats = keeps.seats ∙ st.seats ∙ sym seats;
  untold = keeps.untold ∙ st.untold ∙ sym untold;
}

-- ---- events that show nothing, and that no client hears

-- an event is these moves of the group, and nothing else
pub record IsPlain (event : Event) (made : List Move) : Type 0 where
  pub moves_are : (q : Queue) → moves q event ≡ made
  pub clients_are : (q : Queue) → (happens q event).clients ≡ q.clients
  pub consumers_are : (q : Queue) → (happens q event).consumers ≡ q.consumers
  pub takers_are : (q : Queue) → KeepsTakers q event
  pub synced_is : (q : Queue) → synced_after q event ≡ q.synced
  pub silent : (q : Queue) → said q event ≡ []

pub plain-becomes : (event : Event) (made : List Move) (old new : ClusterQueue) → IsPlain event made
    → Makes made old.group new.group → new.args ≡ old.args → new.publishers ≡ old.publishers
    → new.consumers ≡ old.consumers → new.seats ≡ old.seats → new.untold ≡ old.untold → new.synced ≡ old.synced
    → Becomes event old new
plain-becomes event made old new plain makes args publishers consumers seats untold synced = λ sessions q st.
    let group = makes old.args q.group st.group in (
      stands-then sessions old new q event st (
        subst (λ (l : List Move). IsGroupOf old.args (group_after q.group l) new.group) (sym (plain.moves_are q)) group.0,
        group.1,
      ) args
          (plain.clients_are q ∙ st.clients ∙ ap (λ (p : _). clients_of sessions (numbers_of p)) (sym publishers))
          (plain.consumers_are q ∙ st.consumers ∙ sym consumers)
          (keeps-takers sessions old new q event st (plain.takers_are q) seats untold) synced (plain.synced_is q),
      plain.silent q,
    )

pub lose-plain : (place : ℕ) → 0 < place → IsPlain (Loses (place - 1)) (move_at Lose place)
lose-plain zero positive = absurd (omega (arith, positive))
lose-plain (suc at) positive =
    let same : suc at - 1 ≡ at = omega arith in
    subst (λ (n : ℕ). IsPlain (Loses n) (Lose at ∷ [])) (sym same)
    (record {
      moves_are = λ q. refl;
      clients_are = λ q. refl;
      consumers_are = λ q. refl;
      takers_are = λ q. record { seats = refl; untold = waits-nothing q.untold q.seats };
      synced_is = λ q. refl;
      silent = λ q. tells-nothing q.untold q.seats;
    })

pub copy-plain : (place : ℕ) → 0 < place → IsPlain (Copies (place - 1)) (move_at Copy place)
copy-plain zero positive = absurd (omega (arith, positive))
copy-plain (suc at) positive =
    let same : suc at - 1 ≡ at = omega arith in
    subst (λ (n : ℕ). IsPlain (Copies n) (Copy at ∷ [])) (sym same)
    (record {
      moves_are = λ q. refl;
      clients_are = λ q. refl;
      consumers_are = λ q. refl;
      takers_are = λ q. record { seats = refl; untold = waits-nothing q.untold q.seats };
      synced_is = λ q. refl;
      silent = λ q. tells-nothing q.untold q.seats;
    })

-- ---- events that tell

-- an event that tells the clients what a member applies
pub record IsTelling (event : Event) (q : Queue) (made : List Move) (k : Option ℕ) : Type 0 where
  pub group_is : group_then q event ≡ group_after q.group made
  pub member : stepping q event ≡ k
  pub acts_none : acts event q.clients ≡ q.clients
  pub known_none : known q.clients event q.consumers ≡ q.consumers
  pub shown_is : effects_shown q event ≡ effects_told q event
  pub seats_is : seats_after q event ≡ seated q.seats (printed (rows_told q event) q.clients)
  pub untold_is : untold_after q event ≡ waiting_then q.untold (seats_after q event) (handed_out q event)
  pub synced_is : synced_after q event ≡ q.synced
  pub says : said q event ≡ told q event

rows-are : (sessions : Standings) (old : ClusterQueue) (q : Queue) (event : Event) (made : List Move) (k : Option ℕ)
    (rows : List AppliedRow) → Stands sessions old q → IsTelling event q made k
    → AreTold k old.args q.group (group_after q.group made) rows
    → AreTold (stepping q event) q.args q.group (group_then q event) rows
rows-are sessions old q event made k rows st t a =
    subst (λ (args : QueueArgs). AreTold (stepping q event) args q.group (group_then q event) rows) (sym st.args)
    (subst (λ (j : Option ℕ). AreTold j old.args q.group (group_then q event) rows) (sym t.member)
    (subst (λ (h : GroupState). AreTold k old.args q.group h rows) (sym t.group_is) a))

-- the members have made these moves, and the clients have heard what that told
pub telling-does : (sessions : Standings) (old new : ClusterQueue) (made-group : Members) (q : Queue) (event : Event)
    (made : List Move) (k : Option ℕ) (rows : List AppliedRow) (before after : List Shown) → Stands sessions old q
    → IsTelling event q made k → Makes made old.group made-group
    → AreTold k old.args q.group (group_after q.group made) rows
    → HasTold sessions rows (record old { group = made-group }) new before after
    → Stands sessions new (happens q event) × (after ≡ before ++ said q event)
telling-does sessions old new made-group q event made k rows before after st t makes' a told' =
    let mid : ClusterQueue = record old { group = made-group } in
    let grouped : new.group ≡ made-group = ap (λ (d : ClusterQueue). d.group) told'.rest in
    let makes : Makes made old.group new.group = subst (Makes made old.group) (sym grouped) makes' in
    let args : new.args ≡ old.args = ap (λ (d : ClusterQueue). d.args) told'.rest in
    let synced : new.synced ≡ old.synced = ap (λ (d : ClusterQueue). d.synced) told'.rest in
    let group = makes old.args q.group st.group in
    let rows' : AreTold (stepping q event) q.args q.group (group_then q event) rows =
    rows-are sessions old q event made k rows st t a in
    let own : Clients = clients_of sessions (numbers_of old.publishers) in
    let effects : effects_shown q event ≡ effects_in rows =
    t.shown_is ∙ sym rows'.effects_are in
    let known' : known q.clients event q.consumers ≡ old.consumers = t.known_none ∙ st.consumers in
    let answered : printed (rows_told q event) q.clients ≡ printed (audit_rows_of rows) own =
    ap (printed (rows_told q event)) st.clients
    ∙ ap (λ (l : List AuditRow). printed l own) (sym rows'.rows_are) in
    let handed : handed_out q event ≡ hand_all own (effects_in rows) old.consumers =
    ap (λ (c : Clients). hand_all c (effects_shown q event) (known q.clients event q.consumers)) st.clients
    ∙ ap (λ (l : List Effect). hand_all own l (known q.clients event q.consumers)) effects
    ∙ ap (hand_all own (effects_in rows)) known' in
    let seats : seats_after q event ≡ new.seats =
    t.seats_is ∙ ap (seated q.seats) answered
    ∙ ap (λ (l : List Seat). seated l (printed (audit_rows_of rows) own)) st.seats ∙ sym told'.seats in
    let untold : untold_after q event ≡ new.untold =
    t.untold_is ∙ ap (λ (l : List Handed). waiting_then l (seats_after q event) (handed_out q event)) st.untold
    ∙ ap (λ (l : List Seat). waiting_then old.untold l (handed_out q event)) seats
    ∙ ap (waiting_then old.untold new.seats) handed ∙ sym told'.untold in (
      stands-then sessions old new q event st
          (subst (λ (h : GroupState). IsGroupOf old.args h new.group) (sym t.group_is) group.0, group.1) args
          (ap (hear_all (rows_told q event)) (t.acts_none ∙ st.clients)
          ∙ ap (λ (l : List AuditRow). hear_all l own) (sym rows'.rows_are) ∙ sym told'.heard)
          (ap (λ (c : Clients). come_all c (effects_shown q event) (known q.clients event q.consumers)) st.clients
          ∙ ap (come_all own (effects_shown q event)) known'
          ∙ ap (λ (l : List Effect). come_all own l old.consumers) effects ∙ sym told'.came)
          (record { seats = seats; untold = untold }) synced t.synced_is,
      shows-of (answers old.seats (printed (audit_rows_of rows) own)
          ++ delivered (told_then old.untold new.seats (hand_all own (effects_in rows) old.consumers))) (said q event)
          before after
          (t.says
          ∙ ap (λ (l : List AuditRow). answers q.seats l
          ++ delivered (told_then q.untold (seats_after q event) (handed_out q event))) answered
          ∙ ap (λ (l : List Seat). answers l (printed (audit_rows_of rows) own)
          ++ delivered (told_then q.untold (seats_after q event) (handed_out q event))) st.seats
          ∙ ap (λ (l : List Handed). answers old.seats (printed (audit_rows_of rows) own)
          ++ delivered (told_then l (seats_after q event) (handed_out q event))) st.untold
          ∙ ap (λ (l : List Seat). answers old.seats (printed (audit_rows_of rows) own)
          ++ delivered (told_then old.untold l (handed_out q event))) seats
          ∙ ap (λ (l : List Handed). answers old.seats (printed (audit_rows_of rows) own)
          ++ delivered (told_then old.untold new.seats l)) handed)
          told'.said,
    )

-- ---- notices

feed-none : (k : ℕ) (input : Input) (g : GroupState) → (g.seat k).server ≡ None → feed k input g ≡ g
feed-none k input g down = ap (λ (o : Option Raft). feed_by k input o g) down

notice-none : (k op : ℕ) (g : GroupState) → (g.seat k).server ≡ None → moved (Notice k op) g ≡ g
notice-none k op g down =
    cond_both (nat_le op (length (g.seat k).ops)) (feed k (Input.Notice op) g) g (λ (h : GroupState). h ≡ g)
    (λ _. feed-none k (Input.Notice op) g down) (λ _. refl)

-- a member that is down notices nothing
pub same-notice : (sessions : Standings) (old : ClusterQueue) (q : Queue) (k : ℕ) → Stands sessions old q
    → moved (Notice k (q.synced k)) q.group ≡ moved (Notice k (count_at old.synced.each k)) q.group
same-notice sessions old q k st = by (server_at k old.group) refl
  where
    by : (o : Option Member) → server_at k old.group ≡ o
        → moved (Notice k (q.synced k)) q.group ≡ moved (Notice k (count_at old.synced.each k)) q.group
    by None is =
        let down : (q.group.seat k).server ≡ None =
        seat-is q.group old.group k st.group.represents ∙ ap raft_of is in
        notice-none k (q.synced k) q.group down ∙ sym (notice-none k (count_at old.synced.each k) q.group down)
    by (Some s) is = ap (λ (op : ℕ). moved (Notice k op) q.group) (st.synced k s is)

pub notice-telling : (sessions : Standings) (old : ClusterQueue) (q : Queue) (k op : ℕ) → Stands sessions old q
    → op ≡ count_at old.synced.each k → IsTelling (Notices k) q (Notice k op ∷ []) (Some k)
notice-telling sessions old q k op st is = record {
  group_is = same-notice sessions old q k st ∙ ap (λ (n : ℕ). moved (Notice k n) q.group) (sym is);
  member = refl;
  acts_none = refl;
  known_none = refl;
  shown_is = refl;
  seats_is = refl;
  untold_is = refl;
  synced_is = refl;
  says = refl;
}

-- ---- deliveries

receiver-is : (bag : List Rpc) (at : ℕ) → receiver_by (drop at bag) ≡ number_of (receiver_of (slice_get bag at))
receiver-is [] zero = refl
receiver-is [] (suc at) = refl
receiver-is (rpc ∷ bag) zero = refl
receiver-is (rpc ∷ bag) (suc at) = receiver-is bag at

pub receiver-at : (g : GroupState) (group : Members) (place : ℕ) → Represents own_log g group → 0 < place
    → number_of (receiver_of (at_place place group.bag)) ≡ receiver_by (drop (place - 1) g.bag)
receiver-at g group zero r positive = absurd (omega (arith, positive))
receiver-at g group (suc at) r positive =
    let same : suc at - 1 ≡ at = omega arith in
    ap (λ (bag : List Rpc). number_of (receiver_of (slice_get bag at))) (sym r.bag) ∙ sym (receiver-is g.bag at)
    ∙ ap (λ (n : ℕ). receiver_by (drop n g.bag)) (sym same)

pub deliver-telling : (sessions : Standings) (old : ClusterQueue) (q : Queue) (place : ℕ) → Stands sessions old q
    → 0 < place
    → IsTelling (Delivers (place - 1)) q (move_at Deliver place)
    (number_of (receiver_of (at_place place old.group.bag)))
deliver-telling sessions old q zero st positive = absurd (omega (arith, positive))
deliver-telling sessions old q (suc at) st positive =
    let same : suc at - 1 ≡ at = omega arith in
    subst (λ (n : ℕ). IsTelling (Delivers n) q (Deliver at ∷ [])
    (number_of (receiver_of (slice_get old.group.bag at)))) (sym same)
    (record {
      group_is = refl;
      member = receiver-is q.group.bag at
          ∙ ap (λ (bag : List Rpc). number_of (receiver_of (slice_get bag at))) st.group.represents.bag;
      acts_none = refl;
      known_none = refl;
      shown_is = refl;
      seats_is = refl;
      untold_is = refl;
      synced_is = refl;
      says = refl;
    })
