-- The messages of a group that events lead to are from one member to another.
use Rattle.std.proofs.Common.{◌≡◌, ℕ, ◌+◌, ◌&&◌, Bool, true, false, not, cond, List, [], ◌∷◌, ◌++◌, map, take, drop, zero, suc, length, leb, eqb, Option, Some, None, refl, sym, ap, subst, ◌∙◌, inl, inr}
use Rattle.std.specs.Prelude.{⊤, filter}
use Rattle.std.specs.List.{AllByRecursion, list_any}
use Rattle.std.proofs.lemmas.Bool.{and_parts, cond_both, cond-true, eq-eqb, eqb-true, false≢true, or_cases, or_left, or_right}
use Rattle.std.proofs.lemmas.Bool.Decides.{eqb_tells}
use Rattle.qq_base.proofs.Puts.{put-each}
use Rattle.qq_base.proofs.Lists.{AllByRecursion-append, AllByRecursion-weaker}
use Rattle.qq_base.specs.declared.ids.NodeId.{NodeId}
use Rattle.qq_entry.specs.declared.command.Entry.{Entry}
use Rattle.qq_log.specs.declared.lane.Lane.{Lane}
use Rattle.qq_log.specs.declared.op.Op.{Op}
use Rattle.qq_log.specs.Stable.{Stable, stable}
use Rattle.qq_raft_protocol.specs.Facts.{In}
use Rattle.qq_raft_msg.specs.Rpc.{envelope}
use Rattle.qq_raft_msg.specs.declared.rpc.Rpc.{Rpc}
use Rattle.qq_raft_model.specs.Server.{Input, is_peer, new_peer, restart, step}
use Rattle.qq_raft_model.specs.State.{Server}
use Rattle.qq_raft_model.specs.declared.peer.Peer.{Peer}
use Rattle.qq_raft_model.specs.Group.{Event, Group, Seat, after_step, deliver_by, feed, feed_by, group_after, happens, has_node, is_down, lane_with, may_restart, restart_by, take_by, take_op}
use Rattle.qq_raft_model.specs.Group.Event.{Tick, Submit, Add, Flush, Deliver, Lose, Copy, Take, Notice, Crash, Restart}
use Rattle.qq_raft_model.specs.Promises.{IsOpened}
use Rattle.qq_group_laws.specs.Addressed.{IsBetween, others}
use Rattle.qq_group_laws.proofs.Sending.{IsAddressed, IsFromPeer, Keeps, keeps-step, nodes_of}

-- ---- nodes

abbrev pub to_node : ℕ → NodeId
to_node k = record { 0 = k }

node-in : (n : NodeId) (nodes : List NodeId) → has_node n.0 nodes ≡ true → In n nodes
node-in n [] is = absurd (false≢true is)
node-in n (m ∷ nodes) is =
    elim (or_cases (eqb m.0 n.0) (has_node n.0 nodes) is) [
      | inl here ↦ inl (ap to_node (sym (eqb-true m.0 n.0 here)))
      | inr later ↦ inr (node-in n nodes later)
    ]

in-filter : (passes : NodeId → Bool) (n : NodeId) (nodes : List NodeId) → In n nodes → passes n ≡ true
    → In n (filter passes nodes)
in-filter passes n [] here is = absurd here
in-filter passes n (m ∷ nodes) (inl same) is =
    subst (λ (l : List NodeId). In n l)
    (sym (cond-true (passes m) (m ∷ filter passes nodes) (filter passes nodes) (ap passes (sym same) ∙ is))) (inl same)
in-filter passes n (m ∷ nodes) (inr later) is =
    let rest = in-filter passes n nodes later is in
    cond_both (passes m) (m ∷ filter passes nodes) (filter passes nodes) (λ (l : List NodeId). In n l) (λ _. inr rest)
    (λ _. rest)

filter-passes : (passes : NodeId → Bool) (n : NodeId) (nodes : List NodeId) → In n (filter passes nodes)
    → passes n ≡ true
filter-passes passes n [] here = absurd here
filter-passes passes n (m ∷ nodes) here = by (passes m) refl (λ later. filter-passes passes n nodes later) here
  where
    by : (b : Bool) → passes m ≡ b → (In n (filter passes nodes) → passes n ≡ true)
        → In n (cond b (m ∷ filter passes nodes) (filter passes nodes)) → passes n ≡ true
    by true is rest (inl same) = ap passes same ∙ is
    by true is rest (inr later) = rest later
    by false is rest later = rest later

other-way : (a b : ℕ) → not (eqb a b) ≡ true → not (eqb b a) ≡ true
other-way a b differs =
    elim (eqb_tells b a) [
      | inl same ↦ absurd (false≢true (sym (ap not (eq-eqb a b (sym same.1))) ∙ differs))
      | inr other ↦ ap not other.0
    ]

-- the sender is another member for its receiver too
from-peer : (nodes : List NodeId) (rpc : Rpc) → IsBetween nodes rpc
    → In (envelope rpc).from (others (envelope rpc).to.0 nodes)
from-peer nodes rpc b =
    let from = (envelope rpc).from in
    let to = (envelope rpc).to in
    in-filter (λ (q : NodeId). not (eqb q.0 to.0)) from nodes (node-in from nodes b.from)
    (other-way to.0 from.0 (filter-passes (λ (q : NodeId). not (eqb q.0 from.0)) to nodes b.to))

-- ---- groups

abbrev IsSeatOf : List NodeId → ℕ → Option Server → Type 0
IsSeatOf nodes k None = ⊤
IsSeatOf nodes k (Some s) = (has_node k nodes ≡ true) × Keeps (to_node k) (others k nodes) s

pub record IsBetweenMembers (nodes : List NodeId) (g : Group) : Type 0 where
  pub nodes_are : g.nodes ≡ nodes
  pub seats : (k : ℕ) → IsSeatOf nodes k (g.seat k).server
  pub bag : AllByRecursion (IsBetween nodes) g.bag

between : (k : ℕ) (nodes : List NodeId) → has_node k nodes ≡ true → (rpc : Rpc)
    → IsAddressed (to_node k) (others k nodes) rpc → IsBetween nodes rpc
between k nodes has rpc a = record {
  from = subst (λ (n : NodeId). has_node n.0 nodes ≡ true) (sym a.from) has;
  to = subst (λ (n : NodeId). In (envelope rpc).to (others n.0 nodes)) (sym a.from) a.to;
}

-- ---- steps

stepped : {nodes : List NodeId} (k : ℕ) (input : Input) (s : Server) (g : Group) → IsBetweenMembers nodes g
    → (g.seat k).server ≡ Some s → IsFromPeer (others k nodes) input
    → IsBetweenMembers nodes (after_step k (step s input) g)
stepped {nodes} k input s g fine up from =
    let here : IsSeatOf nodes k (Some s) = subst (IsSeatOf nodes k) up (fine.seats k) in
    let made = step s input in
    let now : Keeps (to_node k) (others k nodes) made = keeps-step s input from here.1 in
    let left : Keeps (to_node k) (others k nodes) (record made { out = [] }) = record {
      node_is = now.node_is;
      rest_are = now.rest_are;
      out = tt;
      waiting = now.waiting;
    } in
    record {
      nodes_are = fine.nodes_are;
      seats =
          put-each (λ i (x : Seat). IsSeatOf nodes i x.server) k _ g.seat (here.0, left) (λ i other. fine.seats i);
      bag =
          AllByRecursion-append (IsBetween nodes) g.bag made.out fine.bag
          (AllByRecursion-weaker (IsAddressed (to_node k) (others k nodes)) (IsBetween nodes) (between k nodes here.0)
          made.out now.out);
    }

fed : {nodes : List NodeId} (k : ℕ) (input : Input) (o : Option Server) (g : Group) → IsBetweenMembers nodes g
    → (g.seat k).server ≡ o → IsFromPeer (others k nodes) input → IsBetweenMembers nodes (feed_by k input o g)
fed k input None g fine up from = fine
fed k input (Some s) g fine up from = stepped k input s g fine up from

-- ---- messages

all-take : {A : Type 0} (P : A → Type 0) (n : ℕ) (xs : List A) → AllByRecursion P xs → AllByRecursion P (take n xs)
all-take P zero xs all = tt
all-take P (suc n) [] all = tt
all-take P (suc n) (x ∷ xs) all = (all.0, all-take P n xs all.1)

all-drop : {A : Type 0} (P : A → Type 0) (n : ℕ) (xs : List A) → AllByRecursion P xs → AllByRecursion P (drop n xs)
all-drop P zero xs all = all
all-drop P (suc n) [] all = tt
all-drop P (suc n) (x ∷ xs) all = all-drop P n xs all.1

other-bag : {nodes : List NodeId} (bag : List Rpc) (g : Group) → IsBetweenMembers nodes g
    → AllByRecursion (IsBetween nodes) bag → IsBetweenMembers nodes (record g { bag = bag })
other-bag bag g fine all = record { nodes_are = fine.nodes_are; seats = fine.seats; bag = all }

delivered : {nodes : List NodeId} (before rest : List Rpc) (g : Group) → IsBetweenMembers nodes g
    → AllByRecursion (IsBetween nodes) before → AllByRecursion (IsBetween nodes) rest
    → IsBetweenMembers nodes (deliver_by before rest g)
delivered before [] g fine first second = fine
delivered {nodes} before (rpc ∷ rest) g fine first second =
    let h : Group = record g { bag = before ++ rest } in
    let left : IsBetweenMembers nodes h =
    other-bag (before ++ rest) g fine (AllByRecursion-append (IsBetween nodes) before rest first second.1) in
    fed (envelope rpc).to.0 (Input.Receive rpc) (h.seat (envelope rpc).to.0).server h left refl
    (from-peer nodes rpc second.0)

-- ---- logs

taken-by : {nodes : List NodeId} (k : ℕ) (s : Server) (ops : List Op) (g : Group) → IsBetweenMembers nodes g
    → (g.seat k).server ≡ Some s → IsBetweenMembers nodes (take_by k s ops g)
taken-by k s [] g fine up = fine
taken-by {nodes} k s (op ∷ ops) g fine up =
    let here : IsSeatOf nodes k (Some s) = subst (IsSeatOf nodes k) up (fine.seats k) in
    let left : Keeps (to_node k) (others k nodes) (record s { ops = ops }) = record {
      node_is = here.1.node_is;
      rest_are = here.1.rest_are;
      out = here.1.out;
      waiting = here.1.waiting;
    } in
    record {
      nodes_are = fine.nodes_are;
      seats =
          put-each (λ i (x : Seat). IsSeatOf nodes i x.server) k _ g.seat (here.0, left) (λ i other. fine.seats i);
      bag = fine.bag;
    }

taken : {nodes : List NodeId} (k : ℕ) (o : Option Server) (g : Group) → IsBetweenMembers nodes g
    → (g.seat k).server ≡ o → IsBetweenMembers nodes (take_op k o g)
taken k None g fine up = fine
taken k (Some s) g fine up = taken-by k s s.ops g fine up

new-nodes : (nodes : List NodeId) → nodes_of (map new_peer nodes) ≡ nodes
new-nodes [] = refl
new-nodes (n ∷ nodes) = ap (λ (l : List NodeId). n ∷ l) (new-nodes nodes)

restarted : {nodes : List NodeId} (k op : ℕ) (o : Option Stable) (g : Group) → IsBetweenMembers nodes g
    → has_node k g.nodes ≡ true → IsBetweenMembers nodes (restart_by k op o g)
restarted k op None g fine has = fine
restarted {nodes} k op (Some state) g fine has =
    let lane : Lane = lane_with g.queue state in
    let made : Keeps (to_node k) (others k nodes) (restart (to_node k) g.nodes lane) = record {
      node_is = refl;
      rest_are = new-nodes (others k g.nodes) ∙ ap (others k) fine.nodes_are;
      out = tt;
      waiting = tt;
    } in
    record {
      nodes_are = fine.nodes_are;
      seats =
          put-each (λ i (x : Seat). IsSeatOf nodes i x.server) k _ g.seat
          (subst (λ (ns : List NodeId). has_node k ns ≡ true) fine.nodes_are has, made) (λ i other. fine.seats i);
      bag = fine.bag;
    }

-- ---- events

happened : {nodes : List NodeId} (e : Event) (g : Group) → IsBetweenMembers nodes g
    → IsBetweenMembers nodes (happens e g)
happened (Tick k) g fine = fed k Input.Tick (g.seat k).server g fine refl tt
happened (Submit k time command) g fine = fed k (Input.Submit time command) (g.seat k).server g fine refl tt
happened (Add k time command) g fine = fed k (Input.Add time command) (g.seat k).server g fine refl tt
happened (Flush k) g fine = fed k Input.Flush (g.seat k).server g fine refl tt
happened {nodes} (Deliver at) g fine =
    delivered (take at g.bag) (drop at g.bag) g fine (all-take (IsBetween nodes) at g.bag fine.bag)
    (all-drop (IsBetween nodes) at g.bag fine.bag)
happened {nodes} (Lose at) g fine =
    other-bag (take at g.bag ++ drop (at + 1) g.bag) g fine
    (AllByRecursion-append (IsBetween nodes) (take at g.bag) (drop (at + 1) g.bag)
    (all-take (IsBetween nodes) at g.bag fine.bag) (all-drop (IsBetween nodes) (at + 1) g.bag fine.bag))
happened {nodes} (Copy at) g fine =
    other-bag (g.bag ++ take 1 (drop at g.bag)) g fine
    (AllByRecursion-append (IsBetween nodes) g.bag (take 1 (drop at g.bag)) fine.bag
    (all-take (IsBetween nodes) 1 (drop at g.bag) (all-drop (IsBetween nodes) at g.bag fine.bag)))
happened (Take k) g fine = taken k (g.seat k).server g fine refl
happened {nodes} (Notice k op) g fine =
    cond_both (leb op (length (g.seat k).ops)) (feed k (Input.Notice op) g) g (IsBetweenMembers nodes)
    (λ _. fed k (Input.Notice op) (g.seat k).server g fine refl tt) (λ _. fine)
happened {nodes} (Crash k) g fine = record {
  nodes_are = fine.nodes_are;
  seats = put-each (λ i (x : Seat). IsSeatOf nodes i x.server) k _ g.seat tt (λ i other. fine.seats i);
  bag = fine.bag;
}
happened {nodes} (Restart k op) g fine =
    cond_both (may_restart k op g) (restart_by k op (stable (take op (g.seat k).ops)) g) g (IsBetweenMembers nodes)
    (λ may.
    restarted k op (stable (take op (g.seat k).ops)) g fine
    (and_parts (has_node k g.nodes) (leb (g.seat k).noticed op && leb op (length (g.seat k).ops))
    (and_parts (is_down (g.seat k).server)
    (has_node k g.nodes && (leb (g.seat k).noticed op && leb op (length (g.seat k).ops))) may).1).0)
    (λ _. fine)

after-all : {nodes : List NodeId} (events : List Event) (g : Group) → IsBetweenMembers nodes g
    → IsBetweenMembers nodes (group_after g events)
after-all [] g fine = fine
after-all (e ∷ events) g fine = after-all events (happens e g) (happened e g fine)

-- a group that was opened has no messages, and its members are down
opened-between : (g : Group) (whole : List Entry) → IsOpened g whole → IsBetweenMembers g.nodes g
opened-between g whole o = record {
  nodes_are = refl;
  seats = λ k. subst (IsSeatOf g.nodes k) (sym (o.down.down k)) tt;
  bag = subst (AllByRecursion (IsBetween g.nodes)) (sym o.down.bag) tt;
}

pub from-opened : (g : Group) (whole : List Entry) (events : List Event) → IsOpened g whole
    → IsBetweenMembers g.nodes (group_after g events)
from-opened g whole events o = after-all events g (opened-between g whole o)

-- ---- who gets a message

pub all-in : {A : Type 0} (P : A → Type 0) (x : A) (xs : List A) → AllByRecursion P xs → In x xs → P x
all-in P x [] all here = absurd here
all-in P x (y ∷ xs) all (inl same) = subst P (sym same) all.0
all-in P x (y ∷ xs) all (inr later) = all-in P x xs all.1 later

pub between-there : {nodes : List NodeId} (g : Group) (rpc : Rpc) → IsBetweenMembers nodes g → In rpc g.bag
    → IsBetween nodes rpc
between-there {nodes} g rpc fine here = all-in (IsBetween nodes) rpc g.bag fine.bag here

is-peer : (n : NodeId) (ps : List Peer) → In n (nodes_of ps) → list_any (is_peer n) ps ≡ true
is-peer n [] here = absurd here
is-peer n (p ∷ ps) (inl same) =
    or_left (is_peer n p) (list_any (is_peer n) ps) (eq-eqb p.node.0 n.0 (ap (λ (m : NodeId). m.0) (sym same)))
is-peer n (p ∷ ps) (inr later) = or_right (is_peer n p) (list_any (is_peer n) ps) (is-peer n ps later)

-- its receiver is the node that it is for, of whose peers its sender is one
pub record IsForServer (rpc : Rpc) (s : Server) : Type 0 where
  pub to : eqb (envelope rpc).to.0 s.node.0 ≡ true
  pub from : list_any (is_peer (envelope rpc).from) s.peers ≡ true

pub received : {nodes : List NodeId} (g : Group) (rpc : Rpc) (s : Server) → IsBetweenMembers nodes g → In rpc g.bag
    → (g.seat (envelope rpc).to.0).server ≡ Some s → IsForServer rpc s
received {nodes} g rpc s fine here up =
    let k = (envelope rpc).to.0 in
    let seat : IsSeatOf nodes k (Some s) = subst (IsSeatOf nodes k) up (fine.seats k) in
    let peer = from-peer nodes rpc (between-there g rpc fine here) in
    record {
      to = eq-eqb k s.node.0 (ap (λ (m : NodeId). m.0) (sym seat.1.node_is));
      from = is-peer (envelope rpc).from s.peers
          (subst (λ (ns : List NodeId). In (envelope rpc).from ns) (sym seat.1.rest_are) peer);
    }
