-- What ties a group to a world of the protocol.
use Rattle.std.proofs.Common.{◌≡◌, ℕ, ◌≤◌, List, [], ◌∷◌, ◌++◌, length, take, drop, Option, Some, None, sym, subst, inr}
use Rattle.std.proofs.lemmas.List.{take-append-drop}
use Rattle.std.specs.Prelude.{option_map}
use Rattle.qq_base.specs.Fronts.{IsFront}
use Rattle.qq_base.proofs.Fronts.{front-refl, front-take, front-trans}
use Rattle.qq_base.specs.declared.ids.NodeId.{NodeId}
use Rattle.qq_base.specs.declared.ids.Term.{Term}
use Rattle.qq_entry.specs.declared.command.Entry.{Entry}
use Rattle.qq_log.specs.declared.op.Op.{Op}
use Rattle.qq_log.specs.Stable.{stable}
use Rattle.qq_raft_protocol.specs.Facts.{In}
use Rattle.qq_raft_protocol.specs.Moves.{Move, AreAllowed, run}
use Rattle.qq_raft_protocol.specs.World.{Member, World, lanes}
use Rattle.qq_raft_protocol.proofs.Lists.{In-front}
use Rattle.qq_raft_msg.specs.declared.rpc.Rpc.{Rpc}
use Rattle.qq_raft_model.specs.Handing.{plain_state, state_of}
use Rattle.qq_raft_model.specs.Refines.{number, IsGroup, IsOnItsWay, IsReached, Stands}
use Rattle.qq_raft_model.specs.State.{Server}
use Rattle.qq_raft_model.proofs.Refining.{run-append, allowed-append}
use Rattle.qq_raft_model.proofs.Sources.{AreSourced, sourced-append, sourced-weaker}
use Rattle.qq_raft_model.specs.Group.{Group, Seat}
use Rattle.qq_raft_model.specs.Promises.{members_of}

-- what ops come to is a lane of the member
pub record HasLane (m : Member) (n : ℕ) (ops : List Op) : Type 0 where
  pub term : Term
  pub vote : Option NodeId
  pub log : List Entry
  pub is : stable ops ≡ Some (plain_state n term vote log)
  pub here : In (record { op = n; term = term.0; vote = option_map number vote; log = log }) (lanes m)

-- whatever isn't noticed may be lost
abbrev pub HasLanes : Member → ℕ → List Op → Type 0
HasLanes m noticed ops = (n : ℕ) → noticed ≤ n → n ≤ length ops → HasLane m n (take n ops)

-- ops that the log wasn't handed yet
abbrev pub pending : Option Server → List Op
pending None = []
pending (Some s) = s.ops

-- a server that is up
pub record IsTied (members : List ℕ) (w : World) (k : ℕ) (ops : List Op) (noticed : ℕ) (audit : List Entry)
    (s : Server) : Type 0 where
  pub stands : Stands w k s
  pub group : IsGroup members k s.peers
  pub holds : stable (ops ++ s.ops) ≡ Some (state_of s)
  pub count : s.op ≡ length (ops ++ s.ops)
  pub noticed_is : noticed ≡ s.noticed
  pub known : IsFront (take s.commit s.log) audit

pub record IsSeat (members : List ℕ) (w : World) (audit : List Entry) (k : ℕ) (seat : Seat) : Type 0 where
  pub up : (s : Server) → seat.server ≡ Some s → IsTied members w k seat.ops seat.noticed audit s
  pub lanes : HasLanes (w.member k) seat.noticed (seat.ops ++ pending seat.server)

pub record Tied (nodes : List NodeId) (g : Group) (w : World) : Type 0 where
  pub reached : IsReached (members_of nodes) w
  pub nodes_are : g.nodes ≡ nodes
  pub seats : (k : ℕ) → IsSeat (members_of nodes) w g.audit k (g.seat k)
  pub bag : (r : Rpc) → In r g.bag → IsOnItsWay w r
  pub audit : IsFront g.audit w.audit

-- moves lead to a world of the next group, and add no entries but leaders' first ones and those that are so
pub record Follows (nodes : List NodeId) (S : List Entry → Entry → Type 0) (w : World) (g h : Group) : Type 0 where
  pub moves : List Move
  pub allowed : AreAllowed (members_of nodes) w moves
  pub sourced : AreSourced S w moves
  pub tied : Tied nodes h (run w moves)
  pub audit : IsFront g.audit h.audit

pub follows-refl : {nodes : List NodeId} {S : List Entry → Entry → Type 0} {w : World} {g : Group} → Tied nodes g w
    → Follows nodes S w g g
follows-refl {g = g} tied = record { moves = []; allowed = tt; sourced = tt; tied = tied; audit = front-refl g.audit }

pub follows-weaker : {nodes : List NodeId} {S R : List Entry → Entry → Type 0} {w : World} {g h : Group}
    → ((a : List Entry) (e : Entry) → S a e → R a e) → Follows nodes S w g h → Follows nodes R w g h
follows-weaker {S = S} {R = R} {w = w} f x = record {
  moves = x.moves;
  allowed = x.allowed;
  sourced = sourced-weaker S R w x.moves f x.sourced;
  tied = x.tied;
  audit = x.audit;
}

pub follows-then : {nodes : List NodeId} {S : List Entry → Entry → Type 0} {w : World} {g h i : Group}
    → Follows nodes S w g h → ((v : World) → Tied nodes h v → Follows nodes S v h i) → Follows nodes S w g i
follows-then {nodes = nodes} {S = S} {w = w} {g = g} {h = h} {i = i} first next =
    let v = run w first.moves in
    let second : Follows nodes S v h i = next v first.tied in
    let same = run-append w first.moves second.moves in
    record {
      moves = first.moves ++ second.moves;
      allowed = allowed-append (members_of nodes) w first.moves second.moves first.allowed second.allowed;
      sourced = sourced-append S w first.moves second.moves first.sourced second.sourced;
      tied = subst (Tied nodes i) (sym same) second.tied;
      audit = front-trans first.audit second.audit;
    }

-- ---- fewer messages

pub In-right : {A : Type 0} (x : A) (xs ys : List A) → In x ys → In x (xs ++ ys)
In-right x [] ys here = here
In-right x (y ∷ xs) ys here = inr (In-right x xs ys here)

pub In-take : {A : Type 0} (x : A) (n : ℕ) (xs : List A) → In x (take n xs) → In x xs
In-take x n xs here = In-front x (front-take n xs) here

pub In-drop : {A : Type 0} (x : A) (n : ℕ) (xs : List A) → In x (drop n xs) → In x xs
In-drop x n xs here = subst (λ l. In x l) (take-append-drop n xs) (In-right x (take n xs) (drop n xs) here)

pub tied-bag : {nodes : List NodeId} {w : World} {g : Group} (bag : List Rpc) → Tied nodes g w
    → ((r : Rpc) → In r bag → In r g.bag) → Tied nodes (record g { bag = bag }) w
tied-bag bag tied each = record {
  reached = tied.reached;
  nodes_are = tied.nodes_are;
  seats = tied.seats;
  bag = λ r here. tied.bag r (each r here);
  audit = tied.audit;
}
