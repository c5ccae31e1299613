-- What moves leave of a member's seat.
use Rattle.std.proofs.Common.{◌≡◌, ℕ, zero, suc, Bool, false, List, [], ◌∷◌, ◌++◌, Option, Some, None, length, take, drop, refl, sym, ap, ◌∙◌}
use Rattle.std.specs.Prelude.{is_some, nat_le, replicate}
use Rattle.std.proofs.lemmas.Bool.{cond_both, eqb-false}
use Rattle.qq_base.proofs.Puts.{put-each, put-other}
use Rattle.qq_base.specs.Fronts.{put}
use Rattle.qq_entry.specs.declared.command.Command.{Command}
use Rattle.qq_log.specs.Stable.{Stable, stable}
use Rattle.qq_log.specs.declared.op.Op.{Op}
use Rattle.qq_raft_model.specs.Group.{Event as Move, Group, Seat, deliver_by, feed, feed_by, group_after, happens as moved, lane_with, may_restart, restart_by, take_by, take_op}
use Rattle.qq_raft_model.specs.Group.Event.{Tick, Submit, Add, Flush, Deliver, Lose, Copy, Take, Notice, Crash, Restart}
use Rattle.qq_raft_model.specs.Server.{Input, restart, step}
use Rattle.qq_raft_model.specs.State.{Server}
use Rattle.qq_raft_msg.specs.Rpc.{envelope}
use Rattle.qq_raft_msg.specs.declared.rpc.Rpc.{Rpc}
use Rattle.qq_cluster_model.specs.Queue.{Queue, Event, Mutes, Ends, Submits, TellsEnded, TellsNotTaken, Attaches, Judges, Resends, Fetches, Downs, Ticks, Delivers, Loses, Copies, Writes, Syncs, Notices, Stops, Finds, leader, moves, offered, submits, waiting}
use Rattle.qq_cluster_laws.specs.Unseen.{touches}

-- ---- what a step of a server leaves of its seat

-- a move neither takes an op of this member, nor crashes or restarts it
abbrev pub LeavesSeat : ℕ → Move → Type 0
LeavesSeat k (Take j) = k ≡ j → ⊥
LeavesSeat k (Crash j) = k ≡ j → ⊥
LeavesSeat k (Restart j op) = k ≡ j → ⊥
LeavesSeat k _ = Unit {0}

abbrev pub LeaveSeat : ℕ → List Move → Type 0
LeaveSeat k [] = Unit {0}
LeaveSeat k (move ∷ more) = LeavesSeat k move × LeaveSeat k more

-- what a step of a server leaves of a seat, so many a list of moves leaves
module _ {A : Type 0} (f : Seat → A)
    (steps : (x : Seat) (s t : Server) (n : ℕ) → x.server ≡ Some s
    → f (record { server = Some t; ops = x.ops; noticed = n }) ≡ f x) (k : ℕ) where
  one-seat : (j : ℕ) (seat : Seat) (g : Group) → f seat ≡ f (g.seat j) → f (put j seat g.seat k) ≡ f (g.seat k)
  one-seat j seat g own =
      put-each (λ (i : ℕ) (x : Seat). f x ≡ f (g.seat i)) j seat g.seat own (λ i other. refl) k

  feed-leaves : (j : ℕ) (input : Input) (g : Group) → f ((feed j input g).seat k) ≡ f (g.seat k)
  feed-leaves j input g = by (g.seat j).server refl
    where
      by : (o : Option Server) → (g.seat j).server ≡ o → f ((feed_by j input o g).seat k) ≡ f (g.seat k)
      by None is = refl
      by (Some s) is =
          one-seat j (record {
            server = Some (record (step s input) { out = [] });
            ops = (g.seat j).ops;
            noticed = (step s input).noticed;
          }) g (steps (g.seat j) s (record (step s input) { out = [] }) (step s input).noticed is)

  deliver-leaves : (before rest : List Rpc) (g : Group) → f ((deliver_by before rest g).seat k) ≡ f (g.seat k)
  deliver-leaves before [] g = refl
  deliver-leaves before (rpc ∷ rest) g =
      feed-leaves (envelope rpc).to.0 (Input.Receive rpc) (record g { bag = before ++ rest })

  take-leaves : (j : ℕ) (g : Group) → (k ≡ j → ⊥) → f ((moved (Take j) g).seat k) ≡ f (g.seat k)
  take-leaves j g other = by (g.seat j).server
    where
      of : (s : Server) (all : List Op) → f ((take_by j s all g).seat k) ≡ f (g.seat k)
      of s [] = refl
      of s (op ∷ all) =
          ap f (put-other j (record {
            server = Some (record s { ops = all });
            ops = (g.seat j).ops ++ op ∷ [];
            noticed = (g.seat j).noticed;
          }) g.seat k other)

      by : (o : Option Server) → f ((take_op j o g).seat k) ≡ f (g.seat k)
      by None = refl
      by (Some s) = of s s.ops

  crash-leaves : (j : ℕ) (g : Group) → (k ≡ j → ⊥) → f ((moved (Crash j) g).seat k) ≡ f (g.seat k)
  crash-leaves j g other =
      ap f (put-other j (record { server = None; ops = (g.seat j).ops; noticed = (g.seat j).noticed }) g.seat k other)

  restart-leaves : (j op : ℕ) (g : Group) → (k ≡ j → ⊥) → f ((moved (Restart j op) g).seat k) ≡ f (g.seat k)
  restart-leaves j op g other =
      cond_both (may_restart j op g) (restart_by j op (stable (take op (g.seat j).ops)) g) g
      (λ (h : Group). f (h.seat k) ≡ f (g.seat k)) (λ _. by (stable (take op (g.seat j).ops))) (λ _. refl)
    where
      by : (o : Option Stable) → f ((restart_by j op o g).seat k) ≡ f (g.seat k)
      by None = refl
      by (Some state) =
          ap f (put-other j (record {
            server = Some (restart (record { 0 = j }) g.nodes (lane_with g.queue state));
            ops = take op (g.seat j).ops;
            noticed = op;
          }) g.seat k other)

  move-leaves : (move : Move) (g : Group) → LeavesSeat k move → f ((moved move g).seat k) ≡ f (g.seat k)
  move-leaves (Tick j) g leaves = feed-leaves j Input.Tick g
  move-leaves (Submit j time command) g leaves = feed-leaves j (Input.Submit time command) g
  move-leaves (Add j time command) g leaves = feed-leaves j (Input.Add time command) g
  move-leaves (Flush j) g leaves = feed-leaves j Input.Flush g
  move-leaves (Deliver at) g leaves = deliver-leaves (take at g.bag) (drop at g.bag) g
  move-leaves (Lose at) g leaves = refl
  move-leaves (Copy at) g leaves = refl
  move-leaves (Take j) g leaves = take-leaves j g leaves
  move-leaves (Notice j op) g leaves =
      cond_both (nat_le op (length (g.seat j).ops)) (feed j (Input.Notice op) g) g
      (λ (h : Group). f (h.seat k) ≡ f (g.seat k)) (λ _. feed-leaves j (Input.Notice op) g) (λ _. refl)
  move-leaves (Crash j) g leaves = crash-leaves j g leaves
  move-leaves (Restart j op) g leaves = restart-leaves j op g leaves

  pub moves-leave : (all : List Move) (g : Group) → LeaveSeat k all → f ((group_after g all).seat k) ≡ f (g.seat k)
  moves-leave [] g leaves = refl
  moves-leave (move ∷ more) g leaves = moves-leave more (moved move g) leaves.1 ∙ move-leaves move g leaves.0

-- ---- the moves of an event

submits-leave : (k : ℕ) (o : Option ℕ) (given : List Command) → LeaveSeat k (submits o given)
submits-leave k o [] = tt
submits-leave k None (command ∷ given) = submits-leave k None given
submits-leave k (Some j) (command ∷ given) = (tt, submits-leave k (Some j) given)

takes-leave : (k j count : ℕ) → (k ≡ j → ⊥) → LeaveSeat k (replicate count (Take j))
takes-leave k j zero other = tt
takes-leave k j (suc count) other = (other, takes-leave k j count other)

-- an event that doesn't touch a member
pub event-leaves : (k : ℕ) (q : Queue) (event : Event) → touches k event ≡ false → LeaveSeat k (moves q event)
event-leaves k q (Mutes session muted) not' = tt
event-leaves k q (Ends session) not' = tt
event-leaves k q (TellsEnded session) not' = tt
event-leaves k q (TellsNotTaken session id) not' = tt
event-leaves k q (Attaches session tag number) not' = tt
event-leaves k q (Judges verdict) not' = tt
event-leaves k q (Fetches session) not' = tt
event-leaves k q (Submits session body) not' =
    submits-leave k (leader q.group) (offered q.clients (Submits session body))
event-leaves k q (Resends session) not' = submits-leave k (leader q.group) (offered q.clients (Resends session))
event-leaves k q (Downs session) not' = submits-leave k (leader q.group) (offered q.clients (Downs session))
event-leaves k q (Ticks j) not' = (tt, tt)
event-leaves k q (Delivers at) not' = (tt, tt)
event-leaves k q (Loses at) not' = (tt, tt)
event-leaves k q (Copies at) not' = (tt, tt)
event-leaves k q (Writes j) not' = takes-leave k j (waiting j q.group) (λ same. eqb-false j k not' (sym same))
event-leaves k q (Syncs j) not' = tt
event-leaves k q (Notices j) not' = (tt, tt)
event-leaves k q (Stops j) not' = ((λ same. eqb-false j k not' (sym same)), tt)
event-leaves k q (Finds j op) not' = ((λ same. eqb-false j k not' (sym same)), tt)

-- ---- the log, and whether the server is up

abbrev pub is_up : Seat → Bool
is_up seat = is_some seat.server

pub ops-step : (x : Seat) (s t : Server) (n : ℕ) → x.server ≡ Some s → x.ops ≡ x.ops
ops-step x s t n is = refl

pub up-step : (x : Seat) (s t : Server) (n : ℕ) → x.server ≡ Some s
    → is_some (Some t) ≡ is_up x
up-step x s t n is = sym (ap is_some is)

-- takes leave a server up
pub takes-up : (k j count : ℕ) (g : Group) → is_up ((group_after g (replicate count (Take j))).seat k) ≡ is_up (g.seat k)
takes-up k j zero g = refl
takes-up k j (suc count) g = takes-up k j count (moved (Take j) g) ∙ one (g.seat j).server refl
  where
    of : (s : Server) → (g.seat j).server ≡ Some s → (all : List Op)
        → is_up ((take_by j s all g).seat k) ≡ is_up (g.seat k)
    of s is [] = refl
    of s is (op ∷ all) =
        put-each (λ (i : ℕ) (x : Seat). is_up x ≡ is_up (g.seat i)) j (record {
          server = Some (record s { ops = all });
          ops = (g.seat j).ops ++ op ∷ [];
          noticed = (g.seat j).noticed;
        }) g.seat (sym (ap is_some is)) (λ i other. refl) k

    one : (o : Option Server) → (g.seat j).server ≡ o → is_up ((take_op j o g).seat k) ≡ is_up (g.seat k)
    one None is = refl
    one (Some s) is = of s is s.ops

-- ---- members stay

nodes-feed : (j : ℕ) (input : Input) (g : Group) → (feed j input g).nodes ≡ g.nodes
nodes-feed j input g = by (g.seat j).server
  where
    by : (o : Option Server) → (feed_by j input o g).nodes ≡ g.nodes
    by None = refl
    by (Some s) = refl

nodes-move : (move : Move) (g : Group) → (moved move g).nodes ≡ g.nodes
nodes-move (Tick j) g = nodes-feed j Input.Tick g
nodes-move (Submit j time command) g = nodes-feed j (Input.Submit time command) g
nodes-move (Add j time command) g = nodes-feed j (Input.Add time command) g
nodes-move (Flush j) g = nodes-feed j Input.Flush g
nodes-move (Deliver at) g = by (drop at g.bag)
  where
    by : (rest : List Rpc) → (deliver_by (take at g.bag) rest g).nodes ≡ g.nodes
    by [] = refl
    by (rpc ∷ rest) = nodes-feed (envelope rpc).to.0 (Input.Receive rpc) (record g { bag = take at g.bag ++ rest })
nodes-move (Lose at) g = refl
nodes-move (Copy at) g = refl
nodes-move (Take j) g = by (g.seat j).server
  where
    of : (s : Server) (all : List Op) → (take_by j s all g).nodes ≡ g.nodes
    of s [] = refl
    of s (op ∷ all) = refl

    by : (o : Option Server) → (take_op j o g).nodes ≡ g.nodes
    by None = refl
    by (Some s) = of s s.ops
nodes-move (Notice j op) g =
    cond_both (nat_le op (length (g.seat j).ops)) (feed j (Input.Notice op) g) g (λ (h : Group). h.nodes ≡ g.nodes)
    (λ _. nodes-feed j (Input.Notice op) g) (λ _. refl)
nodes-move (Crash j) g = refl
nodes-move (Restart j op) g =
    cond_both (may_restart j op g) (restart_by j op (stable (take op (g.seat j).ops)) g) g
    (λ (h : Group). h.nodes ≡ g.nodes) (λ _. by (stable (take op (g.seat j).ops))) (λ _. refl)
  where
    by : (o : Option Stable) → (restart_by j op o g).nodes ≡ g.nodes
    by None = refl
    by (Some state) = refl

pub nodes-same : (all : List Move) (g : Group) → (group_after g all).nodes ≡ g.nodes
nodes-same [] g = refl
nodes-same (move ∷ more) g = nodes-same more (moved move g) ∙ nodes-move move g
