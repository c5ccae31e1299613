-- A node that has no member of a queue has nothing of it, whatever happens.
use Rattle.std.proofs.Common.{◌≡◌, ℕ, Bool, true, false, cond, ◌&&◌, List, [], ◌∷◌, ◌++◌, Option, Some, None, length, take, drop, refl, sym, ap, ◌∙◌, subst}
use Rattle.std.specs.Prelude.{nat_le}
use Rattle.std.proofs.lemmas.Bool.{cond_both, false≢true, and_parts}
use Rattle.qq_base.proofs.Puts.{put-each}
use Rattle.qq_base.specs.Fronts.{put}
use Rattle.qq_log.specs.declared.op.Op.{Op}
use Rattle.qq_log.specs.Stable.{Stable, stable}
use Rattle.qq_raft_model.specs.Group.{Event as Move, Group, Seat, deliver_by, feed, feed_by, group_after, happens as moved, has_node, is_down, lane_with, may_restart, restart_by, take_by, take_op}
use Rattle.qq_raft_model.specs.Group.Event.{Tick, Submit, Add, Flush, Deliver, Lose, Copy, Take, Notice, Crash, Restart}
use Rattle.qq_raft_model.specs.Server.{Input, restart, step}
use Rattle.qq_raft_model.specs.State.{Server}
use Rattle.qq_raft_msg.specs.Rpc.{envelope}
use Rattle.qq_raft_msg.specs.declared.rpc.Rpc.{Rpc}

-- it isn't a member, is down, and its log was handed nothing
pub record IsOut (k : ℕ) (g : Group) : Type 0 where
  pub not_member : has_node k g.nodes ≡ false
  pub server : (g.seat k).server ≡ None
  pub ops : (g.seat k).ops ≡ []

record IsEmpty (seat : Seat) : Type 0 where
  pub server : seat.server ≡ None
  pub ops : seat.ops ≡ []

-- a seat that changes is another one's, or is empty
out-put : (k j : ℕ) (seat : Seat) (g : Group) → (IsEmpty (g.seat j) → IsEmpty seat) → IsEmpty (g.seat k)
    → IsEmpty (put j seat g.seat k)
out-put k j seat g own out =
    put-each (λ (i : ℕ) (x : Seat). IsEmpty (g.seat i) → IsEmpty x) j seat g.seat own (λ i other is. is) k out

record Stays (k : ℕ) (g h : Group) : Type 0 where
  pub nodes : h.nodes ≡ g.nodes
  pub seat : IsEmpty (g.seat k) → IsEmpty (h.seat k)

same : (k : ℕ) (g : Group) → Stays k g g
same k g = record { nodes = refl; seat = λ e. e }

not-up : {P : Type 0} (g : Group) (j : ℕ) (s : Server) → (g.seat j).server ≡ Some s → IsEmpty (g.seat j) → P
not-up g j s is empty = absurd (let e : None ≡ Some s = sym empty.server ∙ is in cc)

stays-feed : (k j : ℕ) (input : Input) (g : Group) → Stays k g (feed j input g)
stays-feed k j input g = by (g.seat j).server refl
  where
    by : (o : Option Server) → (g.seat j).server ≡ o → Stays k g (feed_by j input o g)
    by None is = same k g
    by (Some s) is = record {
      nodes = refl;
      seat = out-put k j (record {
        server = Some (record (step s input) { out = [] });
        ops = (g.seat j).ops;
        noticed = (step s input).noticed;
      }) g (not-up g j s is);
    }

stays-take : (k j : ℕ) (g : Group) → Stays k g (take_op j (g.seat j).server g)
stays-take k j g = by (g.seat j).server refl
  where
    of : (s : Server) → (g.seat j).server ≡ Some s → (all : List Op) → Stays k g (take_by j s all g)
    of s is [] = same k g
    of s is (op ∷ all) = record {
      nodes = refl;
      seat = out-put k j (record {
        server = Some (record s { ops = all });
        ops = (g.seat j).ops ++ op ∷ [];
        noticed = (g.seat j).noticed;
      }) g (not-up g j s is);
    }

    by : (o : Option Server) → (g.seat j).server ≡ o → Stays k g (take_op j o g)
    by None is = same k g
    by (Some s) is = of s is s.ops

stays-deliver : (k : ℕ) (before rest : List Rpc) (g : Group) → Stays k g (deliver_by before rest g)
stays-deliver k before [] g = same k g
stays-deliver k before (rpc ∷ rest) g =
    let s = stays-feed k (envelope rpc).to.0 (Input.Receive rpc) (record g { bag = before ++ rest }) in
    record { nodes = s.nodes; seat = s.seat }

stays-restart : (k j op : ℕ) (g : Group) → has_node k g.nodes ≡ false → Stays k g (moved (Restart j op) g)
stays-restart k j op g not' = by (may_restart j op g) refl
  where
    found : may_restart j op g ≡ true → (o : Option Stable) → Stays k g (restart_by j op o g)
    found may None = same k g
    found may (Some state) = record {
      nodes = refl;
      seat = λ empty. put-each (λ (i : ℕ) (x : Seat). i ≡ k → IsEmpty x) j (record {
        server = Some (restart (record { 0 = j }) g.nodes (lane_with g.queue state));
        ops = take op (g.seat j).ops;
        noticed = op;
      }) g.seat
          (λ is. absurd (false≢true (sym not' ∙ ap (λ (i : ℕ). has_node i g.nodes) (sym is)
          ∙ (and_parts (has_node j g.nodes) (nat_le (g.seat j).noticed op && nat_le op (length (g.seat j).ops))
          (and_parts (is_down (g.seat j).server)
          (has_node j g.nodes && (nat_le (g.seat j).noticed op && nat_le op (length (g.seat j).ops))) may).1).0)))
          (λ i other is. subst (λ (n : ℕ). IsEmpty (g.seat n)) (sym is) empty) k refl;
    }

    by : (b : Bool) → may_restart j op g ≡ b
        → Stays k g (cond b (restart_by j op (stable (take op (g.seat j).ops)) g) g)
    by true may = found may (stable (take op (g.seat j).ops))
    by false may = same k g

stays-move : (k : ℕ) (move : Move) (g : Group) → has_node k g.nodes ≡ false → Stays k g (moved move g)
stays-move k (Tick j) g not' = stays-feed k j Input.Tick g
stays-move k (Submit j time command) g not' = stays-feed k j (Input.Submit time command) g
stays-move k (Add j time command) g not' = stays-feed k j (Input.Add time command) g
stays-move k (Flush j) g not' = stays-feed k j Input.Flush g
stays-move k (Deliver at) g not' = stays-deliver k (take at g.bag) (drop at g.bag) g
stays-move k (Lose at) g not' = record { nodes = refl; seat = λ e. e }
stays-move k (Copy at) g not' = record { nodes = refl; seat = λ e. e }
stays-move k (Take j) g not' = stays-take k j g
stays-move k (Notice j op) g not' =
    cond_both (nat_le op (length (g.seat j).ops)) (feed j (Input.Notice op) g) g (Stays k g)
    (λ _. stays-feed k j (Input.Notice op) g) (λ _. same k g)
stays-move k (Crash j) g not' = record {
  nodes = refl;
  seat = out-put k j (record { server = None; ops = (g.seat j).ops; noticed = (g.seat j).noticed }) g
      (λ e. record { server = refl; ops = e.ops });
}
stays-move k (Restart j op) g not' = stays-restart k j op g not'

pub stays-out : (k : ℕ) (moves : List Move) (g : Group) → IsOut k g → IsOut k (group_after g moves)
stays-out k [] g out = out
stays-out k (move ∷ moves) g out =
    let s = stays-move k move g out.not_member in
    let e = s.seat (record { server = out.server; ops = out.ops }) in
    stays-out k moves (moved move g) (record {
      not_member = ap (has_node k) s.nodes ∙ out.not_member;
      server = e.server;
      ops = e.ops;
    })
