-- What holds of each server of a group that is up, whatever happens.
use Rattle.std.proofs.Common.{◌≡◌, ℕ, ◌+◌, true, not, leb, List, [], ◌∷◌, ◌++◌, length, map, filter, take, drop, Option, Some, None, refl, sym, ap, ◌∙◌, subst}
use Rattle.std.specs.Prelude.{◌&&◌, nat_eq, nat_le}
use Rattle.std.proofs.lemmas.Bool.{cond_both, and_parts}
use Rattle.qq_base.proofs.Puts.{put-each}
use Rattle.qq_base.specs.Fronts.{put}
use Rattle.qq_base.specs.declared.ids.NodeId.{NodeId}
use Rattle.qq_log.specs.declared.op.Op.{Op}
use Rattle.qq_log.specs.Stable.{Stable, stable}
use Rattle.qq_raft_model.specs.Group.{Event, Group, Seat, after_step, deliver_by, feed, feed_by, group_after, happens, has_node, is_down, lane_with, may_restart, restart_by, take_by, take_op}
use Rattle.qq_raft_model.specs.Group.Event.{Tick, Submit, Add, Flush, Deliver, Lose, Copy, Take, Notice, Crash, Restart}
use Rattle.qq_raft_model.specs.Handing.{Continues, peer_number}
use Rattle.qq_raft_model.specs.Promises.{IsDown}
use Rattle.qq_raft_model.specs.Refines.{number}
use Rattle.qq_raft_model.specs.Server.{Input, new_peer, restart, step}
use Rattle.qq_raft_model.specs.State.{Server}
use Rattle.qq_raft_model.proofs.Handing.{continues-step}
use Rattle.qq_raft_msg.specs.Rpc.{envelope}
use Rattle.qq_raft_msg.specs.declared.rpc.Rpc.{Rpc}
use Rattle.qq_cluster_progress_laws.proofs.Waiting.{WaitsLater, step-waits}

-- all nodes but one
abbrev pub others : ℕ → List NodeId → List NodeId
others k nodes = filter (λ (q : NodeId). not (nat_eq q.0 k)) nodes

-- its node is a member, its peers are the other members, nothing is left to be sent, and what waits waits for later changes
pub record IsFit (nodes : List NodeId) (k : ℕ) (s : Server) : Type 0 where
  pub member : has_node k nodes ≡ true
  pub node : s.node.0 ≡ k
  pub peers : map peer_number s.peers ≡ map number (others k nodes)
  pub out : s.out ≡ []
  pub waiting : WaitsLater s

pub record AreFit (nodes : List NodeId) (g : Group) : Type 0 where
  pub nodes_are : g.nodes ≡ nodes
  pub each : (k : ℕ) (s : Server) → (g.seat k).server ≡ Some s → IsFit nodes k s

same_some : {A : Type 0} (a b : A) → Some a ≡ Some b → a ≡ b
same_some a b e = cc

none_some : {A : Type 0} (a : A) → None ≡ Some a → ⊥
none_some a e = absurd cc

-- one seat changes
fit-put : (nodes : List NodeId) (g h : Group) (k : ℕ) (seat : Seat) → AreFit nodes g → h.nodes ≡ g.nodes
    → h.seat ≡ put k seat g.seat → ((s : Server) → seat.server ≡ Some s → IsFit nodes k s) → AreFit nodes h
fit-put nodes g h k seat fit same seats own = record {
  nodes_are = same ∙ fit.nodes_are;
  each = λ i s up.
      put-each (λ (j : ℕ) (x : Seat). (t : Server) → x.server ≡ Some t → IsFit nodes j t) k seat g.seat own
      (λ j other. fit.each j) i s (ap (λ (f : ℕ → Seat). (f i).server) (sym seats) ∙ up);
}

fit-feed : (nodes : List NodeId) (k : ℕ) (input : Input) (g : Group) → AreFit nodes g → AreFit nodes (feed k input g)
fit-feed nodes k input g fit = by (g.seat k).server refl
  where
    by : (o : Option Server) → (g.seat k).server ≡ o → AreFit nodes (feed_by k input o g)
    by None is = fit
    by (Some s) is =
        let t : Server = step s input in
        let old = fit.each k s is in
        let c : Continues s t = continues-step s input in
        fit-put nodes g (after_step k t g) k
        (record { server = Some (record t { out = [] }); ops = (g.seat k).ops; noticed = t.noticed }) fit refl refl
        (λ u up. subst (IsFit nodes k) (same_some (record t { out = [] }) u up) (record {
          member = old.member;
          node = ap (λ (n : NodeId). n.0) c.node ∙ old.node;
          peers = c.nodes ∙ old.peers;
          out = refl;
          waiting = step-waits s input old.waiting;
        }))

fit-bag : (nodes : List NodeId) (bag : List Rpc) (g : Group) → AreFit nodes g → AreFit nodes (record g { bag = bag })
fit-bag nodes bag g fit = record { nodes_are = fit.nodes_are; each = fit.each }

fit-deliver : (nodes : List NodeId) (before rest : List Rpc) (g : Group) → AreFit nodes g
    → AreFit nodes (deliver_by before rest g)
fit-deliver nodes before [] g fit = fit
fit-deliver nodes before (rpc ∷ rest) g fit =
    fit-feed nodes (envelope rpc).to.0 (Input.Receive rpc) (record g { bag = before ++ rest })
    (fit-bag nodes (before ++ rest) g fit)

fit-take : (nodes : List NodeId) (k : ℕ) (g : Group) → AreFit nodes g → AreFit nodes (take_op k (g.seat k).server g)
fit-take nodes k g fit = by (g.seat k).server refl
  where
    of : (s : Server) → (g.seat k).server ≡ Some s → (all : List Op) → AreFit nodes (take_by k s all g)
    of s is [] = fit
    of s is (op ∷ all) =
        let old = fit.each k s is in
        fit-put nodes g (take_by k s (op ∷ all) g) k
        (record {
          server = Some (record s { ops = all });
          ops = (g.seat k).ops ++ op ∷ [];
          noticed = (g.seat k).noticed;
        }) fit refl refl
        (λ u up. subst (IsFit nodes k) (same_some (record s { ops = all }) u up) (record {
          member = old.member;
          node = old.node;
          peers = old.peers;
          out = old.out;
          waiting = old.waiting;
        }))

    by : (o : Option Server) → (g.seat k).server ≡ o → AreFit nodes (take_op k o g)
    by None is = fit
    by (Some s) is = of s is s.ops

new-numbers : (nodes : List NodeId) → map peer_number (map new_peer nodes) ≡ map number nodes
new-numbers [] = refl
new-numbers (n ∷ nodes) = ap (λ (l : List ℕ). n.0 ∷ l) (new-numbers nodes)

fit-restart : (nodes : List NodeId) (k op : ℕ) (g : Group) → AreFit nodes g → may_restart k op g ≡ true
    → AreFit nodes (restart_by k op (stable (take op (g.seat k).ops)) g)
fit-restart nodes k op g fit may = by (stable (take op (g.seat k).ops))
  where
    here : has_node k g.nodes ≡ true
    here =
        (and_parts (has_node k g.nodes) (nat_le (g.seat k).noticed op && nat_le op (length (g.seat k).ops))
        (and_parts (is_down (g.seat k).server)
        (has_node k g.nodes && (nat_le (g.seat k).noticed op && nat_le op (length (g.seat k).ops))) may).1).0

    by : (o : Option Stable) → AreFit nodes (restart_by k op o g)
    by None = fit
    by (Some state) =
        let s : Server = restart (record { 0 = k }) g.nodes (lane_with g.queue state) in
        fit-put nodes g (restart_by k op (Some state) g) k
        (record { server = Some s; ops = take op (g.seat k).ops; noticed = op }) fit refl refl
        (λ u up. subst (IsFit nodes k) (same_some s u up) (record {
          member = ap (has_node k) (sym fit.nodes_are) ∙ here;
          node = refl;
          peers = new-numbers (others k g.nodes)
              ∙ ap (λ (l : List NodeId). map number (others k l)) fit.nodes_are;
          out = refl;
          waiting = tt;
        }))

pub fit-happens : (nodes : List NodeId) (e : Event) (g : Group) → AreFit nodes g → AreFit nodes (happens e g)
fit-happens nodes (Tick k) g fit = fit-feed nodes k Input.Tick g fit
fit-happens nodes (Submit k time command) g fit = fit-feed nodes k (Input.Submit time command) g fit
fit-happens nodes (Add k time command) g fit = fit-feed nodes k (Input.Add time command) g fit
fit-happens nodes (Flush k) g fit = fit-feed nodes k Input.Flush g fit
fit-happens nodes (Deliver at) g fit = fit-deliver nodes (take at g.bag) (drop at g.bag) g fit
fit-happens nodes (Lose at) g fit = fit-bag nodes (take at g.bag ++ drop (at + 1) g.bag) g fit
fit-happens nodes (Copy at) g fit = fit-bag nodes (g.bag ++ take 1 (drop at g.bag)) g fit
fit-happens nodes (Take k) g fit = fit-take nodes k g fit
fit-happens nodes (Notice k op) g fit =
    cond_both (leb op (length (g.seat k).ops)) (feed k (Input.Notice op) g) g (AreFit nodes)
    (λ _. fit-feed nodes k (Input.Notice op) g fit) (λ _. fit)
fit-happens nodes (Crash k) g fit =
    fit-put nodes g (happens (Crash k) g) k
    (record { server = None; ops = (g.seat k).ops; noticed = (g.seat k).noticed }) fit refl refl
    (λ s up. absurd (none_some s up))
fit-happens nodes (Restart k op) g fit =
    cond_both (may_restart k op g) (restart_by k op (stable (take op (g.seat k).ops)) g) g (AreFit nodes)
    (λ may. fit-restart nodes k op g fit may) (λ _. fit)

pub fit-after : (nodes : List NodeId) (events : List Event) (g : Group) → AreFit nodes g
    → AreFit nodes (group_after g events)
fit-after nodes [] g fit = fit
fit-after nodes (e ∷ events) g fit = fit-after nodes events (happens e g) (fit-happens nodes e g fit)

-- where all members are down nothing has to hold
pub fit-down : (g : Group) → IsDown g → AreFit g.nodes g
fit-down g down = record {
  nodes_are = refl;
  each = λ k s up. absurd (none_some s (sym (down.down k) ∙ up));
}
