-- A server's term doesn't fall while it is up.
use Rattle.std.proofs.Common.{◌≡◌, ℕ, ◌≤◌, ◌&&◌, true, leb, List, [], ◌∷◌, ◌++◌, length, take, drop, Option, Some, None, refl, sym, ap, ◌∙◌, arith}
use Rattle.std.proofs.lemmas.Bool.{and_parts, cond_both, false≢true}
use Rattle.qq_base.proofs.Puts.{put-each}
use Rattle.qq_log.specs.declared.op.Op.{Op}
use Rattle.qq_log.specs.Stable.{Stable, stable}
use Rattle.qq_raft_msg.specs.Rpc.{envelope}
use Rattle.qq_raft_msg.specs.declared.rpc.Rpc.{Rpc}
use Rattle.qq_raft_model.specs.Server.{Input, restart, step}
use Rattle.qq_raft_model.specs.State.{Server}
use Rattle.qq_raft_model.proofs.Handing.{continues-step}
use Rattle.qq_raft_model.specs.Group.{Event, Group, Seat, deliver_by, feed, feed_by, happens, has_node, is_down, lane_with, may_restart, restart_by, take_by, take_op}
use Rattle.qq_raft_model.specs.Group.Event.{Tick, Submit, Add, Flush, Deliver, Lose, Copy, Take, Notice, Crash, Restart}
use Rattle.qq_raft_model.proofs.Feeding.{same_some}

-- where a member is up before and after, its term is no earlier one
abbrev Rises : Option Server → Seat → Type 0
Rises before seat = (s t : Server) → before ≡ Some s → seat.server ≡ Some t → s.term.0 ≤ t.term.0

same-rises : (seat : Seat) → Rises seat.server seat
same-rises seat s t was is =
    let same : s.term.0 ≡ t.term.0 = ap (λ (x : Server). x.term.0) (same_some s t (sym was ∙ is)) in
    omega (arith, same)

-- it was this server and is that one
one-rises : (before : Option Server) (seat : Seat) (u v : Server) → before ≡ Some u → seat.server ≡ Some v
    → u.term.0 ≤ v.term.0 → Rises before seat
one-rises before seat u v had has le s t was is =
    let first : u.term.0 ≡ s.term.0 = ap (λ (x : Server). x.term.0) (same_some u s (sym had ∙ was)) in
    let second : v.term.0 ≡ t.term.0 = ap (λ (x : Server). x.term.0) (same_some v t (sym has ∙ is)) in
    omega (arith, first, second, le)

feed-rises : (g : Group) (k : ℕ) (input : Input) (o : Option Server) → (g.seat k).server ≡ o → (i : ℕ)
    → Rises (g.seat i).server ((feed_by k input o g).seat i)
feed-rises g k input None is i = same-rises (g.seat i)
feed-rises g k input (Some u) is i =
    let v : Server = record (step u input) { out = [] } in
    let seat : Seat = record { server = Some v; ops = (g.seat k).ops; noticed = (step u input).noticed } in
    put-each (λ j x. Rises (g.seat j).server x) k seat g.seat
    (one-rises (g.seat k).server seat u v is refl (continues-step u input).term)
    (λ j other. same-rises (g.seat j)) i

deliver-rises : (g : Group) (before behind : List Rpc) (i : ℕ)
    → Rises (g.seat i).server ((deliver_by before behind g).seat i)
deliver-rises g before [] i = same-rises (g.seat i)
deliver-rises g before (rpc ∷ behind) i =
    let k = (envelope rpc).to.0 in
    feed-rises (record g { bag = before ++ behind }) k (Input.Receive rpc) (g.seat k).server refl i

taken-rises : (g : Group) (k : ℕ) (u : Server) (ops : List Op) → (g.seat k).server ≡ Some u → (i : ℕ)
    → Rises (g.seat i).server ((take_by k u ops g).seat i)
taken-rises g k u [] is i = same-rises (g.seat i)
taken-rises g k u (op ∷ ops) is i =
    let v : Server = record u { ops = ops } in
    let seat : Seat = record { server = Some v; ops = (g.seat k).ops ++ op ∷ []; noticed = (g.seat k).noticed } in
    put-each (λ j x. Rises (g.seat j).server x) k seat g.seat
    (one-rises (g.seat k).server seat u v is refl (omega arith)) (λ j other. same-rises (g.seat j)) i

take-rises : (g : Group) (k : ℕ) (o : Option Server) → (g.seat k).server ≡ o → (i : ℕ)
    → Rises (g.seat i).server ((take_op k o g).seat i)
take-rises g k None is i = same-rises (g.seat i)
take-rises g k (Some u) is i = taken-rises g k u u.ops is i

none_some : (s : Server) → None ≡ Some s → ⊥
none_some s e = absurd cc

crash-rises : (g : Group) (k i : ℕ) → Rises (g.seat i).server ((happens (Crash k) g).seat i)
crash-rises g k i =
    let seat : Seat = record { server = None; ops = (g.seat k).ops; noticed = (g.seat k).noticed } in
    put-each (λ j x. Rises (g.seat j).server x) k seat g.seat
    (λ s t was is. absurd (none_some t is)) (λ j other. same-rises (g.seat j)) i

restart-rises : (g : Group) (k op : ℕ) (o : Option Stable) → is_down (g.seat k).server ≡ true → (i : ℕ)
    → Rises (g.seat i).server ((restart_by k op o g).seat i)
restart-rises g k op None down i = same-rises (g.seat i)
restart-rises g k op (Some state) down i =
    let server : Server = restart (record { 0 = k }) g.nodes (lane_with g.queue state) in
    let seat : Seat = record { server = Some server; ops = take op (g.seat k).ops; noticed = op } in
    put-each (λ j x. Rises (g.seat j).server x) k seat g.seat
    (λ s t was is. absurd (false≢true (ap is_down (sym was) ∙ down))) (λ j other. same-rises (g.seat j)) i

pub event-rises : (e : Event) (g : Group) (i : ℕ) → Rises (g.seat i).server ((happens e g).seat i)
event-rises (Tick k) g i = feed-rises g k Input.Tick (g.seat k).server refl i
event-rises (Submit k time command) g i = feed-rises g k (Input.Submit time command) (g.seat k).server refl i
event-rises (Add k time command) g i = feed-rises g k (Input.Add time command) (g.seat k).server refl i
event-rises (Flush k) g i = feed-rises g k Input.Flush (g.seat k).server refl i
event-rises (Deliver at) g i = deliver-rises g (take at g.bag) (drop at g.bag) i
event-rises (Lose at) g i = same-rises (g.seat i)
event-rises (Copy at) g i = same-rises (g.seat i)
event-rises (Take k) g i = take-rises g k (g.seat k).server refl i
event-rises (Notice k op) g i =
    cond_both (leb op (length (g.seat k).ops)) (feed k (Input.Notice op) g) g
    (λ (h : Group). Rises (g.seat i).server (h.seat i))
    (λ _. feed-rises g k (Input.Notice op) (g.seat k).server refl i) (λ _. same-rises (g.seat i))
event-rises (Crash k) g i = crash-rises g k i
event-rises (Restart k op) g i =
    cond_both (may_restart k op g) (restart_by k op (stable (take op (g.seat k).ops)) g) g
    (λ (h : Group). Rises (g.seat i).server (h.seat i))
    (λ may.
    restart-rises g k op (stable (take op (g.seat k).ops))
    (and_parts (is_down (g.seat k).server)
    (has_node k g.nodes && (leb (g.seat k).noticed op && leb op (length (g.seat k).ops))) may).0 i)
    (λ _. same-rises (g.seat i))
