-- A member that is down restarts with what its log holds.
use Rattle.std.proofs.Common.{◌≡◌, ℕ, ◌≤◌, true, ◌&&◌, not, eqb, leb, List, [], ◌∷◌, ◌++◌, length, map, filter, take, Option, Some, None, refl, sym, ap, subst, ◌∙◌, append-nil, arith, inl}
use Rattle.std.proofs.lemmas.Bool.{and_parts, leb-true, false≢true}
use Rattle.std.proofs.lemmas.List.{length-take-le, take_all}
use Rattle.std.specs.Prelude.{option_map}
use Rattle.qq_base.proofs.Fronts.{front-nil, front-refl}
use Rattle.qq_base.proofs.Puts.{put-each, put-same}
use Rattle.qq_base.specs.declared.ids.NodeId.{NodeId}
use Rattle.qq_entry.specs.declared.command.Entry.{Entry}
use Rattle.qq_log.specs.declared.lane.Lane.{Lane as DiskLane}
use Rattle.qq_log.specs.declared.op.Op.{Op}
use Rattle.qq_log.specs.Stable.{Stable, known_entries, stable}
use Rattle.qq_raft_protocol.specs.Facts.{In}
use Rattle.qq_raft_protocol.specs.Moves.{after}
use Rattle.qq_raft_protocol.specs.Moves.Move.{Restart}
use Rattle.qq_raft_protocol.specs.World.{Lane, Member, World, lanes}
use Rattle.qq_raft_protocol.proofs.Shades.{shaded-noticed}
use Rattle.qq_raft_model.specs.Handing.{plain_state}
use Rattle.qq_raft_model.specs.Refines.{number, disk_lane, IsGroup, OnlyRestarts}
use Rattle.qq_raft_model.specs.Server.{new_peer, restart}
use Rattle.qq_raft_model.specs.State.{Server}
use Rattle.qq_raft_model.proofs.Handing.{known-all}
use Rattle.qq_raft_model.proofs.Reached.{shaded-there, then-reached}
use Rattle.qq_raft_model.proofs.Restarting.{restart-only, restart-others, restart-stands, way-left}
use Rattle.qq_raft_model.specs.Group.{Group, Seat, has_node, is_down, lane_with, may_restart, restart_by}
use Rattle.qq_raft_model.specs.Promises.{AreDistinct, members_of}
use Rattle.qq_raft_model.proofs.Feeding.{same_some}
use Rattle.qq_raft_model.proofs.Members.{new-group}
use Rattle.qq_raft_model.proofs.Tied.{HasLane, HasLanes, IsTied, IsSeat, Tied, Follows, pending}

nothing-pending : (o : Option Server) → is_down o ≡ true → pending o ≡ []
nothing-pending None e = refl
nothing-pending (Some s) e = absurd (false≢true e)

-- the others, and what they said
left-seat : {members : List ℕ} {w v : World} {audit : List Entry} {k i : ℕ} {seat : Seat} → OnlyRestarts k w v
    → (i ≡ k → ⊥) → IsSeat members w audit i seat → IsSeat members v audit i seat
left-seat {i = i} {seat = seat} only other y = record {
  up = λ s is.
      let z = y.up s is in
      record {
        stands = restart-others only other z.stands;
        group = z.group;
        holds = z.holds;
        count = z.count;
        noticed_is = z.noticed_is;
        known = z.known;
      };
  lanes =
      subst (λ (m : Member). HasLanes m seat.noticed (seat.ops ++ pending seat.server)) (sym (only.member i other))
      y.lanes;
}

-- one lane is left
one-lane : {m : Member} {n : ℕ} (ops : List Op) → length ops ≡ n → HasLane m n ops → HasLanes m n ops
one-lane {m = m} {n = n} ops long h i late within =
    let same : n ≡ i = omega (arith, late, within, long) in
    subst (λ (l : List Op). HasLane m i l) (sym (take_all i ops (omega (arith, late, long))))
    (subst (λ (j : ℕ). HasLane m j ops) same h)

restart-with : {nodes : List NodeId} {S : List Entry → Entry → Type 0} {w : World} {g : Group} (k op : ℕ)
    → Tied nodes g w → AreDistinct nodes
    → has_node k nodes ≡ true → op ≤ length (g.seat k).ops
    → (h : HasLane (w.member k) op (take op (g.seat k).ops))
    → Follows nodes S w g (restart_by k op (Some (plain_state op h.term h.vote h.log)) g)
restart-with {nodes} {S} {w} {g} k op tied distinct has le h =
    let members = members_of nodes in
    let ops = take op (g.seat k).ops in
    let node : NodeId = record { 0 = k } in
    let lane : DiskLane = lane_with g.queue (plain_state op h.term h.vote h.log) in
    let disk : Lane = disk_lane lane in
    let with_log : List Entry → Lane =
    λ (log : List Entry). record { op = op; term = h.term.0; vote = option_map number h.vote; log = log } in
    let known : known_entries (map Some h.log) ≡ h.log = known-all h.log in
    let here : In disk (lanes (w.member k)) =
    subst (λ (log : List Entry). In (with_log log) (lanes (w.member k))) (sym known) h.here in
    let v = after w (Restart k disk) in
    let late : (w.member k).noticed ≤ op = shaded-noticed (shaded-there members w tied.reached) k disk here in
    let only : OnlyRestarts k w v = restart-only w k disk late in
    let s : Server = restart node g.nodes lane in
    let long : length ops ≡ op = length-take-le op (g.seat k).ops le in
    let again : Member = record { mine = disk; older = []; noticed = op } in
    let m : v.member k ≡ again = put-same k again w.member in
    let left : HasLane again op ops = record {
      term = h.term;
      vote = h.vote;
      log = h.log;
      is = h.is;
      here = inl (ap with_log (sym known));
    } in
    let there : HasLanes (v.member k) op ops =
    subst (λ (y : Member). HasLanes y op ops) (sym m) (one-lane ops long left) in
    let count : op ≡ length (ops ++ []) = omega (arith, long, ap length (append-nil ops)) in
    let own : IsTied members v k ops op g.audit s = record {
      stands = restart-stands w k node g.nodes lane refl;
      group =
          subst (λ (ns : List NodeId).
          IsGroup members k (map new_peer (filter (λ (q : NodeId). not (eqb q.0 k)) ns)))
          (sym tied.nodes_are) (new-group k nodes distinct has);
      holds =
          ap stable (append-nil ops) ∙ h.is
          ∙ ap (λ (log : List Entry). Some (plain_state op h.term h.vote log)) (sym known);
      count = count;
      noticed_is = refl;
      known = front-nil g.audit;
    } in
    let seat : Seat = record { server = Some s; ops = ops; noticed = op } in
    record {
      moves = Restart k disk ∷ [];
      allowed = (here, tt);
      sourced = (tt, tt);
      tied = record {
        reached = then-reached (Restart k disk ∷ []) tied.reached (here, tt);
        nodes_are = tied.nodes_are;
        seats =
            put-each (λ i x. IsSeat members v g.audit i x) k seat g.seat
            (record {
              up = λ u e. subst (IsTied members v k ops op g.audit) (same_some s u e) own;
              lanes = subst (λ (l : List Op). HasLanes (v.member k) op l) (sym (append-nil ops)) there;
            })
            (λ i other. left-seat only other (tied.seats i));
        bag = λ r sent. way-left only (tied.bag r sent);
        audit = tied.audit;
      };
      audit = front-refl g.audit;
    }

pub restart-follows : {nodes : List NodeId} {S : List Entry → Entry → Type 0} {w : World} {g : Group} (k op : ℕ)
    → Tied nodes g w
    → AreDistinct nodes → may_restart k op g ≡ true
    → Follows nodes S w g (restart_by k op (stable (take op (g.seat k).ops)) g)
restart-follows {nodes} {S} {w} {g} k op tied distinct may =
    let seat = g.seat k in
    let first = and_parts (is_down seat.server)
    (has_node k g.nodes && (leb seat.noticed op && leb op (length seat.ops))) may in
    let second = and_parts (has_node k g.nodes) (leb seat.noticed op && leb op (length seat.ops)) first.1 in
    let third = and_parts (leb seat.noticed op) (leb op (length seat.ops)) second.1 in
    let late = leb-true seat.noticed op third.0 in
    let le = leb-true op (length seat.ops) third.1 in
    let has : has_node k nodes ≡ true = subst (λ (ns : List NodeId). has_node k ns ≡ true) tied.nodes_are second.0 in
    let lanes_are : HasLanes (w.member k) seat.noticed seat.ops =
    subst (λ (l : List Op). HasLanes (w.member k) seat.noticed l)
    (ap (λ (l : List Op). seat.ops ++ l) (nothing-pending seat.server first.0) ∙ append-nil seat.ops)
    (tied.seats k).lanes in
    let h : HasLane (w.member k) op (take op seat.ops) = lanes_are op late le in
    subst (λ (o : Option Stable). Follows nodes S w g (restart_by k op o g)) (sym h.is)
    (restart-with k op tied distinct has le h)
