-- What a restart of a node, and a node that stays down, make of one queue.
use Rattle.std.proofs.Common.{◌≡◌, ◌≢◌, ◌⊎◌, ◌≤◌, ℕ, Bool, true, false, ◌&&◌, cond, Option, Some, None, length, take, refl, sym, ap, ◌∙◌, subst, inl, inr}
use Rattle.std.specs.Prelude.{is_some, nat_eq, nat_le}
use Rattle.std.specs.List.{list_all}
use Rattle.std.proofs.lemmas.Bool.{and_from, and_left, and_parts, and_right, cases_Bool, cases_eq, cond-true, cond_both, eq-eqb, leb-true}
use Rattle.std.proofs.lemmas.List.{length-take-le}
use Rattle.qq_base.proofs.Puts.{put-other, put-same}
use Rattle.qq_base.specs.Fronts.{put}
use Rattle.qq_log.specs.Stable.{Stable, stable}
use Rattle.qq_raft_model.specs.Group.{Group, Seat, happens as moved, has_node, is_down, lane_with, may_restart, restart_by}
use Rattle.qq_raft_model.specs.Group.Event.{Restart}
use Rattle.qq_raft_model.specs.Server.{restart}
use Rattle.qq_raft_model.specs.State.{Server}
use Rattle.qq_raft_protocol.specs.Facts.{In}
use Rattle.qq_cluster_model.specs.Cluster.{Cluster, Setup, members}
use Rattle.qq_cluster_model.specs.ClusterLaws.{HasGroups}
use Rattle.qq_cluster_model.proofs.Takerless.{untold-still}
use Rattle.qq_cluster_model.specs.Queue.{Finds, Queue, Stops, group_then, happens, synced_after, waiting_by}
use Rattle.qq_cluster_model.specs.Rules.{is_quiet, is_quiet_at, is_settled}
use Rattle.qq_cluster_laws.specs.Linked.{IsReached, MembersFollow}
use Rattle.qq_cluster.proofs.Membership.{member-up, outside}
use Rattle.qq_cluster.proofs.Quiet.{all-from, all-in, put-own}

-- ---- the seat of a member that restarts

abbrev started : ℕ → ℕ → Group → Stable → Seat
started k op g state =
    record {
      server = Some (restart (record { 0 = k }) g.nodes (lane_with g.queue state));
      ops = take op (g.seat k).ops;
      noticed = op;
    }

found-seat : (k op : ℕ) (g : Group) (state : Stable) → may_restart k op g ≡ true
    → stable (take op (g.seat k).ops) ≡ Some state → (moved (Restart k op) g).seat k ≡ started k op g state
found-seat k op g state may is =
    ap (λ (h : Group). h.seat k)
    (cond-true (may_restart k op g) (restart_by k op (stable (take op (g.seat k).ops)) g) g may)
    ∙ ap (λ (o : Option Stable). (restart_by k op o g).seat k) is ∙ put-same k (started k op g state) g.seat

pub found-ops : (k op : ℕ) (q : Queue) (state : Stable) → may_restart k op q.group ≡ true
    → stable (take op (q.group.seat k).ops) ≡ Some state
    → ((happens q (Finds k op)).group.seat k).ops ≡ take op (q.group.seat k).ops
found-ops k op q state may is = ap (λ (x : Seat). x.ops) (found-seat k op q.group state may is)

restart-most : (k op : ℕ) (g : Group) → may_restart k op g ≡ true → op ≤ length (g.seat k).ops
restart-most k op g may =
    let seat : Seat = g.seat k in
    let bounds : Bool = nat_le seat.noticed op && nat_le op (length seat.ops) in
    leb-true op (length seat.ops)
    (and_parts (nat_le seat.noticed op) (nat_le op (length seat.ops))
    (and_parts (has_node k g.nodes) bounds (and_parts (is_down seat.server) (has_node k g.nodes && bounds) may).1).1).1

-- all that it has is noticed, and nothing waits
pub found-settled : (k op : ℕ) (q : Queue) (state : Stable) → may_restart k op q.group ≡ true
    → stable (take op (q.group.seat k).ops) ≡ Some state → is_settled k (happens q (Finds k op)) ≡ true
found-settled k op q state may is =
    ap (λ (x : Seat). nat_eq (waiting_by x.server) 0 && nat_eq x.noticed (length x.ops))
    (found-seat k op q.group state may is)
    ∙ eq-eqb op (length (take op (q.group.seat k).ops))
    (sym (length-take-le op (q.group.seat k).ops (restart-most k op q.group may)))

-- ---- the others

pub found-others : (k op : ℕ) (g : Group) (j : ℕ) → (j ≢ k) → (moved (Restart k op) g).seat j ≡ g.seat j
found-others k op g j other =
    cond_both (may_restart k op g) (restart_by k op (stable (take op (g.seat k).ops)) g) g
    (λ (h : Group). h.seat j ≡ g.seat j) (λ _. by (stable (take op (g.seat k).ops))) (λ _. refl)
  where
    by : (o : Option Stable) → (restart_by k op o g).seat j ≡ g.seat j
    by None = refl
    by (Some state) = put-other k (started k op g state) g.seat j other

found-bag : (k op : ℕ) (g : Group) → (moved (Restart k op) g).bag ≡ g.bag
found-bag k op g =
    cond_both (may_restart k op g) (restart_by k op (stable (take op (g.seat k).ops)) g) g
    (λ (h : Group). h.bag ≡ g.bag) (λ _. by (stable (take op (g.seat k).ops))) (λ _. refl)
  where
    by : (o : Option Stable) → (restart_by k op o g).bag ≡ g.bag
    by None = refl
    by (Some state) = refl

-- it leaves a quiet queue quiet
pub quiet-found : (setup : Setup) (up : ℕ → Bool) (q : Queue) (k op : ℕ)
    → is_settled k (happens q (Finds k op)) ≡ true → is_quiet setup up q ≡ true
    → is_quiet setup (put k true up) (happens q (Finds k op)) ≡ true
quiet-found setup up q k op settled quiet =
    and_from (nat_eq (length (happens q (Finds k op)).group.bag) 0)
    (list_all (is_quiet_at (happens q (Finds k op)) (put k true up)) setup.nodes)
    (ap (λ (bag : _). nat_eq (length bag) 0) (found-bag k op q.group) ∙ parts.0)
    (all-from (is_quiet_at (happens q (Finds k op)) (put k true up)) setup.nodes
    (λ j node. at j (all-in (is_quiet_at q up) setup.nodes j parts.1 node)))
  where
    parts : (nat_eq (length q.group.bag) 0 ≡ true) × (list_all (is_quiet_at q up) setup.nodes ≡ true)
    parts = and_parts (nat_eq (length q.group.bag) 0) (list_all (is_quiet_at q up) setup.nodes) quiet

    at : (j : ℕ) → is_quiet_at q up j ≡ true → is_quiet_at (happens q (Finds k op)) (put k true up) j ≡ true
    at j is = by (cases_eq j k)
      where
        by : ((j ≡ k) ⊎ (j ≢ k)) → is_quiet_at (happens q (Finds k op)) (put k true up) j ≡ true
        by (inl same) =
            ap (λ (b : Bool). cond b (is_settled j (happens q (Finds k op))) true)
            (ap (put k true up) same ∙ put-same k true up)
            ∙ subst (λ (i : ℕ). is_settled i (happens q (Finds k op)) ≡ true) (sym same) settled
        by (inr other) =
            ap (λ (b : Bool). cond b (is_settled j (happens q (Finds k op))) true) (put-other k true up j other)
            ∙ ap (λ (seat : Seat). cond (up j) (nat_eq (waiting_by seat.server) 0
            && nat_eq seat.noticed (length seat.ops)) true) (found-others k op q.group j other) ∙ is

-- ---- a node that isn't of the group

pub not-found : (k op : ℕ) (q : Queue) → has_node k q.group.nodes ≡ false → happens q (Finds k op) ≡ q
not-found k op q other =
    let seat : Seat = q.group.seat k in
    let bounds : Bool = nat_le seat.noticed op && nat_le op (length seat.ops) in
    sym (untold-still (record q { group = group_then q (Finds k op); synced = synced_after q (Finds k op) }))
    ∙ ap (λ (b : Bool). record q {
      group = cond b (restart_by k op (stable (take op seat.ops)) q.group) q.group;
      synced = cond b (put k op q.synced) q.synced;
    })
    (and_right (is_down seat.server) (has_node k q.group.nodes && bounds)
    (and_left (has_node k q.group.nodes) bounds other))

-- ---- a node that is down and stays so

pub not-stopped : (k : ℕ) (q : Queue) → (q.group.seat k).server ≡ None → happens q (Stops k) ≡ q
not-stopped k q down =
    let seat : Seat = record { server = None; ops = (q.group.seat k).ops; noticed = (q.group.seat k).noticed } in
    let same : q.group.seat k ≡ seat =
    λ i. record { server = down i; ops = (q.group.seat k).ops; noticed = (q.group.seat k).noticed } in
    sym (untold-still (record q { group = group_then q (Stops k) }))
    ∙ ap (λ (seats : ℕ → Seat). record q { group = record q.group { seat = seats } })
    (put-own k seat q.group.seat same)

none-down : (o : Option Server) → is_some o ≡ false → o ≡ None
none-down None is = refl
none-down (Some s) is = absurd (let e : true ≡ false = is in cc)

-- it has no server, be it of the group or not
pub down-server : (setup : Setup) (c : Cluster) (k place : ℕ) → HasGroups setup → IsReached setup c
    → MembersFollow setup c k → In place setup.places → c.up k ≡ false → ((c.queue place).group.seat k).server ≡ None
down-server setup c k place groups r follow here down =
    elim (cases_Bool (has_node k (members setup place))) [
      | inl own ↦ none-down ((c.queue place).group.seat k).server
          (member-up setup c k place groups r follow here own ∙ down)
      | inr other ↦ (outside setup c k place groups r other).server
    ]
