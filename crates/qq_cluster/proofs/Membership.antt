-- What waits at a node of a queue, where the node has a member of it and where it hasn't.
use Rattle.std.proofs.Common.{◌≡◌, ◌⊎◌, ◌≤◌, ℕ, Bool, true, false, ◌&&◌, cond, List, [], ◌∷◌, length, refl, sym, ap, ◌∙◌, subst, inl, inr, arith}
use Rattle.std.specs.Prelude.{is_some, nat_eq}
use Rattle.std.proofs.lemmas.Bool.{and_from, and_right, eqb-false, eq-eqb, le-ltb, or_parts}
use Rattle.qq_base.proofs.Lists.{AllByRecursion-in, In as InList, In-filter}
use Rattle.qq_base.specs.declared.ids.NodeId.{NodeId}
use Rattle.qq_raft_model.specs.Group.{has_node}
use Rattle.qq_raft_model.specs.Promises.{members_of}
use Rattle.qq_raft_protocol.specs.Facts.{In}
use Rattle.qq_cluster_model.specs.Cluster.{Cluster, Setup, members}
use Rattle.qq_cluster_model.specs.ClusterLaws.{HasGroups}
use Rattle.qq_cluster_model.specs.Laws.{CountsRise}
use Rattle.qq_cluster_model.specs.Queue.{waiting, waiting_by}
use Rattle.qq_cluster_model.specs.Rules.{is_quiet_at, is_settled, waits_noticed, waits_synced}
use Rattle.qq_cluster_laws.specs.Linked.{IsReached, MembersFollow, lot_of}
use Rattle.qq_cluster_laws.specs.Waiting.{ops_by, ops_waiting}
use Rattle.qq_cluster_laws.proofs.Reached.{counts-at, group-made, made}
use Rattle.qq_queue.specs.ClusterQueue.{is_up_at}
use Rattle.qq_cluster.proofs.Outside.{IsOut, stays-out}

not-member : (k : ℕ) (nodes : List NodeId) → has_node k nodes ≡ false → In k (members_of nodes) → ⊥
not-member k [] is here = here
not-member k (n ∷ nodes) is here =
    by here (λ later. not-member k nodes (or_parts (nat_eq n.0 k) (has_node k nodes) is).1 later)
  where
    by : ((k ≡ n.0) ⊎ In k (members_of nodes)) → (In k (members_of nodes) → ⊥) → ⊥
    by (inl same) rest = eqb-false n.0 k (or_parts (nat_eq n.0 k) (has_node k nodes) is).0 (sym same)
    by (inr later) rest = rest later

pub to-list : (x : ℕ) (xs : List ℕ) → In x xs → InList x xs
to-list x [] here = here
to-list x (y ∷ ys) (inl same) = inl same
to-list x (y ∷ ys) (inr later) = inr (to-list x ys later)

module _ (setup : Setup) (c : Cluster) (k place : ℕ) (groups : HasGroups setup) (r : IsReached setup c) where
  -- a node that isn't of its group has nothing of it
  pub outside : has_node k (members setup place) ≡ false → IsOut k (c.queue place).group
  outside is =
      subst (IsOut k) (sym (group-made setup c r place))
      (stays-out k (made setup c r place) (setup.group place) (record {
        not_member = is;
        server = (groups place).opened.down.down k;
        ops = (groups place).opened.down.others k (not-member k (members setup place) is);
      }))

  out-synced : IsOut k (c.queue place).group → (c.queue place).synced k ≤ 0
  out-synced out =
      let rise : CountsRise (c.queue place) k = counts-at setup c r place groups k in
      let most = rise.synced in let none = ap length out.ops in omega (arith, most, none)

  pub out-waits_synced : IsOut k (c.queue place).group → waits_synced k (c.queue place) ≡ false
  out-waits_synced out =
      le-ltb ((c.queue place).synced k) (length ((c.queue place).group.seat k).ops)
      (let none = ap length out.ops in omega (arith, none))

  pub out-waits_noticed : IsOut k (c.queue place).group → waits_noticed k (c.queue place) ≡ false
  out-waits_noticed out =
      le-ltb ((c.queue place).group.seat k).noticed ((c.queue place).synced k)
      (let none = out-synced out in omega (arith, none))

  pub out-waiting : IsOut k (c.queue place).group → waiting k (c.queue place).group ≡ 0
  out-waiting out = ap waiting_by out.server

  pub out-ops : IsOut k (c.queue place).group → ops_waiting k (c.queue place) ≡ []
  out-ops out = ap ops_by out.server

  pub out-settled : IsOut k (c.queue place).group → is_settled k (c.queue place) ≡ true
  out-settled out =
      let rise : CountsRise (c.queue place) k = counts-at setup c r place groups k in
      and_from (nat_eq (waiting k (c.queue place).group) 0)
      (nat_eq ((c.queue place).group.seat k).noticed (length ((c.queue place).group.seat k).ops))
      (eq-eqb (waiting k (c.queue place).group) 0 (out-waiting out))
      (eq-eqb ((c.queue place).group.seat k).noticed (length ((c.queue place).group.seat k).ops)
      (let low = rise.noticed in let most = out-synced out in let none = ap length out.ops in
      omega (arith, low, most, none)))

  module _ (follow : MembersFollow setup c k) (here : In place setup.places) where
    -- a member is up where its node is
    pub member-up : has_node k (members setup place) ≡ true → is_up_at k (c.queue place) ≡ c.up k
    member-up is =
        AllByRecursion-in (λ (p : ℕ). is_some ((c.queue p).group.seat k).server ≡ c.up k) place
        (lot_of setup k).places follow
        (In-filter (λ (p : ℕ). has_node k (members setup p)) place setup.places (to-list place setup.places here) is)

    by-member : (P : Bool → Type 0) → (has_node k (members setup place) ≡ true → P true)
        → (has_node k (members setup place) ≡ false → P false) → P (has_node k (members setup place))
    by-member P own other = by (has_node k (members setup place)) refl
      where
        by : (b : Bool) → has_node k (members setup place) ≡ b → P b
        by true is = own is
        by false is = other is

    -- what a queue tells of its member on a node is what waits there
    either : (waits : Bool) → (IsOut k (c.queue place).group → waits ≡ false)
        → (is_up_at k (c.queue place) && waits) ≡ (c.up k && waits)
    either waits out =
        by-member (λ (b : Bool). (is_up_at k (c.queue place) && waits) ≡ (c.up k && waits))
        (λ is. ap (λ (b : Bool). b && waits) (member-up is))
        (λ is. (let none = out (outside is) in
        and_right (is_up_at k (c.queue place)) waits none ∙ sym (and_right (c.up k) waits none)))

    pub noticed-told : (is_up_at k (c.queue place) && waits_noticed k (c.queue place))
        ≡ (c.up k && waits_noticed k (c.queue place))
    noticed-told = either (waits_noticed k (c.queue place)) out-waits_noticed

    pub settled-told : is_quiet_at (c.queue place) (λ (j : ℕ). is_up_at j (c.queue place)) k
        ≡ is_quiet_at (c.queue place) c.up k
    settled-told =
        by-member (λ (b : Bool). is_quiet_at (c.queue place) (λ (j : ℕ). is_up_at j (c.queue place)) k
        ≡ is_quiet_at (c.queue place) c.up k)
        (λ is. ap (λ (b : Bool). cond b (is_settled k (c.queue place)) true) (member-up is))
        (λ is. (let settled = out-settled (outside is) in
        whichever (is_up_at k (c.queue place)) settled ∙ sym (whichever (c.up k) settled)))
      where
        whichever : (b : Bool) → is_settled k (c.queue place) ≡ true → cond b (is_settled k (c.queue place)) true ≡ true
        whichever true settled = settled
        whichever false settled = refl
