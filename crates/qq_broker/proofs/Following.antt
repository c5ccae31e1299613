-- Members are up where their node is, while events of a run happen.
use Rattle.std.proofs.Common.{◌≡◌, ℕ, Bool, true, false, List, [], ◌∷◌, ◌++◌, take, drop, take-append-drop, append_assoc, Option, Some, None, refl, sym, ap, subst, ◌∙◌}
use Rattle.std.specs.Prelude.{fold, is_some}
use Rattle.std.specs.List.{list_all}
use Rattle.std.proofs.lemmas.Bool.{cond-true, eqb-true, false≢true}
use Rattle.std.proofs.lemmas.List.Sums.{fold-append}
use Rattle.qq_disk.specs.declared.image.Image.{Image}
use Rattle.qq_log.specs.declared.op.Op.{Op}
use Rattle.qq_log.specs.Stable.{Stable, new_state, stable, then_apply}
use Rattle.qq_model.proofs.Lists.{AllByRecursion-from_in}
use Rattle.qq_raft_model.specs.Group.{Group, has_node, may_restart}
use Rattle.qq_raft_protocol.proofs.Lists.{In-filter}
use Rattle.qq_cluster_model.specs.Cluster.{Cluster, ClusterEvent, Setup, At, NodeWrites, NodeSyncs, Fails, Crashes, FindsEach, cluster_after, cluster_happens, members}
use Rattle.qq_cluster_model.specs.ClusterLaws.{HasGroups}
use Rattle.qq_cluster_model.specs.Rules.{may_find}
use Rattle.qq_cluster_laws.specs.Linked.{IsReached, MembersFollow, lot_of}
use Rattle.qq_cluster_laws.specs.Unseen.{is_node, sees}
use Rattle.qq_cluster_laws.specs.Waiting.{ops_waiting, ops_with_waiting}
use Rattle.qq_cluster_laws.proofs.Links.{TakesUp, crashed-follow, failed-follow, found-follow, writes-follow}
use Rattle.qq_cluster_laws.proofs.Reached.{group-made, made, reached-after}
use Rattle.qq_cluster_laws.proofs.Seats.{nodes-same}
use Rattle.qq_cluster_laws.proofs.Unseen.{unseen-follow}
use Rattle.qq_broker.proofs.Fair.{AreFair, Fair}
use Rattle.qq_cluster.proofs.Quiet.{all-in}

-- ---- first ops of ops that come to a state come to one

stays-none : (ops : List Op) → fold then_apply None ops ≡ None
stays-none [] = refl
stays-none (op ∷ ops) = stays-none ops

first-come : (first more : List Op) → is_some (stable (first ++ more)) ≡ true → is_some (stable first) ≡ true
first-come first more some =
    by (stable first) (ap is_some (sym (fold-append then_apply (Some new_state) first more)) ∙ some)
  where
    by : (o : Option Stable) → is_some (fold then_apply o more) ≡ true → is_some o ≡ true
    by None is = ap is_some (sym (stays-none more)) ∙ is
    by (Some state) is = refl

-- what a log was given comes to a state
abbrev pub Comes : Type 0
Comes =
    (setup : Setup) (c : Cluster) (place k : ℕ) → HasGroups setup → IsReached setup c
    → (state : Stable) × (stable (ops_with_waiting k (c.queue place)) ≡ Some state)

module _ (comes : Comes) (setup : Setup) (groups : HasGroups setup) (k : ℕ) where
  take-comes : (c : Cluster) (r : IsReached setup c) (place op : ℕ)
      → is_some (stable (take op ((c.queue place).group.seat k).ops)) ≡ true
  take-comes c r place op =
      let ops : List Op = ((c.queue place).group.seat k).ops in
      let waits : List Op = ops_waiting k (c.queue place) in
      let whole : take op ops ++ (drop op ops ++ waits) ≡ ops ++ waits =
      sym (append_assoc (take op ops) (drop op ops) waits)
      ∙ ap (λ (l : List Op). l ++ waits) (take-append-drop op ops) in
      first-come (take op ops) (drop op ops ++ waits)
      (ap (λ (l : List Op). is_some (stable l)) whole ∙ ap is_some (comes setup c place k groups r).1)

  takes-up : (c : Cluster) (r : IsReached setup c) (place op : ℕ) → has_node k (members setup place) ≡ true
      → may_find k op (c.queue place) ≡ true → TakesUp k op (c.queue place)
  takes-up c r place op has may =
      by (stable (take op ((c.queue place).group.seat k).ops)) refl (take-comes c r place op)
    where
      nodes : (c.queue place).group.nodes ≡ members setup place
      nodes =
          ap (λ (g : Group). g.nodes) (group-made setup c r place)
          ∙ nodes-same (made setup c r place) (setup.group place)

      by : (o : Option Stable) → stable (take op ((c.queue place).group.seat k).ops) ≡ o → is_some o ≡ true
          → TakesUp k op (c.queue place)
      by None is some = absurd (false≢true some)
      by (Some state) is some = record {
        may = sym (cond-true (has_node k (c.queue place).group.nodes) (may_restart k op (c.queue place).group) true
            (ap (has_node k) nodes ∙ has)) ∙ may;
        state = state;
        is = is;
      }

  follow-found : (c : Cluster) (r : IsReached setup c) (ops : ℕ → ℕ)
      → list_all (λ (place : ℕ). may_find k (ops place) (c.queue place)) setup.places ≡ true
      → MembersFollow setup (cluster_happens c (FindsEach k ops)) k
  follow-found c r ops may =
      found-follow setup c k ops
      (AllByRecursion-from_in (λ (place : ℕ). TakesUp k (ops place) (c.queue place)) (lot_of setup k).places
      (λ place on. (let parts = In-filter (λ (p : ℕ). has_node k (members setup p)) place setup.places on in
      takes-up c r place (ops place) parts.1
      (all-in (λ (p : ℕ). may_find k (ops p) (c.queue p)) setup.places place may parts.0))))

  module _ (May : Image → Type 0) (MayGive : ℕ → Type 0) where
    follow-seen : (c : Cluster) (event : ClusterEvent) → IsReached setup c → Fair setup May MayGive c event
        → sees k event ≡ true → MembersFollow setup c k → MembersFollow setup (cluster_happens c event) k
    follow-seen c (At place event) r fair seen follow = absurd (false≢true (sym (ap (is_node k) fair.0) ∙ seen))
    follow-seen c (NodeWrites j) r fair seen follow =
        subst (λ (i : ℕ). MembersFollow setup (cluster_happens c (NodeWrites i)) k) (sym (eqb-true j k seen))
        (writes-follow setup c k follow)
    follow-seen c (NodeSyncs j) r fair seen follow = follow
    follow-seen c (Fails j) r fair seen follow =
        subst (λ (i : ℕ). MembersFollow setup (cluster_happens c (Fails i)) k) (sym (eqb-true j k seen))
        (failed-follow setup c k)
    follow-seen c (Crashes j image) r fair seen follow =
        subst (λ (i : ℕ). MembersFollow setup (cluster_happens c (Crashes i image)) k) (sym (eqb-true j k seen))
        (crashed-follow setup c k image)
    follow-seen c (FindsEach j ops) r fair seen follow =
        subst (λ (i : ℕ). MembersFollow setup (cluster_happens c (FindsEach i ops)) k) (sym (eqb-true j k seen))
        (follow-found c r ops
        (subst (λ (i : ℕ). list_all (λ (place : ℕ). may_find i (ops place) (c.queue place)) setup.places ≡ true)
        (eqb-true j k seen) fair))
    follow-seen c _ r fair seen follow = absurd (false≢true seen)

    pub follow-all : (c : Cluster) (events : List ClusterEvent) → IsReached setup c → AreFair setup May MayGive c events
        → MembersFollow setup c k → MembersFollow setup (cluster_after c events) k
    follow-all c [] r fair follow = follow
    follow-all c (event ∷ events) r fair follow =
        follow-all (cluster_happens c event) events (reached-after setup c (event ∷ []) r) fair.1
        (by (sees k event) refl)
      where
        by : (b : Bool) → sees k event ≡ b → MembersFollow setup (cluster_happens c event) k
        by true seen = follow-seen c event r fair.0 seen follow
        by false unseen = unseen-follow setup c k event unseen follow
