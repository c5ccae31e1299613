-- At each time the disks support each audit.
use Rattle.std.proofs.Common.{◌≡◌, ℕ, Bool, true, false, List, [], ◌∷◌, ◌++◌, Option, Some, None, refl, sym, ap, ◌∙◌, subst, inl, inr}
use Rattle.std.specs.Prelude.{length, nat_lt}
use Rattle.std.proofs.lemmas.Bool.{cond_both, eqb-true, ne_eqb}
use Rattle.qq_base.specs.Fronts.{IsFront, put}
use Rattle.qq_base.proofs.Fronts.{front-trans}
use Rattle.qq_base.proofs.Puts.{put-each}
use Rattle.qq_disk.specs.Disk.{Disk}
use Rattle.qq_disk.specs.Moments.{Adds}
use Rattle.qq_disk.proofs.Moments.{adds-same, adds-weaker}
use Rattle.qq_entry.specs.declared.command.Entry.{Entry}
use Rattle.qq_raft_model.specs.Group.{Event as Move, Group, group_after}
use Rattle.qq_raft_model.specs.Promises.{AreDistinct, IsOpened, whole_audit}
use Rattle.qq_raft_protocol.specs.Facts.{In}
use Rattle.qq_raft_protocol.proofs.Fewer.{supported-fewer}
use Rattle.qq_cluster_model.specs.Cluster.{Cluster, ClusterEvent, Setup, cluster_after, cluster_happens, part_of, parts_of}
use Rattle.qq_cluster_model.specs.ClusterLaws.{HasGroups}
use Rattle.qq_cluster_model.specs.Laws.{all_moves}
use Rattle.qq_cluster_model.specs.Queue.{Queue, after}
use Rattle.qq_cluster_model.proofs.Groups.{KeepsCommits, after-append, group-append, group-is}
use Rattle.qq_cluster_laws.specs.Held.{Supports, whole_at}
use Rattle.qq_cluster_laws.specs.Linked.{IsPromised, IsReached}
use Rattle.qq_cluster_laws.specs.Traced.{ArePromised, IsNoCrash, KeepsAt, KeepsWhere}
use Rattle.qq_cluster_laws.specs.Unseen.{is_node, seen_by, sees}
use Rattle.qq_cluster_laws.proofs.Reached.{group-made, made, reached-after}
use Rattle.qq_cluster_laws.proofs.Supporting.{Between, SupportsAudits, promised-supports}
use Rattle.qq_cluster_laws.proofs.Traces.{Beside, own-moments}
use Rattle.qq_cluster_laws.proofs.Unseen.{unseen-promised}

-- one node's log alone sees an event
pub one-log : (k j : ℕ) (o : Option ℕ) → is_node k o ≡ true → (j ≡ k → ⊥) → is_node j o ≡ false
one-log k j None is other = refl
one-log k j (Some own) is other = ne_eqb own j (λ same. other (sym same ∙ eqb-true own k is))

-- ---- audits grow

-- what the law of groups says
abbrev pub KnowsWhole : Type 0
KnowsWhole =
    (g : Group) (whole : List Entry) (events : List Move) → AreDistinct g.nodes → IsOpened g whole
    → IsFront whole (whole_audit whole (group_after g events))
    × IsFront (group_after g events).audit (whole_audit whole (group_after g events))

queue-later : (c : Cluster) (events : List ClusterEvent) (place : ℕ)
    → (cluster_after c events).queue place ≡ after (c.queue place) (parts_of place events)
queue-later c [] place = refl
queue-later c (event ∷ events) place =
    queue-later (cluster_happens c event) events place
    ∙ sym (after-append (c.queue place) (part_of place event) (parts_of place events))

-- what a group's audit was, with that which its logs supported, begins what it is later
whole-front : KeepsCommits → KnowsWhole → (g : Group) (whole : List Entry) (first more : List Move)
    → AreDistinct g.nodes → IsOpened g whole
    → IsFront (whole_audit whole (group_after g first)) (whole_audit whole (group_after (group_after g first) more))
whole-front grows knows g whole first more distinct opened =
    let old : Group = group_after g first in
    let new : Group = group_after old more in
    let last : IsFront whole (whole_audit whole new) × IsFront new.audit (whole_audit whole new) =
    subst (λ (h : Group). IsFront whole (whole_audit whole h) × IsFront h.audit (whole_audit whole h))
    (group-append g first more) (knows g whole (first ++ more) distinct opened) in
    cond_both (nat_lt (length whole) (length old.audit)) old.audit whole
    (λ (audit : List Entry). IsFront audit (whole_audit whole new))
    (λ _. front-trans (grows g whole first more distinct opened) last.1) (λ _. last.0)

module _ (between : Between) (supports : SupportsAudits) (grows : KeepsCommits) (knows : KnowsWhole) (setup : Setup)
    (groups : HasGroups setup) where
  whole-grows : (c : Cluster) (events : List ClusterEvent) (place : ℕ) → IsReached setup c
      → IsFront (whole_at setup groups c place) (whole_at setup groups (cluster_after c events) place)
  whole-grows c events place r =
      let whole : List Entry = (groups place).whole in
      let more : List Move = all_moves (c.queue place) (parts_of place events) in
      let later : ((cluster_after c events).queue place).group ≡ group_after (c.queue place).group more =
      ap (λ (q : Queue). q.group) (queue-later c events place) ∙ group-is (c.queue place) (parts_of place events) in
      subst (λ (g : Group). IsFront (whole_audit whole (c.queue place).group) (whole_audit whole g)) (sym later)
      (subst (λ (g : Group). IsFront (whole_audit whole g) (whole_audit whole (group_after g more)))
      (sym (group-made setup c r place))
      (whole-front grows knows (setup.group place) whole (made setup c r place) more (groups place).distinct
      (groups place).opened))

  -- ---- disks at one time

  pub supports-at : (c : Cluster) (disks : ℕ → Disk) → IsReached setup c → ArePromised setup c disks
      → Supports setup groups c disks
  supports-at c disks r promised =
      subst (λ (b : Cluster). Supports setup groups b disks) (sym r.1)
      (promised-supports between supports setup groups r.0 disks
      (λ k node. subst (λ (b : Cluster). IsPromised setup b k (disks k)) r.1 (promised k node)))

  -- what supports a later audit supports the one before it
  pub supports-earlier : (c : Cluster) (event : ClusterEvent) (disks : ℕ → Disk) → IsReached setup c
      → Supports setup groups (cluster_happens c event) disks → Supports setup groups c disks
  supports-earlier c event disks r s = record {
    read = s.read;
    each = λ place here.
        supported-fewer (λ q l may. may) (whole-grows c (event ∷ []) place r) (s.each place here);
  }

  -- ---- the moments of one node's disk

  -- beside the others as they stand
  pub event-supports : (c : Cluster) (k : ℕ) (event : ClusterEvent) (disks : ℕ → Disk) (old new : List Disk)
      → IsReached setup c → ArePromised setup c disks → IsNoCrash k event → KeepsAt setup c k event old new
      → Adds (λ (d : Disk). Supports setup groups c (put k d disks)) old new
  event-supports c k event disks old new r promised calm keeps' = by (sees k event) refl keeps'
    where
      at_first : (d : Disk) → IsPromised setup c k d → Supports setup groups c (put k d disks)
      at_first d own =
          supports-at c (put k d disks) r
          (λ j node. put-each (λ (i : ℕ) (e : Disk). In i setup.nodes → IsPromised setup c i e) k d disks
          (λ _. own) (λ i other here. promised i here) j node)

      behind : (d : Disk) → sees k event ≡ true → IsPromised setup (cluster_happens c event) k d
          → Supports setup groups c (put k d disks)
      behind d is own =
          supports-earlier c event (put k d disks) r
          (supports-at (cluster_happens c event) (put k d disks) (reached-after setup c (event ∷ []) r)
          (λ j node. put-each (λ (i : ℕ) (e : Disk). In i setup.nodes → IsPromised setup (cluster_happens c event) i e)
          k d disks (λ _. own)
          (λ i other here. unseen-promised setup c i event (disks i) (one-log k i (seen_by event) is other)
          (promised i here)) j node))

      beside : (d : Disk) → sees k event ≡ true → Beside setup k c event d
          → Supports setup groups c (put k d disks)
      beside d is (inl own) = at_first d own
      beside d is (inr own) = behind d is own

      by : (b : Bool) → sees k event ≡ b → KeepsWhere b setup c k event old new
          → Adds (λ (d : Disk). Supports setup groups c (put k d disks)) old new
      by false is same = adds-same (λ (d : Disk). Supports setup groups c (put k d disks)) old new same
      by true is keeps' =
          adds-weaker (Beside setup k c event) (λ (d : Disk). Supports setup groups c (put k d disks)) old new
          (λ d own. beside d is own) (own-moments setup k c event old new calm is keeps')
