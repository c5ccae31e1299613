-- Clusters that something may have led to.
use Rattle.std.proofs.Common.{◌≡◌, ℕ, List, [], ◌∷◌, ◌++◌, refl, sym, ap, ◌∙◌, subst}
use Rattle.qq_raft_model.specs.Group.{Event as Move, group_after}
use Rattle.qq_cluster_model.specs.Cluster.{Cluster, ClusterEvent, Setup, cluster_after, cluster_happens, new_cluster, parts_of}
use Rattle.qq_cluster_model.specs.ClusterLaws.{HasGroups}
use Rattle.qq_cluster_model.specs.Laws.{CountsRise, all_moves, queue_after}
use Rattle.qq_cluster_model.specs.Queue.{Queue, begin}
use Rattle.qq_cluster_model.proofs.Counts.{counts-rise}
use Rattle.qq_cluster_model.proofs.EachQueue.{has-queues}
use Rattle.qq_cluster_model.proofs.Groups.{group-is}
use Rattle.qq_cluster_laws.specs.Linked.{IsReached}

pub after-both : (c : Cluster) (first second : List ClusterEvent)
    → cluster_after c (first ++ second) ≡ cluster_after (cluster_after c first) second
after-both c [] second = refl
after-both c (event ∷ first) second = after-both (cluster_happens c event) first second

pub reached-after : (setup : Setup) (c : Cluster) (events : List ClusterEvent) → IsReached setup c
    → IsReached setup (cluster_after c events)
reached-after setup c events r = (
  r.0 ++ events,
  ap (λ (b : Cluster). cluster_after b events) r.1 ∙ sym (after-both (new_cluster setup) r.0 events),
)

module _ (setup : Setup) (c : Cluster) (r : IsReached setup c) (place : ℕ) where
  -- a queue's own events make it
  pub queue-is : c.queue place ≡ queue_after (setup.args place) (setup.group place) (parts_of place r.0)
  queue-is = ap (λ (b : Cluster). b.queue place) r.1 ∙ has-queues setup r.0 place

  abbrev pub made : List Move
  made = all_moves (begin (setup.args place) (setup.group place)) (parts_of place r.0)

  pub group-made : (c.queue place).group ≡ group_after (setup.group place) made
  group-made =
      ap (λ (q : Queue). q.group) queue-is ∙ group-is (begin (setup.args place) (setup.group place)) (parts_of place r.0)

  pub counts-at : HasGroups setup → (k : ℕ) → CountsRise (c.queue place) k
  counts-at groups k =
      subst (λ (q : Queue). CountsRise q k) (sym queue-is)
      (counts-rise (setup.args place) (setup.group place) (parts_of place r.0) k (groups place))
