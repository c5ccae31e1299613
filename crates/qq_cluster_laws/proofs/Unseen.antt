-- Events that a node's log doesn't see.
use Rattle.std.proofs.Common.{◌≡◌, ℕ, true, false, List, [], ◌∷◌, length, refl, sym, ◌∙◌, subst}
use Rattle.std.specs.Prelude.{is_some, nat_eq}
use Rattle.std.proofs.lemmas.Bool.{cond_both, eqb-false}
use Rattle.qq_base.proofs.Lists.{AllByRecursion-weaker}
use Rattle.qq_base.proofs.Puts.{put-other}
use Rattle.qq_base.specs.Fronts.{put}
use Rattle.qq_disk.specs.Disk.{Disk}
use Rattle.qq_lots.specs.Kept.{IsTied, KeepsPromised}
use Rattle.qq_lots.specs.Lots.{Parts}
use Rattle.qq_raft_model.specs.Group.{Seat, may_restart}
use Rattle.qq_cluster_model.specs.Cluster.{Cluster, ClusterEvent, Setup, MutesEach, EndsEach, Sets, Alike, At, NodeWrites, NodeSyncs, Fails, Crashes, FindsEach, Shows, SaysDown, SaysNoSuch, SaysUnroutable, SaysBusy, SaysEnded, cluster_happens}
use Rattle.qq_cluster_model.specs.Queue.{Queue, Event, Mutes, Ends, Submits, TellsEnded, TellsNotTaken, Attaches, Judges, Resends, Fetches, Downs, Ticks, Delivers, Loses, Copies, Writes, Syncs, Notices, Stops, Finds, after, happens, moves, synced_after}
use Rattle.qq_cluster_laws.specs.Linked.{IsLinked, IsPromised, MembersFollow, lot_of, part_at, parts_at}
use Rattle.qq_cluster_laws.specs.Unseen.{sees, touches}
use Rattle.qq_cluster_laws.proofs.Seats.{event-leaves, is_up, moves-leave, ops-step, up-step}

-- of one queue a node's log has what it had, and its member is up or down as it was
pub record StaysAt (k : ℕ) (q r : Queue) : Type 0 where
  pub part : part_at k r ≡ part_at k q
  pub up : is_up (r.group.seat k) ≡ is_up (q.group.seat k)

same : (k : ℕ) (q : Queue) → StaysAt k q q
same k q = record { part = refl; up = refl }

synced-same : (k : ℕ) (q : Queue) (event : Event) → touches k event ≡ false → synced_after q event k ≡ q.synced k
synced-same k q (Mutes session muted) not' = refl
synced-same k q (Ends session) not' = refl
synced-same k q (TellsEnded session) not' = refl
synced-same k q (TellsNotTaken session id) not' = refl
synced-same k q (Attaches session tag number) not' = refl
synced-same k q (Judges verdict) not' = refl
synced-same k q (Submits session body) not' = refl
synced-same k q (Resends session) not' = refl
synced-same k q (Fetches session) not' = refl
synced-same k q (Downs session) not' = refl
synced-same k q (Ticks j) not' = refl
synced-same k q (Delivers at) not' = refl
synced-same k q (Loses at) not' = refl
synced-same k q (Copies at) not' = refl
synced-same k q (Writes j) not' = refl
synced-same k q (Syncs j) not' =
    cond_both (is_some (q.group.seat j).server) (put j (length (q.group.seat j).ops) q.synced) q.synced
    (λ (f : ℕ → ℕ). f k ≡ q.synced k)
    (λ _. put-other j (length (q.group.seat j).ops) q.synced k (λ e. eqb-false j k not' (sym e))) (λ _. refl)
synced-same k q (Notices j) not' = refl
synced-same k q (Stops j) not' = refl
synced-same k q (Finds j op) not' =
    cond_both (may_restart j op q.group) (put j op q.synced) q.synced (λ (f : ℕ → ℕ). f k ≡ q.synced k)
    (λ _. put-other j op q.synced k (λ e. eqb-false j k not' (sym e))) (λ _. refl)

event-stays : (k : ℕ) (q : Queue) (event : Event) → touches k event ≡ false → StaysAt k q (happens q event)
event-stays k q event not' =
    let ops = moves-leave (λ (x : Seat). x.ops) ops-step k (moves q event) q.group (event-leaves k q event not') in
    let synced = synced-same k q event not' in
    record {
      part = λ i. record { ops = ops i; synced = synced i };
      up = moves-leave is_up up-step k (moves q event) q.group (event-leaves k q event not');
    }

-- of each queue
part-stays : (c : Cluster) (k : ℕ) (event : ClusterEvent) (place : ℕ) → sees k event ≡ false
    → StaysAt k (c.queue place) ((cluster_happens c event).queue place)
part-stays c k (Sets auto) place not' = same k (c.queue place)
part-stays c k (Alike (MutesEach session muted)) place not' = event-stays k (c.queue place) (Mutes session muted) refl
part-stays c k (Alike (EndsEach session)) place not' = event-stays k (c.queue place) (Ends session) refl
part-stays c k (At own event) place not' =
    cond_both (nat_eq own place) (event ∷ []) []
    (λ (events : List Event). StaysAt k (c.queue place) (after (c.queue place) events))
    (λ _. event-stays k (c.queue place) event not') (λ _. same k (c.queue place))
part-stays c k (NodeWrites j) place not' = event-stays k (c.queue place) (Writes j) not'
part-stays c k (NodeSyncs j) place not' = event-stays k (c.queue place) (Syncs j) not'
part-stays c k (Fails j) place not' = event-stays k (c.queue place) (Stops j) not'
part-stays c k (Crashes j image) place not' = event-stays k (c.queue place) (Stops j) not'
part-stays c k (FindsEach j ops) place not' = event-stays k (c.queue place) (Finds j (ops place)) not'
part-stays c k (Shows own) place not' = same k (c.queue place)
part-stays c k (SaysDown j) place not' = same k (c.queue place)
part-stays c k SaysNoSuch place not' = same k (c.queue place)
part-stays c k SaysUnroutable place not' = same k (c.queue place)
part-stays c k SaysBusy place not' = same k (c.queue place)
part-stays c k SaysEnded place not' = same k (c.queue place)

-- and the node
pub up-stays : (c : Cluster) (k : ℕ) (event : ClusterEvent) → sees k event ≡ false
    → (cluster_happens c event).up k ≡ c.up k
up-stays c k (Sets auto) not' = refl
up-stays c k (Alike event) not' = refl
up-stays c k (At own event) not' = refl
up-stays c k (NodeWrites j) not' = refl
up-stays c k (NodeSyncs j) not' = refl
up-stays c k (Fails j) not' = put-other j false c.up k (λ e. eqb-false j k not' (sym e))
up-stays c k (Crashes j image) not' = put-other j false c.up k (λ e. eqb-false j k not' (sym e))
up-stays c k (FindsEach j ops) not' = put-other j true c.up k (λ e. eqb-false j k not' (sym e))
up-stays c k (Shows own) not' = refl
up-stays c k (SaysDown j) not' = refl
up-stays c k SaysNoSuch not' = refl
up-stays c k SaysUnroutable not' = refl
up-stays c k SaysBusy not' = refl
up-stays c k SaysEnded not' = refl

pub parts-stay : (c : Cluster) (k : ℕ) (event : ClusterEvent) → sees k event ≡ false
    → parts_at (cluster_happens c event) k ≡ parts_at c k
parts-stay c k event not' = λ i. λ (place : ℕ). (part-stays c k event place not').part i

-- ---- the link

pub unseen-promised : (setup : Setup) (c : Cluster) (k : ℕ) (event : ClusterEvent) (d : Disk) → sees k event ≡ false
    → IsPromised setup c k d → IsPromised setup (cluster_happens c event) k d
unseen-promised setup c k event d not' p =
    subst (λ (parts : Parts). KeepsPromised (lot_of setup k) parts d) (sym (parts-stay c k event not')) p

pub unseen-linked : (setup : Setup) (c : Cluster) (k : ℕ) (event : ClusterEvent) (d : Disk) → sees k event ≡ false
    → IsLinked setup c k d → IsLinked setup (cluster_happens c event) k d
unseen-linked setup c k event d not' l = record {
  promised = unseen-promised setup c k event d not' l.promised;
  tied = λ up. subst (λ (parts : Parts). IsTied (lot_of setup k) parts d) (sym (parts-stay c k event not'))
      (l.tied (sym (up-stays c k event not') ∙ up));
}

pub unseen-follow : (setup : Setup) (c : Cluster) (k : ℕ) (event : ClusterEvent) → sees k event ≡ false
    → MembersFollow setup c k → MembersFollow setup (cluster_happens c event) k
unseen-follow setup c k event not' follow =
    AllByRecursion-weaker (λ (place : ℕ). is_up ((c.queue place).group.seat k) ≡ c.up k)
    (λ (place : ℕ). is_up (((cluster_happens c event).queue place).group.seat k) ≡ (cluster_happens c event).up k)
    (λ place is. (part-stays c k event place not').up ∙ is ∙ sym (up-stays c k event not')) (lot_of setup k).places
    follow
