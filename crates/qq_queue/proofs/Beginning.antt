-- A queue that begins.
use Rattle.std.proofs.Common.{◌≡◌, ℕ, ◌<◌, Bool, true, false, ◌||◌, not, List, [], ◌∷◌, map, Option, None, refl, sym, ap, subst, ◌∙◌, inl, inr, arith}
use Rattle.std.specs.Prelude.{All, nat_eq}
use Rattle.std.specs.List.{AllByRecursion, count_by}
use Rattle.std.proofs.lemmas.Bool.{eq-eqb}
use Rattle.std.proofs.lemmas.Option.{none-some}
use Rattle.std.proofs.lemmas.List.Elements.{recursion_from_All}
use Rattle.qq_base.specs.declared.ids.NodeId.{NodeId}
use Rattle.qq_base.specs.declared.ids.QueueId.{QueueId}
use Rattle.qq_entry.specs.declared.command.Entry.{Entry}
use Rattle.qq_entry.specs.declared.queue.QueueArgs.{QueueArgs}
use Rattle.qq_log.specs.Log.{LogState}
use Rattle.qq_model.specs.State.{empty_queue}
use Rattle.qq_raft_core.specs.Raft.{server_of}
use Rattle.qq_raft_model.specs.Group.{Group as GroupState, group_after, has_node}
use Rattle.qq_raft_model.specs.Promises.{AreDistinct}
use Rattle.qq_raft_msg.specs.Rpc.{IsNode}
use Rattle.qq_raft_protocol.specs.Facts.{In}
use Rattle.qq_queue.specs.declared.machine_queue.MachineQueue.{MachineQueue}
use Rattle.qq_group.specs.Group.{Represents, server_at}
use Rattle.qq_group.specs.Opening.{AreApart, AreFound, IsAllDown, IsStart, IsUnnamed, OpensOver, Start, is_named, missing, restarts_of}
use Rattle.qq_group_laws.specs.Audited.{IsAuditedBy}
use Rattle.qq_queue.specs.ClusterQueue.{Opens, all_present}
use Rattle.qq_queue.specs.Members.{IsGroupOf, Member, Members, OpensGroup, down_start, own_log, queue_applied, queue_stands, queue_step}
use Rattle.qq_queue.specs.Sessions.{clients_of, numbers_of}
use Rattle.qq_queue.specs.declared.cluster_queue.ClusterQueue.{ClusterQueue}
use Rattle.qq_queue.proofs.Members.{raft-none, raft_of, seat-is}

abbrev Starts : Type 0
Starts = List (Start MachineQueue LogState)

has-in : (node : NodeId) (nodes : List NodeId) → In node nodes → has_node node.0 nodes ≡ true
has-in node [] here = absurd here
has-in node (n ∷ nodes) (inl same) =
    ap (λ (b : Bool). b || has_node node.0 nodes) (eq-eqb n.0 node.0 (ap (λ (m : NodeId). m.0) (sym same)))
has-in node (n ∷ nodes) (inr here) = or-right (nat_eq n.0 node.0) (has_node node.0 nodes) (has-in node nodes here)
  where
    or-right : (a b : Bool) → b ≡ true → (a || b) ≡ true
    or-right true b is = refl
    or-right false b is = is

-- each node is one that a member may start on
each-start : (all nodes : List NodeId) → AllByRecursion IsNode nodes → ((n : NodeId) → In n nodes → In n all)
    → AllByRecursion (IsStart queue_stands own_log queue_applied all) (map down_start nodes)
each-start all [] each some = tt
each-start all (n ∷ nodes) each some = (
  record { node = each.0; member = has-in n all (some n (inl refl)); ready = tt },
  each-start all nodes each.1 (λ m here. some m (inr here)),
)

pub starts-each : (nodes : List NodeId) (starts : Starts) → starts ≡ map down_start nodes → All IsNode nodes
    → AllByRecursion (IsStart queue_stands own_log queue_applied nodes) starts
starts-each nodes starts is each =
    subst (AllByRecursion (IsStart queue_stands own_log queue_applied nodes)) (sym is)
    (each-start nodes nodes (recursion_from_All IsNode nodes each) (λ n here. here))

unnamed : (nodes : List NodeId) (k : ℕ) → ((m : NodeId) → In m nodes → m.0 ≡ k → ⊥)
    → IsUnnamed (map down_start nodes) k
unnamed [] k other = tt
unnamed (n ∷ nodes) k other = (other n (inl refl), unnamed nodes k (λ m here. other m (inr here)))

apart : (nodes : List NodeId) → AreDistinct nodes → AreApart (map down_start nodes)
apart [] distinct = tt
apart (n ∷ nodes) distinct = (unnamed nodes n.0 distinct.0, apart nodes distinct.1)

pub starts-apart : (nodes : List NodeId) (starts : Starts) → starts ≡ map down_start nodes → AreDistinct nodes
    → AreApart starts
starts-apart nodes starts is distinct = subst (λ (l : Starts). AreApart l) (sym is) (apart nodes distinct)

named : (node : NodeId) (nodes : List NodeId) → In node nodes → is_named node (map down_start nodes) ≡ true
named node [] here = absurd here
named node (n ∷ nodes) (inl same) =
    ap (λ (b : Bool). b || is_named node (map down_start nodes))
    (eq-eqb n.0 node.0 (ap (λ (m : NodeId). m.0) (sym same)))
named node (n ∷ nodes) (inr here) = or-right (nat_eq n.0 node.0) (is_named node (map down_start nodes)) (named node nodes here)
  where
    or-right : (a b : Bool) → b ≡ true → (a || b) ≡ true
    or-right true b is = refl
    or-right false b is = is

found-all : (g : GroupState) (nodes : List NodeId) → AreFound own_log g (map down_start nodes)
found-all g [] = tt
found-all g (n ∷ nodes) = (tt, found-all g nodes)

restarts-none : (nodes : List NodeId) → restarts_of own_log (map down_start nodes) ≡ []
restarts-none [] = refl
restarts-none (n ∷ nodes) = restarts-none nodes

pub opens-over : (queue : QueueId) (nodes : List NodeId) (starts : Starts) (group : Members)
    → starts ≡ map down_start nodes → OpensOver own_log queue nodes [] starts group → (g : GroupState)
    → IsAllDown queue nodes [] g → Represents own_log g group
opens-over queue nodes starts group is opens g down =
    subst (λ (moves : List _). Represents own_log (group_after g moves) group)
    (ap (restarts_of own_log) is ∙ restarts-none nodes)
    (opens g down (subst (AreFound own_log g) (sym is) (found-all g nodes)))

-- who is down in a group that stands for one whose members are down
pub all-down : (queue : QueueId) (nodes : List NodeId) (audit : List Entry) (group : Members) (g : GroupState)
    → Represents own_log g group → IsAllDown queue nodes audit g → (k : ℕ) → server_at k group ≡ None
all-down queue nodes audit group g represents down k =
    raft-none (server_at k group) (sym (seat-is g group k represents) ∙ down.seats k)

pub opens-group : (queue : QueueId) (nodes : List NodeId) (starts : Starts) (group : Members)
    → starts ≡ map down_start nodes → OpensOver own_log queue nodes [] starts group → OpensGroup queue nodes group
opens-group queue nodes starts group is opens g reached down args =
    let represents : Represents own_log g group = opens-over queue nodes starts group is opens g down in
    let none : (k : ℕ) → server_at k group ≡ None = all-down queue nodes [] group g represents down in
    record {
      reached = reached;
      represents = represents;
      audited = λ k. subst (λ (o : Option Member). IsAuditedBy queue_stands queue_step (empty_queue args) group.audit.items o)
          (sym (none k)) tt;
      current = λ k s up. absurd (none-some s (sym (none k) ∙ up));
    }

pub opens-queue : (args : QueueArgs) (nodes : List NodeId) (d : ClusterQueue) → d.args ≡ args
    → d.publishers ≡ record { queue = args.queue; rows = [] } → d.consumers ≡ [] → d.seats ≡ [] → d.untold ≡ []
    → OpensGroup args.queue nodes d.group → Opens args nodes d
opens-queue args nodes d same publishers consumers seats untold opens g reached down =
    let group : IsGroupOf d.args g d.group = opens g reached down d.args in
    record {
      args = sym same;
      clients = ap (λ (p : _). clients_of all_present (numbers_of p)) (sym publishers);
      consumers = sym consumers;
      seats = sym seats;
      untold = sym untold;
      group = group;
      synced = λ k s up. absurd (none-some (server_of own_log s.raft) (sym (down.seats k)
          ∙ seat-is g d.group k group.represents ∙ ap raft_of up));
    }

-- every node is named
count-none : (p : NodeId → Bool) (nodes : List NodeId) → ((n : NodeId) → In n nodes → p n ≡ false)
    → count_by p nodes ≡ 0
count-none p [] each = refl
count-none p (n ∷ nodes) each =
    let here : p n ≡ false = each n (inl refl) in
    rw here (count-none p nodes (λ m there. each m (inr there)))

missing-none : (nodes : List NodeId) (starts : Starts) → starts ≡ map down_start nodes → missing nodes starts ≡ 0
missing-none nodes starts is =
    count-none (λ (node : NodeId). not (is_named node starts)) nodes
    (λ n here. ap (λ (l : Starts). not (is_named n l)) is ∙ ap not (named n nodes here))

pub none_missing : (nodes : List NodeId) (starts : Starts) → starts ≡ map down_start nodes → 0 < missing nodes starts → ⊥
none_missing nodes starts is some = let none = missing-none nodes starts is in omega (arith, none, some)
