-- The member that leads is up, so its queue is there.
use Rattle.std.proofs.Common.{◌≡◌, true, false, List, [], ◌∷◌, Option, Some, None, Bor, refl, ap}
use Rattle.std.specs.Prelude.{⊤, is_none, is_some}
use Rattle.std.specs.List.{fold}
use Rattle.std.specs.Option.{option_copied}
use Rattle.std.proofs.lemmas.Bool.{cond_both, false≢true}
use Rattle.qq_base.specs.declared.ids.NodeId.{NodeId}
use Rattle.qq_log.specs.Log.{LogState}
use Rattle.qq_raft_core.specs.Raft.{server_of}
use Rattle.qq_raft_model.specs.Server.{is_ready}
use Rattle.qq_raft.specs.declared.server.Server.{Server}
use Rattle.qq_group.specs.Group.{server_at}
use Rattle.qq_group.specs.Reads.{later, latest, leader_of, leading_at, machine_at, machine_of, node_of}
use Rattle.qq_group.specs.declared.group.Group.{Group}
use Rattle.qq_group.specs.declared.leading.Leading.{Leading}

abbrev IsUpBy : {Q L : Type 0} → Group Q L → Option Leading → Type 0
IsUpBy group None = ⊤
IsUpBy group (Some l) = is_some (server_at l.node.0 group) ≡ true

leading-up : {Q L : Type 0} (log : L → LogState) (group : Group Q L) (node : NodeId) (o : Option (Server Q L))
    → server_at node.0 group ≡ o → IsUpBy group (leading_at log node o)
leading-up log group node None is = tt
leading-up log group node (Some s) is =
    cond_both (is_ready (server_of log s.raft)) (Some (record { node = node; term = (server_of log s.raft).term })) None
    (IsUpBy group) (λ _. ap (λ (o : Option (Server _ _)). is_some o) is) (λ _. tt)

later-up : {Q L : Type 0} (group : Group Q L) (best next : Option Leading) → IsUpBy group best → IsUpBy group next
    → IsUpBy group (later best next)
later-up group best None b n = b
later-up group None (Some next) b n = n
later-up group (Some best) (Some next) b n =
    cond_both _ (Some next) (Some best) (IsUpBy group) (λ _. n) (λ _. b)

latest-up : {Q L : Type 0} (log : L → LogState) (group : Group Q L) (nodes : List NodeId) (best : Option Leading)
    → IsUpBy group best
    → IsUpBy group (fold (λ b (node : NodeId). later b (leading_at log node (server_at node.0 group))) best nodes)
latest-up log group [] best b = b
latest-up log group (node ∷ nodes) best b =
    latest-up log group nodes (later best (leading_at log node (server_at node.0 group)))
    (later-up group best (leading_at log node (server_at node.0 group)) b
    (leading-up log group node (server_at node.0 group) refl))

there : {Q L : Type 0} (o : Option (Server Q L)) → is_some o ≡ true → is_none (machine_at o) ≡ false
there None up = absurd (false≢true up)
there (Some s) up = refl

by-leading : {Q L : Type 0} (group : Group Q L) (best : Option Leading) → IsUpBy group best
    → is_none (machine_of (node_of best) group) ≡ is_none (node_of best)
by-leading group None up = refl
by-leading group (Some l) up = there (server_at l.node.0 group) up

-- the queue of the member that leads is None exactly where there is no such member
pub leading-none : {Q L : Type 0} (log : L → LogState) (group : Group Q L)
    → is_none (machine_of (leader_of log group) group) ≡ is_none (leader_of log group)
leading-none log group =
    by-leading group (latest log group group.nodes.items) (latest-up log group group.nodes.items None tt)

pub copied-none : {Q : Type 0} (o : Option (Bor Q)) → is_none o ≡ is_none (option_copied o)
copied-none None = refl
copied-none (Some q) = refl
