-- The audits of a run are serial, and stay.
use Rattle.std.proofs.Common.{◌≡◌, ℕ, List, [], ◌∷◌, ◌++◌, refl, sym, ap, subst, ◌∙◌}
use Rattle.std.proofs.lemmas.Grind.{flat_map-append}
use Rattle.qq_base.specs.Fronts.{IsFront}
use Rattle.qq_base.specs.Ids.{client}
use Rattle.qq_entry.specs.declared.queue.QueueArgs.{QueueArgs}
use Rattle.qq_model.specs.Audit.{audit_of}
use Rattle.qq_model.specs.State.{empty_queue}
use Rattle.qq_raft_model.specs.Group.{Group}
use Rattle.qq_session.specs.Answered.{IsAnswered}
use Rattle.qq_route.specs.declared.setup.Setup.{Setup}
use Rattle.qq_cluster_model.specs.Cluster.{Setup as ClusterSetup, ClusterEvent, part_of, parts_of}
use Rattle.qq_cluster_model.specs.ClusterLaws.{HasItsQueues}
use Rattle.qq_cluster_model.specs.Laws.{CountsRise, IsBegun, KeepsAudit, queue_after}
use Rattle.qq_cluster_model.specs.Queue.{Queue, Event, after, audit_rows, begin, happens}
use Rattle.qq_cluster_model.proofs.Groups.{after-append}
use Rattle.qq_cluster_run.specs.Inputs.{Input}
use Rattle.qq_cluster_run.specs.Printing.{audit_behind, queue_behind}
use Rattle.qq_cluster_run.specs.Serving.{AnyDisks, Behind, after_all, setup_behind}
use Rattle.qq_cluster_run.specs.Setup.{Logs, cluster_over}

abbrev pub HasQueues : Type 0
HasQueues = (setup : ClusterSetup) (events : List ClusterEvent) → HasItsQueues setup events

args-stay : (q : Queue) (events : List Event) → (after q events).args ≡ q.args
args-stay q [] = refl
args-stay q (event ∷ events) = args-stay (happens q event) events

pub serial-at : HasQueues → (s : Setup) (all left : List Input) (b : Behind AnyDisks s all left) (place : ℕ)
    → audit_behind b place ≡ audit_of (empty_queue ((setup_behind b).args place)) (queue_behind b place).group.audit
serial-at each s all left b place =
    let setup : ClusterSetup = setup_behind b in
    let args : QueueArgs = setup.args place in
    subst (λ (q : Queue). audit_rows q ≡ audit_of (empty_queue args) q.group.audit)
    (sym (each setup b.events place))
    (ap (λ (a : QueueArgs). audit_of (empty_queue a)
    (queue_after args (setup.group place) (parts_of place b.events)).group.audit)
    (args-stay (begin args (setup.group place)) (parts_of place b.events)))

pub stays-at : HasQueues
    → ((args : QueueArgs) (group : Group) (first second : List Event) → IsBegun group
    → KeepsAudit (queue_after args group first) second)
    → (s : Setup) (all left rest : List Input) (b : Behind AnyDisks s all left) (c : Behind AnyDisks s all rest)
    (place : ℕ) (more : List ClusterEvent) → c.logs ≡ b.logs → c.events ≡ b.events ++ more
    → IsFront (audit_behind b place) (audit_behind c place)
stays-at each stays s all left rest b c place more logs is =
    let setup : ClusterSetup = setup_behind b in
    let args : QueueArgs = setup.args place in
    let group : Group = setup.group place in
    let first : List Event = parts_of place b.events in
    let second : List Event = parts_of place more in
    let here : queue_behind b place ≡ queue_after args group first = each setup b.events place in
    let parts : parts_of place (b.events ++ more) ≡ first ++ second =
    flat_map-append (part_of place) b.events more in
    let there : queue_behind c place ≡ after (queue_after args group first) second =
    ap (λ (l : Logs). (after_all (cluster_over s l) c.events).queue place) logs
    ∙ ap (λ (es : List ClusterEvent). (after_all setup es).queue place) is
    ∙ each setup (b.events ++ more) place ∙ ap (queue_after args group) parts
    ∙ after-append (begin args group) first second in
    subst (λ (q : Queue). IsFront (audit_rows q) (audit_behind c place)) (sym here)
    (subst (λ (q : Queue). IsFront (audit_rows (queue_after args group first)) (audit_rows q)) (sym there)
    (stays args group first second (b.begins.groups place)))

pub once-at : HasQueues
    → ((args : QueueArgs) (group : Group) (session : ℕ) (events : List Event)
    → IsAnswered (client session) (audit_rows (queue_after args group events)))
    → (s : Setup) (all left : List Input) (b : Behind AnyDisks s all left) (place session : ℕ)
    → IsAnswered (client session) (audit_behind b place)
once-at each answered s all left b place session =
    let setup : ClusterSetup = setup_behind b in
    subst (λ (q : Queue). IsAnswered (client session) (audit_rows q)) (sym (each setup b.events place))
    (answered (setup.args place) (setup.group place) session (parts_of place b.events))

pub counts-at : HasQueues
    → ((args : QueueArgs) (group : Group) (events : List Event) (k : ℕ) → IsBegun group
    → CountsRise (queue_after args group events) k)
    → (s : Setup) (all left : List Input) (b : Behind AnyDisks s all left) (place k : ℕ)
    → CountsRise (queue_behind b place) k
counts-at each rise s all left b place k =
    let setup : ClusterSetup = setup_behind b in
    subst (λ (q : Queue). CountsRise q k) (sym (each setup b.events place))
    (rise (setup.args place) (setup.group place) (parts_of place b.events) k (b.begins.groups place))
