-- The events of a script in which no call of a disk fails and each taker keeps what it is offered, given what restarts
-- find.
use Rattle.std.specs.Prelude.{ℕ, zero, suc, List, [], ◌∷◌, ◌++◌, Option, Some, None, length, ◌&&◌, if◌then◌else◌}
use Rattle.qq_base.specs.declared.ids.NodeId.{NodeId}
use Rattle.qq_entry.specs.declared.command.Unstamped.{Unstamped}
use Rattle.qq_script_lines.specs.declared.line.ScriptLine.{ScriptLine}
use Rattle.qq_script_lines.specs.declared.line.ScriptLine.TheVariants as lines
use Rattle.qq_cluster_model.specs.Queue.{Event, Submits, TellsEnded, TellsNotTaken, Attaches, Judges, Resends, Fetches, Downs, Ticks, Delivers, Loses, Copies, Notices}
use Rattle.qq_taker.specs.declared.taker.Verdict.TheVariants.{Keep}
use Rattle.qq_taker.specs.declared.handed.Handed.{Handed}
use Rattle.qq_cluster_model.specs.Cluster.{Setup, Cluster, ClusterEvent, MutesEach, EndsEach, Sets, Alike, At, NodeWrites, NodeSyncs, Crashes, FindsEach, Shows, SaysDown, SaysNoSuch, SaysUnroutable, SaysBusy, SaysEnded, cluster_after, members}
use Rattle.qq_cluster_model.specs.Rules.{some_queue, waits_written, waits_synced, waits_noticed, is_idle, most_rounds, is_ended, not_taken}
use Rattle.qq_cluster_model.specs.Lines.{publish_with, nodes_of, receiver_at}

-- how many ops of a queue a restart of a node finds
abbrev pub Finding : Type 0
Finding = Cluster → ℕ → ℕ → ℕ

-- all that the node's log was given
abbrev pub all_given : Finding
all_given c k place = length ((c.queue place).group.seat k).ops

-- what a sync has kept of it
abbrev pub all_synced : Finding
all_synced c k place = (c.queue place).synced k

-- ---- how events are put together

abbrev pub Doing : Type 0
Doing = Cluster → List ClusterEvent

abbrev pub nothing : Doing
nothing c = []

abbrev pub one : ClusterEvent → Doing
one event c = event ∷ []

abbrev pub both : Doing → Doing → Doing
both first second c = let early = first c in early ++ second (cluster_after c early)

abbrev pub each : {A : Type 0} → List A → (A → Doing) → Doing
each [] does = nothing
each (x ∷ xs) does = both (does x) (each xs does)

-- ---- takers

abbrev pub times : ℕ → Doing → Doing
times zero does = nothing
times (suc more) does = both does (times more does)

-- each keeps what it is offered
abbrev pub keep_where : ℕ → List Handed → Doing
keep_where place [] = nothing
keep_where place (h ∷ more) = one (At place (Judges Keep))

abbrev pub keep_next : ℕ → Doing
keep_next place c = keep_where place (c.queue place).untold c

abbrev pub tell : ℕ → Doing
tell place c = times (length (c.queue place).untold) (keep_next place) c

abbrev pub tells : ℕ → Event → Doing
tells place event = both (one (At place event)) (tell place)

-- ---- pumps

abbrev pub write : Setup → ℕ → Doing
write setup k c = if c.up k && some_queue setup (waits_written k) c then NodeWrites k ∷ [] else []

abbrev pub sync : Setup → ℕ → Doing
sync setup k c = if c.up k then if some_queue setup (waits_synced k) c then NodeSyncs k ∷ [] else [] else []

abbrev pub notice : ℕ → ℕ → Doing
notice k place c = if c.up k && waits_noticed k (c.queue place) then tells place (Notices k) c else []

abbrev pub node_round : Setup → ℕ → Doing
node_round setup k = both (write setup k) (both (sync setup k) (each setup.places (notice k)))

abbrev pub empty : ℕ → Doing
empty place c = times (length (c.queue place).group.bag) (tells place (Delivers 0)) c

abbrev pub round : Setup → Doing
round setup = both (each setup.nodes (node_round setup)) (each setup.places empty)

abbrev pub pumps : ℕ → Setup → Doing
pumps zero setup c = if is_idle setup c then [] else SaysBusy ∷ []
pumps (suc more) setup c = if is_idle setup c then [] else both (round setup) (pumps more setup) c

abbrev pub pump : Setup → Doing
pump setup = pumps most_rounds setup

abbrev pub and_pump : Setup → Doing → Doing
and_pump setup asked = both asked (λ c. if c.auto then pump setup c else [])

-- ---- lines

abbrev pub claim : Option ℕ → ℕ → Unstamped → ℕ → Doing
claim None session body place = one (At place (Submits session body))
claim (Some id) session body place = one (At place (TellsNotTaken session id))

abbrev pub give : ℕ → Unstamped → ℕ → Doing
give session body place c =
    if is_ended session (c.queue place) then At place (TellsEnded session) ∷ []
    else claim (not_taken session body (c.queue place)) session body place c

abbrev pub route : ℕ → Unstamped → List ℕ → Doing
route session body [] = one SaysUnroutable
route session body (place ∷ places) = each (place ∷ places) (give session body)

abbrev pub send : Setup → ℕ → List ℕ → List ℕ → List ℕ → Doing
send setup session exchange key body = route session (publish_with key body) (setup.targets exchange key)

abbrev pub resend : Setup → ℕ → Doing
resend setup session c =
    if some_queue setup (is_ended session) c then SaysEnded ∷ []
    else both (each setup.places (λ place. one (At place (Resends session))))
    (each setup.places (λ place. tells place (Fetches session))) c

abbrev pub finish : Setup → ℕ → Doing
finish setup session =
    both (one (Alike (EndsEach session))) (each setup.places (λ place. one (At place (Downs session))))

abbrev pub restart : Setup → Finding → ℕ → Doing
restart setup find k c = if c.up k then [] else FindsEach k (find c k) ∷ []

abbrev pub where_up : ℕ → Doing → Doing
where_up k does c = if c.up k then does c else SaysDown k ∷ []

abbrev pub deliver_by : ℕ → ℕ → Option ℕ → Doing
deliver_by place at None = one SaysNoSuch
deliver_by place at (Some k) =
    both (tells place (Delivers at)) (λ c. if c.up k then [] else SaysDown k ∷ [])

abbrev pub deliver : ℕ → ℕ → Doing
deliver place zero c = SaysNoSuch ∷ []
deliver place (suc at) c = deliver_by place at (receiver_at c place at) c

abbrev pub where_there : Option ℕ → Event → ℕ → Doing
where_there None event place = one SaysNoSuch
where_there (Some k) event place = one (At place event)

abbrev pub lose : ℕ → ℕ → Doing
lose place zero c = SaysNoSuch ∷ []
lose place (suc at) c = where_there (receiver_at c place at) (Loses at) place c

abbrev pub copy : ℕ → ℕ → Doing
copy place zero c = SaysNoSuch ∷ []
copy place (suc at) c = where_there (receiver_at c place at) (Copies at) place c

unfoldable pub line : Setup → Finding → ScriptLine → Doing
line setup find lines.Nothing = nothing
line setup find (lines.Publish body) = and_pump setup (send setup 1 [] (setup.name setup.first) body)
line setup find (lines.Send by exchange key body) = and_pump setup (send setup by.number exchange key body)
line setup find (lines.Client by at body) = and_pump setup (give by.number body at.0)
line setup find (lines.Attach by at tag taker) = one (At at.0 (Attaches by.number tag taker))
line setup find (lines.End by) = and_pump setup (finish setup by.number)
line setup find (lines.Resend by) = and_pump setup (resend setup by.number)
line setup find (lines.Mute by muted) = one (Alike (MutesEach by.number muted))
line setup find (lines.Pace auto) = one (Sets auto)
line setup find lines.Pump = pump setup
line setup find (lines.Write node) = where_up node.0 (write setup node.0)
line setup find (lines.Sync node) = where_up node.0 (sync setup node.0)
line setup find (lines.Notice node at) = where_up node.0 (tells at.0 (Notices node.0))
line setup find (lines.Tick node at) = where_up node.0 (one (At at.0 (Ticks node.0)))
line setup find (lines.Deliver at message) = deliver at.0 message
line setup find (lines.Lose at message) = lose at.0 message
line setup find (lines.Copy at message) = copy at.0 message
line setup find (lines.Crash nodes image) = each (nodes_of setup nodes) (λ k. one (Crashes k image))
line setup find (lines.Restart nodes) = each (nodes_of setup nodes) (restart setup find)
line setup find (lines.Show at) = one (Shows at.0)

-- ---- scripts

abbrev pub first_tick : ℕ → List NodeId → Doing
first_tick place [] = nothing
first_tick place (n ∷ nodes) = one (At place (Ticks n.0))

abbrev pub opening : Setup → Finding → Doing
opening setup find =
    both (each setup.nodes (restart setup find))
    (both (each setup.places (λ place. first_tick place (members setup place))) (pump setup))

abbrev pub script : Setup → Finding → List ScriptLine → Doing
script setup find [] = nothing
script setup find (said ∷ more) = both (line setup find said) (script setup find more)

abbrev pub run : Setup → Finding → List ScriptLine → Doing
run setup find said = both (opening setup find) (script setup find said)
