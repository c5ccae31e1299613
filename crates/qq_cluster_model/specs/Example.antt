-- Worked scripts over one node and over three.
use Rattle.std.specs.Prelude.{ℕ, ◌-◌, List, [], ◌∷◌, ◌++◌, true, false, nat_eq, codes, if◌then◌else◌}
use Rattle.std.specs.Fmt.{decimal}
use Rattle.std.specs.List.{range_with_len}
use Rattle.std.specs.Str.{bytes_eq}
use Rattle.qq_base.specs.Ids.{client}
use Rattle.qq_base.specs.declared.ids.NodeId.{NodeId}
use Rattle.qq_base.specs.declared.ids.QueueId.{QueueId}
use Rattle.qq_disk.specs.declared.image.Image.{Image}
use Rattle.qq_disk.specs.declared.image.Tail.TheVariants.{Cut, Whole}
use Rattle.qq_entry.specs.declared.command.Mode.TheVariants.{Prefetch}
use Rattle.qq_entry.specs.declared.command.Unstamped.TheVariants.{Cancel, Get, Settle, Subscribe}
use Rattle.qq_entry.specs.Queue.{default_args}
use Rattle.qq_raft_model.specs.Group.{new_group}
use Rattle.qq_route.specs.Members.{members}
use Rattle.qq_script_lines.specs.declared.line.Nodes.TheVariants.{One}
use Rattle.qq_script_lines.specs.declared.line.ScriptLine.{ScriptLine}
use Rattle.qq_script_lines.specs.declared.line.ScriptLine.TheVariants.{Publish, Send, Client, Attach, Resend, Mute, Pace, Pump, Write, Sync, Notice, Tick, Deliver, Lose, Crash, Restart, Show}
use Rattle.qq_taker.specs.declared.taker.Verdict.TheVariants as Verdict
use Rattle.qq_cluster_model.specs.Cluster.{Setup, ClusterEvent, At, NodeWrites, NodeSyncs, Fails, new_cluster, cluster_after}
use Rattle.qq_cluster_model.specs.Lines.{publish_with}
use Rattle.qq_cluster_model.specs.Queue.{Attaches, Judges, Notices, Submits}
use Rattle.qq_cluster_model.specs.Serving.{Finding, all_given, all_synced, opening, run}
use Rattle.qq_cluster_model.specs.Texts.{text_of, audits_text}

-- ---- setups

abbrev pub name_of : ℕ → List ℕ
name_of place = codes "q" ++ decimal place

-- the default exchange alone: a queue by its name
abbrev pub by_name : List ℕ → (exchange key : List ℕ) → List ℕ
by_name [] exchange key = []
by_name (place ∷ places) [] key = if bytes_eq key (name_of place) then place ∷ [] else by_name places [] key
by_name places (b ∷ exchange) key = []

-- so many queues over so many nodes, in groups of three where there are as many
abbrev pub setup_of : ℕ → ℕ → Setup
setup_of nodes queues = record {
  nodes = range_with_len 1 nodes;
  places = range_with_len 1 queues;
  first = 1;
  name = name_of;
  args = λ place. default_args (record { 0 = place }) nodes;
  group = λ place. new_group (record { 0 = place }) (members nodes 3 (place - 1));
  targets = by_name (range_with_len 1 queues);
}

-- ---- lines

abbrev pub at_queue : ℕ → QueueId
at_queue n = record { 0 = n }

abbrev pub at_node : ℕ → NodeId
at_node n = record { 0 = n }

abbrev pub get : ScriptLine
get = Client (client 1) (at_queue 1) Get

abbrev pub crash : ℕ → Image → ScriptLine
crash n image = Crash (One (at_node n)) image

abbrev pub restart : ℕ → ScriptLine
restart n = Restart (One (at_node n))

abbrev pub tick : ℕ → ScriptLine
tick n = Tick (at_node n) (at_queue 1)

-- nothing of what wasn't synced is left, all of it, or so many bytes
abbrev pub none : Image
none = record { newest_log = Cut 0; others = Cut 0; removed_back = false }

abbrev pub whole : Image
whole = record { newest_log = Whole; others = Whole; removed_back = false }

abbrev pub cut : ℕ → Image
cut bytes = record { newest_log = Cut bytes; others = Cut 0; removed_back = false }

-- ---- scripts

-- a message, and it is got; then there is none
abbrev pub publish_and_get : List ScriptLine
publish_and_get = Publish (codes "a") ∷ get ∷ get ∷ []

-- A leader's message reaches both followers, who keep it. It crashes before it knows that, and one of them leads: the
-- message is there, and to send it again is no second one.
abbrev pub kept_by_followers : List ScriptLine
kept_by_followers =
    Pace false ∷ Publish (codes "b") ∷ Deliver (at_queue 1) 1 ∷ Deliver (at_queue 1) 1
    ∷ Write (at_node 2) ∷ Sync (at_node 2) ∷ Notice (at_node 2) (at_queue 1)
    ∷ Write (at_node 3) ∷ Sync (at_node 3) ∷ Notice (at_node 3) (at_queue 1)
    ∷ crash 1 none ∷ tick 2 ∷ Pump ∷ Pace true ∷ Resend (client 1) ∷ get ∷ []

-- A leader keeps a message that reaches nobody else. It crashes, another one leads, and the message is sent again. The
-- first one restarts, and its own entry gives way.
abbrev pub replaced : List ScriptLine
replaced =
    Pace false ∷ Publish (codes "b") ∷ Write (at_node 1) ∷ Sync (at_node 1) ∷ Notice (at_node 1) (at_queue 1)
    ∷ Lose (at_queue 1) 1 ∷ Lose (at_queue 1) 1 ∷ crash 1 whole ∷ tick 2 ∷ Pump ∷ Pace true ∷ Resend (client 1)
    ∷ restart 1 ∷ tick 2 ∷ Pump ∷ Show (at_queue 1) ∷ []

-- a muted session publishes and sends that twice again; the answer that it hears is printed once
abbrev pub muted : List ScriptLine
muted = Mute (client 1) true ∷ Publish (codes "a") ∷ Resend (client 1) ∷ Mute (client 1) false ∷ Resend (client 1) ∷ []

-- ---- consumers

abbrev pub subscribe : ℕ → ScriptLine
subscribe prefetch = Client (client 2) (at_queue 1) (Subscribe 1 (Prefetch prefetch))

abbrev pub settle : ℕ → ScriptLine
settle id = Client (client 2) (at_queue 1) (Settle 1 (id ∷ []))

-- a muted session's consumer misses a delivery; it is fetched, once
abbrev pub missed : List ScriptLine
missed =
    subscribe 1 ∷ Mute (client 2) true ∷ Publish (codes "a") ∷ Mute (client 2) false ∷ Resend (client 2)
    ∷ Resend (client 2) ∷ []

-- nothing was handed out
abbrev pub settle_untaken : List ScriptLine
settle_untaken = Client (client 1) (at_queue 1) (Settle 1 (1 ∷ [])) ∷ []

-- The second delivery comes, and waits for the first one, which was missed. Only once both were handed out it is
-- settled, and the next one comes.
abbrev pub in_order : List ScriptLine
in_order =
    subscribe 2 ∷ Mute (client 2) true ∷ Publish (codes "a") ∷ Mute (client 2) false ∷ Publish (codes "b")
    ∷ settle 2 ∷ Resend (client 2) ∷ settle 2 ∷ Publish (codes "c") ∷ []

-- a consumer is known from its subscription on, though the answer to that is missed
abbrev pub subscribed_late : List ScriptLine
subscribed_late = Mute (client 2) true ∷ subscribe 1 ∷ Publish (codes "a") ∷ Mute (client 2) false ∷ Resend (client 2) ∷ []

-- ---- takers

abbrev pub publish_a : ClusterEvent
publish_a = At 1 (Submits 1 (publish_with (name_of 1) (codes "a")))

-- a consumer gets a taker, which settles its delivery; at the cancel the taker is dropped
abbrev pub with_a_taker : List ScriptLine
with_a_taker =
    Client (client 1) (at_queue 1) (Subscribe 1 (Prefetch 2)) ∷ Attach (client 1) (at_queue 1) 1 1 ∷ Publish (codes "a")
    ∷ Client (client 1) (at_queue 1) (Cancel 1) ∷ []

-- what one node does with what waits
abbrev pub round_of_one : List ClusterEvent
round_of_one = NodeWrites 1 ∷ NodeSyncs 1 ∷ At 1 (Notices 1) ∷ []

abbrev pub settled_at_once : List ClusterEvent
settled_at_once = At 1 (Judges Verdict.Settle) ∷ At 1 (Submits 1 (Settle 1 (1 ∷ []))) ∷ []

abbrev pub at_the_taker : List ClusterEvent
at_the_taker =
    At 1 (Submits 1 (Subscribe 1 (Prefetch 2))) ∷ round_of_one ++ At 1 (Attaches 1 1 1) ∷ publish_a
    ∷ round_of_one ++ settled_at_once ++ round_of_one ++ At 1 (Submits 1 (Cancel 1)) ∷ round_of_one

-- ---- what is lost of a file

-- a message to each of two queues is appended and not synced, and a crash leaves so much of the file
abbrev pub cut_behind : Image → List ScriptLine
cut_behind image =
    Pace false ∷ Send (client 1) [] (name_of 1) (codes "aa") ∷ Send (client 1) [] (name_of 2) (codes "bb")
    ∷ Write (at_node 1) ∷ crash 1 image ∷ restart 1 ∷ Tick (at_node 1) (at_queue 1) ∷ Tick (at_node 1) (at_queue 2)
    ∷ Pump ∷ Resend (client 1) ∷ Pump ∷ []

-- of the first queue's ops all are left, of the others' what was synced
abbrev pub first_given : Finding
first_given c k place = if nat_eq place 1 then all_given c k place else all_synced c k place

-- the disk fails at the sync of a message, and then there is no leader
abbrev pub with_a_fault : List ScriptLine
with_a_fault = Publish (codes "a") ∷ get ∷ []

abbrev pub at_the_fault : List ClusterEvent
at_the_fault = publish_a ∷ NodeWrites 1 ∷ Fails 1 ∷ At 1 (Submits 1 Get) ∷ []

-- what is done at first over new disks
abbrev pub opened : Setup → List ClusterEvent
opened setup = opening setup all_given (new_cluster setup)

-- ---- what is printed

abbrev pub output : Setup → List ClusterEvent → List ℕ
output setup events =
    text_of setup (new_cluster setup) events ++ audits_text setup (cluster_after (new_cluster setup) events)

-- a script in which no disk fails
abbrev pub output_of : Setup → Finding → List ScriptLine → List ℕ
output_of setup find lines = output setup (run setup find lines (new_cluster setup))
