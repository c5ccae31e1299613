-- A drill: which lines its steps are, by what was drawn and by what the lines before them have shown.
use Rattle.std.specs.Prelude.{ℕ, ◌+◌, ◌-◌, ◌%◌, List, [], ◌∷◌, ◌++◌, Bool, true, false, not, ◌&&◌, Option, Some, None, codes, map, nat_eq, nat_lt, replicate, slice_index_or, slice_set, if◌then◌else◌}
use Rattle.std.specs.Fmt.{decimal}
use Rattle.std.specs.List.{list_any}
use Rattle.qq_base.specs.Ids.{client, same_session}
use Rattle.qq_base.specs.declared.ids.ConsumerId.{ConsumerId}
use Rattle.qq_base.specs.declared.ids.NodeId.{NodeId}
use Rattle.qq_base.specs.declared.ids.QueueId.{QueueId}
use Rattle.qq_entry.specs.declared.command.Mode.TheVariants.{Prefetch}
use Rattle.qq_entry.specs.declared.command.Unstamped.{Unstamped}
use Rattle.qq_entry.specs.declared.command.Unstamped.TheVariants as commands
use Rattle.qq_disk.specs.declared.image.Tail.TheVariants.{Cut}
use Rattle.qq_script_lines.specs.Images.{newest_left}
use Rattle.qq_script_lines.specs.declared.line.Nodes.TheVariants.{One}
use Rattle.qq_script_lines.specs.declared.line.ScriptLine.{ScriptLine}
use Rattle.qq_script_lines.specs.declared.line.ScriptLine.TheVariants as lines
use Rattle.qq_route.specs.Members.{members}
use Rattle.qq_drill.specs.Draw.{draw_of, drawn, next_x}
use Rattle.qq_drill.specs.declared.draw.Deed.{Deed}
use Rattle.qq_drill.specs.declared.draw.Deed.TheVariants.{Sends, Gets, Subscribes, Settles, Returns, Crashes, Ticks}
use Rattle.qq_drill.specs.declared.draw.Draw.{Draw}
use Rattle.qq_drill.specs.declared.side.Held.{Held}
use Rattle.qq_drill.specs.declared.side.Side.{Side as SideRow}

-- what a drill knows of a queue: how many consumers its second session has there, and which of their deliveries were
-- printed and aren't ended, the oldest first
pub record Side : Type 0 where
  pub tags : ℕ
  pub held : List Held

pub record Drill : Type 0 where
  pub x : ℕ
  pub nodes : ℕ
  pub crashed : Option NodeId  -- the node that is down
  pub sides : List Side  -- of the queues in order

abbrev pub new_side : Side
new_side = record { tags = 0; held = [] }

abbrev pub new_drill : (number nodes : ℕ) → Drill
new_drill number nodes =
    record { x = number; nodes = nodes; crashed = None; sides = replicate 4 new_side }

-- ---- one queue

abbrev pub side_at : ℕ → List Side → Side
side_at queue sides = slice_index_or sides (queue - 1) new_side

abbrev pub put_side : ℕ → Side → List Side → List Side
put_side queue side sides = slice_set sides (queue - 1) side

abbrev pub queue_id : ℕ → QueueId
queue_id queue = record { 0 = queue }

abbrev pub node_id : ℕ → NodeId
node_id node = record { 0 = node }

-- the session of its consumers
abbrev pub taking : ℕ → ℕ
taking queue = 10 + queue

-- ---- what is asked

abbrev pub send : (step queue : ℕ) → ScriptLine
send step queue = lines.Send (client queue) [] (codes "q" ++ decimal queue) (codes "m" ++ decimal step)

abbrev pub get : (queue : ℕ) → ScriptLine
get queue = lines.Client (client queue) (queue_id queue) commands.Get

-- one consumer more than there are, of at most eight
abbrev pub subscribe : (queue tags : ℕ) → List ScriptLine
subscribe queue tags =
    if nat_lt tags 8
    then lines.Client (client (taking queue)) (queue_id queue) (commands.Subscribe (tags + 1) (Prefetch 4)) ∷ []
    else []

-- the oldest delivery is ended, if there is one
abbrev pub end_first : (ℕ → List ℕ → Unstamped) → ℕ → List Held → List ScriptLine
end_first how queue [] = []
end_first how queue (one ∷ more) =
    lines.Client (client (taking queue)) (queue_id queue) (how one.tag (one.id ∷ [])) ∷ []

-- where all nodes are up, a message is written at a node, and the node crashes with the first bytes of it; else the
-- node that is down restarts
abbrev pub crash : (step : ℕ) → Draw → Option NodeId → List ScriptLine
crash step d (Some node) = lines.Restart (One node) ∷ []
crash step d None =
    lines.Pace false ∷ send step d.queue ∷ lines.Pace true ∷ lines.Write (node_id d.node)
    ∷ lines.Crash (One (node_id d.node)) (newest_left (Cut d.cut)) ∷ []

-- time passes at a node that is up and has a member of the queue
abbrev pub is_down : ℕ → Option NodeId → Bool
is_down node None = false
is_down node (Some down) = nat_eq down.0 node

abbrev pub has_member : (nodes queue node : ℕ) → Bool
has_member nodes queue node = list_any (λ (member : NodeId). nat_eq member.0 node) (members nodes 3 (queue - 1))

abbrev pub tick : Draw → (nodes : ℕ) → Option NodeId → List ScriptLine
tick d nodes crashed =
    if has_member nodes d.queue d.node && not (is_down d.node crashed)
    then lines.Tick (node_id d.node) (queue_id d.queue) ∷ lines.Pump ∷ []
    else lines.Pump ∷ []

abbrev pub lines_by : Deed → (step : ℕ) → Draw → Drill → List ScriptLine
lines_by Sends step d s = send step d.queue ∷ []
lines_by Gets step d s = get d.queue ∷ []
lines_by Subscribes step d s = subscribe d.queue (side_at d.queue s.sides).tags
lines_by Settles step d s = end_first commands.Settle d.queue (side_at d.queue s.sides).held
lines_by Returns step d s = end_first commands.Return d.queue (side_at d.queue s.sides).held
lines_by Crashes step d s = crash step d s.crashed
lines_by Ticks step d s = tick d s.nodes s.crashed

-- ---- what becomes of the drill

abbrev pub subscribed : Side → Side
subscribed side = if nat_lt side.tags 8 then record side { tags = side.tags + 1 } else side

abbrev pub without_first : List Held → List Held
without_first [] = []
without_first (one ∷ more) = more

abbrev pub ended : Side → Side
ended side = record side { held = without_first side.held }

abbrev pub crashed_by : Draw → Option NodeId → Option NodeId
crashed_by d (Some node) = None
crashed_by d None = Some (node_id d.node)

abbrev pub change_side : ℕ → (Side → Side) → Drill → Drill
change_side queue change s =
    record s { sides = put_side queue (change (side_at queue s.sides)) s.sides }

abbrev pub after_by : Deed → Draw → Drill → Drill
after_by Subscribes d s = change_side d.queue subscribed s
after_by Settles d s = change_side d.queue ended s
after_by Returns d s = change_side d.queue ended s
after_by Crashes d s = record s { crashed = crashed_by d s.crashed }
after_by _ d s = s

-- ---- steps

-- what the next step draws
abbrev pub draw_next : Drill → Draw
draw_next s = draw_of s.nodes (drawn (next_x s.x))

-- the lines of a step, and after each 16th one what all sessions send again
abbrev pub resends_of : List ℕ → List ScriptLine
resends_of sessions = map (λ (session : ℕ). lines.Resend (client session)) sessions

abbrev pub resends : List ScriptLine
resends = resends_of (1 ∷ 2 ∷ 3 ∷ 4 ∷ 11 ∷ 12 ∷ 13 ∷ 14 ∷ [])

abbrev pub step_lines : (step : ℕ) → Drill → List ScriptLine
step_lines step s = let d : Draw = draw_next s in lines_by d.deed step d s

abbrev pub after_step : Drill → Drill
after_step s = let d : Draw = draw_next s in after_by d.deed d (record s { x = next_x s.x })

abbrev pub is_sixteenth : ℕ → Bool
is_sixteenth step = nat_eq (step % 16) 0

-- a delivery of this id was printed to a consumer
abbrev pub is_side_of : ConsumerId → ℕ → Bool
is_side_of id queue = same_session id.session (client (taking queue))

abbrev pub hold : ConsumerId → ℕ → Side → Side
hold id delivery side = record side { held = side.held ++ record { tag = id.tag; id = delivery } ∷ [] }

abbrev pub hear : ConsumerId → ℕ → Drill → Drill
hear id delivery s =
    if is_side_of id 1 then change_side 1 (hold id delivery) s
    else if is_side_of id 2 then change_side 2 (hold id delivery) s
    else if is_side_of id 3 then change_side 3 (hold id delivery) s
    else if is_side_of id 4 then change_side 4 (hold id delivery) s
    else s

-- at the end the node that is down restarts
abbrev pub last_restart : Option NodeId → List ScriptLine
last_restart None = []
last_restart (Some node) = lines.Restart (One node) ∷ []

-- ---- how the code keeps it

abbrev pub side_of : SideRow → Side
side_of side = record { tags = side.tags; held = side.held.items }

abbrev pub drill_of : ℕ → ℕ → Option NodeId → List SideRow → Drill
drill_of x nodes crashed sides =
    record { x = x; nodes = nodes; crashed = crashed; sides = map side_of sides }
