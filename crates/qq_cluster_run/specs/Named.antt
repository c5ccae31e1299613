-- What is true of a line that is read: it names queues and nodes of the cluster, members of groups and sessions from 1,
-- and what it sends is in range.
use Rattle.std.specs.Prelude.{◌≡◌, ◌<◌, ◌≤◌, ◌^◌, ℕ, List, [], ◌∷◌, length, Contains, Some, None, IfSome}
use Rattle.qq_base.specs.Ids.{client}
use Rattle.qq_base.specs.declared.ids.NodeId.{NodeId}
use Rattle.qq_base.specs.declared.ids.QueueId.{QueueId}
use Rattle.qq_base.specs.declared.ids.SessionId.{SessionId}
use Rattle.qq_entry.specs.declared.command.Unstamped.{Unstamped}
use Rattle.qq_entry.specs.declared.command.Unstamped.TheVariants as bodies
use Rattle.qq_entry.specs.declared.limits.TheConstants.{BODY_LIMIT, KEY_LIMIT}
use Rattle.qq_entry.specs.Range.{IsContent, IsWhole, IsPositive, IsMode, AreIds}
use Rattle.qq_route.specs.declared.queue_row.QueueRow.{QueueRow}
use Rattle.qq_script_lines.specs.declared.line.Nodes.{Nodes}
use Rattle.qq_script_lines.specs.declared.line.Nodes.TheVariants.{One, All}
use Rattle.qq_script_lines.specs.declared.line.ScriptLine.{ScriptLine}
use Rattle.qq_script_lines.specs.declared.line.ScriptLine.TheVariants as lines
use Rattle.qq_cluster_model.specs.Cluster.{Setup, members}
use Rattle.qq_cluster_run.specs.Setup.{place_of, row_at}

-- a command in range: a message with its content, tags and ids from 1, and no number too great
abbrev pub IsBody : Unstamped → Type 0
IsBody (bodies.Enqueue None message) = IfSome message.content IsContent × IsWhole message
IsBody (bodies.Enqueue (Some origin) message) = ⊥
IsBody bodies.Get = Unit {0}
IsBody (bodies.Subscribe tag mode) = IsPositive 32 tag × IsMode mode
IsBody (bodies.Cancel tag) = IsPositive 32 tag
IsBody (bodies.Credit tag count credit drain) = IsPositive 32 tag × (count < 2 ^ 32) × (credit < 2 ^ 32)
IsBody (bodies.Settle tag ids) = IsPositive 32 tag × AreIds ids
IsBody (bodies.Return tag ids) = IsPositive 32 tag × AreIds ids
IsBody (bodies.Discard tag ids) = IsPositive 32 tag × AreIds ids
IsBody bodies.Purge = Unit {0}

-- a client's session
abbrev pub IsClient : SessionId → Type 0
IsClient by = (by ≡ client by.number) × IsPositive 32 by.number

abbrev pub IsNode : Setup → NodeId → Type 0
IsNode setup node = Contains setup.nodes node.0

abbrev pub AreNodes : Setup → Nodes → Type 0
AreNodes setup (One node) = IsNode setup node
AreNodes setup All = Unit {0}

abbrev pub IsPlace : Setup → QueueId → Type 0
IsPlace setup queue = Contains setup.places queue.0

-- a node of a queue's group
abbrev pub IsMember : Setup → NodeId → QueueId → Type 0
IsMember setup node queue = IsNode setup node × IsPlace setup queue × Contains (members setup queue.0) node

-- a message's key and body aren't too long
abbrev pub IsShort : List ℕ → List ℕ → Type 0
IsShort key body = (length key ≤ KEY_LIMIT) × (length body ≤ BODY_LIMIT)

abbrev pub IsNamed : Setup → ScriptLine → Type 0
IsNamed setup lines.Nothing = Unit {0}
IsNamed setup (lines.Publish body) = Contains setup.places setup.first × IsShort (setup.name setup.first) body
IsNamed setup (lines.Send by exchange key body) = IsClient by × IsShort key body
IsNamed setup (lines.Client by queue body) = IsClient by × IsPlace setup queue × IsBody body
IsNamed setup (lines.Attach by queue tag taker) =
    IsClient by × IsPlace setup queue × IsPositive 32 tag × IsPositive 32 taker
IsNamed setup (lines.End by) = IsClient by
IsNamed setup (lines.Resend by) = IsClient by
IsNamed setup (lines.Mute by muted) = IsClient by
IsNamed setup (lines.Pace auto) = Unit {0}
IsNamed setup lines.Pump = Unit {0}
IsNamed setup (lines.Write node) = IsNode setup node
IsNamed setup (lines.Sync node) = IsNode setup node
IsNamed setup (lines.Notice node queue) = IsMember setup node queue
IsNamed setup (lines.Tick node queue) = IsMember setup node queue
IsNamed setup (lines.Deliver queue message) = IsPlace setup queue
IsNamed setup (lines.Lose queue message) = IsPlace setup queue
IsNamed setup (lines.Copy queue message) = IsPlace setup queue
IsNamed setup (lines.Crash nodes image) = AreNodes setup nodes
IsNamed setup (lines.Restart nodes) = AreNodes setup nodes
IsNamed setup (lines.Show queue) = IsPlace setup queue

-- the first one's name is a routing key
abbrev pub HasFirstKey : List QueueRow → Type 0
HasFirstKey [] = Unit {0}
HasFirstKey (row ∷ rows) = length row.name ≤ KEY_LIMIT

-- queues of which each is found by its number
pub record AreRows (rows : List QueueRow) : Type 0 where
  pub first : HasFirstKey rows
  pub numbers : (row : QueueRow) → Contains rows row → row_at rows (place_of row) ≡ Some row
