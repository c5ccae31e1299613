-- A call of a client's command: what happens in it, and its answer, which is what is heard of that.
use Rattle.std.specs.Prelude.{◌≡◌, ℕ, List, [], ◌∷◌, ◌++◌, Bool, not, Option, Some, None, Result, Ok, Err, filter, filter_map, nat_eq, if◌then◌else◌}
use Rattle.qq_base.specs.declared.ids.QueueId.{QueueId}
use Rattle.qq_base.specs.declared.ids.SessionId.{SessionId}
use Rattle.qq_base.specs.declared.memory.Memory.{Memory}
use Rattle.qq_base.specs.declared.memory.Memory.TheVariants.{Want, Spent}
use Rattle.qq_disk.specs.Facts.{DiskFacts}
use Rattle.qq_entry.specs.declared.audit.AuditRow.{AuditRow}
use Rattle.qq_entry.specs.declared.command.Unstamped.{Unstamped}
use Rattle.qq_session.specs.Clients.{may_hand}
use Rattle.qq_taker.specs.Takers.{Takers, take_heard}
use Rattle.qq_taker.specs.declared.handed.Handed.{Handed}
use Rattle.qq_taker.specs.declared.heard.Heard.{Heard}
use Rattle.qq_taker.specs.declared.heard.Refusal.{Refusal}
use Rattle.qq_taker.specs.declared.heard.Refusal.TheVariants as refusals
use Rattle.qq_taker.specs.declared.heard.What.{What}
use Rattle.qq_taker.specs.declared.heard.What.TheVariants.{Answer, Refused}
use Rattle.qq_cluster_model.specs.Cluster.{Cluster, ClusterEvent, Setup as ClusterSetup, all_prints, cluster_after}
use Rattle.qq_cluster_model.specs.Outcome.{Outcome, all_heard, deliveries_among, takers_after}
use Rattle.qq_cluster_model.specs.Queue.{Queue, has_leader}
use Rattle.qq_cluster_model.specs.Rules.{IsGiven, IsPump, Rule, Then, is_ended, is_idle, not_taken}
use Rattle.qq_cluster_laws.specs.Linked.{IsReached}
use Rattle.qq_cluster_run.specs.Endings.{spent}
use Rattle.qq_cluster_run.specs.Serving.{EndsSpent, Run, cluster_in, setup_in}
use Rattle.qq_cluster_run.specs.Troubles.{Trouble}
use Rattle.qq_cluster.specs.Nodes.{EndsAt, Served, Stands}
use Rattle.qq_cluster.specs.declared.nodes.Nodes.{Nodes}
use Rattle.qq_broker.specs.Broker.{Runs, is_done}
use Rattle.qq_broker.specs.Lives.{Giving}
use Rattle.qq_broker.specs.Nodes.{Had}
use Rattle.qq_broker.specs.Serving.{run_after}
use Rattle.qq_broker.specs.declared.broker.Broker.{Broker}
use Rattle.qq_broker.specs.declared.calling.Called.{Called}

-- ---- what happens

-- a session's command is given to a queue, and a pump follows
abbrev pub IsCall : ClusterSetup → (session : ℕ) → Unstamped → (place : ℕ) → Rule
IsCall setup session body place = Then (IsGiven session body place) (IsPump setup)

-- ---- what is heard of it

abbrev pub heard_after : ClusterSetup → Cluster → List ClusterEvent → List Heard
heard_after setup c events = all_heard (all_prints setup c events)

abbrev pub is_heard_at : (place : ℕ) → Heard → Bool
is_heard_at place h = nat_eq h.queue.0 place

abbrev pub row_told : What → Option AuditRow
row_told (Answer row) = Some row
row_told _ = None

-- the answers that a queue shows, its deliveries to consumers without a taker, and what other queues show
abbrev pub rows_heard : (place : ℕ) → List Heard → List AuditRow
rows_heard place list = filter_map (λ (h : Heard). row_told h.what) (filter (is_heard_at place) list)

abbrev pub handed_heard : (place : ℕ) → List Heard → List Handed
handed_heard place list = deliveries_among (filter (is_heard_at place) list)

abbrev pub others_heard : (place : ℕ) → List Heard → List Heard
others_heard place list = filter (λ (h : Heard). not (is_heard_at place h)) list

-- it is heard that a command wasn't given
abbrev pub refused_or : Result (Unit {0}) Refusal → What → Result (Unit {0}) Refusal
refused_or else' (Refused session why) = Err why
refused_or else' _ = else'

-- a command was given, unless it is heard that it wasn't
abbrev pub outcome_heard : List Heard → Result (Unit {0}) Refusal
outcome_heard [] = Ok tt
outcome_heard (h ∷ more) = refused_or (outcome_heard more) h.what

-- ---- the answer

-- A call is answered by what is heard as the command is given, and then in the pump.
pub record Answers (setup : ClusterSetup) (c : Cluster) (place : ℕ) (early late : List ClusterEvent) (called : Called)
    : Type 0 where
  pub outcome : called.outcome ≡ outcome_heard (heard_after setup c early)
  pub rows : called.rows.items ≡ rows_heard place (heard_after setup (cluster_after c early) late)
  pub effects : called.effects.items ≡ handed_heard place (heard_after setup (cluster_after c early) late)
  pub others : called.others.items ≡ others_heard place (heard_after setup (cluster_after c early) late)
  pub idle : is_done called.pumped ≡ is_idle setup (cluster_after (cluster_after c early) late)

-- A broker was called: what happened is what a call allows, and it is answered so. Takers have seen what it shows, and
-- who listened to them before has heard nothing of it.
pub record HasCalled {D : Type 0} (given : Giving D) (facts : DiskFacts D) (old new : Broker D) (run : Run)
    (session : SessionId) (queue : QueueId) (body : Unstamped) (before later : Takers)
    (called : Called) : Type 0 where
  pub more : List ClusterEvent
  pub allowed : IsCall (setup_in old.setup run) session.number body queue.0 (cluster_in old.setup run) more
  pub disks : Had given facts (setup_in old.setup run) (run.events ++ more)
  pub runs : Runs given facts new (run_after run (run.events ++ more))
  pub answers :
      Answers (setup_in old.setup run) (cluster_in old.setup run) queue.0 allowed.early allowed.late called
  pub held : later.held ≡ (takers_after (setup_in old.setup run) (cluster_in old.setup run) more before).held
  pub heard : later.heard ≡ before.heard

-- there was no memory, or in the midst of a call a number stands at its end
abbrev pub IsCallGivenUp : (Trouble → Type 0) → ClusterSetup → List ClusterEvent → (session : ℕ) → Unstamped
    → (place : ℕ) → Memory → Type 0
IsCallGivenUp met setup events session body place Want = Unit {0}
IsCallGivenUp met setup events session body place (Spent number) =
    EndsSpent met setup (IsCall setup session body place) events (spent number)

-- ---- whether a command is given

abbrev pub handed_to : Queue → (session : ℕ) → Result (Unit {0}) Refusal
handed_to q session =
    if may_hand (q.clients session).numbers
    then (if has_leader q then Ok tt else Err refusals.NoLeader) else Err refusals.WindowFull

abbrev pub claimed_by : Option ℕ → Queue → (session : ℕ) → Result (Unit {0}) Refusal
claimed_by (Some id) q session = Err (refusals.NotTaken id)
claimed_by None q session = handed_to q session

-- A session that has ended gives no command, and none gives one for a delivery that wasn't handed out, or one beyond
-- its window. Each other command is given where a leader is ready.
abbrev pub outcome_at : Queue → (session : ℕ) → Unstamped → Result (Unit {0}) Refusal
outcome_at q session body =
    if is_ended session q then Err refusals.Ended else claimed_by (not_taken session body q) q session

-- ---- the parts of a call

-- nodes did what a rule allows, and what was heard of it was taken out
pub record Hears {D : Type 0} (facts : DiskFacts D) (Allows : ClusterSetup → Cluster → List ClusterEvent → Type 0)
    (old new : Nodes D) (before later : Outcome)
    (list : List Heard) : Type 0 where
  pub told : Outcome
  pub served : Served facts Allows old new before told
  pub heard : (all : List Heard) → told.takers.heard ≡ Some all → list ≡ all
  pub taken : later ≡ record told { takers = take_heard told.takers }

-- what is heard was added where it belongs
pub record Sorts (place : ℕ) (list : List Heard) (old new : Called) : Type 0 where
  pub rows : new.rows.items ≡ old.rows.items ++ rows_heard place list
  pub effects : new.effects.items ≡ old.effects.items ++ handed_heard place list
  pub others : new.others.items ≡ old.others.items ++ others_heard place list
  pub outcome : new.outcome ≡ old.outcome
  pub pumped : new.pumped ≡ old.pumped

-- nodes were given a command, and pumped, and this is what was heard of both
pub record HearsCall {D : Type 0} (facts : DiskFacts D) (session : ℕ) (body : Unstamped) (place : ℕ) (old new : Nodes D)
    (before later : Outcome) (called : Called) : Type 0 where
  pub mid : Nodes D
  pub between : Outcome
  pub asked : List Heard
  pub list : List Heard
  pub gives : Hears facts (λ setup. IsGiven session body place) old mid before between asked
  pub pumps : Hears facts IsPump mid new between later list
  pub idle : (setup : ClusterSetup) (c : Cluster) → IsReached setup c → Stands facts setup new c
      → is_done called.pumped ≡ is_idle setup c
  pub outcome : called.outcome ≡ outcome_heard asked
  pub rows : called.rows.items ≡ rows_heard place list
  pub effects : called.effects.items ≡ handed_heard place list
  pub others : called.others.items ≡ others_heard place list

-- there was no memory, or nodes have a number at its end in the midst of a call
abbrev pub StopsCall : {D : Type 0} → DiskFacts D → (session : ℕ) → Unstamped
    → (place : ℕ) → Nodes D → Memory → Type 0
StopsCall facts session body place old Want = Unit {0}
StopsCall facts session body place old (Spent number) =
    (setup : ClusterSetup) (c : Cluster) → IsReached setup c → Stands facts setup old c
    → EndsAt facts setup (IsCall setup session body place) old c number
