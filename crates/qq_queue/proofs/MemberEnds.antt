-- What stands at its end where an event of a queue's group is refused for a number.
use Rattle.std.proofs.Common.{◌≡◌, ◌⊎◌, ◌≤◌, ◌<◌, ◌+◌, ◌-◌, ◌^◌, ℕ, zero, suc, false, List, [], ◌∷◌, ◌++◌, drop, length, take, Option, Some, None, refl, sym, ap, subst, ◌∙◌, inl, inr, arith}
use Rattle.std.proofs.lemmas.List.{length-take-le}
use Rattle.std.proofs.lemmas.List.Edits.{length-remove}
use Rattle.std.proofs.lemmas.Option.{none-some, slice_get_within}
use Rattle.qq_base.specs.declared.ids.NodeId.{NodeId}
use Rattle.qq_base.specs.declared.memory.Memory.TheVariants.{Spent, Want}
use Rattle.qq_base.specs.declared.memory.TheConstants.{NUMBER_END}
use Rattle.qq_entry.specs.declared.command.Command.{Command}
use Rattle.qq_entry.specs.declared.command.Entry.{Entry}
use Rattle.qq_entry.specs.declared.queue.QueueArgs.{QueueArgs}
use Rattle.qq_model.specs.Audit.{state_after}
use Rattle.qq_model.specs.State.{State, empty_queue, is_within_ends}
use Rattle.qq_model.specs.Step.{step as step_queue}
use Rattle.qq_raft_msg.specs.Bag.{at_place, without}
use Rattle.qq_raft_msg.specs.Rpc.{envelope}
use Rattle.qq_raft_msg.specs.declared.bag.TheConstants.{BAG_LIMIT}
use Rattle.qq_raft_msg.specs.declared.rpc.Rpc.{Rpc}
use Rattle.qq_raft_model.specs.Group.{Group}
use Rattle.qq_raft_model.specs.Server.{Input, notice, receive, step}
use Rattle.qq_raft_model.specs.Server.Input.{Add, Flush, Notice, Receive, Submit, Tick}
use Rattle.qq_raft_model.specs.State.{Server}
use Rattle.qq_raft_core.specs.Raft.{IsAtEnd, server_of}
use Rattle.qq_raft.specs.Stands.{IsCaused, state_of}
use Rattle.qq_raft.specs.Step.{PassesEnd, ServerState, apply_next, unapplied, with_raft}
use Rattle.qq_queue.proofs.SerialSteps.{step_applied}
use Rattle.qq_group.specs.Events.{IsDeliveryCaused}
use Rattle.qq_group.specs.Group.{server_at}
use Rattle.qq_group.specs.declared.event.Event.{Event}
use Rattle.qq_group.specs.declared.event.Event.TheVariants as events
use Rattle.qq_group_laws.specs.Audited.{IsAuditedBy}
use Rattle.qq_session.proofs.AuditRows.{state-append}
use Rattle.qq_queue.specs.Members.{IsGroupOf, IsStepCaused, Member, Members, own_log, queue_passes, queue_stands, queue_step}
use Rattle.qq_queue.proofs.Members.{raft_of, seat-is}
use Rattle.qq_queue.proofs.Rows.{after-is, applied-after}

-- ---- what stands at its end

-- On some input a member would commit entries that take a number of the queue past its end.
abbrev pub Passes : QueueArgs → Group → Server → Type 0
Passes args g s =
    (input : Input) × ((next rest : List Entry)
    × (drop s.commit (take (step s input).commit (step s input).log) ≡ next ++ rest)
    × (is_within_ends (state_after (empty_queue args) (take s.commit g.audit ++ next)) ≡ false))

-- its op, its term or its last index is at its end, or one of the queue would pass it
abbrev pub HasEnd : QueueArgs → Group → Type 0
HasEnd args g =
    (k : ℕ) × ((s : Server) × ((g.seat k).server ≡ Some s)
    × ((s.op ≡ 2 ^ 63) ⊎ ((s.term.0 ≡ 2 ^ 63) ⊎ ((length s.log ≡ 2 ^ 63) ⊎ Passes args g s))))

-- as many messages are on their way as may be, or a member would send too many on some input
abbrev pub IsFull : Group → Type 0
IsFull g =
    (2 ^ 32 - 1 ≤ length g.bag)
    ⊎ ((k : ℕ) × ((s : Server) × ((g.seat k).server ≡ Some s)
    × ((input : Input) × (2 ^ 32 - 1 < length g.bag + length (step s input).out))))

pub data GroupEnds (n : ℕ) (args : QueueArgs) (g : Group) : Type 0 where
  AtNumber : n ≡ 2 ^ 63 → HasEnd args g → GroupEnds n args g
  AtBag : n ≡ 2 ^ 32 - 1 → IsFull g → GroupEnds n args g

-- ---- the queue of a member

-- the first of some entries take a number past its end
passing : (es : List Entry) (t : ServerState State) → t.queue.applied ≡ t.applied
    → PassesEnd queue_step queue_passes es t
    → (next rest : List Entry) × (es ≡ next ++ rest) × (is_within_ends (state_after t.queue next) ≡ false)
unfolding apply_next
passing [] t same passes = absurd passes
passing (e ∷ es) t same (inl here) = (
  e ∷ [],
  es,
  refl,
  subst (λ (n : ℕ). is_within_ends (step_queue t.queue (record { 0 = n + 1 }) e).state ≡ false) (sym same) here,
)
passing (e ∷ es) t same (inr later) =
    let found =
    passing es (apply_next queue_step e t) (step_applied t.queue (record { 0 = t.applied + 1 }) e) later in (
      e ∷ found.0,
      found.1,
      ap (λ (l : List Entry). e ∷ l) found.2,
      subst (λ (n : ℕ). is_within_ends (state_after (step_queue t.queue (record { 0 = n + 1 }) e).state found.0)
          ≡ false) (sym same) found.3,
    )

-- ---- a member

without-le : (place : ℕ) (bag : List Rpc) (rpc : Rpc) → at_place place bag ≡ Some rpc
    → length (without place bag) ≤ length bag
without-le zero bag rpc is = absurd (none-some rpc is)
without-le (suc i) bag rpc is =
    let less : i < length bag = slice_get_within bag i rpc is in
    let one = length-remove bag i less in
    omega (arith, one)

module _ (args : QueueArgs) (g : Group) (group : Members) (it : IsGroupOf args g group) (n : ℕ) where
  abbrev server : Member → Server
  server s = server_of own_log s.raft

  member-is : (k : ℕ) (s : Member) → server_at k group ≡ Some s
      → (g.seat k).server ≡ Some (server s)
  member-is k s up = seat-is g group k it.represents ∙ ap raft_of up

  queue-is : (k : ℕ) (s : Member) → server_at k group ≡ Some s
      → queue_stands (state_after (empty_queue args) (take s.raft.commit g.audit)) s.machine
  queue-is k s up =
      let audited =
      subst (IsAuditedBy queue_stands queue_step (empty_queue args) group.audit.items) up (it.audited k) in
      subst (λ (x : State). queue_stands x s.machine)
      (after-is (empty_queue args) (take s.applied group.audit.items)
      ∙ ap (λ (m : ℕ). state_after (empty_queue args) (take m group.audit.items)) (it.current k s up).applied
      ∙ ap (λ (l : List Entry). state_after (empty_queue args) (take s.raft.commit l)) (sym it.represents.audit))
      audited.queue

  -- the queue of a member has applied what that knows to be committed
  queue-applied : (k : ℕ) (s : Member) → server_at k group ≡ Some s
      → (state_after (empty_queue args) (take s.raft.commit g.audit)).applied ≡ s.applied
  queue-applied k s up =
      let audited =
      subst (IsAuditedBy queue_stands queue_step (empty_queue args) group.audit.items) up (it.audited k) in
      let current : s.applied ≡ s.raft.commit = (it.current k s up).applied in
      let audit = ap length it.represents.audit in
      let within : s.raft.commit ≤ length g.audit = omega (arith, audited.applied, current, audit) in
      let long : length (take s.raft.commit g.audit) ≡ s.raft.commit = length-take-le s.raft.commit g.audit within in
      let count : (state_after (empty_queue args) (take s.raft.commit g.audit)).applied
      ≡ 0 + length (take s.raft.commit g.audit) = applied-after (empty_queue args) (take s.raft.commit g.audit) in
      omega (arith, count, long, current)

  bag-le : length group.bag ≤ length g.bag
  bag-le = let same = ap length it.represents.bag in omega (arith, same)

  ended : (k : ℕ) (s : Member) → server_at k group ≡ Some s → n ≡ 2 ^ 63 → IsAtEnd (server s)
      → GroupEnds n args g
  ended k s up is (inl op) = AtNumber is (k, (server s, member-is k s up, inl op))
  ended k s up is (inr (inl term)) =
      AtNumber is (k, (server s, member-is k s up, inr (inl term)))
  ended k s up is (inr (inr last)) =
      AtNumber is (k, (server s, member-is k s up, inr (inr (inl last))))

  -- what its queue has come to
  abbrev queue : Member → State
  queue s = state_after (empty_queue args) (take s.raft.commit g.audit)

  -- the member once its server has taken an input
  abbrev then_is : (Server → Server) → Member → ServerState State
  then_is acts s = with_raft (acts (server s)) (state_of own_log (queue s) s)

  passed : (k : ℕ) (s : Member) → server_at k group ≡ Some s → (input : Input) (acts : Server → Server)
      → acts (server s) ≡ step (server s) input → n ≡ 2 ^ 63
      → IsAtEnd (server s) ⊎ PassesEnd queue_step queue_passes (unapplied (then_is acts s)) (then_is acts s)
      → GroupEnds n args g
  passed k s up input acts same is (inl end) = ended k s up is end
  passed k s up input acts same is (inr passes) =
      let found = passing (unapplied (then_is acts s)) (then_is acts s) (queue-applied k s up) passes in
      let committed : drop s.raft.commit (take (step (server s) input).commit (step (server s) input).log)
      ≡ found.0 ++ found.1 =
      ap (λ (t : Server). drop s.raft.commit (take t.commit t.log)) (sym same)
      ∙ ap (λ (m : ℕ). drop m (take (acts (server s)).commit (acts (server s)).log))
      (sym (it.current k s up).applied)
      ∙ found.2 in
      let past : is_within_ends (state_after (empty_queue args) (take s.raft.commit g.audit ++ found.0)) ≡ false =
      ap is_within_ends (state-append (empty_queue args) (take s.raft.commit g.audit) found.0) ∙ found.3 in
      AtNumber is (
        k,
        (server s, member-is k s up, inr (inr (inr (input, (found.0, found.1, committed, past))))),
      )

  -- of a member that then applies what is committed
  applied : (k : ℕ) (s : Member) → server_at k group ≡ Some s → (input : Input) (acts : Server → Server)
      → acts (server s) ≡ step (server s) input
      → ((plain : State) → queue_stands plain s.machine
      → IsCaused queue_step queue_passes acts (state_of own_log plain s) (Spent n)) → GroupEnds n args g
  applied k s up input acts same cause =
      let spent = cause (queue s) (queue-is k s up) in passed k s up input acts same spent.0 spent.1

  -- the messages that it would send on an input are too many
  abbrev Overflows : Input → List Rpc → Member → Type 0
  Overflows input bag s =
      (n ≡ BAG_LIMIT) × (BAG_LIMIT < length bag + length (step (server s) input).out)

  over : (input : Input) (bag : List Rpc) (k : ℕ) (s : Member) → server_at k group ≡ Some s
      → length bag ≤ length g.bag → Overflows input bag s → GroupEnds n args g
  over input bag k s up le (is, many) =
      AtBag is (inr (k, (server s, member-is k s up, (input, omega (arith, le, many)))))

  raft-ends : (input : Input) (k : ℕ) (s : Member) → server_at k group ≡ Some s
      → ((n ≡ NUMBER_END) × IsAtEnd (server s)) ⊎ Overflows input group.bag s → GroupEnds n args g
  raft-ends input k s up (inl (is, end)) = ended k s up is end
  raft-ends input k s up (inr many) = over input group.bag k s up bag-le many

  queue-ends : (input : Input) (bag : List Rpc) (k : ℕ) (s : Member) → server_at k group ≡ Some s
      → length bag ≤ length g.bag → (acts : Server → Server) → acts (server s) ≡ step (server s) input
      → ((plain : State) → queue_stands plain s.machine
      → IsCaused queue_step queue_passes acts (state_of own_log plain s) (Spent n)) ⊎ Overflows input bag s
      → GroupEnds n args g
  queue-ends input bag k s up le acts same (inl cause) = applied k s up input acts same cause
  queue-ends input bag k s up le acts same (inr many) = over input bag k s up le many

  -- ---- what comes to a member

  ticked : (node : NodeId) (o : Option Member) → server_at node.0 group ≡ o
      → IsStepCaused (events.Tick node) group (Spent n) → GroupEnds n args g
  ticked node None up cause = absurd (rw up at cause)
  ticked node (Some s) up cause = raft-ends Tick node.0 s up (rw up at cause)

  submitted : (node : NodeId) (time : ℕ) (command : Command) (o : Option Member) → server_at node.0 group ≡ o
      → IsStepCaused (events.Submit node time command) group (Spent n) → GroupEnds n args g
  submitted node time command None up cause = absurd (rw up at cause)
  submitted node time command (Some s) up cause =
      raft-ends (Submit time command) node.0 s up (rw up at cause)

  added : (node : NodeId) (time : ℕ) (command : Command) (o : Option Member) → server_at node.0 group ≡ o
      → IsStepCaused (events.Add node time command) group (Spent n) → GroupEnds n args g
  added node time command None up cause = absurd (rw up at cause)
  added node time command (Some s) up cause = raft-ends (Add time command) node.0 s up (rw up at cause)

  no-want : {P : Type 0} → Spent n ≡ Want → P
  no-want is = absurd cc

  sends : (node : NodeId) (s : Member) → server_at node.0 group ≡ Some s
      → (Spent n ≡ Want) ⊎ Overflows Flush group.bag s → GroupEnds n args g
  sends node s up (inl want) = no-want want
  sends node s up (inr many) = over Flush group.bag node.0 s up bag-le many

  flushed : (node : NodeId) (o : Option Member) → server_at node.0 group ≡ o
      → IsStepCaused (events.Flush node) group (Spent n) → GroupEnds n args g
  flushed node None up cause = absurd (rw up at cause)
  flushed node (Some s) up cause = sends node s up (rw up at cause)

  noticed : (node : NodeId) (op : ℕ) (o : Option Member) → server_at node.0 group ≡ o
      → IsStepCaused (events.Notice node op) group (Spent n) → GroupEnds n args g
  noticed node op None up cause = absurd (rw up at cause)
  noticed node op (Some s) up cause =
      queue-ends (Notice op) group.bag node.0 s up bag-le (notice op) refl (rw up at cause)

  received : (place : ℕ) (rpc : Rpc) → at_place place group.bag ≡ Some rpc → (o : Option Member)
      → server_at (envelope rpc).to.0 group ≡ o
      → IsDeliveryCaused queue_stands queue_step queue_passes own_log (Some rpc)
      (record group { bag = without place group.bag }) (Spent n) → GroupEnds n args g
  received place rpc is None up cause = absurd (rw up at cause)
  received place rpc is (Some s) up cause =
      let less = without-le place group.bag rpc is in
      queue-ends (Receive rpc) (without place group.bag) (envelope rpc).to.0 s up (omega (arith, less, bag-le))
      (receive rpc) refl (rw up at cause)

  delivered : (place : ℕ) (o : Option Rpc) → at_place place group.bag ≡ o
      → IsDeliveryCaused queue_stands queue_step queue_passes own_log o
      (record group { bag = without place group.bag }) (Spent n) → GroupEnds n args g
  delivered place None is cause = absurd cause
  delivered place (Some rpc) is cause =
      received place rpc is (server_at (envelope rpc).to.0 group) refl cause

  pub step-ends : (event : Event) → IsStepCaused event group (Spent n) → GroupEnds n args g
  step-ends (events.Tick node) cause = ticked node (server_at node.0 group) refl cause
  step-ends (events.Submit node time command) cause =
      submitted node time command (server_at node.0 group) refl cause
  step-ends (events.Add node time command) cause = added node time command (server_at node.0 group) refl cause
  step-ends (events.Flush node) cause = flushed node (server_at node.0 group) refl cause
  step-ends (events.Deliver place) cause = delivered place (at_place place group.bag) refl cause
  step-ends (events.Lose place) cause = absurd cause
  step-ends (events.Copy place) (is, (some, full)) = AtBag is (inl (omega (arith, full, bag-le)))
  step-ends (events.Notice node op) cause = noticed node op (server_at node.0 group) refl cause
  step-ends (events.Crash node) cause = absurd cause
