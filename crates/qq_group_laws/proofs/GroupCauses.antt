-- Why an event of a group is refused, and what the refusal tells.
use Rattle.std.proofs.Common.{◌≡◌, ◌⊎◌, ℕ, ◌+◌, ◌-◌, ◌^◌, ◌<◌, length, Option, Some, None, refl, ap, subst, inl, inr}
use Rattle.std.specs.Prelude.{IsSome}
use Rattle.std.proofs.lemmas.Bool.{false≢true}
use Rattle.qq_base.specs.Causes.{SpentOnlyWhere}
use Rattle.qq_base.specs.declared.ids.Index.{Index}
use Rattle.qq_base.specs.declared.memory.Memory.{Memory}
use Rattle.qq_base.specs.declared.memory.Memory.TheVariants.{Want, Spent}
use Rattle.qq_base.specs.declared.memory.TheConstants.{NUMBER_END}
use Rattle.qq_entry.specs.declared.command.Entry.{Entry}
use Rattle.qq_log.specs.Log.{LogState}
use Rattle.qq_raft_core.specs.Raft.{server_of, IsAtEnd}
use Rattle.qq_raft_msg.specs.Bag.{at_place, without}
use Rattle.qq_raft_msg.specs.Queue.{Applied}
use Rattle.qq_raft_msg.specs.Rpc.{envelope}
use Rattle.qq_raft_msg.specs.declared.bag.TheConstants.{BAG_LIMIT}
use Rattle.qq_raft_msg.specs.declared.rpc.Rpc.{Rpc}
use Rattle.qq_raft_model.specs.Server.{Input, notice, receive, step as step_raft}
use Rattle.qq_raft_model.specs.State.{Server as Raft}
use Rattle.qq_raft.specs.Stands.{IsCaused, state_of}
use Rattle.qq_raft.specs.Step.{PassesEnd, unapplied, with_raft}
use Rattle.qq_raft.specs.declared.server.Server.{Server}
use Rattle.qq_group.specs.Events.{IsDeliveryCaused}
use Rattle.qq_group.specs.Group.{HasState, IsServed, IsSound, server_at}
use Rattle.qq_group.specs.Steps.{IsEventCaused}
use Rattle.qq_group.specs.declared.event.Event.{Event}
use Rattle.qq_group.specs.declared.event.Event.TheVariants.{Add, Copy, Crash, Deliver, Flush, Lose, Notice, Submit, Tick}
use Rattle.qq_group.specs.declared.group.Group.{Group}

-- ---- out of memory, or a number

abbrev IsTold : Memory → Type 0
IsTold e = (e ≡ Want) ⊎ (e ≡ Spent (2 ^ 63)) ⊎ (e ≡ Spent (2 ^ 32 - 1))

told-end : (e : Memory) (P : Type 0) → SpentOnlyWhere e NUMBER_END P → IsTold e
told-end Want P cause = inl refl
told-end (Spent number) P cause = inr (inl (ap Spent cause.0))

told-limit : (e : Memory) (P : Type 0) → SpentOnlyWhere e BAG_LIMIT P → IsTold e
told-limit Want P cause = inl refl
told-limit (Spent number) P cause = inr (inr (ap Spent cause.0))

-- ---- each event

-- a number of the server, or the bag
told-own : (e : Memory) (A B : Type 0) → SpentOnlyWhere e NUMBER_END A ⊎ SpentOnlyWhere e BAG_LIMIT B → IsTold e
told-own e A B (inl cause) = told-end e A cause
told-own e A B (inr cause) = told-limit e B cause

-- memory alone, or the bag
told-want : (e : Memory) (B : Type 0) → (e ≡ Want) ⊎ SpentOnlyWhere e BAG_LIMIT B → IsTold e
told-want e B (inl want) = inl want
told-want e B (inr cause) = told-limit e B cause

-- a number of the server or of its queue, or the bag
told-queued : {P Q L : Type 0} (stands : P → Q → Type 0) (step : P → Index → Entry → Applied P)
    (passes : P → Index → Entry → Type 0) (log : L → LogState) (acts : Raft → Raft) (s : Server Q L) (e : Memory)
    (B : Type 0) → HasState stands s.machine
    → ((plain : P) → stands plain s.machine → IsCaused step passes acts (state_of log plain s) e)
    ⊎ SpentOnlyWhere e BAG_LIMIT B → IsTold e
told-queued stands step passes log acts s e B has (inl cause) =
    let made = with_raft (acts (server_of log s.raft)) (state_of log has.0 s) in
    told-end e (IsAtEnd (server_of log s.raft) ⊎ PassesEnd step passes (unapplied made) made) (cause has.0 has.1)
told-queued stands step passes log acts s e B has (inr cause) = told-limit e B cause

cases-of : {A : Type 0} (o : Option A) → (o ≡ None) ⊎ ((x : A) × (o ≡ Some x))
cases-of None = inl refl
cases-of (Some x) = inr (x, refl)

pub served-state : {P Q L : Type 0} (stands : P → Q → Type 0) (log : L → LogState) (index_of : Q → ℕ)
    (o : Option (Server Q L)) (s : Server Q L) → o ≡ Some s → IsServed stands log index_of o
    → HasState stands s.machine
served-state {Q = Q} {L = L} stands log index_of o s up served =
    (subst (λ (p : Option (Server Q L)). IsServed stands log index_of p) up served).state

told-delivery : {P Q L : Type 0} (stands : P → Q → Type 0) (step : P → Index → Entry → Applied P)
    (passes : P → Index → Entry → Type 0) (log : L → LogState) (index_of : Q → ℕ) (o : Option Rpc)
    (group : Group Q L) (e : Memory) → ((k : ℕ) → IsServed stands log index_of (server_at k group))
    → IsDeliveryCaused stands step passes log o group e → IsTold e
told-delivery stands step passes log index_of None group e served cause = absurd cause
told-delivery stands step passes log index_of (Some rpc) group e served cause =
    let k = (envelope rpc).to.0 in
    elim (cases-of (server_at k group)) [
      | inl none ↦ absurd (rw none at cause)
      | inr up ↦ told-queued stands step passes log (receive rpc) up.0 e
          (BAG_LIMIT < length group.bag + length (step_raft (server_of log up.0.raft) (Input.Receive rpc)).out)
          (served-state stands log index_of (server_at k group) up.0 up.1 (served k)) (rw up.1 at cause)
    ]

pub told-event : {P Q L : Type 0} (stands : P → Q → Type 0) (step : P → Index → Entry → Applied P)
    (passes : P → Index → Entry → Type 0) (log : L → LogState) (index_of : Q → ℕ) (event : Event)
    (old : Group Q L) (e : Memory) → IsSound stands log index_of old
    → IsEventCaused stands step passes log event old e → IsTold e
told-event stands step passes log index_of (Tick node) old e sound cause =
    elim (cases-of (server_at node.0 old)) [
      | inl none ↦ absurd (rw none at cause)
      | inr up ↦ told-own e (IsAtEnd (server_of log up.0.raft))
          (BAG_LIMIT < length old.bag + length (step_raft (server_of log up.0.raft) Input.Tick).out) (rw up.1 at cause)
    ]
told-event stands step passes log index_of (Submit node time command) old e sound cause =
    elim (cases-of (server_at node.0 old)) [
      | inl none ↦ absurd (rw none at cause)
      | inr up ↦ told-own e (IsAtEnd (server_of log up.0.raft))
          (BAG_LIMIT < length old.bag + length (step_raft (server_of log up.0.raft) (Input.Submit time command)).out)
          (rw up.1 at cause)
    ]
told-event stands step passes log index_of (Add node time command) old e sound cause =
    elim (cases-of (server_at node.0 old)) [
      | inl none ↦ absurd (rw none at cause)
      | inr up ↦ told-own e (IsAtEnd (server_of log up.0.raft))
          (BAG_LIMIT < length old.bag + length (step_raft (server_of log up.0.raft) (Input.Add time command)).out)
          (rw up.1 at cause)
    ]
told-event stands step passes log index_of (Flush node) old e sound cause =
    elim (cases-of (server_at node.0 old)) [
      | inl none ↦ absurd (rw none at cause)
      | inr up ↦ told-want e (BAG_LIMIT < length old.bag + length (step_raft (server_of log up.0.raft) Input.Flush).out)
          (rw up.1 at cause)
    ]
told-event stands step passes log index_of (Deliver place) old e sound cause =
    told-delivery stands step passes log index_of (at_place place old.bag) (record old { bag = without place old.bag })
    e sound.servers cause
told-event stands step passes log index_of (Lose place) old e sound cause = absurd cause
told-event stands step passes log index_of (Copy place) old e sound cause =
    told-limit e (IsSome (at_place place old.bag) × (length old.bag ≡ BAG_LIMIT)) cause
told-event stands step passes log index_of (Notice node op) old e sound cause =
    elim (cases-of (server_at node.0 old)) [
      | inl none ↦ absurd (rw none at cause)
      | inr up ↦ told-queued stands step passes log (notice op) up.0 e
          (BAG_LIMIT < length old.bag + length (step_raft (server_of log up.0.raft) (Input.Notice op)).out)
          (served-state stands log index_of (server_at node.0 old) up.0 up.1 (sound.servers node.0)) (rw up.1 at cause)
    ]
told-event stands step passes log index_of (Crash node) old e sound cause = absurd cause

-- ---- copies

some-of : {A : Type 0} (o : Option A) → IsSome o → (x : A) × (o ≡ Some x)
some-of None is = absurd (false≢true is)
some-of (Some x) is = (x, refl)

pub copy-caused : (e : Memory) (o : Option Rpc) (count : ℕ)
    → SpentOnlyWhere e BAG_LIMIT (IsSome o × (count ≡ BAG_LIMIT))
    → (e ≡ Want) ⊎ ((e ≡ Spent (2 ^ 32 - 1)) × (count ≡ 2 ^ 32 - 1) × ((rpc : Rpc) × (o ≡ Some rpc)))
copy-caused Want o count cause = inl refl
copy-caused (Spent number) o count cause = inr (ap Spent cause.0, cause.1.1, some-of o cause.1.0)
