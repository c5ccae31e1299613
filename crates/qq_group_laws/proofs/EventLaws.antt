-- The laws of a group whose servers have applied what begins the audit.
use Rattle.std.proofs.Common.{◌≡◌, ℕ, List, take, Option, Some, None, refl, subst}
use Rattle.qq_base.specs.Fronts.{IsFront}
use Rattle.qq_base.specs.declared.ids.Index.{Index}
use Rattle.qq_entry.specs.declared.command.Entry.{Entry}
use Rattle.qq_log.specs.Log.{LogState}
use Rattle.qq_raft_msg.specs.Queue.{Applied}
use Rattle.qq_raft.specs.declared.row.AppliedRow.{AppliedRow}
use Rattle.qq_raft.specs.declared.server.Server.{Server}
use Rattle.qq_raft_model.specs.Group.{Event as GroupEvent, Group as GroupState, group_after}
use Rattle.qq_group.specs.Follows.{Follows}
use Rattle.qq_group.specs.Group.{IsReached, Represents, server_at}
use Rattle.qq_group.specs.Steps.{HasShownEvent, ReachesAtMost, made_by}
use Rattle.qq_group.specs.declared.event.Event.{Event}
use Rattle.qq_group.specs.declared.group.Group.{Group}
use Rattle.qq_group_laws.specs.Audited.{AreAudited}
use Rattle.qq_group_laws.proofs.Events.{GroupKeeps, IsMade, down-after, event-keeps, made-event}
use Rattle.qq_group_laws.proofs.Servers.{KnownBy}

known-all : {Q L : Type 0} (log : L → LogState) (group : Group Q L)
    → ((k : ℕ) (s : Server Q L) → server_at k group ≡ Some s
    → IsFront (take s.raft.commit (log s.raft.log).entries) group.audit.items)
    → (k : ℕ) (o : Option (Server Q L)) → server_at k group ≡ o → KnownBy log group.audit.items o
known-all log group law k None is = tt
known-all log group law k (Some s) is = law k s is

pub event-law : {P Q L : Type 0} (stands : P → Q → Type 0) (step : P → Index → Entry → Applied P) (start : P)
    (log : L → LogState)
    → ((g : GroupState) (group : Group Q L) (k : ℕ) (s : Server Q L) → IsReached g → Represents log g group
    → server_at k group ≡ Some s → IsFront (take s.raft.commit (log s.raft.log).entries) group.audit.items)
    → ((g : GroupState) (events : List GroupEvent) (old new : Group Q L) → IsReached g → Represents log g old
    → Represents log (group_after g events) new → IsFront old.audit.items new.audit.items)
    → ((g : GroupState) (events : List GroupEvent) → IsReached g → IsReached (group_after g events))
    → (g : GroupState) (event : Event) (old new : Group Q L) (rows : List AppliedRow) → IsReached g
    → Represents log g old → Follows log (made_by event old) old new
    → HasShownEvent stands step log event old new rows → ReachesAtMost event old new
    → AreAudited stands step start old → GroupKeeps stands step start new rows
event-law stands step start log known grows reach g event old new rows reached was follows shown most all =
    let made : IsMade g (made_by event old g) = made-event event old g in
    let now = follows g reached was in
    let then_now = subst (λ (h : GroupState). Represents log h new) made.is now in
    let after = reach g made.events reached in
    event-keeps stands step start log event old new rows all (grows g made.events old new reached was then_now)
    (λ k. known-all log new (λ q s is. known (group_after g made.events) new q s after then_now is) k
    (server_at k new) refl)
    shown most (down-after log event g old new now)
