-- What a refused step leaves.
use Rattle.std.proofs.Common.{◌≡◌, ℕ, zero, suc, Option, Some, None, List, refl, sym, subst, ◌∙◌}
use Rattle.qq_base.specs.Fronts.{IsFront}
use Rattle.qq_base.proofs.Fronts.{front-refl}
use Rattle.qq_base.specs.declared.ids.Index.{Index}
use Rattle.qq_base.specs.declared.memory.Memory.{Memory}
use Rattle.qq_entry.specs.declared.command.Entry.{Entry}
use Rattle.qq_log.specs.Log.{LogState}
use Rattle.qq_raft_msg.specs.Bag.{at_place}
use Rattle.qq_raft_msg.specs.Queue.{Applied}
use Rattle.qq_raft_msg.specs.Rpc.{envelope}
use Rattle.qq_raft_msg.specs.declared.rpc.Rpc.{Rpc}
use Rattle.qq_raft.specs.declared.server.Server.{Server}
use Rattle.qq_raft_model.specs.Group.{Event as GroupEvent, Group as GroupState, happens}
use Rattle.qq_group.specs.Events.{ReachesOne, crash_on, loses}
use Rattle.qq_group.specs.Follows.{OthersStay}
use Rattle.qq_group.specs.Group.{Represents}
use Rattle.qq_group.specs.Steps.{IsEventCaused, ReachesAtMost, refused_by}
use Rattle.qq_group.specs.declared.event.Event.{Event}
use Rattle.qq_group.specs.declared.event.Event.TheVariants.{Tick, Submit, Add, Flush, Deliver, Lose, Copy, Notice, Crash}
use Rattle.qq_group.specs.declared.group.Group.{Group}
use Rattle.qq_group_laws.specs.Audited.{AreAudited, IsAuditedBy}
use Rattle.qq_group_laws.proofs.Events.{all-audited, crash-down, none-audited}

same-audit : {Q L : Type 0} (log : L → LogState) (g h : GroupState) (old new : Group Q L) → Represents log g old
    → Represents log h new → h.audit ≡ g.audit → IsFront old.audit.items new.audit.items
same-audit log g h old new was now same =
    subst (λ (es : List Entry). IsFront old.audit.items es) (sym (sym now.audit ∙ same ∙ was.audit))
    (front-refl old.audit.items)

by-crash : {P Q L : Type 0} (stands : P → Q → Type 0) (step : P → Index → Entry → Applied P) (start : P)
    (log : L → LogState) (k : ℕ) (g h : GroupState) (old new : Group Q L) → Represents log g old
    → Represents log (happens (GroupEvent.Crash k) h) new → h.audit ≡ g.audit → OthersStay k old new
    → AreAudited stands step start old → AreAudited stands step start new
by-crash {Q = Q} {L = L} stands step start log k g h old new was now same stay all =
    all-audited stands step start k old new all
    (same-audit log g (happens (GroupEvent.Crash k) h) old new was now same) stay
    (subst (λ (o : Option (Server Q L)). IsAuditedBy stands step start new.audit.items o)
    (sym (crash-down log k h new now)) tt)

by-message : {P Q L : Type 0} (stands : P → Q → Type 0) (step : P → Index → Entry → Applied P) (start : P)
    (log : L → LogState) (o : Option Rpc) (g h : GroupState) (old new : Group Q L) → Represents log g old
    → Represents log (crash_on o h) new → h.audit ≡ g.audit → ReachesOne o old new
    → AreAudited stands step start old → AreAudited stands step start new
by-message stands step start log None g h old new was now same stay all =
    none-audited stands step start old new all (same-audit log g h old new was now same) stay
by-message stands step start log (Some rpc) g h old new was now same stay all =
    by-crash stands step start log (envelope rpc).to.0 g h old new was now same stay all

lost-audit : (place : ℕ) (g : GroupState) → (loses place g).audit ≡ g.audit
lost-audit zero g = refl
lost-audit (suc at) g = refl

pub refused : {P Q L : Type 0} (stands : P → Q → Type 0) (step : P → Index → Entry → Applied P)
    (passes : P → Index → Entry → Type 0) (start : P) (log : L → LogState) (event : Event) (g : GroupState)
    (old new : Group Q L) (e : Memory) → Represents log g old → Represents log (refused_by event g) new
    → ReachesAtMost event old new → IsEventCaused stands step passes log event old e
    → AreAudited stands step start old → AreAudited stands step start new
refused stands step passes start log (Tick node) g old new e was now stay cause all =
    by-crash stands step start log node.0 g g old new was now refl stay all
refused stands step passes start log (Submit node time command) g old new e was now stay cause all =
    by-crash stands step start log node.0 g g old new was now refl stay all
refused stands step passes start log (Add node time command) g old new e was now stay cause all =
    by-crash stands step start log node.0 g g old new was now refl stay all
refused stands step passes start log (Flush node) g old new e was now stay cause all =
    by-crash stands step start log node.0 g g old new was now refl stay all
refused stands step passes start log (Deliver place) g old new e was now stay cause all =
    by-message stands step start log (at_place place old.bag) g (loses place g) old new was
    (subst (λ (bag : List Rpc). Represents log (crash_on (at_place place bag) (loses place g)) new) was.bag now)
    (lost-audit place g) stay all
refused stands step passes start log (Lose place) g old new e was now stay cause all =
    none-audited stands step start old new all (same-audit log g g old new was now refl) stay
refused stands step passes start log (Copy place) g old new e was now stay cause all =
    none-audited stands step start old new all (same-audit log g g old new was now refl) stay
refused stands step passes start log (Notice node op) g old new e was now stay cause all =
    by-crash stands step start log node.0 g g old new was now refl stay all
refused stands step passes start log (Crash node) g old new e was now stay cause all = absurd cause
