-- An inbox and its passes, as contracts name them.
use Rattle.std.specs.Prelude.{ℕ}
use Rattle.crossbeam_queue.specs.Passes.{Pass, view as queue_view, IsSamePass as IsSameQueuePass, IsPassOf as IsQueuePassOf, ruled_capacity}
use Rattle.qq_log.specs.declared.op.Op.{Op}
use Rattle.qq_inbox.specs.declared.inbox.Inbox.{Inbox}
use Rattle.qq_inbox.specs.declared.pass.PassView.{PassView}

abbrev pub InboxPass : Type 0
InboxPass = Pass Op PassView

-- what a pass knows
abbrev pub view : InboxPass → PassView
view pass = queue_view pass

-- a pass of this inbox
abbrev pub IsPassOf : {S : Type 0} → Inbox S → InboxPass → Type 0
IsPassOf inbox pass = IsQueuePassOf inbox.queue pass

-- a pass of the same inbox as before
abbrev pub IsSamePass : InboxPass → InboxPass → Type 0
IsSamePass old new = IsSameQueuePass old new

-- how many ops an inbox may hold
abbrev pub capacity_of : {S : Type 0} → Inbox S → ℕ
capacity_of inbox = ruled_capacity inbox.queue
