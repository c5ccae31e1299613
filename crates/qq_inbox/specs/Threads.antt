-- What the threads begin and end with that hand ops over, or wait for one.
use Rattle.std.specs.Prelude.{◌≡◌, ◌<◌, ◌≤◌, ℕ, true, false, List, [], length, slice_index}
use Rattle.std.specs.VecDeque.{deque_len, deque_capacity}
use Rattle.std.specs.declared.collections.VecDeque.{VecDeque}
use Rattle.qq_log.specs.declared.op.Op.{Op}
use Rattle.qq_inbox.specs.declared.inbox.Inbox.{Inbox}
use Rattle.qq_inbox.specs.declared.marks.Marks.{Marks}
use Rattle.qq_inbox.specs.HandOver.{pass_view}
use Rattle.qq_inbox.specs.Inbox.{InboxPass, view, IsPassOf}
use Rattle.qq_inbox.specs.Marks.{MarkSeat, reading, words, IsSeatOf}

-- the pass may offer, and has offered these
abbrev pub HasOffered : {S : Type 0} → Inbox S → InboxPass → List Op → Type 0
HasOffered inbox pass ops = IsPassOf inbox pass × (view pass ≡ pass_view true false ops [])

-- the pass may take, and has taken these
abbrev pub HasTaken : {S : Type 0} → Inbox S → InboxPass → List Op → Type 0
HasTaken inbox pass ops = IsPassOf inbox pass × (view pass ≡ pass_view false true [] ops)

-- the list holds so many ops, and has room for as many as the second number says
abbrev pub HasRoom : {Z : Type 0} → VecDeque Op Z → ℕ → ℕ → Type 0
HasRoom list count all = (length list.items ≡ count) × (deque_len list ≡ count) × (all ≤ deque_capacity list)

-- the marks have this queue's, and the seat is one of theirs
abbrev pub SeesQueue : Marks → MarkSeat → ℕ → Type 0
SeesQueue marks seat queue = IsSeatOf marks seat × (0 < queue) × (queue < words marks)

-- the seat may raise, and has raised the queue's mark to this op
abbrev pub HasRaised : Marks → MarkSeat → ℕ → ℕ → Type 0
HasRaised marks seat queue op =
    SeesQueue marks seat queue × ((reading seat).raises ≡ true) × (slice_index (reading seat).raised queue ≡ op)

-- the last op of the queue that the seat saw
abbrev pub HasSeen : Marks → MarkSeat → ℕ → ℕ → Type 0
HasSeen marks seat queue op = IsSeatOf marks seat × (slice_index (reading seat).seen queue ≡ op)
