-- When two entries are the same: the tests that the code makes, field by field.
use Rattle.std.specs.Prelude.{ℕ, List, Bool, true, false, Option, Some, None, nat_eq, ◌&&◌, ◌||◌}
use Rattle.std.specs.Bool.{beq}
use Rattle.std.specs.Cmp.Lexicographic.{pointwise}
use Rattle.qq_base.specs.Ids.{same_session}
use Rattle.qq_base.specs.declared.ids.QueueId.{QueueId}
use Rattle.qq_entry.specs.declared.message.Reason.{Reason}
use Rattle.qq_entry.specs.declared.message.Reason.TheVariants.{Rejected, Expired, MaxLen, DeliveryLimit}
use Rattle.qq_entry.specs.declared.message.Death.{Death}
use Rattle.qq_entry.specs.declared.message.Content.{Content}
use Rattle.qq_entry.specs.declared.message.Message.{Message}
use Rattle.qq_entry.specs.declared.message.Origin.{Origin}
use Rattle.qq_entry.specs.declared.command.Stamp.{Stamp}
use Rattle.qq_entry.specs.declared.command.Mode.{Mode}
use Rattle.qq_entry.specs.declared.command.Mode.TheVariants.{Prefetch, Link}
use Rattle.qq_entry.specs.declared.command.DeadDone.{DeadDone}
use Rattle.qq_entry.specs.declared.command.Command.{Command}
use Rattle.qq_entry.specs.declared.command.Command.TheVariants.{Noop, Enqueue, Get, Subscribe, Cancel, Credit, Settle, Return, Discard, Purge, Down, DeadAttach, DeadSettle}
use Rattle.qq_entry.specs.declared.command.Entry.{Entry}

-- ---- messages

abbrev pub same_queue : QueueId → QueueId → Bool
same_queue a b = nat_eq a.0 b.0

abbrev pub reason_rank : Reason → ℕ
reason_rank Rejected = 0
reason_rank Expired = 1
reason_rank MaxLen = 2
reason_rank DeliveryLimit = 3

abbrev pub same_death : Death → Death → Bool
same_death a b = same_queue a.queue b.queue && nat_eq (reason_rank a.reason) (reason_rank b.reason)

abbrev pub same_content : Content → Content → Bool
same_content a b =
    pointwise nat_eq a.body b.body && pointwise nat_eq a.key b.key && pointwise same_death a.deaths b.deaths

abbrev pub same_contents : Option Content → Option Content → Bool
same_contents None None = true
same_contents (Some a) (Some b) = same_content a b
same_contents _ _ = false

abbrev pub same_message : Message → Message → Bool
same_message a b = nat_eq a.size b.size && same_contents a.content b.content

abbrev pub same_origin : Option Origin → Option Origin → Bool
same_origin None None = true
same_origin (Some a) (Some b) = same_queue a.source b.source && nat_eq a.number b.number
same_origin _ _ = false

-- ---- commands

abbrev pub same_stamp : Stamp → Stamp → Bool
same_stamp a b = same_session a.session b.session && nat_eq a.seq b.seq && nat_eq a.done b.done

abbrev pub same_mode : Mode → Mode → Bool
same_mode (Prefetch a) (Prefetch b) = nat_eq a b
same_mode Link Link = true
same_mode _ _ = false

abbrev pub same_done : DeadDone → DeadDone → Bool
same_done a b = nat_eq a.number b.number && pointwise same_queue a.targets b.targets

-- a command about deliveries
abbrev pub same_ids : Stamp → ℕ → List ℕ → Stamp → ℕ → List ℕ → Bool
same_ids by tag ids by' tag' ids' = same_stamp by by' && nat_eq tag tag' && pointwise nat_eq ids ids'

-- a message is published, or messages are asked for or dropped
abbrev pub same_publish : Command → Command → Bool
same_publish (Enqueue a from m) (Enqueue b from' n) = same_stamp a b && same_origin from from' && same_message m n
same_publish (Get a) (Get b) = same_stamp a b
same_publish (Purge a) (Purge b) = same_stamp a b
same_publish _ _ = false

-- a consumer comes or goes
abbrev pub same_consumer : Command → Command → Bool
same_consumer (Subscribe a tag mode) (Subscribe b tag' mode') =
    same_stamp a b && nat_eq tag tag' && same_mode mode mode'
same_consumer (Cancel a tag) (Cancel b tag') = same_stamp a b && nat_eq tag tag'
same_consumer _ _ = false

abbrev pub same_credit : Command → Command → Bool
same_credit (Credit a tag count credit drain) (Credit b tag' count' credit' drain') =
    same_stamp a b && nat_eq tag tag' && nat_eq count count' && nat_eq credit credit' && beq drain drain'
same_credit _ _ = false

-- deliveries are settled
abbrev pub same_settlement : Command → Command → Bool
same_settlement (Settle a tag ids) (Settle b tag' ids') = same_ids a tag ids b tag' ids'
same_settlement (Return a tag ids) (Return b tag' ids') = same_ids a tag ids b tag' ids'
same_settlement (Discard a tag ids) (Discard b tag' ids') = same_ids a tag ids b tag' ids'
same_settlement _ _ = false

-- no client's command, or the end of a session
abbrev pub same_inner : Command → Command → Bool
same_inner (Noop a) (Noop b) = nat_eq a b
same_inner (Down a) (Down b) = same_session a b
same_inner (DeadAttach a) (DeadAttach b) = nat_eq a.0 b.0
same_inner (DeadSettle a done) (DeadSettle b done') = nat_eq a.0 b.0 && pointwise same_done done done'
same_inner _ _ = false

abbrev pub same_command : Command → Command → Bool
same_command a b =
    same_publish a b || same_consumer a b || same_credit a b || same_settlement a b || same_inner a b

abbrev pub same_entry : Entry → Entry → Bool
same_entry a b = nat_eq a.term.0 b.term.0 && nat_eq a.time b.time && same_command a.command b.command
