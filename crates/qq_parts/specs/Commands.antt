-- What each command does to the parts of a queue, and answers.
use Rattle.std.specs.Prelude.{◌≡◌, ℕ, ◌+◌, ◌-◌, ◌<◌, List, length, fold, filter, find, Option, Some, None, Bool, true, false, ◌&&◌, nat_eq, nat_lt, nat_le, if◌then◌else◌}
use Rattle.std.specs.List.{AllByRecursion}
use Rattle.std.specs.Option.{option_map_or}
use Rattle.qq_base.specs.declared.ids.Index.{Index}
use Rattle.qq_base.specs.declared.ids.Term.{Term}
use Rattle.qq_base.specs.declared.ids.SessionId.{SessionId}
use Rattle.qq_base.specs.declared.ids.ConsumerId.{ConsumerId}
use Rattle.qq_base.specs.Ids.{same_consumer}
use Rattle.qq_entry.specs.Command.{consumer_id}
use Rattle.qq_entry.specs.declared.message.Message.{Message}
use Rattle.qq_entry.specs.declared.command.Command.{Command}
use Rattle.qq_entry.specs.declared.command.Command.TheVariants.{Noop, Enqueue, Get, Subscribe, Cancel, Credit, Settle, Return, Discard, Purge, Down, DeadAttach, DeadSettle}
use Rattle.qq_entry.specs.declared.command.DeadDone.{DeadDone}
use Rattle.qq_entry.specs.declared.command.Mode.{Mode}
use Rattle.qq_entry.specs.declared.command.Mode.TheVariants.{Prefetch, Link}
use Rattle.qq_entry.specs.declared.answer.Answer.{Answer}
use Rattle.qq_entry.specs.declared.answer.Answer.TheVariants as answer
use Rattle.qq_entry.specs.declared.answer.Cause.TheVariants.{SingleActive, NumberSpent, ConsumersFull, NoConsumer, WrongMode}
use Rattle.qq_entry.specs.declared.answer.Delivery.{Delivery}
use Rattle.qq_entry.specs.declared.answer.Full.{Full}
use Rattle.qq_model.specs.declared.TheConstants.{MOST_CONSUMERS}
use Rattle.qq_model.specs.declared.consumer.Consumer.{Consumer}
use Rattle.qq_model.specs.declared.consumer.Outcome.{Outcome}
use Rattle.qq_model.specs.declared.consumer.Outcome.TheVariants.{Settled, Returned, Discarded}
use Rattle.qq_model.specs.declared.place.Row.{Row}
use Rattle.qq_model.specs.State.{State}
use Rattle.qq_model.specs.Commands.{is_of_session, is_at_least_once}
use Rattle.qq_model.specs.Gate.{greatest_tag, end_session}
use Rattle.qq_model.specs.Serving.{is_credited}
use Rattle.qq_rules.specs.Decisions.{refuses}
use Rattle.qq_parts.specs.Reduced.{Item}
use Rattle.qq_parts.specs.Parts.{Served, Parts, outs, items_of}
use Rattle.qq_parts.specs.Reads.{ready_items, size_of}
use Rattle.qq_parts.specs.Changes.{Taken, take_first, arrive}
use Rattle.qq_parts.specs.Outs.{joined, purged, IsFree}
use Rattle.qq_parts.specs.Turns.{credit_of_one}
use Rattle.qq_parts.specs.Letters.{take_dead}
use Rattle.qq_parts.specs.Consumers.{changed, keep_ones, needed_one, stays_one}
use Rattle.qq_parts.specs.Work.{Work, Answered, say, say_refused, with_parts}
use Rattle.qq_parts.specs.Ends.{parts_return, parts_end_deliveries}

-- Enqueue ---------------------------------------------------------------------------------------------

-- the first limit that a publish meets
abbrev pub full_by : Parts → Option Full
full_by m = refuses m.rest.args (length (ready_items m)) (size_of (ready_items m)) (length (items_of m))

abbrev pub parts_enqueue_by : Option Full → Index → Message → Work → Answered
parts_enqueue_by (Some full) index message t = say (answer.Rejected full) t
parts_enqueue_by None index message t = say answer.Confirmed (with_parts (arrive index message t.parts) t)

-- a publish is confirmed unless it meets a limit
unfoldable pub parts_enqueue : Index → Message → Work → Answered
parts_enqueue index message t = parts_enqueue_by (full_by t.parts) index message t

-- Get -------------------------------------------------------------------------------------------------

-- what a get sees of a message
abbrev pub got : Item → Delivery
got x =
    record { index = x.row.index; arrival = x.row.arrival; id = 0; count = x.row.count; message = x.message }

abbrev pub parts_get_by : Option Taken → Work → Answered
parts_get_by None t = say answer.Empty t
parts_get_by (Some taken) t = say (answer.Got (got taken.item)) (with_parts taken.left t)

-- the first ready message is gone at once; a queue with a single active consumer refuses a get
unfoldable pub parts_get : Work → Answered
parts_get t =
    if t.parts.rest.args.single_active then say_refused SingleActive t else parts_get_by (take_first t.parts) t

-- Subscribe -------------------------------------------------------------------------------------------

-- a consumer joins at the end, with a tag above all that its session used
unfoldable pub parts_subscribe : ConsumerId → Mode → Work → Answered
parts_subscribe id mode t =
    if nat_le id.tag (greatest_tag id.session t.parts.rest.sessions) then say_refused NumberSpent t
    else if nat_le MOST_CONSUMERS (length t.parts.served) then say_refused ConsumersFull t
    else say answer.Subscribed (with_parts (joined id mode t.parts) t)

-- Cancel ----------------------------------------------------------------------------------------------

-- the consumer of an id
abbrev pub one_of : ConsumerId → List Served → Option Served
one_of id ones = find (λ (one : Served). same_consumer one.consumer.id id) ones

-- a consumer gets no more
abbrev pub cancelled : Consumer → Consumer
cancelled consumer = record consumer { cancelled = true }

abbrev pub parts_cancel_by : Option Served → Work → Answered
parts_cancel_by None t = say_refused NoConsumer t
parts_cancel_by (Some one) t =
    if one.consumer.cancelled then say_refused NoConsumer t
    else say answer.Done (with_parts (keep_ones needed_one (changed (cancelled one.consumer) t.parts)) t)

-- a cancelled consumer keeps what it has
unfoldable pub parts_cancel : ConsumerId → Work → Answered
parts_cancel id t = parts_cancel_by (one_of id t.parts.served) t

-- Credit ----------------------------------------------------------------------------------------------

-- the free credit of the consumer of an id, 0 where there is none
abbrev pub parts_credit : ConsumerId → Parts → ℕ
parts_credit id m = option_map_or credit_of_one (one_of id m.served) 0

-- a consumer gets the next turn
abbrev pub parts_take_turn : Option Served → Parts → Parts
parts_take_turn None m = m
parts_take_turn (Some one) m =
    changed (record (one.consumer) { turn = m.rest.turns + 1 })
    (record m { rest = record (m.rest) { turns = m.rest.turns + 1 } })

-- a consumer whose free credit was 0 and is more now begins to wait for its turn
abbrev pub parts_begin_to_wait : ℕ → ConsumerId → Parts → Parts
parts_begin_to_wait before id m =
    if nat_eq before 0 && nat_lt 0 (parts_credit id m) then parts_take_turn (one_of id m.served) m else m

-- the credit as the receiver sees it, less what was delivered since
abbrev pub credited : ℕ → Consumer → Consumer
credited credit consumer = record consumer { credit = credit - consumer.count }

abbrev pub parts_credit_by_mode : Mode → Served → ℕ → Work → Answered
parts_credit_by_mode (Prefetch prefetch) one credit t = say_refused WrongMode t
parts_credit_by_mode Link one credit t =
    let before = parts_credit one.consumer.id t.parts in
    say (answer.Credited 0)
    (with_parts (parts_begin_to_wait before one.consumer.id (changed (credited credit one.consumer) t.parts)) t)

abbrev pub parts_credit_by : Option Served → ℕ → Work → Answered
parts_credit_by None credit t = say_refused NoConsumer t
parts_credit_by (Some one) credit t =
    if one.consumer.cancelled then say_refused NoConsumer t
    else parts_credit_by_mode one.consumer.mode one credit t

-- link credit is set
unfoldable pub parts_give_credit : ConsumerId → ℕ → Work → Answered
parts_give_credit id credit t = parts_credit_by (one_of id t.parts.served) credit t

-- Settle, Return, Discard -----------------------------------------------------------------------------

-- once its deliveries have ended, a consumer that was cancelled may leave, and another may begin to wait
abbrev pub parts_leave_or_wait : ConsumerId → ℕ → Work → Work
parts_leave_or_wait consumer before t =
    with_parts (parts_begin_to_wait before consumer (keep_ones needed_one t.parts)) t

abbrev pub parts_finish_by : Option Served → Outcome → ConsumerId → List ℕ → Work → Answered
parts_finish_by None outcome consumer ids t = say_refused NoConsumer t
parts_finish_by (Some found) outcome consumer ids t =
    let before = parts_credit consumer t.parts in
    say answer.Done (parts_leave_or_wait consumer before (parts_end_deliveries outcome consumer ids t))

-- each id that is out ends, in the given order
unfoldable pub parts_finish : Outcome → ConsumerId → List ℕ → Work → Answered
parts_finish outcome consumer ids t = parts_finish_by (one_of consumer t.parts.served) outcome consumer ids t

-- Purge -----------------------------------------------------------------------------------------------

-- all ready messages are gone
unfoldable pub parts_purge : Work → Answered
parts_purge t = say (answer.Purged (length (ready_items t.parts))) (with_parts (purged t.parts) t)

-- Down ------------------------------------------------------------------------------------------------

-- what is out with the consumers of a session, in the order of joining and then by rising id
abbrev pub session_outs : SessionId → List Served → List Item
session_outs session ones = outs (filter (λ (one : Served). is_of_session session one.consumer) ones)

-- the consumers of a session go, and what they have goes back
abbrev pub parts_return_session : SessionId → Work → Work
parts_return_session session t =
    fold (λ (now : Work) (x : Item). parts_return x now) (with_parts (keep_ones (stays_one session) t.parts) t)
    (session_outs session t.parts.served)

-- a session has ended
abbrev pub parts_end_session : SessionId → Parts → Parts
parts_end_session session m =
    record m { rest = record (m.rest) { sessions = end_session m.rest.sessions session } }

-- the end of a session ends its consumers
unfoldable pub parts_down : SessionId → Work → Answered
parts_down session t =
    let back = parts_return_session session t in
    say answer.Down (with_parts (parts_end_session session back.parts) back)

-- DeadAttach, DeadSettle ------------------------------------------------------------------------------

-- a worker is attached, and was given nothing
abbrev pub attached_to : ℕ → Parts → Parts
attached_to term m = record m { rest = record (m.rest) { attached = term; given = 0 } }

-- the worker of a greater term takes over, and begins anew
unfoldable pub parts_dead_attach : Term → Work → Answered
parts_dead_attach term t =
    if is_at_least_once t.parts.rest.args.strategy && nat_lt t.parts.rest.attached term.0 then
    say answer.Attached (with_parts (attached_to term.0 t.parts) t)
    else say answer.Stale t

-- the dead message of a number, if the present worker was given it
abbrev pub take_given : ℕ → Parts → Option Taken
take_given number m = if nat_le number m.rest.given then take_dead number m else None

-- the parts so far, and how many dead letters were settled
pub record DeadSettled : Type 0 where
  pub work : Work
  pub count : ℕ

abbrev pub parts_settle_dead_by : Option Taken → DeadSettled → DeadSettled
parts_settle_dead_by None s = s
parts_settle_dead_by (Some taken) s = record { work = with_parts taken.left s.work; count = s.count + 1 }

abbrev pub parts_settle_dead : List DeadDone → Work → DeadSettled
parts_settle_dead done t =
    fold (λ (now : DeadSettled) (one : DeadDone). parts_settle_dead_by (take_given one.number now.work.parts) now)
    (record { work = t; count = 0 }) done

-- dead letters that their targets have confirmed are gone
unfoldable pub parts_dead_settle : Term → List DeadDone → Work → Answered
parts_dead_settle term done t =
    if is_at_least_once t.parts.rest.args.strategy && nat_eq term.0 t.parts.rest.attached then
    (let settled = parts_settle_dead done t in say (answer.DeadSettled settled.count) settled.work)
    else say answer.Stale t

-- The table -------------------------------------------------------------------------------------------

-- a command's row of the table
unfoldable pub parts_act : Index → Command → Work → Answered
parts_act index (Noop version) t = say answer.Lead t
parts_act index (Enqueue stamp origin message) t = parts_enqueue index message t
parts_act index (Get stamp) t = parts_get t
parts_act index (Subscribe stamp tag mode) t = parts_subscribe (consumer_id stamp tag) mode t
parts_act index (Cancel stamp tag) t = parts_cancel (consumer_id stamp tag) t
parts_act index (Credit stamp tag count credit drain) t = parts_give_credit (consumer_id stamp tag) (count + credit) t
parts_act index (Settle stamp tag ids) t = parts_finish Settled (consumer_id stamp tag) ids t
parts_act index (Return stamp tag ids) t = parts_finish Returned (consumer_id stamp tag) ids t
parts_act index (Discard stamp tag ids) t = parts_finish Discarded (consumer_id stamp tag) ids t
parts_act index (Purge stamp) t = parts_purge t
parts_act index (Down session) t = parts_down session t
parts_act index (DeadAttach term) t = parts_dead_attach term t
parts_act index (DeadSettle term done) t = parts_dead_settle term done t

-- an entry behind all that have arrived
abbrev pub IsBehind : Index → State → Type 0
IsBehind index s = AllByRecursion (λ (row : Row). row.index.0 < index.0) s.rows

-- a consumer joins with an id that nobody has, where its tag is above all that its session used
abbrev pub HasFreeId : Command → Parts → Type 0
HasFreeId (Subscribe stamp tag mode) m =
    nat_le tag (greatest_tag stamp.session m.rest.sessions) ≡ false → IsFree (consumer_id stamp tag) m
HasFreeId _ m = Unit {0}

-- Drain -----------------------------------------------------------------------------------------------

-- the credit that is left counts as delivered
abbrev pub drained : Consumer → Consumer
drained consumer = record consumer { credit = 0; count = consumer.count + consumer.credit }

abbrev pub parts_drain_by : Option Served → Answer → Work → Answered
parts_drain_by None said t = say said t
parts_drain_by (Some one) said t =
    say (answer.Credited one.consumer.credit) (with_parts (changed (drained one.consumer) t.parts) t)

abbrev pub parts_drain : ConsumerId → Bool → Answered → Answered
parts_drain id wanted a =
    if wanted && is_credited a.answer then parts_drain_by (one_of id a.work.parts.served) a.answer a.work else a

-- after the checkouts of a Credit with drain no credit is left
unfoldable pub parts_drain_after : Command → Answered → Answered
parts_drain_after (Credit stamp tag count credit wanted) a = parts_drain (consumer_id stamp tag) wanted a
parts_drain_after _ a = a
