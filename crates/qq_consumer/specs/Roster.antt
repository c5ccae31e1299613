-- What each call makes of the consumers of a queue and of what is out with them, as the parts of a queue have them.
use Rattle.std.specs.Prelude.{◌≡◌, ◌⊎◌, ℕ, ◌+◌, ◌-◌, ◌<◌, ◌^◌, List, [], ◌∷◌, ◌++◌, Option, Some, None, Bool, true, false, not, ◌&&◌, ◌||◌, nat_eq, nat_lt, nat_le, map, filter, find, length, is_some, IfSome, if◌then◌else◌}
use Rattle.std.specs.Option.{option_map_or}
use Rattle.qq_base.specs.declared.ids.SessionId.{SessionId}
use Rattle.qq_base.specs.declared.ids.ConsumerId.{ConsumerId}
use Rattle.qq_base.specs.Ids.{same_consumer}
use Rattle.qq_entry.specs.declared.answer.Cause.{Cause}
use Rattle.qq_entry.specs.declared.answer.Cause.TheVariants.{NumberSpent, ConsumersFull, NoConsumer, WrongMode}
use Rattle.qq_entry.specs.declared.command.Mode.{Mode}
use Rattle.qq_entry.specs.declared.command.Mode.TheVariants.{Prefetch, Link}
use Rattle.qq_entry.specs.declared.message.ReadyRow.{ReadyRow}
use Rattle.qq_entry.specs.declared.table.Standing.{Standing}
use Rattle.qq_model.specs.declared.TheConstants.{MOST_CONSUMERS}
use Rattle.qq_model.specs.declared.place.Place.{Place}
use Rattle.qq_model.specs.declared.place.Place.TheVariants.{Out}
use Rattle.qq_model.specs.declared.consumer.Consumer.{Consumer}
use Rattle.qq_model.specs.Commands.{new_consumer, is_of_session}
use Rattle.qq_parts.specs.Reduced.{Item}
use Rattle.qq_parts.specs.Parts.{Served}
use Rattle.qq_parts.specs.Outs.{Cut, cut_id, hand_to}
use Rattle.qq_parts.specs.Turns.{credit_of_one}
use Rattle.qq_parts.specs.Consumers.{change_one, needed_one}
use Rattle.qq_consumer.specs.declared.rising.Numbered.{Numbered}
use Rattle.qq_consumer.specs.declared.row.ConsumerRow.{ConsumerRow}
use Rattle.qq_consumer.specs.declared.fault.SubscribeFault.{SubscribeFault}
use Rattle.qq_consumer.specs.declared.fault.SubscribeFault.TheVariants as fault
use Rattle.qq_consumer.specs.declared.fault.CreditFault.{CreditFault}
use Rattle.qq_consumer.specs.declared.fault.CreditFault.TheVariants as uncredited

-- the consumers in the order of joining, each with what is out with it, and how many turns were drawn
pub record Roster : Type 0 where
  pub served : List Served
  pub turns : ℕ

-- the consumers, and those at the last commit
pub record ConsumersState : Type 0 where
  pub roster : Roster
  pub base : Roster

abbrev pub roster_of : List Served → ℕ → Roster
roster_of served turns = record { served = served; turns = turns }

abbrev pub no_consumers : Roster
no_consumers = record { served = []; turns = 0 }

-- Rows in memory --------------------------------------------------------------------------------------

-- a message at a place, and without it
abbrev pub item_at : Place → ReadyRow → Item
item_at place row =
    record {
      row =
          record {
            index = row.index;
            arrival = row.arrival;
            count = row.count;
            size = row.message.size;
            place = place;
          };
      message = row.message;
    }

abbrev pub row_of : Item → ReadyRow
row_of x = record { index = x.row.index; arrival = x.row.arrival; count = x.row.count; message = x.message }

-- a message that is out, under its id
abbrev pub out_item : ConsumerId → Numbered ReadyRow → Item
out_item consumer one = item_at (Out consumer one.number) one.item

-- a row in memory is a consumer of the parts
abbrev pub served_of : ConsumerRow → Served
served_of row = record { consumer = row.consumer; out = map (out_item row.consumer.id) row.out.items }

-- Reads -----------------------------------------------------------------------------------------------

abbrev pub is_one : ConsumerId → Served → Bool
is_one id one = same_consumer one.consumer.id id

-- the consumer of an id
abbrev pub one_of : ConsumerId → List Served → Option Served
one_of id served = find (is_one id) served

abbrev pub is_there : ConsumerId → List Served → Bool
is_there id served = is_some (one_of id served)

-- how many more deliveries the consumer of an id may get, 0 where there is none
abbrev pub credit_at : ConsumerId → List Served → ℕ
credit_at id served = option_map_or credit_of_one (one_of id served) 0

-- how a consumer stands
abbrev pub standing_one : Served → Standing
standing_one one =
    record {
      id = one.consumer.id;
      credit = credit_of_one one;
      turn = one.consumer.turn;
      cancelled = one.consumer.cancelled;
    }

-- Subscribe -------------------------------------------------------------------------------------------

abbrev pub new_one : ConsumerId → Mode → ℕ → Served
new_one id mode turn = record { consumer = new_consumer id mode turn; out = [] }

-- a consumer joins at the end, with the next turn
abbrev pub join : ConsumerId → Mode → Roster → Roster
join id mode r = record { served = r.served ++ new_one id mode (r.turns + 1) ∷ []; turns = r.turns + 1 }

-- a tag that isn't above all that its session used, or that a consumer has
abbrev pub is_spent : ConsumerId → ℕ → Roster → Bool
is_spent id greatest r = nat_le id.tag greatest || is_there id r.served

abbrev pub is_full : Roster → Bool
is_full r = nat_le MOST_CONSUMERS (length r.served)

-- why a consumer doesn't join
abbrev pub subscribe_refusal : ConsumerId → ℕ → Roster → Option Cause
subscribe_refusal id greatest r =
    if is_spent id greatest r then Some NumberSpent else if is_full r then Some ConsumersFull else None

-- an error is the refusal, and out of memory comes only where there is none
abbrev pub IsRefusal : SubscribeFault → Option Cause → Type 0
IsRefusal (fault.NumberSpent) refusal = refusal ≡ Some NumberSpent
IsRefusal (fault.ConsumersFull) refusal = refusal ≡ Some ConsumersFull
IsRefusal (fault.Memory) refusal = refusal ≡ None

-- Deliveries ------------------------------------------------------------------------------------------

-- a message goes to the consumer of an id, which gets the next turn
abbrev pub check_out : ConsumerId → Item → Roster → Roster
check_out id x r = record { served = hand_to (r.turns + 1) x id r.served; turns = r.turns + 1 }

-- the numbers of a consumer that a delivery raises fit 64 bits
abbrev pub CanCount : Consumer → Type 0
CanCount consumer = (consumer.next_id + 1 < 2 ^ 64) × (consumer.count + 1 < 2 ^ 64)

-- and so does the one that a drain raises
abbrev pub CanDrain : Consumer → Type 0
CanDrain consumer = consumer.count + consumer.credit < 2 ^ 64

-- of the consumer of an id, if it is there
abbrev pub HoldsAt : (Consumer → Type 0) → ConsumerId → Roster → Type 0
HoldsAt P id r = IfSome (one_of id r.served) (λ one. P one.consumer)

-- the id of a consumer's next delivery, 0 where there is none
abbrev pub next_id_at : ConsumerId → Roster → ℕ
next_id_at id r = option_map_or (λ (one : Served). one.consumer.next_id) (one_of id r.served) 0

-- messages that were taken out, and the others
pub record Cuts : Type 0 where
  pub items : List Item
  pub rest : List Item

abbrev pub first_cut : Item → Cuts → Cuts
first_cut x cuts = record { items = x ∷ cuts.items; rest = cuts.rest }

-- those of the ids that are out are taken out, in the given order
abbrev pub cut_ids : List ℕ → List Item → Cuts
cut_ids [] out = record { items = []; rest = out }
cut_ids (id ∷ ids) out =
    option_map_or (λ (cut : Cut). first_cut cut.item (cut_ids ids cut.rest)) (cut_id id out) (cut_ids ids out)

-- Changes ---------------------------------------------------------------------------------------------

-- the consumer of an id is this one
abbrev pub put_one : Consumer → List Served → List Served
put_one new served = map (change_one new) served

-- what is out with the consumer of an id
abbrev pub with_out : ConsumerId → (List Item → List Item) → Served → Served
with_out id f one = if is_one id one then record { consumer = one.consumer; out = f one.out } else one

abbrev pub cut_rest : List ℕ → List Item → List Item
cut_rest ids out = (cut_ids ids out).rest

abbrev pub put_rest : ConsumerId → List ℕ → List Served → List Served
put_rest id ids served = map (with_out id (cut_rest ids)) served

-- those that aren't needed leave
abbrev pub drop_finished : Roster → Roster
drop_finished r = record r { served = filter needed_one r.served }

abbrev pub take_turn : Option Served → Roster → Roster
take_turn None r = r
take_turn (Some one) r =
    record { served = put_one (record (one.consumer) { turn = r.turns + 1 }) r.served; turns = r.turns + 1 }

-- a consumer whose free credit was 0 and is more now draws a turn
abbrev pub begin_to_wait : ℕ → ConsumerId → Roster → Roster
begin_to_wait before id r =
    if nat_eq before 0 && nat_lt 0 (credit_at id r.served) then take_turn (one_of id r.served) r else r

-- the deliveries of these ids end; a consumer that was cancelled may leave then, and another begin to wait
abbrev pub take_out_by : Option Served → ConsumerId → List ℕ → Roster → Roster
take_out_by None id ids r = r
take_out_by (Some one) id ids r =
    begin_to_wait (credit_of_one one) id (drop_finished (record r { served = put_rest id ids r.served }))

abbrev pub take_out : ConsumerId → List ℕ → Roster → Roster
take_out id ids r = take_out_by (one_of id r.served) id ids r

-- the messages that are taken out
abbrev pub taken_rows : List ℕ → Served → List ReadyRow
taken_rows ids one = map row_of (cut_ids ids one.out).items

-- whether the consumer of an id is there and wasn't cancelled
abbrev pub is_current_at : ConsumerId → Roster → Bool
is_current_at id r = option_map_or (λ (one : Served). not one.consumer.cancelled) (one_of id r.served) false

-- a consumer is cancelled, and leaves where nothing is out with it
abbrev pub cancel_by : Option Served → Roster → Roster
cancel_by None r = r
cancel_by (Some one) r =
    if one.consumer.cancelled then r
    else drop_finished (record r { served = put_one (record (one.consumer) { cancelled = true }) r.served })

abbrev pub cancel : ConsumerId → Roster → Roster
cancel id r = cancel_by (one_of id r.served) r

-- why credit can't be given
abbrev pub mode_fault : Mode → Option Cause
mode_fault (Prefetch prefetch) = Some WrongMode
mode_fault Link = None

abbrev pub credit_fault_by : Option Served → Option Cause
credit_fault_by None = Some NoConsumer
credit_fault_by (Some one) = if one.consumer.cancelled then Some NoConsumer else mode_fault one.consumer.mode

abbrev pub credit_fault : ConsumerId → Roster → Option Cause
credit_fault id r = credit_fault_by (one_of id r.served)

-- link credit is what the receiver counted, and gives, less what was delivered
abbrev pub credited : ℕ → Consumer → Consumer
credited credit consumer = record consumer { credit = credit }

-- a consumer has this link credit, and begins to wait where it had none
abbrev pub set_credit : ℕ → Consumer → Roster → Roster
set_credit credit consumer r =
    begin_to_wait consumer.credit consumer.id (record r { served = put_one (credited credit consumer) r.served })

abbrev pub give_credit_by : Option Served → ℕ → Roster → Roster
give_credit_by None credit r = r
give_credit_by (Some one) credit r = set_credit (credit - one.consumer.count) one.consumer r

abbrev pub give_credit : ConsumerId → ℕ → Roster → Roster
give_credit id credit r = give_credit_by (one_of id r.served) credit r

-- the link credit that is left
abbrev pub link_credit : Mode → ℕ → ℕ
link_credit (Prefetch prefetch) credit = 0
link_credit Link credit = credit

abbrev pub link_credit_one : Served → ℕ
link_credit_one one = link_credit one.consumer.mode one.consumer.credit

abbrev pub link_credit_at : ConsumerId → Roster → ℕ
link_credit_at id r = option_map_or link_credit_one (one_of id r.served) 0

-- it counts as delivered
abbrev pub drained : Consumer → Consumer
drained consumer = record consumer { credit = 0; count = consumer.count + consumer.credit }

abbrev pub drain_by_mode : Mode → Consumer → Roster → Roster
drain_by_mode (Prefetch prefetch) consumer r = r
drain_by_mode Link consumer r = record r { served = put_one (drained consumer) r.served }

abbrev pub drain_by : Option Served → Roster → Roster
drain_by None r = r
drain_by (Some one) r = drain_by_mode one.consumer.mode one.consumer r

abbrev pub drain : ConsumerId → Roster → Roster
drain id r = drain_by (one_of id r.served) r

-- Down ------------------------------------------------------------------------------------------------

abbrev pub is_one_of : SessionId → Served → Bool
is_one_of session one = is_of_session session one.consumer

-- the longest joined consumer of a session
abbrev pub first_of : SessionId → List Served → Option Served
first_of session served = find (is_one_of session) served

-- all but the consumer of an id
abbrev pub remove_one : ConsumerId → List Served → List Served
remove_one id served = filter (λ (one : Served). not (is_one id one)) served

abbrev pub end_by : Option Served → Roster → Roster
end_by None r = r
end_by (Some one) r = record r { served = remove_one one.consumer.id r.served }

-- it leaves, with what is out with it
abbrev pub end : SessionId → Roster → Roster
end session r = end_by (first_of session r.served) r

-- Errors ----------------------------------------------------------------------------------------------

-- the consumers are as before, or as at the last commit
abbrev pub IsBack : ConsumersState → ConsumersState → Type 0
IsBack old new = (new.roster ≡ old.roster) ⊎ (new.roster ≡ old.base)

-- a subscribe that a rule refuses changes nothing
abbrev pub StaysUnsubscribed : SubscribeFault → ConsumersState → ConsumersState → Type 0
StaysUnsubscribed (fault.Memory) old new = IsBack old new
StaysUnsubscribed _ old new = new.roster ≡ old.roster

-- a refusal is the rule's, and out of memory comes only where nothing is refused
abbrev pub IsCreditFault : CreditFault → Option Cause → Type 0
IsCreditFault (uncredited.Refused cause) refusal = refusal ≡ Some cause
IsCreditFault (uncredited.Memory) refusal = refusal ≡ None

-- a credit that a rule refuses changes nothing
abbrev pub StaysUncredited : CreditFault → ConsumersState → ConsumersState → Type 0
StaysUncredited (uncredited.Refused cause) old new = new.roster ≡ old.roster
StaysUncredited (uncredited.Memory) old new = IsBack old new
