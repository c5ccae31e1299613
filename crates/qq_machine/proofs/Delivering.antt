-- A message that was taken out is delivered to the next consumer.
use Rattle.std.proofs.Common.{◌≡◌, ℕ, List, [], ◌∷◌, ◌++◌, Option, Some, None, refl, sym, ap, ◌∙◌}
use Rattle.std.specs.Option.{option_map_or}
use Rattle.qq_base.specs.declared.ids.ConsumerId.{ConsumerId}
use Rattle.qq_base.specs.Ids.{same_consumer}
use Rattle.qq_base.proofs.Lists.{find-in}
use Rattle.qq_model.proofs.OneConsumer.{same_consumer-true}
use Rattle.qq_entry.specs.declared.audit.Effect.{Effect}
use Rattle.qq_entry.specs.declared.audit.Effect.TheVariants.{Deliver}
use Rattle.qq_entry.specs.declared.message.Message.{Message}
use Rattle.qq_entry.specs.declared.message.ReadyRow.{ReadyRow}
use Rattle.qq_entry.specs.declared.queue.QueueArgs.{QueueArgs}
use Rattle.qq_model.specs.declared.place.Place.{Place}
use Rattle.qq_parts.specs.Reduced.{Item}
use Rattle.qq_parts.specs.Parts.{Served}
use Rattle.qq_parts.specs.Changes.{Taken}
use Rattle.qq_parts.specs.Work.{Work}
use Rattle.qq_parts.specs.Follows.{parts_deliver, parts_deliver_by}
use Rattle.qq_parts.specs.Commands.{one_of}
use Rattle.qq_consumer.specs.Roster.{Roster, item_at, check_out, next_id_at}
use Rattle.qq_machine.specs.declared.queue.Draft.{Draft}
use Rattle.qq_machine.specs.Views.{parts_of, work_of}

-- other consumers
abbrev pub with_roster : Roster → Work → Work
with_roster r t =
    record t {
      parts = record (t.parts) { rest = record (t.parts.rest) { turns = r.turns }; served = r.served };
    }

-- nobody is next
pub deliver-nobody : (o : Option Taken) (t : Work) → parts_deliver_by o None t ≡ None
deliver-nobody None t = refl
deliver-nobody (Some taken) t = refl

abbrev sent : ConsumerId → ReadyRow → ℕ → Message → Effect
sent id row number message =
    Deliver id (record { index = row.index; arrival = row.arrival; id = number; count = row.count; message = message })

-- the consumers change as the parts' do, and the effect is the parts'
pub delivers : (id : ConsumerId) (row : ReadyRow) (place : Place) (args : QueueArgs) (old : Draft) (one : Served)
    (r : Roster) (number : ℕ) (message : Message)
    → one_of id old.queue.consumers.roster.served ≡ Some one → one.consumer.id ≡ id
    → r ≡ check_out id (item_at place row) old.queue.consumers.roster
    → number ≡ next_id_at id old.queue.consumers.roster → message ≡ row.message
    → parts_deliver (record { item = item_at place row; left = parts_of args old.queue }) one (work_of args old)
    ≡ record (with_roster r (work_of args old)) { effects = old.effects.items ++ sent id row number message ∷ [] }
delivers id row place args old one r number message found own after numbered same =
    let t : Work = work_of args old in
    let x : Item = item_at place row in
    let its : number ≡ one.consumer.next_id =
    numbered ∙ ap (λ (o : Option Served). option_map_or (λ (k : Served). k.consumer.next_id) o 0) found in
    ap (λ (k : ConsumerId). record (with_roster (check_out k x old.queue.consumers.roster) t) {
      effects = old.effects.items ++ sent k row one.consumer.next_id row.message ∷ [];
    }) own
    ∙ ap (λ (q : Roster). record (with_roster q t) {
      effects = old.effects.items ++ sent id row one.consumer.next_id row.message ∷ [];
    }) (sym after)
    ∙ ap (λ (n : ℕ). record (with_roster r t) {
      effects = old.effects.items ++ sent id row n row.message ∷ [];
    }) (sym its)
    ∙ ap (λ (m : Message). record (with_roster r t) {
      effects = old.effects.items ++ sent id row number m ∷ [];
    }) (sym same)

-- both are there: the first message goes to the next consumer
pub delivered : (first : Option Taken) (next : Option Served) (taken : Taken) (one : Served) (t : Work) (new : Work)
    → first ≡ Some taken → next ≡ Some one → parts_deliver taken one t ≡ new
    → parts_deliver_by first next t ≡ Some new
delivered first next taken one t new is_first is_next made =
    ap (λ (o : Option Taken). parts_deliver_by o next t) is_first
    ∙ ap (λ (o : Option Served). parts_deliver_by (Some taken) o t) is_next
    ∙ ap (λ (w : Work). Some w) made

pub found-id : (id : ConsumerId) (served : List Served) (one : Served) → one_of id served ≡ Some one
    → one.consumer.id ≡ id
found-id id served one found =
    same_consumer-true one.consumer.id id
    (find-in (λ (other : Served). same_consumer other.consumer.id id) served one found).1
