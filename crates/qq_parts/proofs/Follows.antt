-- What follows on a command is the same without what is gone.
use Rattle.std.proofs.Common.{◌≡◌, ℕ, ◌+◌, Bool, true, ◌&&◌, ◌||◌, List, [], ◌∷◌, ◌++◌, Option, Some, None, refl, sym, ap, ◌∙◌, subst, if◌then◌else◌}
use Rattle.std.specs.Prelude.{nat_lt}
use Rattle.std.specs.Option.{is_some}
use Rattle.std.proofs.lemmas.Bool.{false≢true}
use Rattle.qq_base.specs.declared.ids.ConsumerId.{ConsumerId}
use Rattle.qq_entry.specs.declared.message.Message.{Message}
use Rattle.qq_entry.specs.declared.message.Reason.TheVariants as reason
use Rattle.qq_entry.specs.declared.command.Command.{Command}
use Rattle.qq_entry.specs.declared.command.Command.TheVariants.{Credit}
use Rattle.qq_entry.specs.declared.audit.Effect.TheVariants.{Deliver, Offer}
use Rattle.qq_entry.specs.Command.{consumer_id}
use Rattle.qq_model.specs.declared.TheConstants.{MOST_GIVEN}
use Rattle.qq_model.specs.declared.place.Place.{Place}
use Rattle.qq_model.specs.declared.place.Place.TheVariants.{Out, Dead, Gone}
use Rattle.qq_model.specs.declared.place.Row.{Row}
use Rattle.qq_model.specs.declared.consumer.Consumer.{Consumer}
use Rattle.qq_model.specs.Choice.{next_message, next_consumer}
use Rattle.qq_model.specs.Limits.{is_live, ready_count, ready_bytes, dead_count, has_passed, is_drop_head, is_over_limit}
use Rattle.qq_model.specs.Changes.{Progress, put_row, put_consumer, consumer_of}
use Rattle.qq_model.specs.Commands.{Acted}
use Rattle.qq_model.specs.Serving.{serve, deliver, deliver_by, check_out, check_out_all, drain_by, is_credited, drain, drain_after, drop_head_by, drop_head, keep_limits, given_count, dead_number, next_dead, offer_at, offer_by, give_dead, give_all_dead}
use Rattle.qq_model.specs.Step.{map_progress}
use Rattle.qq_model.proofs.Choices.{next_message-in, next_dead-in}
use Rattle.qq_model.proofs.SingleChanges.{IsIn-ready}
use Rattle.qq_parts.proofs.Live.{Alike, scans}
use Rattle.qq_parts.proofs.Puts.{Lives, put-alike, message-alike}
use Rattle.qq_parts.proofs.Same.{over_rows, Same, SameActed, SameMaybe, Keeps, KeepsMaybe, then_same, cond-pair, same-as, rounds-same, lives-at, die-same, next_consumer-same}

-- the next message is live
pub lives-next : (rows : List Row) (row : Row) → next_message rows ≡ Some row → Lives rows row
lives-next rows row found =
    let it = next_message-in rows row found in
    record { old = row; here = it.0; live = (IsIn-ready row.place it.1).live; index = refl }

-- Checkouts -------------------------------------------------------------------------------------------

deliver-same : {last : ℕ} (row : Row) (consumer : Consumer) (p : Progress) (rows : List Row)
    (messages : List Message) → Alike last p.state.rows p.state.messages rows messages → Lives p.state.rows row
    → Same last (deliver row consumer p) (deliver row consumer (over_rows rows messages p))
deliver-same row consumer p rows messages alike lives =
    let new : Row = record row { place = Out consumer.id consumer.next_id } in
    record {
      rows = put_row new rows;
      messages = messages;
      is =
          ap (λ (message : Message). record {
            state =
                record (p.state) {
                  turns = p.state.turns + 1;
                  rows = put_row new rows;
                  messages = messages;
                  consumers = put_consumer (serve (p.state.turns + 1) consumer) p.state.consumers;
                };
            effects =
                p.effects
                ++ Deliver consumer.id (record {
                  index = row.index;
                  arrival = row.arrival;
                  id = consumer.next_id;
                  count = row.count;
                  message = message;
                })
                ∷ [];
          }) (sym (message-alike row p.state.rows p.state.messages rows messages alike lives));
      alike = put-alike new p.state.rows p.state.messages rows messages alike (lives-at _ row _ lives);
    }

deliver_by-same : {last : ℕ} (row : Option Row) (consumer : Option Consumer) (p : Progress) (rows : List Row)
    (messages : List Message) → Alike last p.state.rows p.state.messages rows messages
    → next_message p.state.rows ≡ row
    → SameMaybe last (deliver_by row consumer p) (deliver_by row consumer (over_rows rows messages p))
deliver_by-same None consumer p rows messages alike found = tt
deliver_by-same (Some row) None p rows messages alike found = tt
deliver_by-same (Some row) (Some consumer) p rows messages alike found =
    deliver-same row consumer p rows messages alike (lives-next p.state.rows row found)

check_out-same : {last : ℕ} → KeepsMaybe last check_out
unfolding check_out
check_out-same {last = last} p rows messages alike =
    let same = scans p.state.rows p.state.messages rows messages alike in
    let q : Progress = over_rows rows messages p in
    let single = p.state.args.single_active in
    let consumers = p.state.consumers in
    let row : Option Row = next_message p.state.rows in
    let consumer : Option Consumer = next_consumer single p.state.rows consumers in
    subst (λ (r : Option Row). SameMaybe last (deliver_by row consumer p)
    (deliver_by r (next_consumer single rows consumers) q)) same.next
    (subst (λ (c : Option Consumer). SameMaybe last (deliver_by row consumer p) (deliver_by row c q))
    (next_consumer-same single p.state.rows rows same consumers)
    (deliver_by-same row consumer p rows messages alike refl))

pub check_out_all-same : {last : ℕ} → Keeps last check_out_all
unfolding check_out_all
check_out_all-same p rows messages alike =
    rounds-same check_out check_out-same (ready_count p.state.rows) (ready_count rows)
    (scans p.state.rows p.state.messages rows messages alike).ready p (over_rows rows messages p)
    (same-as p rows messages alike)

-- Drain -----------------------------------------------------------------------------------------------

pub then_acted : {last : ℕ} (f : Progress → Progress) → Keeps last f → (a b : Acted) → SameActed last a b
    → SameActed last (map_progress f a) (map_progress f b)
then_acted f keeps a b same =
    record { progress = then_same f keeps a.progress b.progress same.progress; answer = same.answer }

abbrev over_acted : List Row → List Message → Acted → Acted
over_acted rows messages a = record a { progress = over_rows rows messages a.progress }

drain_by-same : {last : ℕ} (o : Option Consumer) (a : Acted) (rows : List Row) (messages : List Message)
    → Alike last a.progress.state.rows a.progress.state.messages rows messages
    → SameActed last (drain_by o a.answer a.progress) (drain_by o a.answer (over_rows rows messages a.progress))
drain_by-same None a rows messages alike =
    record { progress = same-as a.progress rows messages alike; answer = refl }
drain_by-same (Some one) a rows messages alike =
    record {
      progress = record { rows = rows; messages = messages; is = refl; alike = alike };
      answer = refl;
    }

drain-over : {last : ℕ} (id : ConsumerId) (wanted : Bool) (a : Acted) (rows : List Row) (messages : List Message)
    → Alike last a.progress.state.rows a.progress.state.messages rows messages
    → SameActed last (drain id wanted a) (drain id wanted (over_acted rows messages a))
drain-over {last = last} id wanted a rows messages alike =
    let b : Acted = over_acted rows messages a in
    let one : Option Consumer = consumer_of id a.progress.state.consumers in
    cond-pair (wanted && is_credited a.answer) (SameActed last) (drain_by one a.answer a.progress) a
    (drain_by one a.answer b.progress) b (λ _. drain_by-same one a rows messages alike)
    (λ _. record { progress = same-as a.progress rows messages alike; answer = refl })

-- two answers under way, as one over other rows
acted-is : {last : ℕ} (a b : Acted) (same : SameActed last a b)
    → b ≡ over_acted same.progress.rows same.progress.messages a
acted-is a b same =
    ap (λ (p : Progress). record { progress = p; answer = b.answer }) same.progress.is
    ∙ ap (λ answer. record {
      progress = over_rows same.progress.rows same.progress.messages a.progress;
      answer = answer;
    }) (sym same.answer)

drain-same : {last : ℕ} (id : ConsumerId) (wanted : Bool) (a b : Acted) → SameActed last a b
    → SameActed last (drain id wanted a) (drain id wanted b)
drain-same {last = last} id wanted a b same =
    subst (λ (c : Acted). SameActed last (drain id wanted a) (drain id wanted c)) (sym (acted-is a b same))
    (drain-over id wanted a same.progress.rows same.progress.messages same.progress.alike)

pub drain_after-same : {last : ℕ} (command : Command) (a b : Acted) → SameActed last a b
    → SameActed last (drain_after command a) (drain_after command b)
unfolding drain_after
drain_after-same (Credit stamp tag count credit wanted) a b same = drain-same (consumer_id stamp tag) wanted a b same
drain_after-same _ a b same = same

-- Limits ----------------------------------------------------------------------------------------------

drop_head_by-same : {last : ℕ} (o : Option Row) (p : Progress) (rows : List Row) (messages : List Message)
    → Alike last p.state.rows p.state.messages rows messages → next_message p.state.rows ≡ o
    → SameMaybe last (drop_head_by o p) (drop_head_by o (over_rows rows messages p))
drop_head_by-same None p rows messages alike found = tt
drop_head_by-same (Some row) p rows messages alike found =
    die-same reason.MaxLen row p rows messages alike (lives-next p.state.rows row found)

drop_head-same : {last : ℕ} → KeepsMaybe last drop_head
unfolding drop_head
drop_head-same {last = last} p rows messages alike =
    let same = scans p.state.rows p.state.messages rows messages alike in
    let q : Progress = over_rows rows messages p in
    let args = p.state.args in
    let row : Option Row = next_message p.state.rows in
    let over : ℕ → ℕ → Bool = λ n bytes.
    is_drop_head args.overflow && (has_passed args.max_length n || has_passed args.max_bytes bytes) in
    let agree : is_over_limit args p.state.rows ≡ is_over_limit args rows =
    ap (λ n. over n (ready_bytes p.state.rows)) same.ready ∙ ap (over (ready_count rows)) same.bytes in
    let here : SameMaybe last (drop_head p) (if is_over_limit args p.state.rows then drop_head_by row q else None) =
    cond-pair (is_over_limit args p.state.rows) (SameMaybe last) (drop_head_by row p) None (drop_head_by row q) None
    (λ _. drop_head_by-same row p rows messages alike refl) (λ _. tt) in
    subst (λ (r : Option Row). SameMaybe last (drop_head p) (if is_over_limit args rows then drop_head_by r q else None))
    same.next
    (subst (λ (b : Bool). SameMaybe last (drop_head p) (if b then drop_head_by row q else None)) agree here)

pub keep_limits-same : {last : ℕ} → Keeps last keep_limits
unfolding keep_limits
keep_limits-same p rows messages alike =
    rounds-same drop_head drop_head-same (ready_count p.state.rows) (ready_count rows)
    (scans p.state.rows p.state.messages rows messages alike).ready p (over_rows rows messages p)
    (same-as p rows messages alike)

-- Dead giving -----------------------------------------------------------------------------------------

offer_at-same : {last : ℕ} (place : Place) (row : Row) (p : Progress) (rows : List Row) (messages : List Message)
    → Alike last p.state.rows p.state.messages rows messages → Lives p.state.rows row
    → SameMaybe last (offer_at place row p) (offer_at place row (over_rows rows messages p))
offer_at-same (Dead number cause) row p rows messages alike lives = record {
  rows = rows;
  messages = messages;
  is =
      ap (λ (message : Message). record {
        state = record (p.state) { rows = rows; messages = messages; given = number };
        effects = p.effects ++ Offer number cause message ∷ [];
      }) (sym (message-alike row p.state.rows p.state.messages rows messages alike lives));
  alike = alike;
}
offer_at-same _ row p rows messages alike lives = tt

-- a place that has a dead number is live
dead-lives : (given : ℕ) (place : Place) (number : Option ℕ) → dead_number given place ≡ number
    → is_some number ≡ true → is_live place ≡ true
dead-lives given (Gone cause) number is some =
    absurd (false≢true (ap is_some is ∙ some))
dead-lives given _ number is some = refl

lives-dead : (given : ℕ) (rows : List Row) (row : Row) → next_dead given rows ≡ Some row → Lives rows row
lives-dead given rows row found =
    let it = next_dead-in given rows row found in
    record { old = row; here = it.0; live = dead-lives given row.place _ refl it.1; index = refl }

offer_by-same : {last : ℕ} (o : Option Row) (p : Progress) (rows : List Row) (messages : List Message)
    → Alike last p.state.rows p.state.messages rows messages → next_dead p.state.given p.state.rows ≡ o
    → SameMaybe last (offer_by o p) (offer_by o (over_rows rows messages p))
offer_by-same None p rows messages alike found = tt
offer_by-same (Some row) p rows messages alike found =
    offer_at-same row.place row p rows messages alike (lives-dead p.state.given p.state.rows row found)

give_dead-same : {last : ℕ} → KeepsMaybe last give_dead
unfolding give_dead
give_dead-same {last = last} p rows messages alike =
    let same = scans p.state.rows p.state.messages rows messages alike in
    let q : Progress = over_rows rows messages p in
    let given = p.state.given in
    let row : Option Row = next_dead given p.state.rows in
    let may : ℕ → Bool = λ n. nat_lt 0 p.state.attached && nat_lt n MOST_GIVEN in
    let count : ℕ = given_count given p.state.rows in
    let here : SameMaybe last (give_dead p) (if may count then offer_by row q else None) =
    cond-pair (may count) (SameMaybe last) (offer_by row p) None (offer_by row q) None
    (λ _. offer_by-same row p rows messages alike refl) (λ _. tt) in
    subst (λ (r : Option Row). SameMaybe last (give_dead p)
    (if may (given_count given rows) then offer_by r q else None)) (same.next_dead_row given)
    (subst (λ n. SameMaybe last (give_dead p) (if may n then offer_by row q else None)) (same.given given) here)

pub give_all_dead-same : {last : ℕ} → Keeps last give_all_dead
unfolding give_all_dead
give_all_dead-same p rows messages alike =
    rounds-same give_dead give_dead-same (dead_count p.state.rows) (dead_count rows)
    (scans p.state.rows p.state.messages rows messages alike).dead p (over_rows rows messages p)
    (same-as p rows messages alike)
