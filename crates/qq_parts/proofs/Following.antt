-- What follows on each command is made in the parts as in the queue.
use Rattle.std.proofs.Common.{◌≡◌, ℕ, Bool, ◌&&◌, ◌||◌, List, [], ◌∷◌, ◌++◌, Option, Some, None, map, length, nat_lt, refl, sym, ap, ◌∙◌, subst}
use Rattle.std.specs.Option.{option_map}
use Rattle.qq_base.proofs.Lists.{In, In-map, In-append_right, AllByRecursion-in, find-in}
use Rattle.qq_entry.specs.declared.queue.QueueArgs.{QueueArgs}
use Rattle.qq_entry.specs.declared.message.Message.{Message}
use Rattle.qq_entry.specs.declared.message.Reason.TheVariants as reason
use Rattle.qq_entry.specs.declared.audit.Effect.{Effect}
use Rattle.qq_entry.specs.declared.audit.Effect.TheVariants.{Deliver, Offer}
use Rattle.qq_model.specs.declared.TheConstants.{MOST_GIVEN}
use Rattle.qq_model.specs.declared.place.Place.{Place}
use Rattle.qq_model.specs.declared.place.Place.TheVariants.{Ready, Out, Dead, Gone}
use Rattle.qq_model.specs.declared.place.Row.{Row}
use Rattle.qq_model.specs.declared.consumer.Consumer.{Consumer}
use Rattle.qq_model.specs.State.{State}
use Rattle.qq_model.specs.Choice.{next_message, next_consumer}
use Rattle.qq_model.specs.Limits.{ready_bytes, is_drop_head, has_passed, is_over_limit}
use Rattle.qq_model.specs.Changes.{Progress, while_next, message_of}
use Rattle.qq_model.specs.Serving.{deliver_by, check_out, check_out_all, drop_head_by, drop_head, keep_limits, given_count, next_dead, offer_at, offer_by, give_dead, give_all_dead}
use Rattle.qq_parts.specs.Reduced.{Item, item_row}
use Rattle.qq_parts.specs.Parts.{Served, consumer_at, Parts, outs, items_of, Stands, IsWhole, item_number}
use Rattle.qq_parts.specs.Reads.{ready_items}
use Rattle.qq_parts.specs.Changes.{Taken, take_first}
use Rattle.qq_parts.specs.Outs.{taken_row, delivery_to}
use Rattle.qq_parts.specs.Letters.{first_above}
use Rattle.qq_parts.proofs.Reading.{ready-is, bytes-is, dead-is, messages-are}
use Rattle.qq_parts.proofs.Moving.{first-taken}
use Rattle.qq_parts.proofs.Delivering.{delivers}
use Rattle.qq_parts.proofs.Burying.{tells_dead, given-is}
use Rattle.qq_parts.specs.Work.{Work, StandsFor}
use Rattle.qq_parts.specs.Follows.{next_one, parts_deliver_by, parts_check_out, parts_check_out_all, is_over, parts_drop_by, parts_drop_head, parts_keep_limits, given_up_to, parts_offer_at, parts_offer_by, may_give, parts_give_dead, parts_give_all_dead}
use Rattle.qq_parts.proofs.Works.{GoOn, goes-if, loops, with-effects, whole-rest, args-are}
use Rattle.qq_parts.proofs.Choosing.{first-row, first-left, next-one, next-in}
use Rattle.qq_parts.proofs.StepEnding.{died}

-- Checkouts -------------------------------------------------------------------------------------------

delivers-by : (single : Bool) (t : Work) (p : Progress) (o : Option Taken) (c : Option Served) → StandsFor t p
    → take_first t.parts ≡ o → next_one single t.parts.served ≡ c
    → GoOn (parts_deliver_by o c t) (deliver_by (option_map taken_row o) (option_map consumer_at c) p)
delivers-by single t p None c it first who = tt
delivers-by single t p (Some taken) None it first who = tt
delivers-by single t p (Some taken) (Some one) it first who =
    let m : Parts = t.parts in
    let is = first-taken m p.state taken it.stands it.whole first in
    let here : In one.consumer (map consumer_at taken.left.served) =
    In-map consumer_at one taken.left.served
    (subst (In one) (sym (first-left m taken first).0) (next-in single m.served one who)) in
    let made = delivers taken.item one.consumer taken.left p.state is.stands is.whole here p.effects in
    record {
      stands = made.stands;
      whole = made.whole;
      effects =
          made.effects
          ∙ ap (λ (effects : List Effect). effects ++ Deliver one.consumer.id (delivery_to one.consumer taken.item) ∷ [])
          it.effects;
    }

pub check_out-goes : (t : Work) (p : Progress) → StandsFor t p → GoOn (parts_check_out t) (check_out p)
unfolding check_out parts_check_out
check_out-goes t p it =
    let m : Parts = t.parts in
    let single : Bool = m.rest.args.single_active in
    let who : next_consumer p.state.args.single_active p.state.rows p.state.consumers
    ≡ option_map consumer_at (next_one single m.served) =
    ap (λ (args : QueueArgs). next_consumer args.single_active p.state.rows p.state.consumers)
    (args-are m p.state it.stands)
    ∙ next-one single m p.state it.stands it.whole in
    subst (λ (row : Option Row). GoOn (parts_check_out t) (deliver_by row
    (next_consumer p.state.args.single_active p.state.rows p.state.consumers) p))
    (sym (first-row m p.state it.stands it.whole))
    (subst (λ (one : Option Consumer). GoOn (parts_check_out t)
    (deliver_by (option_map taken_row (take_first m)) one p)) (sym who)
    (delivers-by single t p (take_first m) (next_one single m.served) it refl refl))

pub checks_out : (t : Work) (p : Progress) → StandsFor t p → StandsFor (parts_check_out_all t) (check_out_all p)
unfolding check_out_all parts_check_out_all
checks_out t p it =
    subst (λ n. StandsFor (while_next (length (ready_items t.parts)) parts_check_out t) (while_next n check_out p))
    (sym (ready-is t.parts p.state it.stands it.whole))
    (loops parts_check_out check_out check_out-goes (length (ready_items t.parts)) t p it)

-- Limits ----------------------------------------------------------------------------------------------

over-is : (m : Parts) (s : State) → Stands m s → IsWhole m → is_over_limit s.args s.rows ≡ is_over m
over-is m s stands whole =
    let args : QueueArgs = m.rest.args in
    ap (λ (a : QueueArgs). is_over_limit a s.rows) (args-are m s stands)
    ∙ ap (λ n. is_drop_head args.overflow
    && (has_passed args.max_length n || has_passed args.max_bytes (ready_bytes s.rows))) (ready-is m s stands whole)
    ∙ ap (λ n. is_drop_head args.overflow
    && (has_passed args.max_length (length (ready_items m)) || has_passed args.max_bytes n)) (bytes-is m s stands whole)

drops-by : (t : Work) (p : Progress) (o : Option Taken) → StandsFor t p → take_first t.parts ≡ o
    → GoOn (parts_drop_by o t) (drop_head_by (option_map taken_row o) p)
drops-by t p None it first = tt
drops-by t p (Some taken) it first =
    let is = first-taken t.parts p.state taken it.stands it.whole first in
    with-effects (λ q. GoOn (parts_drop_by (Some taken) t) (drop_head_by (Some taken.item.row) q)) t p it
    (died reason.MaxLen taken.item taken.left p.state t.effects is.stands is.whole)

pub drop_head-goes : (t : Work) (p : Progress) → StandsFor t p → GoOn (parts_drop_head t) (drop_head p)
unfolding drop_head parts_drop_head
drop_head-goes t p it =
    goes-if (is_over t.parts) (is_over_limit p.state.args p.state.rows) (parts_drop_by (take_first t.parts) t)
    (drop_head_by (next_message p.state.rows) p) (over-is t.parts p.state it.stands it.whole)
    (subst (λ (row : Option Row). GoOn (parts_drop_by (take_first t.parts) t) (drop_head_by row p))
    (sym (first-row t.parts p.state it.stands it.whole)) (drops-by t p (take_first t.parts) it refl))

pub keeps_limits : (t : Work) (p : Progress) → StandsFor t p → StandsFor (parts_keep_limits t) (keep_limits p)
unfolding keep_limits parts_keep_limits
keeps_limits t p it =
    subst (λ n. StandsFor (while_next (length (ready_items t.parts)) parts_drop_head t) (while_next n drop_head p))
    (sym (ready-is t.parts p.state it.stands it.whole))
    (loops parts_drop_head drop_head drop_head-goes (length (ready_items t.parts)) t p it)

-- Dead giving -----------------------------------------------------------------------------------------

gives-stands : (number : ℕ) (m : Parts) (s : State) → Stands m s
    → Stands (given_up_to number m) (record s { given = number })
gives-stands number m s stands = record {
  rest = ap (λ (t : State). record t { given = number }) stands.rest;
  perm = stands.perm;
  rising = stands.rising;
  long = stands.long;
}

offers-at : (place : Place) (x : Item) (t : Work) (p : Progress) → StandsFor t p
    → message_of p.state.rows p.state.messages x.row ≡ x.message
    → GoOn (parts_offer_at place x t) (offer_at place x.row p)
offers-at (Ready key) x t p it message = tt
offers-at (Out consumer id) x t p it message = tt
offers-at (Gone reason) x t p it message = tt
offers-at (Dead number reason) x t p it message = record {
  stands = gives-stands number t.parts p.state it.stands;
  whole = whole-rest t.parts (given_up_to number t.parts).rest refl refl refl it.whole;
  effects =
      ap (λ (m : Message). p.effects ++ Offer number reason m ∷ []) message
      ∙ ap (λ (effects : List Effect). effects ++ Offer number reason x.message ∷ []) it.effects;
}

offers-by : (given : ℕ) (t : Work) (p : Progress) (o : Option Item) → StandsFor t p → first_above given t.parts.dead ≡ o
    → GoOn (parts_offer_by o t) (offer_by (option_map item_row o) p)
offers-by given t p None it first = tt
offers-by given t p (Some x) it first =
    let m : Parts = t.parts in
    let dead : In x m.dead = (find-in (λ (y : Item). nat_lt given (item_number y)) m.dead x first).0 in
    let here : In x (items_of m) =
    In-append_right x (ready_items m) (outs m.served ++ m.dead) (In-append_right x (outs m.served) m.dead dead) in
    offers-at x.row.place x t p it
    (AllByRecursion-in (λ (y : Item). message_of p.state.rows p.state.messages y.row ≡ y.message) x (items_of m)
    (messages-are m p.state it.stands) here)

gives-is : (m : Parts) (s : State) → Stands m s → IsWhole m
    → (nat_lt 0 s.attached && nat_lt (given_count s.given s.rows) MOST_GIVEN) ≡ may_give m
gives-is m s stands whole =
    ap (λ (t : State). nat_lt 0 t.attached && nat_lt (given_count t.given s.rows) MOST_GIVEN) stands.rest
    ∙ ap (λ n. nat_lt 0 m.rest.attached && nat_lt n MOST_GIVEN) (given-is m s m.rest.given stands whole)

pub give_dead-goes : (t : Work) (p : Progress) → StandsFor t p → GoOn (parts_give_dead t) (give_dead p)
unfolding give_dead parts_give_dead
give_dead-goes t p it =
    let m : Parts = t.parts in
    let next : next_dead p.state.given p.state.rows ≡ option_map item_row (first_above m.rest.given m.dead) =
    ap (λ (s : State). next_dead s.given p.state.rows) it.stands.rest
    ∙ (tells_dead m p.state it.stands it.whole).next m.rest.given in
    goes-if (may_give m) (nat_lt 0 p.state.attached && nat_lt (given_count p.state.given p.state.rows) MOST_GIVEN)
    (parts_offer_by (first_above m.rest.given m.dead) t) (offer_by (next_dead p.state.given p.state.rows) p)
    (gives-is m p.state it.stands it.whole)
    (subst (λ (row : Option Row). GoOn (parts_offer_by (first_above m.rest.given m.dead) t) (offer_by row p))
    (sym next) (offers-by m.rest.given t p (first_above m.rest.given m.dead) it refl))

pub gives_all : (t : Work) (p : Progress) → StandsFor t p → StandsFor (parts_give_all_dead t) (give_all_dead p)
unfolding give_all_dead parts_give_all_dead
gives_all t p it =
    subst (λ n. StandsFor (while_next (length t.parts.dead) parts_give_dead t) (while_next n give_dead p))
    (sym (dead-is t.parts p.state it.stands it.whole))
    (loops parts_give_dead give_dead give_dead-goes (length t.parts.dead) t p it)
