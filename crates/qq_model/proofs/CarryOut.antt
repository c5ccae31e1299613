-- What each single change keeps, a whole command keeps.
use Rattle.std.proofs.Common.{◌≡◌, ◌⊎◌, Bool, true, false, ◌&&◌, [], ◌∷◌, ◌++◌, Option, Some, None, refl, sym, ◌∙◌, subst, inl, inr}
use Rattle.std.specs.Prelude.{nat_lt}
use Rattle.std.proofs.lemmas.Bool.{cases_Bool, cond-true, cond-false, cond_both, and_parts}
use Rattle.qq_base.specs.declared.ids.Index.{Index}
use Rattle.qq_base.specs.declared.ids.ConsumerId.{ConsumerId}
use Rattle.qq_entry.specs.declared.message.Reason.TheVariants as reason
use Rattle.qq_entry.specs.declared.command.Command.{Command}
use Rattle.qq_entry.specs.declared.command.Command.TheVariants.{Credit}
use Rattle.qq_entry.specs.declared.audit.Effect.TheVariants.{Offer}
use Rattle.qq_model.specs.declared.TheConstants.{MOST_GIVEN}
use Rattle.qq_model.specs.declared.place.Place.{Place}
use Rattle.qq_model.specs.declared.place.Place.TheVariants.{Ready, Out, Dead, Gone}
use Rattle.qq_model.specs.declared.place.Row.{Row}
use Rattle.qq_model.specs.declared.consumer.Consumer.{Consumer}
use Rattle.qq_model.specs.State.{State}
use Rattle.qq_model.specs.Choice.{next_message, next_consumer}
use Rattle.qq_model.specs.Limits.{ready_count, dead_count, is_over_limit, is_drop_head}
use Rattle.qq_model.specs.Changes.{Progress, consumer_of, message_of, die}
use Rattle.qq_entry.specs.Command.{consumer_id}
use Rattle.qq_model.specs.Commands.{Acted}
use Rattle.qq_model.specs.Serving.{deliver, deliver_by, check_out, check_out_all, drain_by, is_credited, drain, drain_after, drop_head_by, drop_head, keep_limits, next_dead, given_count, offer_at, offer_by, give_dead, give_all_dead}
use Rattle.qq_model.specs.Step.{map_progress, carry_out}
use Rattle.qq_model.proofs.Choices.{next_message-in, next_dead-in}
use Rattle.qq_model.proofs.Loops.{while_next-keeps}
use Rattle.qq_model.proofs.ActKeeps.{KeepsArrivals, act-keeps}
use Rattle.qq_model.proofs.SingleChanges.Because.{IsDropped}
use Rattle.qq_model.proofs.SingleChanges.{Acts, IsIn-ready, KeepsDeliveries, Recounts-same, Serves, die-keeps}

pub check_out_all-keeps : (I : Progress → Type 0) → KeepsDeliveries I → (p : Progress) → I p → I (check_out_all p)
unfolding check_out_all check_out
check_out_all-keeps I keeps p holds =
    while_next-keeps I check_out (λ now next holds made. one now next _ _ refl refl holds made)
    (ready_count p.state.rows) p holds
  where
    one : (now next : Progress) (row : Option Row) (consumer : Option Consumer) → next_message now.state.rows ≡ row
        → next_consumer now.state.args.single_active now.state.rows now.state.consumers ≡ consumer
        → I now → deliver_by row consumer now ≡ Some next → I next
    one now next None consumer found served holds made = absurd cc
    one now next (Some row) None found served holds made = absurd cc
    one now next (Some row) (Some consumer) found served holds made =
        let same : deliver row consumer now ≡ next = cc in subst I same (keeps now row consumer holds found served)

-- Drain
pub drain-keeps : {command : Command} {I : Progress → Type 0} → Serves command I
    → (id : ConsumerId) (wanted : Bool) (a : Acted) → I a.progress → I (drain id wanted a).progress
drain-keeps {I = I} closed id wanted a holds =
    cond_both (wanted && is_credited a.answer)
    (drain_by (consumer_of id a.progress.state.consumers) a.answer a.progress) a (λ (b : Acted). I b.progress)
    (λ _. drains (consumer_of id a.progress.state.consumers) refl) (λ _. holds)
  where
    drains : (o : Option Consumer) → consumer_of id a.progress.state.consumers ≡ o
        → I (drain_by o a.answer a.progress).progress
    drains None found = holds
    drains (Some consumer) found = closed.drain a.progress id consumer holds found

pub drain_after-keeps : {I : Progress → Type 0} (command : Command) → Serves command I → (a : Acted) → I a.progress
    → I (drain_after command a).progress
unfolding drain_after
drain_after-keeps (Credit stamp tag count credit wanted) closed a holds =
    drain-keeps closed (consumer_id stamp tag) wanted a holds
drain_after-keeps _ closed a holds = holds

-- Limits
pub keep_limits-keeps : {command : Command} {I : Progress → Type 0} → Serves command I → (p : Progress) → I p
    → I (keep_limits p)
unfolding keep_limits drop_head
keep_limits-keeps {I = I} closed p holds =
    while_next-keeps I drop_head
    (λ now next holds made. over now next (cases_Bool (is_over_limit now.state.args now.state.rows)) holds made)
    (ready_count p.state.rows) p holds
  where
    one : (now next : Progress) (o : Option Row) → next_message now.state.rows ≡ o
        → is_over_limit now.state.args now.state.rows ≡ true → I now → drop_head_by o now ≡ Some next → I next
    one now next None found passed holds made = absurd cc
    one now next (Some row) found passed holds made =
        let some = next_message-in now.state.rows row found in
        let same : die reason.MaxLen row now ≡ next = cc in
        subst I same
        (die-keeps closed.rows reason.MaxLen row row now holds some.0 (IsIn-ready row.place some.1)
        (Recounts-same _ row) (and_parts (is_drop_head now.state.args.overflow) _ passed).0
        (λ place death. IsDropped place found passed death refl))

    over : (now next : Progress) → (is_over_limit now.state.args now.state.rows ≡ true)
        ⊎ (is_over_limit now.state.args now.state.rows ≡ false) → I now → drop_head now ≡ Some next → I next
    over now next (inl passed) holds made =
        one now next (next_message now.state.rows) refl passed holds
        (sym (cond-true _ (drop_head_by (next_message now.state.rows) now) None passed) ∙ made)
    over now next (inr within) holds made =
        let none : None ≡ Some next =
        sym (cond-false _ (drop_head_by (next_message now.state.rows) now) None within) ∙ made in
        absurd cc

-- Dead giving
pub give_all_dead-keeps : {command : Command} {I : Progress → Type 0} → Serves command I → (p : Progress) → I p
    → I (give_all_dead p)
unfolding give_all_dead give_dead
give_all_dead-keeps {I = I} closed p holds =
    while_next-keeps I give_dead
    (λ now next holds made. may now next
    (cases_Bool (nat_lt 0 now.state.attached && nat_lt (given_count now.state.given now.state.rows) MOST_GIVEN)) holds
    made) (dead_count p.state.rows) p holds
  where
    May : Progress → Type 0
    May now =
        (nat_lt 0 now.state.attached ≡ true) × (nat_lt (given_count now.state.given now.state.rows) MOST_GIVEN ≡ true)

    at : (now next : Progress) (row : Row) (place : Place) → row.place ≡ place
        → next_dead now.state.given now.state.rows ≡ Some row → May now → I now
        → offer_at place row now ≡ Some next → I next
    at now next row (Ready key) is found may holds made = absurd cc
    at now next row (Out consumer id) is found may holds made = absurd cc
    at now next row (Dead number cause) is found may holds made =
        let offered : Progress = record {
          state = record (now.state) { given = number };
          effects =
              now.effects ++ Offer number cause (message_of now.state.rows now.state.messages row) ∷ [];
        } in
        let same : offered ≡ next = cc in
        let here = (next_dead-in now.state.given now.state.rows row found).0 in
        subst I same (closed.offer now number cause row holds here is found may.0 may.1)
    at now next row (Gone cause) is found may holds made = absurd cc

    one : (now next : Progress) (o : Option Row) → next_dead now.state.given now.state.rows ≡ o → May now → I now
        → offer_by o now ≡ Some next → I next
    one now next None found may holds made = absurd cc
    one now next (Some row) found may holds made = at now next row row.place refl found may holds made

    may : (now next : Progress) → ((nat_lt 0 now.state.attached
        && nat_lt (given_count now.state.given now.state.rows) MOST_GIVEN) ≡ true)
        ⊎ ((nat_lt 0 now.state.attached && nat_lt (given_count now.state.given now.state.rows) MOST_GIVEN) ≡ false)
        → I now → give_dead now ≡ Some next → I next
    may now next (inl yet) holds made =
        one now next (next_dead now.state.given now.state.rows) refl
        (and_parts (nat_lt 0 now.state.attached) (nat_lt (given_count now.state.given now.state.rows) MOST_GIVEN) yet)
        holds
        (sym (cond-true _ (offer_by (next_dead now.state.given now.state.rows) now) None yet) ∙ made)
    may now next (inr full) holds made =
        let none : None ≡ Some next =
        sym (cond-false _ (offer_by (next_dead now.state.given now.state.rows) now) None full) ∙ made in
        absurd cc

-- all that follows the command's row of the table
abbrev pub follow_on : Command → Acted → Acted
follow_on command acted =
    map_progress give_all_dead (map_progress keep_limits (drain_after command (map_progress check_out_all acted)))

pub follow_on-keeps : {I : Progress → Type 0} (command : Command) → KeepsDeliveries I → Serves command I → (a : Acted)
    → I a.progress → I (follow_on command a).progress
follow_on-keeps {I = I} command deliver closed a holds =
    give_all_dead-keeps closed _
    (keep_limits-keeps closed _
    (drain_after-keeps command closed (map_progress check_out_all a)
    (check_out_all-keeps I deliver a.progress holds)))

-- the same, where what is delivered keeps another fact than what follows
pub delivered-keeps : {I : Progress → Type 0} (command : Command) → Serves command I → (a : Acted)
    → I (check_out_all a.progress) → I (follow_on command a).progress
delivered-keeps command closed a holds =
    give_all_dead-keeps closed _
    (keep_limits-keeps closed _ (drain_after-keeps command closed (map_progress check_out_all a) holds))

pub carry_out-keeps : {I : Progress → Type 0} (index : Index) (command : Command) (s : State) → Acts command I
    → KeepsDeliveries I → Serves command I → KeepsArrivals index command I → I (record { state = s; effects = [] })
    → I (carry_out index command s).progress
unfolding carry_out
carry_out-keeps index command s acts deliver serves arrives holds =
    follow_on-keeps command deliver serves _ (act-keeps index command acts arrives _ holds)
