-- Under a single active consumer deliveries go to it alone.
use Rattle.std.proofs.Common.{◌≡◌, ℕ, ◌+◌, ◌⊎◌, Bool, true, false, not, cond, List, [], ◌∷◌, ◌++◌, Option, Some, None, refl, sym, ap, ◌∙◌, subst, inl, inr}
use Rattle.std.specs.Prelude.{find}
use Rattle.std.specs.Option.{option_map}
use Rattle.std.proofs.lemmas.Bool.{cases_Bool, cond-true, cond-false, not-true}
use Rattle.qq_base.specs.declared.ids.Index.{Index}
use Rattle.qq_base.specs.declared.ids.ConsumerId.{ConsumerId}
use Rattle.qq_entry.specs.declared.queue.QueueArgs.{QueueArgs}
use Rattle.qq_entry.specs.declared.message.Reason.{Reason}
use Rattle.qq_entry.specs.declared.command.Stamp.{Stamp}
use Rattle.qq_entry.specs.declared.command.Entry.{Entry}
use Rattle.qq_entry.specs.declared.command.Command.{Command}
use Rattle.qq_entry.specs.declared.audit.Effect.{Effect}
use Rattle.qq_entry.specs.declared.audit.Effect.TheVariants.{Deliver, DeadOnce, Offer}
use Rattle.qq_model.specs.declared.place.Row.{Row}
use Rattle.qq_model.specs.declared.consumer.Consumer.{Consumer}
use Rattle.qq_model.specs.State.{State}
use Rattle.qq_base.specs.Ids.{same_consumer}
use Rattle.qq_model.specs.Choice.{active_consumer, longest_waiting}
use Rattle.qq_model.specs.Changes.{Progress, put_consumer, message_of, delivery_of}
use Rattle.qq_model.specs.Commands.{Acted, act}
use Rattle.qq_model.specs.Serving.{serve}
use Rattle.qq_model.specs.declared.session.Gate.{Gate}
use Rattle.qq_model.specs.declared.session.Gate.TheVariants.{Fresh}
use Rattle.qq_model.specs.Gate.{gate, admit}
use Rattle.qq_entry.specs.Command.{stamp}
use Rattle.qq_model.specs.Step.{carry_out, go_through, step_by, step}
use Rattle.qq_model.specs.Audit.{next_index, next_step}
use Rattle.qq_base.proofs.Lists.{AllByRecursion-weaker, find-in, AllByRecursion-append}
use Rattle.std.proofs.lemmas.List.Elements.{All-from_recursion}
use Rattle.qq_laws.specs.Active.{active_id, consumers_after, DeliversOnlyTo, DeliversToOne}
use Rattle.std.specs.List.{AllByRecursion}
use Rattle.qq_model.proofs.ActKeeps.{act-keeps}
use Rattle.qq_model.proofs.CarryOut.{check_out_all-keeps, delivered-keeps}
use Rattle.qq_model.proofs.Lookups.{active_consumer-is}
use Rattle.qq_model.proofs.SingleChanges.{Acts, KeepsDeliveries, Serves, Turns}
use Rattle.qq_model.proofs.Serve.{serve-id, serve-cancelled}

-- a change of rows keeps what holds of each effect, where it holds of dead letters
pub row_effects : (P : Effect → Type 0) (p q : Progress) (new : Row)
    → ((reason : Reason) → P (DeadOnce reason (message_of p.state.rows p.state.messages new))) → Turns p q new
    → AllByRecursion P p.effects → AllByRecursion P q.effects
row_effects P p q new dead turns each = by turns.effects
  where
    by : (q.effects ≡ p.effects) ⊎ ((reason : Reason)
        × (q.effects ≡ p.effects ++ DeadOnce reason (message_of p.state.rows p.state.messages new) ∷ []))
        → AllByRecursion P q.effects
    by (inl same) = subst (AllByRecursion P) (sym same) each
    by (inr more) =
        subst (AllByRecursion P) (sym more.1)
        (AllByRecursion-append P p.effects (DeadOnce more.0 (message_of p.state.rows p.state.messages new) ∷ []) each
        (dead more.0, tt))

-- nothing is delivered while a command itself is carried out
abbrev pub NoDelivery : Effect → Type 0
NoDelivery (Deliver consumer delivery) = ⊥
NoDelivery _ = Unit {0}

pub record DeliversNone (start : QueueArgs) (p : Progress) : Type 0 where
  pub args : p.state.args ≡ start
  pub effects : AllByRecursion NoDelivery p.effects

DeliversNone-acts : (start : QueueArgs) (command : Command) → Acts command (DeliversNone start)
DeliversNone-acts start command = record {
  rows =
      record {
        row =
            λ p q old new un here moves out why turns.
            record {
              args = turns.args ∙ un.args;
              effects = row_effects NoDelivery p q new (λ reason. tt) turns un.effects;
            };
      };
  purge = λ p un purges. record { args = un.args; effects = un.effects };
  attach = λ p term un least greater. record { args = un.args; effects = un.effects };
  join = λ p id mode un above own. record { args = un.args; effects = un.effects };
  cancel = λ p id consumer un found. record { args = un.args; effects = un.effects };
  finish = λ p un. record { args = un.args; effects = un.effects };
  credit = λ p id consumer credit un found. record { args = un.args; effects = un.effects };
  turn = λ p id consumer un found. record { args = un.args; effects = un.effects };
  leave = λ p session un is same none. record { args = un.args; effects = un.effects };
}

pub act-delivers_none : (s : State) (index : Index) (command : Command)
    → DeliversNone s.args (act index command (record { state = s; effects = [] })).progress
act-delivers_none s index command =
    act-keeps index command (DeliversNone-acts s.args command)
    (λ p stamp message un is found. record { args = un.args; effects = un.effects })
    (record { state = s; effects = [] }) (record { args = refl; effects = tt })

-- what the rest of a command keeps of the deliveries that were made
Delivered-serves : (active : Option ConsumerId) (command : Command)
    → Serves command (λ p. AllByRecursion (DeliversOnlyTo active) p.effects)
Delivered-serves active command = record {
  rows =
      record {
        row =
            λ p q old new each here moves out why turns.
            row_effects (DeliversOnlyTo active) p q new (λ reason. tt) turns each;
      };
  offer =
      λ p number reason row each here is next may few.
      AllByRecursion-append (DeliversOnlyTo active) p.effects
      (Offer number reason (message_of p.state.rows p.state.messages row) ∷ []) each (tt, tt);
  drain = λ p id consumer each found. each;
}

active-cons : (one : Consumer) (rest : List Consumer)
    → active_id (one ∷ rest) ≡ cond (not one.cancelled) (Some one.id) (active_id rest)
active-cons one rest = by (not one.cancelled)
  where
    by : (b : Bool) → option_map (λ (c : Consumer). c.id)
        (cond b (Some one) (find (λ (c : Consumer). not c.cancelled) rest)) ≡ cond b (Some one.id) (active_id rest)
    by true = refl
    by false = refl

-- the active consumer stays the same where it is served
active-with : (consumers : List Consumer) (consumer new : Consumer)
    → find (λ (one : Consumer). not one.cancelled) consumers ≡ Some consumer → new.id ≡ consumer.id
    → new.cancelled ≡ false → active_id (put_consumer new consumers) ≡ Some consumer.id
active-with [] consumer new found same going = absurd cc
active-with (first ∷ consumers) consumer new found same going =
    by (cases_Bool (same_consumer first.id new.id)) (cases_Bool first.cancelled)
    (λ found'. active-with consumers consumer new found' same going)
  where
    goes : Consumer → Bool
    goes one = not one.cancelled

    by : (same_consumer first.id new.id ≡ true) ⊎ (same_consumer first.id new.id ≡ false) → (first.cancelled ≡ true)
        ⊎ (first.cancelled ≡ false)
        → (find (λ (one : Consumer). not one.cancelled) consumers ≡ Some consumer
        → active_id (put_consumer new consumers) ≡ Some consumer.id)
        → active_id (put_consumer new (first ∷ consumers)) ≡ Some consumer.id
    by (inl is) flag rest =
        ap (λ (h : Consumer). active_id (h ∷ put_consumer new consumers)) (cond-true _ new first is)
        ∙ active-cons new (put_consumer new consumers)
        ∙ ap (λ (b : Bool). cond (not b) (Some new.id) (active_id (put_consumer new consumers))) going
        ∙ ap (λ (id : ConsumerId). Some id) same
    by (inr is) (inl cancelled) rest =
        ap (λ (h : Consumer). active_id (h ∷ put_consumer new consumers)) (cond-false _ new first is)
        ∙ active-cons first (put_consumer new consumers)
        ∙ ap (λ (b : Bool). cond (not b) (Some first.id) (active_id (put_consumer new consumers))) cancelled
        ∙ rest (sym (cond-false (not first.cancelled) (Some first)
        (find (λ (one : Consumer). not one.cancelled) consumers) (ap not cancelled)) ∙ found)
    by (inr is) (inr stays) rest =
        let here : Some first ≡ Some consumer =
        sym (cond-true (not first.cancelled) (Some first) (find (λ (one : Consumer). not one.cancelled) consumers)
        (ap not stays)) ∙ found in
        let itself : first ≡ consumer = cc in
        ap (λ (h : Consumer). active_id (h ∷ put_consumer new consumers)) (cond-false _ new first is)
        ∙ active-cons first (put_consumer new consumers)
        ∙ ap (λ (b : Bool). cond (not b) (Some first.id) (active_id (put_consumer new consumers))) stays
        ∙ ap (λ (one : Consumer). Some one.id) itself

-- deliveries under way, to the active consumer
pub record ToActive (to : Option ConsumerId) (p : Progress) : Type 0 where
  pub single : p.state.args.single_active ≡ true
  pub active : active_id p.state.consumers ≡ to
  pub effects : AllByRecursion (DeliversOnlyTo to) p.effects

ToActive-deliver : (active : Option ConsumerId) → KeepsDeliveries (ToActive active)
ToActive-deliver active p row consumer to found next =
    let chosen : active_consumer p.state.rows p.state.consumers ≡ Some consumer =
    sym (cond-true p.state.args.single_active (active_consumer p.state.rows p.state.consumers)
    (longest_waiting p.state.rows p.state.consumers) to.single) ∙ next in
    let first = (active_consumer-is p.state.rows p.state.consumers consumer chosen).0 in
    let turn : ℕ = p.state.turns + 1 in
    let going : consumer.cancelled ≡ false =
    not-true consumer.cancelled (find-in (λ (one : Consumer). not one.cancelled) p.state.consumers consumer first).1
    in
    let is : active ≡ Some consumer.id = sym to.active ∙ ap (option_map (λ (one : Consumer). one.id)) first in
    record {
      single = to.single;
      active =
          active-with p.state.consumers consumer (serve turn consumer) first (serve-id turn consumer)
          (serve-cancelled turn consumer ∙ going) ∙ sym is;
      effects =
          AllByRecursion-append (DeliversOnlyTo active) p.effects
          (Deliver consumer.id (delivery_of p.state consumer.next_id row) ∷ []) to.effects (is, tt);
    }

no_delivery_to : (active : Option ConsumerId) (effect : Effect) → NoDelivery effect → DeliversOnlyTo active effect
no_delivery_to active (Deliver consumer delivery) none = absurd none
no_delivery_to active _ none = tt

-- all that a command delivers goes to the active consumer that it leaves
pub active_alone : (s : State) (index : Index) (command : Command) → s.args.single_active ≡ true
    → AllByRecursion (DeliversOnlyTo (active_id (consumers_after s index command)))
    (carry_out index command s).progress.effects
unfolding carry_out
active_alone s index command single =
    let a : Acted = act index command (record { state = s; effects = [] }) in
    let active : Option ConsumerId = active_id a.progress.state.consumers in
    let un = act-delivers_none s index command in
    let to = check_out_all-keeps (ToActive active) (ToActive-deliver active) a.progress
    (record {
      single = ap (λ (args : QueueArgs). args.single_active) un.args ∙ single;
      active = refl;
      effects =
          AllByRecursion-weaker NoDelivery (DeliversOnlyTo active) (no_delivery_to active) a.progress.effects
          un.effects;
    }) in
    delivered-keeps command (Delivered-serves active command) a to.effects

-- all that an entry delivers goes to one consumer
pub one_alone : (s : State) (entry : Entry) → s.args.single_active ≡ true → DeliversToOne (next_step s entry).effects
unfolding step
one_alone s entry single = by (stamp entry.command)
  where
    index : Index
    index = next_index s

    one : (t : State) → t.args.single_active ≡ true → DeliversToOne (carry_out index entry.command t).progress.effects
    one t single' =
        let active : Option ConsumerId = active_id (consumers_after t index entry.command) in (
          active,
          All-from_recursion (DeliversOnlyTo active) (carry_out index entry.command t).progress.effects
              (active_alone t index entry.command single'),
        )

    none : DeliversToOne []
    none = (None, All-from_recursion (DeliversOnlyTo None) [] tt)

    passes : (g : Gate) (stamp : Stamp) → DeliversToOne (go_through g index stamp entry.command s).effects
    passes Fresh stamp = one (record s { sessions = admit s.sessions stamp }) single
    passes _ stamp = none

    by : (o : Option Stamp) → DeliversToOne (step_by o index entry.command s).effects
    by None = one s single
    by (Some stamp) = passes (gate s.sessions stamp) stamp
