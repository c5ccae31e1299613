-- What holds of each consumer, as a command changes them.
use Rattle.std.proofs.Common.{◌≡◌, ℕ, ◌+◌, ◌⊎◌, true, false, List, [], ◌∷◌, Option, Some, None, refl, sym, ap, ◌∙◌, subst, inl, inr}
use Rattle.std.proofs.lemmas.Bool.{cases_Bool, cond_both, cond-true, cond-false}
use Rattle.qq_base.specs.declared.ids.ConsumerId.{ConsumerId}
use Rattle.qq_base.specs.Ids.{same_consumer}
use Rattle.qq_entry.specs.declared.command.Command.{Command}
use Rattle.qq_model.specs.declared.consumer.Consumer.{Consumer}
use Rattle.qq_model.specs.declared.place.Row.{Row}
use Rattle.qq_model.specs.State.{State}
use Rattle.qq_model.specs.Choice.{may_be_served}
use Rattle.qq_model.specs.Changes.{put_consumer, consumer_of, take_turn, begin_to_wait}
use Rattle.qq_model.specs.Serving.{serve}
use Rattle.qq_base.proofs.Lists.{In}
use Rattle.qq_model.proofs.Holders.{In-put_consumer}
use Rattle.qq_model.proofs.Ids.{consumer-found}
use Rattle.qq_model.proofs.Lookups.{next_consumer-in}
use Rattle.qq_model.proofs.SingleChanges.{KeepsDeliveries, Serves}

abbrev pub EachOf : (Consumer → Type 0) → List Consumer → Type 0
EachOf P consumers = (one : Consumer) → In one consumers → P one

pub each-put : (P : Consumer → Type 0) (consumers : List Consumer) (new : Consumer) → EachOf P consumers → P new
    → EachOf P (put_consumer new consumers)
each-put P consumers new each holds one here = elim (In-put_consumer one new consumers here) [
  | inl same ↦ subst P (sym same) holds
  | inr old ↦ each one old
]

-- what is put takes the place of all of its id
pub In-put_apart : (x new : Consumer) (consumers : List Consumer) → In x (put_consumer new consumers)
    → (x ≡ new) ⊎ (In x consumers × (same_consumer x.id new.id ≡ false))
In-put_apart x new [] here = absurd here
In-put_apart x new (one ∷ rest) (inl same) = elim (cases_Bool (same_consumer one.id new.id)) [
  | inl is ↦ inl (same ∙ cond-true (same_consumer one.id new.id) new one is)
  | inr other ↦
      let itself : x ≡ one = same ∙ cond-false (same_consumer one.id new.id) new one other in
      inr (inl itself, ap (λ (c : Consumer). same_consumer c.id new.id) itself ∙ other)
]
In-put_apart x new (one ∷ rest) (inr later) = elim (In-put_apart x new rest later) [
  | inl same ↦ inl same
  | inr old ↦ inr (inr old.0, old.1)
]

-- what a delivery, and a drain, keep of a consumer
pub record KeptByServing (P : Consumer → Type 0) : Type 0 where
  pub serve : (rows : List Row) (turn : ℕ) (one : Consumer) → P one → may_be_served rows one ≡ true → P (serve turn one)
  pub drain : (one : Consumer) → P one → P (record one { credit = 0; count = one.count + one.credit })

pub each-delivers : (P : Consumer → Type 0)
    → ((rows : List Row) (turn : ℕ) (one : Consumer) → P one → may_be_served rows one ≡ true → P (serve turn one))
    → KeepsDeliveries (λ p. EachOf P p.state.consumers)
each-delivers P keeps p row consumer each found next =
    let chosen = next_consumer-in p.state.args.single_active p.state.rows p.state.consumers consumer next in
    each-put P p.state.consumers (serve (p.state.turns + 1) consumer) each
    (keeps p.state.rows (p.state.turns + 1) consumer (each consumer chosen.0) chosen.1)

pub each-serves : (P : Consumer → Type 0) (command : Command)
    → ((one : Consumer) → P one → P (record one { credit = 0; count = one.count + one.credit }))
    → Serves command (λ p. EachOf P p.state.consumers)
each-serves P command keeps = record {
  rows = record {
    row = λ p q old new each here moves out why turns. subst (EachOf P) (sym turns.consumers) each;
  };
  offer = λ p number cause row each here is next may few. each;
  drain = λ p id consumer each found.
      each-put P p.state.consumers _ each
      (keeps consumer (each consumer (consumer-found id p.state.consumers consumer found)));
}

-- a consumer may begin to wait
pub each-waits : (P : Consumer → Type 0) (before : ℕ) (id : ConsumerId) (s : State)
    → ((one : Consumer) (turn : ℕ) → P one → P (record one { turn = turn })) → EachOf P s.consumers
    → EachOf P (begin_to_wait before id s).consumers
each-waits P before id s keeps each =
    cond_both _ (take_turn (consumer_of id s.consumers) s) s (λ (t : State). EachOf P t.consumers)
    (λ _. by (consumer_of id s.consumers) refl) (λ _. each)
  where
    by : (o : Option Consumer) → consumer_of id s.consumers ≡ o → EachOf P (take_turn o s).consumers
    by None found = each
    by (Some consumer) found =
        each-put P s.consumers _ each
        (keeps consumer (s.turns + 1) (each consumer (consumer-found id s.consumers consumer found)))
