-- What a credit that isn't refused does to its consumer.
use Rattle.std.proofs.Common.{◌≡◌, ℕ, ◌+◌, ◌-◌, Bool, true, false, ◌&&◌, Option, Some, None, refl, sym, ap, ◌∙◌, subst, inl, inr}
use Rattle.std.proofs.lemmas.Bool.{false≢true, cases_Bool, cond-true, cond-false, and_right}
use Rattle.qq_base.specs.declared.ids.Index.{Index}
use Rattle.qq_base.specs.declared.ids.ConsumerId.{ConsumerId}
use Rattle.qq_base.specs.Ids.{same_consumer}
use Rattle.qq_entry.specs.Command.{consumer_id}
use Rattle.qq_entry.specs.declared.answer.Answer.TheVariants as answer
use Rattle.qq_entry.specs.declared.answer.Cause.TheVariants.{NoConsumer}
use Rattle.qq_entry.specs.declared.command.Command.TheVariants.{Credit}
use Rattle.qq_entry.specs.declared.command.Mode.{Mode}
use Rattle.qq_entry.specs.declared.command.Mode.TheVariants.{Prefetch, Link}
use Rattle.qq_entry.specs.declared.command.Stamp.{Stamp}
use Rattle.qq_model.specs.declared.consumer.Consumer.{Consumer}
use Rattle.qq_model.specs.Changes.{Progress, put_consumer, consumer_of, begin_to_wait, credit_of}
use Rattle.qq_model.specs.Commands.{Acted, act, reply, refuse, set_state, set_credit, credit_by_mode, credit_by, give_credit}
use Rattle.qq_model.specs.Serving.{drain_by, is_credited, drain, drain_after}
use Rattle.qq_base.proofs.Lists.{find-in}
use Rattle.qq_model.proofs.OneConsumer.{same_consumer-true, same_consumer-refl}
use Rattle.qq_laws.proofs.EachConsumer.{EachOf, In-put_apart, each-waits}

-- a credit that isn't refused: its consumer is there, isn't cancelled, and has link credit, which is set
pub record Gives (id : ConsumerId) (total : ℕ) (p : Progress) (a : Acted) : Type 0 where
  pub consumer : Consumer
  pub found : consumer_of id p.state.consumers ≡ Some consumer
  pub going : consumer.cancelled ≡ false
  pub link : consumer.mode ≡ Link
  pub is : a ≡ reply (answer.Credited 0)
      (set_state
      (begin_to_wait (credit_of consumer.id p.state.rows p.state.consumers) consumer.id (set_credit consumer total
      p.state)) p)

pub credit-gives : (id : ConsumerId) (total : ℕ) (p : Progress)
    → is_credited (give_credit id total p).answer ≡ true → Gives id total p (give_credit id total p)
unfolding give_credit
credit-gives id total p credited = by (consumer_of id p.state.consumers) refl credited
  where
    in_mode : (mode : Mode) (consumer : Consumer) → consumer.mode ≡ mode
        → consumer_of id p.state.consumers ≡ Some consumer → consumer.cancelled ≡ false
        → is_credited (credit_by_mode mode consumer total p).answer ≡ true
        → Gives id total p (credit_by_mode mode consumer total p)
    in_mode (Prefetch prefetch) consumer is found going credited = absurd (false≢true credited)
    in_mode Link consumer is found going credited =
        record { consumer = consumer; found = found; going = going; link = is; is = refl }

    by : (o : Option Consumer) → consumer_of id p.state.consumers ≡ o
        → is_credited (credit_by o total p).answer ≡ true → Gives id total p (credit_by o total p)
    by None found credited = absurd (false≢true credited)
    by (Some consumer) found credited = elim (cases_Bool consumer.cancelled) [
      | inl over ↦
          let is : credit_by (Some consumer) total p ≡ refuse NoConsumer p =
          cond-true consumer.cancelled (refuse NoConsumer p) (credit_by_mode consumer.mode consumer total p) over in
          absurd (false≢true (ap (λ (a : Acted). is_credited a.answer) (sym is) ∙ credited))
      | inr going ↦
          let is : credit_by (Some consumer) total p ≡ credit_by_mode consumer.mode consumer total p =
          cond-false consumer.cancelled (refuse NoConsumer p) (credit_by_mode consumer.mode consumer total p) going in
          subst (Gives id total p) (sym is)
          (in_mode consumer.mode consumer refl found going
          (ap (λ (a : Acted). is_credited a.answer) (sym is) ∙ credited))
    ]

-- what holds of the consumer of the id once its credit is set, and lasts where it begins to wait
pub credit-each : (P : Consumer → Type 0) (id : ConsumerId) (total : ℕ) (p : Progress) (a : Acted)
    → (gives : Gives id total p a)
    → ((one : Consumer) (turn : ℕ) → (one.id ≡ id → P one) → one.id ≡ id → P (record one { turn = turn }))
    → P (record (gives.consumer) { credit = total - gives.consumer.count })
    → EachOf (λ one. one.id ≡ id → P one) a.progress.state.consumers
credit-each P id total p a gives turns holds =
    subst (λ (b : Acted). EachOf (λ one. one.id ≡ id → P one) b.progress.state.consumers) (sym gives.is)
    (each-waits (λ one. one.id ≡ id → P one) (credit_of gives.consumer.id p.state.rows p.state.consumers)
    gives.consumer.id (set_credit gives.consumer total p.state) turns set)
  where
    new : Consumer
    new = record (gives.consumer) { credit = total - gives.consumer.count }

    itself : gives.consumer.id ≡ id
    itself =
        same_consumer-true gives.consumer.id id
        (find-in (λ (one : Consumer). same_consumer one.id id) p.state.consumers gives.consumer gives.found).1

    set : EachOf (λ one. one.id ≡ id → P one) (put_consumer new p.state.consumers)
    set one here is = elim (In-put_apart one new p.state.consumers here) [
      | inl same ↦ subst P (sym same) holds
      | inr old ↦
          absurd (false≢true (sym old.1 ∙ ap (λ (i : ConsumerId). same_consumer i gives.consumer.id) (is ∙ sym itself)
          ∙ same_consumer-refl gives.consumer.id))
    ]

pub act-credit : (index : Index) (given : Stamp) (tag count credit : ℕ) (wanted : Bool) (p : Progress)
    → act index (Credit given tag count credit wanted) p ≡ give_credit (consumer_id given tag) (count + credit) p
unfolding act
act-credit index given tag count credit wanted p = refl

-- what answers a credit with how much was drained was credited by the command itself
pub credited-act : (given : Stamp) (tag count credit used : ℕ) (wanted : Bool) (a : Acted)
    → (drain_after (Credit given tag count credit wanted) a).answer ≡ answer.Credited used
    → is_credited a.answer ≡ true
unfolding drain_after
credited-act given tag count credit used wanted a said = elim (cases_Bool (is_credited a.answer)) [
  | inl is ↦ is
  | inr refused ↦
      let id : ConsumerId = consumer_id given tag in
      let same : drain id wanted a ≡ a =
      cond-false (wanted && is_credited a.answer)
      (drain_by (consumer_of id a.progress.state.consumers) a.answer a.progress) a
      (and_right wanted (is_credited a.answer) refused) in
      ap (λ (b : Acted). is_credited b.answer) (sym same) ∙ ap is_credited said
]
