-- A credit gives what it says, and a drain leaves none.
use Rattle.std.proofs.Common.{◌≡◌, ℕ, ◌+◌, Bool, true, ◌&&◌, List, [], Option, Some, None, refl, sym, ap, ◌∙◌, subst, inl, inr, arith}
use Rattle.std.specs.Prelude.{max}
use Rattle.std.proofs.lemmas.Bool.{false≢true, cond-true, and_from}
use Rattle.qq_base.specs.declared.ids.Index.{Index}
use Rattle.qq_base.specs.declared.ids.ConsumerId.{ConsumerId}
use Rattle.qq_base.specs.Ids.{same_consumer}
use Rattle.qq_entry.specs.Command.{consumer_id}
use Rattle.qq_entry.specs.declared.command.Command.{Command}
use Rattle.qq_entry.specs.declared.command.Command.TheVariants.{Noop, Credit}
use Rattle.qq_entry.specs.declared.command.Entry.{Entry}
use Rattle.qq_entry.specs.declared.command.Mode.TheVariants.{Link}
use Rattle.qq_entry.specs.declared.command.Stamp.{Stamp}
use Rattle.qq_model.specs.declared.consumer.Consumer.{Consumer}
use Rattle.qq_model.specs.declared.place.Row.{Row}
use Rattle.qq_model.specs.State.{State}
use Rattle.qq_model.specs.Choice.{may_be_served}
use Rattle.qq_model.specs.Changes.{Progress, consumer_of}
use Rattle.qq_model.specs.Commands.{Acted, give_credit}
use Rattle.qq_model.specs.Serving.{serve, check_out_all, drain_by, is_credited, drain_after}
use Rattle.qq_model.specs.Step.{Step, map_progress, pass_gate}
use Rattle.qq_model.specs.Audit.{next_index, next_step}
use Rattle.qq_base.proofs.Lists.{In, find-in, list_any-from_in}
use Rattle.qq_model.proofs.CarryOut.{follow_on, follow_on-keeps, give_all_dead-keeps, keep_limits-keeps}
use Rattle.qq_model.proofs.Lists.{find-none}
use Rattle.qq_model.proofs.OneConsumer.{same_consumer-refl, same_consumer-true}
use Rattle.qq_model.proofs.Serve.{serve-id}
use Rattle.qq_model.proofs.Soundness.{in_contains}
use Rattle.qq_laws.specs.LinkCredit.{CreditsAreGiven}
use Rattle.qq_laws.proofs.CreditLemmas.{Gives, act-credit, credit-each, credit-gives, credited-act}
use Rattle.qq_laws.proofs.EachConsumer.{EachOf, In-put_apart, each-delivers, each-serves}
use Rattle.qq_laws.proofs.EndingRuns.{carried-follows}
use Rattle.qq_laws.proofs.LinkCreditLemmas.{has-credit, serve-link}
use Rattle.qq_laws.proofs.TakenLemmas.{let_in, made-carried}

-- a link consumer whose credit and count are so many together
record Sums (all : ℕ) (one : Consumer) : Type 0 where
  link : one.mode ≡ Link
  sum : one.credit + one.count ≡ all

-- each consumer of an id is one
abbrev SumsAt : ConsumerId → ℕ → Consumer → Type 0
SumsAt id all one = one.id ≡ id → Sums all one

sums-served : (id : ConsumerId) (all : ℕ) (rows : List Row) (turn : ℕ) (one : Consumer) → SumsAt id all one
    → may_be_served rows one ≡ true → SumsAt id all (serve turn one)
sums-served id all rows turn one sums may same =
    let its = sums (sym (serve-id turn one) ∙ same) in
    let some = has-credit rows one may its.link in
    let before = its.sum in
    subst (Sums all) (sym (serve-link turn one its.link))
    (record { link = its.link; sum = omega (arith, some, before) })

sums-drained : (id : ConsumerId) (all : ℕ) (one : Consumer) → SumsAt id all one
    → SumsAt id all (record one { credit = 0; count = one.count + one.credit })
sums-drained id all one sums same =
    let its = sums same in let before = its.sum in record { link = its.link; sum = omega (arith, before) }

-- no consumer of an id has credit
abbrev HasNone : ConsumerId → Consumer → Type 0
HasNone id one = one.id ≡ id → one.credit ≡ 0

drain-none : (given : Stamp) (tag count credit : ℕ) (a : Acted) → is_credited a.answer ≡ true
    → EachOf (HasNone (consumer_id given tag))
    (drain_after (Credit given tag count credit true) a).progress.state.consumers
unfolding drain_after
drain-none given tag count credit a credited =
    subst (λ (b : Acted). EachOf (HasNone id) b.progress.state.consumers)
    (sym (cond-true (true && is_credited a.answer)
    (drain_by (consumer_of id a.progress.state.consumers) a.answer a.progress)
    a (and_from true (is_credited a.answer) refl credited)))
    (by (consumer_of id a.progress.state.consumers) refl)
  where
    id : ConsumerId
    id = consumer_id given tag

    by : (o : Option Consumer) → consumer_of id a.progress.state.consumers ≡ o
        → EachOf (HasNone id) (drain_by o a.answer a.progress).progress.state.consumers
    by None found one here same =
        absurd (false≢true
        (sym (find-none (λ (c : Consumer). same_consumer c.id id) a.progress.state.consumers found)
        ∙ list_any-from_in (λ (c : Consumer). same_consumer c.id id) one a.progress.state.consumers here
        (ap (λ (i : ConsumerId). same_consumer i id) same ∙ same_consumer-refl id)))
    by (Some consumer) found one here same =
        let new : Consumer = record consumer { credit = 0; count = consumer.count + consumer.credit } in
        let itself : consumer.id ≡ id =
        same_consumer-true consumer.id id
        (find-in (λ (c : Consumer). same_consumer c.id id) a.progress.state.consumers consumer found).1 in
        elim (In-put_apart one new a.progress.state.consumers here) [
          | inl is ↦ ap (λ (c : Consumer). c.credit) is
          | inr old ↦
              absurd (false≢true (sym old.1 ∙ ap (λ (i : ConsumerId). same_consumer i consumer.id) (same ∙ sym itself)
              ∙ same_consumer-refl consumer.id))
        ]

follow-none : (given : Stamp) (tag count credit : ℕ) (a : Acted) → is_credited a.answer ≡ true
    → EachOf (HasNone (consumer_id given tag))
    (follow_on (Credit given tag count credit true) a).progress.state.consumers
follow-none given tag count credit a credited =
    let id : ConsumerId = consumer_id given tag in
    let serves = each-serves (HasNone id) (Noop 0) (λ one none same. refl) in
    give_all_dead-keeps serves _
    (keep_limits-keeps serves _ (drain-none given tag count credit (map_progress check_out_all a) credited))

pub credits_are_given : (s : State) (entry : Entry) → CreditsAreGiven s entry
credits_are_given s entry given tag count credit used drain old new is fresh said found there same = record {
  given = (follow_on-keeps {I = λ p. EachOf (SumsAt id all) p.state.consumers} command
      (each-delivers (SumsAt id all) (sums-served id all)) (each-serves (SumsAt id all) command (sums-drained id all))
      a first new here same).sum;
  drained = λ drains.
      follow-none given tag count credit a credited new
      (subst (λ (b : Bool). In new (follow_on (Credit given tag count credit b) a).progress.state.consumers) drains
      here) same;
}
  where
    id : ConsumerId
    id = consumer_id given tag

    all : ℕ
    all = max (count + credit) old.count

    index : Index
    index = next_index s

    command : Command
    command = Credit given tag count credit drain

    start : Progress
    start = record { state = let_in s given; effects = [] }

    a : Acted
    a = give_credit id (count + credit) start

    made : next_step s entry ≡ pass_gate index given (follow_on command a)
    made =
        made-carried s entry given command is refl fresh
        ∙ ap (pass_gate index given) (carried-follows index command (let_in s given)
        ∙ ap (follow_on command) (act-credit index given tag count credit drain start))

    here : In new (follow_on command a).progress.state.consumers
    here =
        subst (λ (m : Step). In new m.state.consumers) made (in_contains (next_step s entry).state.consumers new there)

    credited : is_credited a.answer ≡ true
    credited =
        credited-act given tag count credit used drain (map_progress check_out_all a)
        (ap (λ (m : Step). m.answer) (sym made) ∙ said)

    gives : Gives id (count + credit) start a
    gives = credit-gives id (count + credit) start credited

    itself : gives.consumer ≡ old
    itself = let e : Some gives.consumer ≡ Some old = sym gives.found ∙ found in cc

    first : EachOf (SumsAt id all) a.progress.state.consumers
    first =
        credit-each (Sums all) id (count + credit) start a gives
        (λ one turn sums same. record { link = (sums same).link; sum = (sums same).sum })
        (record {
          link = gives.link;
          sum = let counts : gives.consumer.count ≡ old.count =
              ap (λ (c : Consumer). c.count) itself in omega (arith, counts);
        })
