-- Only a consumer in link mode is drained.
use Rattle.std.proofs.Common.{◌≡◌, ℕ, ◌+◌, Bool, true, false, cond, List, [], ◌∷◌, Option, Some, None, map, length, refl, sym, ap, ◌∙◌, subst, inl, inr, if◌then◌else◌}
use Rattle.std.specs.Prelude.{IfSome}
use Rattle.std.specs.Option.{option_map_or}
use Rattle.std.proofs.lemmas.Bool.{cases_Bool, cond-true, cond-false, cond_both}
use Rattle.qq_base.specs.declared.ids.Index.{Index}
use Rattle.qq_base.specs.declared.ids.ConsumerId.{ConsumerId}
use Rattle.qq_base.specs.Ids.{same_consumer}
use Rattle.qq_entry.specs.Command.{consumer_id}
use Rattle.qq_entry.specs.declared.command.Command.{Command}
use Rattle.qq_entry.specs.declared.command.Command.TheVariants.{Credit}
use Rattle.qq_entry.specs.declared.command.Mode.{Mode}
use Rattle.qq_entry.specs.declared.command.Mode.TheVariants.{Prefetch, Link}
use Rattle.qq_entry.specs.declared.answer.Answer.{Answer}
use Rattle.qq_entry.specs.declared.answer.Cause.TheVariants.{NoConsumer}
use Rattle.qq_model.specs.declared.consumer.Consumer.{Consumer}
use Rattle.qq_model.specs.Serving.{is_credited, use_credit, serve}
use Rattle.qq_model.proofs.Loops.{while_next-keeps}
use Rattle.qq_model.proofs.OneConsumer.{same_consumer-true}
use Rattle.qq_parts.specs.Reduced.{Item}
use Rattle.qq_parts.specs.Parts.{Served, Parts}
use Rattle.qq_parts.specs.Reads.{ready_items}
use Rattle.qq_parts.specs.Changes.{Taken, take_first, take_by}
use Rattle.qq_parts.specs.Consumers.{change_one, changed}
use Rattle.qq_parts.specs.Outs.{hand_to, serve_one}
use Rattle.qq_parts.specs.Work.{Work, Answered, say_refused}
use Rattle.qq_parts.specs.Follows.{next_one, parts_deliver, parts_deliver_by, parts_check_out, parts_check_out_all}
use Rattle.qq_parts.specs.Commands.{one_of, credited, parts_take_turn, parts_begin_to_wait, parts_credit, parts_credit_by_mode, parts_credit_by, parts_give_credit, parts_act}
use Rattle.qq_consumer.specs.declared.row.ConsumerRow.{ConsumerRow}
use Rattle.qq_consumer.specs.Roster.{served_of}
use Rattle.qq_machine.specs.Views.{IsLinkAt, HasLinkFor}
use Rattle.qq_machine.proofs.Delivering.{found-id}

abbrev HasLink : Served → Type 0
HasLink one = one.consumer.mode ≡ Link

-- one at the head that changes, but for its id and its link mode
head-link : (id : ConsumerId) (old new : Served) (olds news : List Served) → new.consumer.id ≡ old.consumer.id
    → (HasLink old → HasLink new) → (IsLinkAt id olds → IsLinkAt id news) → IsLinkAt id (old ∷ olds)
    → IsLinkAt id (new ∷ news)
head-link id old new olds news same keeps rest is =
    subst (λ (i : ConsumerId). IfSome (cond (same_consumer i id) (Some new) (one_of id news)) HasLink) (sym same)
    (by (same_consumer old.consumer.id id) is)
  where
    by : (b : Bool) → IfSome (cond b (Some old) (one_of id olds)) HasLink
        → IfSome (cond b (Some new) (one_of id news)) HasLink
    by true = keeps
    by false = rest

change-link : (new : Consumer) (id : ConsumerId) (ones : List Served) → new.mode ≡ Link → IsLinkAt id ones
    → IsLinkAt id (map (change_one new) ones)
change-link new id [] link is = tt
change-link new id (one ∷ ones) link is =
    let other : Served = record { consumer = new; out = one.out } in
    elim (cases_Bool (same_consumer one.consumer.id new.id)) [
      | inl own ↦
          subst (λ (o : Served). IsLinkAt id (o ∷ map (change_one new) ones))
          (sym (cond-true (same_consumer one.consumer.id new.id) other one own))
          (head-link id one other ones (map (change_one new) ones)
          (sym (same_consumer-true one.consumer.id new.id own)) (λ _. link) (change-link new id ones link) is)
      | inr differ ↦
          subst (λ (o : Served). IsLinkAt id (o ∷ map (change_one new) ones))
          (sym (cond-false (same_consumer one.consumer.id new.id) other one differ))
          (head-link id one one ones (map (change_one new) ones) refl (λ l. l) (change-link new id ones link) is)
    ]

serve-id : (turn : ℕ) (consumer : Consumer) → (serve turn consumer).id ≡ consumer.id
serve-id turn consumer = by consumer.mode
  where
    by : (mode : Mode)
        → (use_credit mode (record consumer { next_id = consumer.next_id + 1; turn = turn })).id ≡ consumer.id
    by (Prefetch prefetch) = refl
    by Link = refl

serve-mode : (turn : ℕ) (consumer : Consumer) → (serve turn consumer).mode ≡ consumer.mode
serve-mode turn consumer = by consumer.mode
  where
    by : (mode : Mode)
        → (use_credit mode (record consumer { next_id = consumer.next_id + 1; turn = turn })).mode ≡ consumer.mode
    by (Prefetch prefetch) = refl
    by Link = refl

hand-link : (turn : ℕ) (x : Item) (to id : ConsumerId) (ones : List Served) → IsLinkAt id ones
    → IsLinkAt id (hand_to turn x to ones)
hand-link turn x to id [] is = tt
hand-link turn x to id (one ∷ ones) is = elim (cases_Bool (same_consumer one.consumer.id to)) [
  | inl own ↦
      subst (IsLinkAt id)
      (sym (cond-true (same_consumer one.consumer.id to) (serve_one turn x one ∷ ones)
      (one ∷ hand_to turn x to ones) own))
      (head-link id one (serve_one turn x one) ones ones (serve-id turn one.consumer)
      (λ l. serve-mode turn one.consumer ∙ l) (λ r. r) is)
  | inr differ ↦
      subst (IsLinkAt id)
      (sym (cond-false (same_consumer one.consumer.id to) (serve_one turn x one ∷ ones)
      (one ∷ hand_to turn x to ones) differ))
      (head-link id one one ones (hand_to turn x to ones) refl (λ l. l) (hand-link turn x to id ones) is)
]

taken-served : (m : Parts) (taken : Taken) → take_first m ≡ Some taken → taken.left.served ≡ m.served
taken-served m taken found = by m.fronts m.backs found
  where
    served : Option Taken → List Served
    served o = option_map_or (λ (k : Taken). k.left.served) o m.served

    by : (fronts backs : List Item) → take_by fronts backs m ≡ Some taken → taken.left.served ≡ m.served
    by [] [] is = absurd cc
    by [] (x ∷ backs) is = ap served (sym is)
    by (x ∷ fronts) backs is = ap served (sym is)

-- Checkouts -------------------------------------------------------------------------------------------

check_out-link : (id : ConsumerId) (a b : Work) → IsLinkAt id a.parts.served → parts_check_out a ≡ Some b
    → IsLinkAt id b.parts.served
unfolding parts_check_out
check_out-link id a b is made =
    by (take_first a.parts) (next_one a.parts.rest.args.single_active a.parts.served) refl made
  where
    by : (first : Option Taken) (next : Option Served) → take_first a.parts ≡ first
        → parts_deliver_by first next a ≡ Some b → IsLinkAt id b.parts.served
    by None next found gave = absurd cc
    by (Some taken) None found gave = absurd cc
    by (Some taken) (Some one) found gave =
        let same : parts_deliver taken one a ≡ b = cc in
        subst (λ (w : Work). IsLinkAt id w.parts.served) same
        (hand-link (taken.left.rest.turns + 1) taken.item one.consumer.id id taken.left.served
        (subst (IsLinkAt id) (sym (taken-served a.parts taken found)) is))

checkouts-link : (id : ConsumerId) (t : Work) → IsLinkAt id t.parts.served
    → IsLinkAt id (parts_check_out_all t).parts.served
unfolding parts_check_out_all
checkouts-link id t is =
    while_next-keeps (λ (w : Work). IsLinkAt id w.parts.served) parts_check_out (check_out-link id)
    (length (ready_items t.parts)) t is

-- Credit ----------------------------------------------------------------------------------------------

waits-link : (before : ℕ) (id : ConsumerId) (m : Parts) → IsLinkAt id m.served
    → IsLinkAt id (parts_begin_to_wait before id m).served
waits-link before id m is =
    cond_both _ (parts_take_turn (one_of id m.served) m) m (λ (k : Parts). IsLinkAt id k.served)
    (λ _. turn (one_of id m.served) is) (λ _. is)
  where
    turn : (o : Option Served) → IfSome o HasLink → IsLinkAt id (parts_take_turn o m).served
    turn None link = is
    turn (Some one) link = change-link (record (one.consumer) { turn = m.rest.turns + 1 }) id m.served link is

credit-link : (id : ConsumerId) (credit : ℕ) (t : Work) → is_credited (parts_give_credit id credit t).answer ≡ true
    → IsLinkAt id (parts_give_credit id credit t).work.parts.served
unfolding parts_give_credit
credit-link id credit t = by (one_of id t.parts.served) refl
  where
    by_mode : (mode : Mode) (one : Served) → one_of id t.parts.served ≡ Some one → one.consumer.mode ≡ mode
        → is_credited (parts_credit_by_mode mode one credit t).answer ≡ true
        → IsLinkAt id (parts_credit_by_mode mode one credit t).work.parts.served
    by_mode (Prefetch prefetch) one found is said = absurd cc
    by_mode Link one found is said =
        let m : Parts = changed (credited credit one.consumer) t.parts in
        let own : one.consumer.id ≡ id = found-id id t.parts.served one found in
        let start : IsLinkAt id t.parts.served = subst (λ (o : Option Served). IfSome o HasLink) (sym found) is in
        subst (λ (i : ConsumerId). IsLinkAt id (parts_begin_to_wait (parts_credit i t.parts) i m).served) (sym own)
        (waits-link (parts_credit id t.parts) id m
        (change-link (credited credit one.consumer) id t.parts.served is start))

    tested : Bool → Served → Answered
    tested cancelled one =
        if cancelled then say_refused NoConsumer t else parts_credit_by_mode one.consumer.mode one credit t

    by_test : (cancelled : Bool) (one : Served) → one_of id t.parts.served ≡ Some one
        → is_credited (tested cancelled one).answer ≡ true → IsLinkAt id (tested cancelled one).work.parts.served
    by_test true one found said = absurd cc
    by_test false one found said = by_mode one.consumer.mode one found refl said

    by : (o : Option Served) → one_of id t.parts.served ≡ o
        → is_credited (parts_credit_by o credit t).answer ≡ true
        → IsLinkAt id (parts_credit_by o credit t).work.parts.served
    by None found said = absurd cc
    by (Some one) found said = by_test one.consumer.cancelled one found said

act-link : (index : Index) (command : Command) (t : Work)
    → HasLinkFor command (parts_act index command t).answer (parts_act index command t).work.parts.served
unfolding parts_act
act-link index (Credit stamp tag count credit drain) t = credit-link (consumer_id stamp tag) (count + credit) t
act-link index _ t = tt

out-link : (command : Command) (answer : Answer) (t : Work) → HasLinkFor command answer t.parts.served
    → HasLinkFor command answer (parts_check_out_all t).parts.served
out-link (Credit stamp tag count credit drain) answer t is =
    λ said. checkouts-link (consumer_id stamp tag) t (is said)
out-link _ answer t is = tt

-- behind the checkouts of a command, the consumer of a Credit that was carried out is in link mode
pub credit-links : (index : Index) (command : Command) (t u v : Work) (answer : Answer)
    → parts_act index command t ≡ record { work = u; answer = answer } → parts_check_out_all u ≡ v
    → HasLinkFor command answer v.parts.served
credit-links index command t u v answer acted out =
    subst (λ (w : Work). HasLinkFor command answer w.parts.served) out
    (out-link command answer u
    (subst (λ (a : Answered). HasLinkFor command a.answer a.work.parts.served) acted (act-link index command t)))

-- so a consumer that is drained has no prefetch
pub link-row : (id : ConsumerId) (ones : List Served) (row : ConsumerRow) → Some (served_of row) ≡ one_of id ones
    → IsLinkAt id ones → row.consumer.mode ≡ Link
link-row id ones row found is = subst (λ (o : Option Served). IfSome o HasLink) (sym found) is
