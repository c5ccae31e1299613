-- Consumers are cancelled, get credit and draw turns in a queue's table as in its parts.
use Rattle.std.proofs.Common.{◌≡◌, ℕ, Bool, true, false, not, ◌&&◌, Option, Some, None, length, nat_eq, nat_lt, refl, sym, ap, ◌∙◌, subst, if◌then◌else◌}
use Rattle.std.specs.Option.{option_map_or}
use Rattle.qq_base.specs.declared.ids.ConsumerId.{ConsumerId}
use Rattle.qq_entry.specs.declared.answer.Answer.{Answer}
use Rattle.qq_entry.specs.declared.answer.Answer.TheVariants as answer
use Rattle.qq_entry.specs.declared.answer.Cause.{Cause}
use Rattle.qq_entry.specs.declared.answer.Cause.TheVariants.{NoConsumer, WrongMode}
use Rattle.qq_entry.specs.declared.command.Mode.{Mode}
use Rattle.qq_entry.specs.declared.command.Mode.TheVariants.{Prefetch, Link}
use Rattle.qq_model.specs.Choice.{credit_left}
use Rattle.qq_parts.specs.Parts.{Served, Parts}
use Rattle.qq_parts.specs.Consumers.{changed, keep_ones, needed_one}
use Rattle.qq_parts.specs.Turns.{credit_of_one}
use Rattle.qq_parts.specs.Work.{Work, Answered, say, say_refused, with_parts}
use Rattle.qq_parts.specs.Commands.{one_of, cancelled, credited, parts_credit, parts_take_turn, parts_begin_to_wait, parts_cancel_by, parts_credit_by, parts_credit_by_mode, parts_drain_by}
use Rattle.qq_consumer.specs.Roster.{Roster, roster_of, cancel_by, drop_finished, put_one, credit_at, take_turn, begin_to_wait, credit_fault_by, mode_fault, give_credit_by, drain_by, drain_by_mode, drained, link_credit, link_credit_one}
use Rattle.qq_machine.proofs.Delivering.{with_roster, found-id}

abbrev pub roster_in : Work → Roster
roster_in t = roster_of t.parts.served t.parts.rest.turns

-- a cancel
pub cancels : (o : Option Served) (t : Work) (r : Roster) (did : Bool)
    → did ≡ option_map_or (λ (one : Served). not one.consumer.cancelled) o false → r ≡ cancel_by o (roster_in t)
    → parts_cancel_by o t
    ≡ record { work = with_roster r t; answer = if did then answer.Done else answer.Refused NoConsumer }
cancels None t r did value made =
    ap (λ (q : Roster). let a : Answered = record { work = with_roster q t; answer = answer.Refused NoConsumer } in a)
    (sym made)
    ∙ ap (λ (d : Bool). let a : Answered = record {
      work = with_roster r t;
      answer = if d then answer.Done else answer.Refused NoConsumer;
    } in a) (sym value)
cancels (Some one) t r did value made = by one.consumer.cancelled value made
  where
    by : (b : Bool) → did ≡ not b
        → r ≡ (if b then roster_in t
        else drop_finished (record (roster_in t) {
          served = put_one (record (one.consumer) { cancelled = true }) t.parts.served;
        }))
        → (if b then say_refused NoConsumer t
        else say answer.Done (with_parts (keep_ones needed_one (changed (cancelled one.consumer) t.parts)) t))
        ≡ record { work = with_roster r t; answer = if did then answer.Done else answer.Refused NoConsumer }
    by true value made =
        ap (λ (q : Roster). let a : Answered = record {
          work = with_roster q t;
          answer = answer.Refused NoConsumer;
        } in a) (sym made)
        ∙ ap (λ (d : Bool). let a : Answered = record {
          work = with_roster r t;
          answer = if d then answer.Done else answer.Refused NoConsumer;
        } in a) (sym value)
    by false value made =
        ap (λ (q : Roster). let a : Answered = record { work = with_roster q t; answer = answer.Done } in a) (sym made)
        ∙ ap (λ (d : Bool). let a : Answered = record {
          work = with_roster r t;
          answer = if d then answer.Done else answer.Refused NoConsumer;
        } in a) (sym value)

-- one that begins to wait draws a turn
pub begins : (before : ℕ) (id : ConsumerId) (t : Work)
    → with_parts (parts_begin_to_wait before id t.parts) t ≡ with_roster (begin_to_wait before id (roster_in t)) t
begins before id t = by (nat_eq before 0 && nat_lt 0 (credit_at id t.parts.served)) (one_of id t.parts.served)
  where
    by : (b : Bool) (o : Option Served)
        → with_parts (if b then parts_take_turn o t.parts else t.parts) t
        ≡ with_roster (if b then take_turn o (roster_in t) else roster_in t) t
    by true None = refl
    by true (Some one) = refl
    by false o = refl

-- link credit is set
pub credits : (o : Option Served) (id : ConsumerId) (total : ℕ) (t : Work) (r : Roster)
    → one_of id t.parts.served ≡ o → credit_fault_by o ≡ None → r ≡ give_credit_by o total (roster_in t)
    → parts_credit_by o total t ≡ record { work = with_roster r t; answer = answer.Credited 0 }
credits None id total t r found fits made = absurd cc
credits (Some one) id total t r found fits made = by one.consumer.cancelled one.consumer.mode refl fits
  where
    own : one_of one.consumer.id t.parts.served ≡ Some one
    own =
        subst (λ (k : ConsumerId). one_of k t.parts.served ≡ Some one) (sym (found-id id t.parts.served one found))
        found

    by : (b : Bool) (mode : Mode) → one.consumer.mode ≡ mode → (if b then Some NoConsumer else mode_fault mode) ≡ None
        → (if b then say_refused NoConsumer t else parts_credit_by_mode mode one total t)
        ≡ record { work = with_roster r t; answer = answer.Credited 0 }
    by true mode link fits = absurd cc
    by false (Prefetch prefetch) link fits = absurd cc
    by false Link link fits =
        let before : parts_credit one.consumer.id t.parts ≡ one.consumer.credit =
        ap (λ (o : Option Served). option_map_or credit_of_one o 0) own
        ∙ ap (λ (m : Mode). credit_left m one.consumer.credit (length one.out)) link in
        let given : Parts = changed (credited total one.consumer) t.parts in
        ap (λ (n : ℕ). say (answer.Credited 0)
        (with_parts (parts_begin_to_wait n one.consumer.id given) t)) before
        ∙ ap (λ (w : Work). say (answer.Credited 0) w) (begins one.consumer.credit one.consumer.id (with_parts given t))
        ∙ ap (λ (q : Roster). say (answer.Credited 0) (with_roster q t)) (sym made)

some-cause : (a b : Cause) → Some a ≡ Some b → a ≡ b
some-cause a b is = cc

-- or refused
pub credit-refused : (o : Option Served) (total : ℕ) (t : Work) (cause : Cause) → credit_fault_by o ≡ Some cause
    → parts_credit_by o total t ≡ say_refused cause t
credit-refused None total t cause is = ap (λ (k : Cause). say_refused k t) (some-cause NoConsumer cause is)
credit-refused (Some one) total t cause is = by one.consumer.cancelled one.consumer.mode is
  where
    by : (b : Bool) (mode : Mode) → (if b then Some NoConsumer else mode_fault mode) ≡ Some cause
        → (if b then say_refused NoConsumer t else parts_credit_by_mode mode one total t) ≡ say_refused cause t
    by true mode is = ap (λ (k : Cause). say_refused k t) (some-cause NoConsumer cause is)
    by false (Prefetch prefetch) is = ap (λ (k : Cause). say_refused k t) (some-cause WrongMode cause is)
    by false Link is = absurd cc

-- what is left of link credit counts as delivered
pub drains : (o : Option Served) (one : Served) (t : Work) (r : Roster) (said : Answer) (n : ℕ) → o ≡ Some one
    → one.consumer.mode ≡ Link → r ≡ drain_by o (roster_in t) → n ≡ option_map_or link_credit_one o 0
    → parts_drain_by o said t ≡ record { work = with_roster r t; answer = answer.Credited n }
drains o one t r said n is link made value =
    let left : n ≡ one.consumer.credit =
    value ∙ ap (λ (k : Option Served). option_map_or link_credit_one k 0) is
    ∙ ap (λ (m : Mode). link_credit m one.consumer.credit) link in
    let table : r ≡ record (roster_in t) { served = put_one (drained one.consumer) t.parts.served } =
    made ∙ ap (λ (k : Option Served). drain_by k (roster_in t)) is
    ∙ ap (λ (m : Mode). drain_by_mode m one.consumer (roster_in t)) link in
    ap (λ (k : Option Served). parts_drain_by k said t) is
    ∙ ap (λ (q : Roster). let a : Answered = record {
      work = with_roster q t;
      answer = answer.Credited one.consumer.credit;
    } in a) (sym table)
    ∙ ap (λ (k : ℕ). let a : Answered = record { work = with_roster r t; answer = answer.Credited k } in a) (sym left)
