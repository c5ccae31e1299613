-- Between entries nothing is ready, or nobody may be served.
use Rattle.std.proofs.Common.{◌≡◌, ◌⊎◌, ℕ, Bool, true, false, not, cond, ◌&&◌, List, [], ◌∷◌, ◌++◌, Option, Some, None, map, nat_lt, refl, sym, ap, ◌∙◌, subst, inl, inr, if◌then◌else◌}
use Rattle.std.specs.Prelude.{find}
use Rattle.std.specs.List.{AllByRecursion}
use Rattle.std.specs.Option.{option_map, option_and_then}
use Rattle.std.proofs.lemmas.Bool.{cond-false, cond_both}
use Rattle.qq_base.proofs.Lists.{In, find-in, AllByRecursion-in, AllByRecursion-map}
use Rattle.qq_base.specs.declared.ids.ConsumerId.{ConsumerId}
use Rattle.qq_base.specs.Ids.{same_consumer}
use Rattle.qq_entry.specs.declared.command.Mode.{Mode}
use Rattle.qq_entry.specs.declared.command.Mode.TheVariants.{Prefetch, Link}
use Rattle.qq_entry.specs.declared.command.Command.{Command}
use Rattle.qq_entry.specs.declared.command.Command.TheVariants.{Credit}
use Rattle.qq_entry.specs.Command.{consumer_id}
use Rattle.qq_entry.specs.declared.message.Reason.{Reason}
use Rattle.qq_entry.specs.declared.message.Reason.TheVariants as reason
use Rattle.qq_entry.specs.declared.queue.QueueArgs.{QueueArgs}
use Rattle.qq_entry.specs.declared.queue.Strategy.{Strategy}
use Rattle.qq_entry.specs.declared.queue.Strategy.TheVariants.{Absent, AtMostOnce, AtLeastOnce}
use Rattle.qq_entry.specs.declared.answer.Answer.{Answer}
use Rattle.qq_entry.specs.declared.audit.Effect.TheVariants.{Offer}
use Rattle.qq_model.specs.declared.place.Place.{Place}
use Rattle.qq_model.specs.declared.place.Place.TheVariants.{Ready, Out, Dead, Gone}
use Rattle.qq_model.specs.declared.consumer.Consumer.{Consumer}
use Rattle.qq_model.specs.Choice.{credit_left}
use Rattle.qq_model.specs.Changes.{Progress}
use Rattle.qq_model.specs.Commands.{Acted}
use Rattle.qq_model.specs.Serving.{is_credited, check_out, check_out_all}
use Rattle.qq_model.proofs.Least.{nat_lt-order, least_by-none, none-least_by}
use Rattle.qq_model.proofs.Lists.{AllByRecursion-from_in}
use Rattle.qq_model.proofs.Loops.{while_next-keeps}
use Rattle.qq_model.proofs.RunsOut.{check_out_all-runs_out}
use Rattle.qq_parts.specs.Reduced.{Item}
use Rattle.qq_parts.specs.Parts.{Served, consumer_at, Parts, AreApart}
use Rattle.qq_parts.specs.Changes.{Taken, take_by, take_first, bury}
use Rattle.qq_parts.specs.Turns.{may_serve, servable_one, is_current}
use Rattle.qq_parts.specs.Letters.{first_above}
use Rattle.qq_parts.specs.Consumers.{change_one, changed}
use Rattle.qq_parts.proofs.Waiting.{one-id}
use Rattle.qq_parts.specs.Work.{Work, Answered, with_parts, StandsFor, AnswersFor}
use Rattle.qq_parts.specs.Ends.{parts_die}
use Rattle.qq_parts.specs.Follows.{servable_turn, next_one, parts_deliver_by, parts_check_out, parts_check_out_all, is_over, parts_drop_by, parts_drop_head, parts_keep_limits, given_up_to, parts_offer_at, parts_offer_by, may_give, parts_give_dead, parts_give_all_dead, IsServed}
use Rattle.qq_parts.specs.Commands.{one_of, drained, parts_drain_by, parts_drain_after}
use Rattle.qq_parts.proofs.Works.{GoOn}
use Rattle.qq_parts.proofs.Choosing.{first-left}
use Rattle.qq_parts.proofs.Following.{check_out-goes, checks_out}
use Rattle.qq_parts.proofs.Changing.{one-in}

-- After the checkouts ---------------------------------------------------------------------------------

none-goes : (o : Option Work) (q : Option Progress) → GoOn o q → q ≡ None → o ≡ None
none-goes None q on is = refl
none-goes (Some t) None on is = absurd on
none-goes (Some t) (Some p) on is = absurd cc

stuck-by : (o : Option Taken) (c : Option Served) (t : Work) → parts_deliver_by o c t ≡ None
    → (o ≡ None) ⊎ (c ≡ None)
stuck-by None c t is = inl refl
stuck-by (Some taken) None t is = inr refl
stuck-by (Some taken) (Some one) t is = absurd cc

pub delivered-served : (t : Work) (p : Progress) → StandsFor t p → IsServed (parts_check_out_all t).parts
unfolding parts_check_out
delivered-served t p it =
    let u : Work = parts_check_out_all t in
    let q : Progress = check_out_all p in
    let stuck : parts_check_out u ≡ None =
    none-goes (parts_check_out u) (check_out q) (check_out-goes u q (checks_out t p it)) (check_out_all-runs_out p) in
    stuck-by (take_first u.parts) (next_one u.parts.rest.args.single_active u.parts.served) u stuck

-- What changes nothing of it --------------------------------------------------------------------------

take-none : (fronts backs : List Item) (m n : Parts) → take_by fronts backs m ≡ None → take_by fronts backs n ≡ None
take-none [] [] m n is = refl
take-none [] (x ∷ backs) m n is = absurd cc
take-none (x ∷ fronts) backs m n is = absurd cc

-- other counters and sessions
pub rest-served : (m n : Parts) → n.fronts ≡ m.fronts → n.backs ≡ m.backs → n.served ≡ m.served
    → n.rest.args ≡ m.rest.args → IsServed m → IsServed n
rest-served m n fronts backs served args (inl none) =
    inl (ap (λ (xs : List Item). take_by xs n.backs n) fronts ∙ ap (λ (xs : List Item). take_by m.fronts xs n) backs
    ∙ take-none m.fronts m.backs m n none)
rest-served m n fronts backs served args (inr nobody) =
    inr (ap (λ (a : QueueArgs). next_one a.single_active n.served) args
    ∙ ap (next_one m.rest.args.single_active) served ∙ nobody)

-- Drain -----------------------------------------------------------------------------------------------

none-left : (mode : Mode) (over : Bool) (credit out : ℕ)
    → (not over && nat_lt 0 (credit_left mode credit out)) ≡ false
    → (not over && nat_lt 0 (credit_left mode 0 out)) ≡ false
none-left (Prefetch prefetch) over credit out is = is
none-left Link true credit out is = refl
none-left Link false credit out is = refl

-- where a consumer is drained, nobody may be served who mightn't before
may-fall : (one k : Served) (ones : List Served) → AreApart ones → In one ones → In k ones → may_serve k ≡ false
    → may_serve (change_one (drained one.consumer) k) ≡ false
may-fall one k ones apart here there may =
    cond_both (same_consumer k.consumer.id one.consumer.id)
    (record { consumer = drained one.consumer; out = k.out }) k (λ (o : Served). may_serve o ≡ false)
    (λ same.
    subst (λ (c : Consumer). may_serve (record { consumer = drained c; out = k.out }) ≡ false)
    (ap consumer_at (one-id one k ones apart here there same))
    (none-left k.consumer.mode k.consumer.cancelled k.consumer.credit _ may))
    (λ _. may)

is_current-same : (one k : Served) (ones : List Served) → AreApart ones → In one ones → In k ones
    → is_current (change_one (drained one.consumer) k) ≡ is_current k
is_current-same one k ones apart here there =
    cond_both (same_consumer k.consumer.id one.consumer.id)
    (record { consumer = drained one.consumer; out = k.out }) k (λ (o : Served). is_current o ≡ is_current k)
    (λ same. ap is_current (sym (one-id one k ones apart here there same))) (λ _. refl)

none-false : {A : Type 0} (b : Bool) (x : A) → (if b then Some x else None) ≡ None → b ≡ false
none-false true x is = absurd cc
none-false false x is = refl

find-change : (f : Served → Served) (ones : List Served)
    → AllByRecursion (λ (k : Served). is_current (f k) ≡ is_current k) ones
    → find is_current (map f ones) ≡ option_map f (find is_current ones)
find-change f [] each = refl
find-change f (k ∷ ones) each =
    ap (λ (b : Bool). cond b (Some (f k)) (find is_current (map f ones))) each.0
    ∙ by (is_current k) (find-change f ones each.1)
  where
    by : (b : Bool) → find is_current (map f ones) ≡ option_map f (find is_current ones)
        → cond b (Some (f k)) (find is_current (map f ones)) ≡ option_map f (cond b (Some k) (find is_current ones))
    by true rest = refl
    by false rest = rest

drained-nobody : (single : Bool) (one : Served) (ones : List Served) → AreApart ones → In one ones
    → next_one single ones ≡ None → next_one single (map (change_one (drained one.consumer)) ones) ≡ None
drained-nobody false one ones apart here is =
    let f : Served → Served = change_one (drained one.consumer) in
    let each = least_by-none nat_lt servable_turn nat_lt-order ones is in
    none-least_by nat_lt servable_turn (map f ones)
    (AllByRecursion-map (λ (k : Served). servable_turn (f k) ≡ None) (λ (k : Served). servable_turn k ≡ None) f ones
    (λ k it. it)
    (AllByRecursion-from_in (λ (k : Served). servable_turn (f k) ≡ None) ones
    (λ k there.
    let may : may_serve k ≡ false =
    none-false (may_serve k) k.consumer.turn
    (AllByRecursion-in (λ (o : Served). servable_turn o ≡ None) k ones each there) in
    cond-false (may_serve (f k)) (Some (f k).consumer.turn) None (may-fall one k ones apart here there may))))
drained-nobody true one ones apart here is =
    let f : Served → Served = change_one (drained one.consumer) in
    ap (option_and_then servable_one)
    (find-change f ones
    (AllByRecursion-from_in (λ (k : Served). is_current (f k) ≡ is_current k) ones
    (λ k there. is_current-same one k ones apart here there)))
    ∙ at (find is_current ones) refl is
  where
    at : (o : Option Served) → find is_current ones ≡ o → option_and_then servable_one o ≡ None
        → option_and_then servable_one (option_map (change_one (drained one.consumer)) o) ≡ None
    at None found nobody = refl
    at (Some k) found nobody =
        cond-false (may_serve (change_one (drained one.consumer) k)) (Some (change_one (drained one.consumer) k)) None
        (may-fall one k ones apart here (find-in is_current ones k found).0 (none-false (may_serve k) k nobody))

drained-by : (id : ConsumerId) (o : Option Served) (said : Answer) (t : Work) → AreApart t.parts.served
    → one_of id t.parts.served ≡ o → IsServed t.parts → IsServed (parts_drain_by o said t).work.parts
drained-by id None said t apart found served = served
drained-by id (Some one) said t apart found (inl none) =
    inl (take-none t.parts.fronts t.parts.backs t.parts (changed (drained one.consumer) t.parts) none)
drained-by id (Some one) said t apart found (inr nobody) =
    inr (drained-nobody t.parts.rest.args.single_active one t.parts.served apart (one-in id t.parts.served one found)
    nobody)

pub drained-served : (command : Command) (a : Answered) (b : Acted) → AnswersFor a b → IsServed a.work.parts
    → IsServed (parts_drain_after command a).work.parts
unfolding parts_drain_after
drained-served (Credit stamp tag count credit wanted) a b it served =
    let id : ConsumerId = consumer_id stamp tag in
    cond_both (wanted && is_credited a.answer) (parts_drain_by (one_of id a.work.parts.served) a.answer a.work) a
    (λ (x : Answered). IsServed x.work.parts)
    (λ _. drained-by id (one_of id a.work.parts.served) a.answer a.work it.work.whole.apart refl served) (λ _. served)
drained-served _ a b it served = served

-- Limits ----------------------------------------------------------------------------------------------

bury-same : (strategy : Strategy) (reason : Reason) (x : Item) (m : Parts)
    → ((bury strategy reason x m).served ≡ m.served) × ((bury strategy reason x m).rest.args ≡ m.rest.args)
bury-same Absent reason x m = (refl, refl)
bury-same AtMostOnce reason x m = (refl, refl)
bury-same AtLeastOnce reason x m = (refl, refl)

drop-by : (o : Option Taken) (t u : Work) → take_first t.parts ≡ o → IsServed t.parts → parts_drop_by o t ≡ Some u
    → IsServed u.parts
drop-by None t u first served is = absurd cc
drop-by (Some taken) t u first (inl none) is =
    let clash : Some taken ≡ None = sym first ∙ none in absurd cc
drop-by (Some taken) t u first (inr nobody) is =
    let made : parts_die reason.MaxLen taken.item (with_parts taken.left t) ≡ u = cc in
    let left = first-left t.parts taken first in
    let strategy : Strategy = taken.left.rest.args.strategy in
    let kept = bury-same strategy reason.MaxLen taken.item taken.left in
    subst (λ (v : Work). IsServed v.parts) made
    (inr (ap (λ (a : QueueArgs). next_one a.single_active
    (bury strategy reason.MaxLen taken.item taken.left).served) (kept.1 ∙ ap (λ s. s.args) left.1)
    ∙ ap (next_one t.parts.rest.args.single_active) (kept.0 ∙ left.0) ∙ nobody))

drop-served : (t u : Work) → IsServed t.parts → parts_drop_head t ≡ Some u → IsServed u.parts
unfolding parts_drop_head
drop-served t u served made = by (is_over t.parts) made
  where
    by : (over : Bool) → (if over then parts_drop_by (take_first t.parts) t else None) ≡ Some u → IsServed u.parts
    by true is = drop-by (take_first t.parts) t u refl served is
    by false is = absurd cc

pub limited-served : (t : Work) → IsServed t.parts → IsServed (parts_keep_limits t).parts
unfolding parts_keep_limits
limited-served t served =
    while_next-keeps (λ (u : Work). IsServed u.parts) parts_drop_head (λ u v it is. drop-served u v it is) _ t served

-- Dead giving -----------------------------------------------------------------------------------------

offer-at : (place : Place) (x : Item) (t u : Work) → IsServed t.parts → parts_offer_at place x t ≡ Some u
    → IsServed u.parts
offer-at (Ready key) x t u served is = absurd cc
offer-at (Out consumer id) x t u served is = absurd cc
offer-at (Gone reason) x t u served is = absurd cc
offer-at (Dead number reason) x t u served is =
    let made : record {
      parts = given_up_to number t.parts;
      effects = t.effects ++ Offer number reason x.message ∷ [];
    } ≡ u = cc in
    subst (λ (v : Work). IsServed v.parts) made
    (rest-served t.parts (given_up_to number t.parts) refl refl refl refl served)

offer-by : (o : Option Item) (t u : Work) → IsServed t.parts → parts_offer_by o t ≡ Some u → IsServed u.parts
offer-by None t u served is = absurd cc
offer-by (Some x) t u served is = offer-at x.row.place x t u served is

give-served : (t u : Work) → IsServed t.parts → parts_give_dead t ≡ Some u → IsServed u.parts
unfolding parts_give_dead
give-served t u served made = by (may_give t.parts) made
  where
    next : Option Item
    next = first_above t.parts.rest.given t.parts.dead

    by : (may : Bool) → (if may then parts_offer_by next t else None) ≡ Some u → IsServed u.parts
    by true is = offer-by next t u served is
    by false is = absurd cc

pub given-served : (t : Work) → IsServed t.parts → IsServed (parts_give_all_dead t).parts
unfolding parts_give_all_dead
given-served t served =
    while_next-keeps (λ (u : Work). IsServed u.parts) parts_give_dead (λ u v it is. give-served u v it is) _ t served
