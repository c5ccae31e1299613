-- Consumers that aren't cancelled keep their order, and the active one stays.
use Rattle.std.proofs.Common.{◌≡◌, Bool, true, false, not, List, [], ◌∷◌, refl, sym, ap, ◌∙◌, subst, inl, inr, Contains, if◌then◌else◌}
use Rattle.std.specs.Prelude.{nat_eq, map, filter}
use Rattle.std.proofs.lemmas.Bool.{false≢true, cases_Bool, cond-true, cond-false, cond_both, and_left, not_from_false}
use Rattle.qq_base.specs.declared.ids.ConsumerId.{ConsumerId}
use Rattle.qq_base.specs.declared.ids.SessionId.{SessionId}
use Rattle.qq_base.specs.Ids.{same_consumer}
use Rattle.qq_entry.specs.declared.command.Command.{Command}
use Rattle.qq_entry.specs.declared.command.Command.TheVariants.{Down}
use Rattle.qq_model.specs.declared.consumer.Consumer.{Consumer}
use Rattle.qq_model.specs.Choice.{out_count}
use Rattle.qq_model.specs.Changes.{put_consumer, is_needed}
use Rattle.qq_model.specs.Commands.{is_of_session}
use Rattle.qq_base.proofs.Lists.{In, In-map, In-filter, find-in}
use Rattle.qq_model.proofs.Ids.{consumer-found}
use Rattle.qq_model.proofs.OneConsumer.{same_consumer-true}
use Rattle.qq_model.proofs.SessionLemmas.{same_session-true}
use Rattle.qq_model.proofs.Soundness.{Contains-in, in_contains}
use Rattle.qq_laws.specs.Joining.{ends_consumer}
use Rattle.qq_laws.specs.Order.{IsPart, ids, AreApart, going}
use Rattle.qq_laws.proofs.ActConsumers.{Cancels, KeepsConsumers}
use Rattle.qq_laws.proofs.Joining.{ends-cancel, ends-down}
use Rattle.qq_laws.proofs.OrderLemmas.{ids-put, is_subscribe, part-skip, part-trans, part-filter}

-- Ids that are apart -----------------------------------------------------------------------------------

pub In-ids : (one : Consumer) (consumers : List Consumer) → In one consumers → Contains (ids consumers) one.id
In-ids one consumers here =
    Contains-in one.id (ids consumers) (In-map (λ (c : Consumer). c.id) one consumers here)

-- of ids that are apart each has one consumer
pub one_of : (a b : Consumer) (consumers : List Consumer) → AreApart (ids consumers) → In a consumers → In b consumers
    → a.id ≡ b.id → a ≡ b
one_of a b [] apart here there same = absurd here
one_of a b (c ∷ rest) apart (inl here) (inl there) same = here ∙ sym there
one_of a b (c ∷ rest) apart (inl here) (inr there) same =
    let is : c.id ≡ b.id = sym (ap (λ (x : Consumer). x.id) here) ∙ same in
    absurd (apart.0 (subst (Contains (ids rest)) (sym is) (In-ids b rest there)))
one_of a b (c ∷ rest) apart (inr here) (inl there) same =
    let is : c.id ≡ a.id = sym (ap (λ (x : Consumer). x.id) there) ∙ sym same in
    absurd (apart.0 (subst (Contains (ids rest)) (sym is) (In-ids a rest here)))
one_of a b (c ∷ rest) apart (inr here) (inr there) same = one_of a b rest apart.1 here there same

-- a part of ids that are apart has none that the list hasn't, and is apart
pub part-in : (x : ConsumerId) (xs ys : List ConsumerId) → IsPart xs ys → In x xs → In x ys
part-in x [] ys part here = absurd here
part-in x (z ∷ zs) [] part here = absurd part
part-in x (z ∷ zs) (y ∷ ys) (inl part) (inl here) = inl (here ∙ part.0)
part-in x (z ∷ zs) (y ∷ ys) (inl part) (inr here) = inr (part-in x zs ys part.1 here)
part-in x (z ∷ zs) (y ∷ ys) (inr part) here = inr (part-in x (z ∷ zs) ys part here)

pub part-apart : (xs ys : List ConsumerId) → IsPart xs ys → AreApart ys → AreApart xs
part-apart [] ys part apart = tt
part-apart (x ∷ xs) [] part apart = absurd part
part-apart (x ∷ xs) (y ∷ ys) (inl part) apart = (
  λ there. apart.0 (subst (Contains ys) part.0
      (Contains-in x ys (part-in x xs ys part.1 (in_contains xs x there)))),
  part-apart xs ys part.1 apart.1,
)
part-apart (x ∷ xs) (y ∷ ys) (inr part) apart = part-apart (x ∷ xs) ys part apart.1

-- Consumers that are changed ---------------------------------------------------------------------------

-- each keeps its id, and one that was cancelled stays so
record Alters (change : Consumer → Consumer) (consumers : List Consumer) : Type 0 where
  id : (one : Consumer) → In one consumers → (change one).id ≡ one.id
  cancelled : (one : Consumer) → In one consumers → one.cancelled ≡ true → (change one).cancelled ≡ true

altered-more : (change : Consumer → Consumer) (one : Consumer) (rest : List Consumer) → (change one).id ≡ one.id
    → (one.cancelled ≡ true → (change one).cancelled ≡ true)
    → IsPart (ids (going (map change rest))) (ids (going rest))
    → IsPart (ids (going (change one ∷ map change rest))) (ids (going (one ∷ rest)))
altered-more change one rest same stays later =
    cond_both (not (change one).cancelled) (change one ∷ going (map change rest)) (going (map change rest))
    (λ (list : List Consumer). IsPart (ids list) (ids (going (one ∷ rest))))
    (λ goes. subst (λ (list : List Consumer). IsPart (ids (change one ∷ going (map change rest))) (ids list))
    (sym (cond-true (not one.cancelled) (one ∷ going rest) (going rest) (went goes)))
    (inl (same, later)))
    (λ _. cond_both (not one.cancelled) (one ∷ going rest) (going rest)
    (λ (list : List Consumer). IsPart (ids (going (map change rest))) (ids list))
    (λ _. part-skip _ one.id (ids (going rest)) later) (λ _. later))
  where
    went : not (change one).cancelled ≡ true → not one.cancelled ≡ true
    went goes = elim (cases_Bool one.cancelled) [
      | inl is ↦ absurd (false≢true (sym (ap not (stays is)) ∙ goes))
      | inr is ↦ ap not is
    ]

part-altered : (change : Consumer → Consumer) (consumers : List Consumer) → Alters change consumers
    → IsPart (ids (going (map change consumers))) (ids (going consumers))
part-altered change [] alters = tt
part-altered change (one ∷ rest) alters =
    altered-more change one rest (alters.id one (inl refl)) (alters.cancelled one (inl refl))
    (part-altered change rest (record {
      id = λ x here. alters.id x (inr here);
      cancelled = λ x here. alters.cancelled x (inr here);
    }))

-- a consumer takes the place of one of its id that is as much cancelled, where ids are apart
abbrev pub put : Consumer → Consumer → Consumer
put new one = if same_consumer one.id new.id then new else one

put-alters : (new old : Consumer) (consumers : List Consumer) → AreApart (ids consumers) → In old consumers
    → new.id ≡ old.id → (old.cancelled ≡ true → new.cancelled ≡ true) → Alters (put new) consumers
put-alters new old consumers apart there same flag = record {
  id = λ one here.
      cond_both (same_consumer one.id new.id) new one (λ (c : Consumer). c.id ≡ one.id)
      (λ is. sym (same_consumer-true one.id new.id is)) (λ _. refl);
  cancelled = λ one here was.
      cond_both (same_consumer one.id new.id) new one (λ (c : Consumer). c.cancelled ≡ true)
      (λ is.
      let itself : old ≡ one =
      one_of old one consumers apart there here (sym same ∙ sym (same_consumer-true one.id new.id is)) in
      flag (ap (λ (c : Consumer). c.cancelled) itself ∙ was)) (λ _. was);
}

-- What a command that isn't a subscribe keeps -----------------------------------------------------------

-- ids are apart, and those that go on are some of those before
pub record GoesOn (before : List ConsumerId) (consumers : List Consumer) : Type 0 where
  pub apart : AreApart (ids consumers)
  pub part : IsPart (ids (going consumers)) before

on-put : (before : List ConsumerId) (new old : Consumer) (consumers : List Consumer) → GoesOn before consumers
    → In old consumers → new.id ≡ old.id → (old.cancelled ≡ true → new.cancelled ≡ true)
    → GoesOn before (put_consumer new consumers)
on-put before new old consumers on there same flag = record {
  apart = subst AreApart (sym (ids-put new consumers)) on.apart;
  part =
      part-trans _ (ids (going consumers)) before
      (part-altered (put new) consumers (put-alters new old consumers on.apart there same flag)) on.part;
}

filter-more : (keeps : Consumer → Bool) (one : Consumer) (rest : List Consumer)
    → IsPart (ids (going (filter keeps rest))) (ids (going rest))
    → IsPart (ids (going (filter keeps (one ∷ rest)))) (ids (going (one ∷ rest)))
filter-more keeps one rest later =
    cond_both (keeps one) (one ∷ filter keeps rest) (filter keeps rest)
    (λ (list : List Consumer). IsPart (ids (going list)) (ids (going (one ∷ rest))))
    (λ _. cond_both (not one.cancelled) (one ∷ going (filter keeps rest)) (going (filter keeps rest))
    (λ (list : List Consumer). IsPart (ids list) (ids (going (one ∷ rest))))
    (λ goes. subst (λ (list : List Consumer). IsPart (one.id ∷ ids (going (filter keeps rest))) (ids list))
    (sym (cond-true (not one.cancelled) (one ∷ going rest) (going rest) goes)) (inl (refl, later)))
    (λ _. skip)) (λ _. skip)
  where
    skip : IsPart (ids (going (filter keeps rest))) (ids (going (one ∷ rest)))
    skip =
        cond_both (not one.cancelled) (one ∷ going rest) (going rest)
        (λ (list : List Consumer). IsPart (ids (going (filter keeps rest))) (ids list))
        (λ _. part-skip _ one.id (ids (going rest)) later) (λ _. later)

going-filter : (keeps : Consumer → Bool) (consumers : List Consumer)
    → IsPart (ids (going (filter keeps consumers))) (ids (going consumers))
going-filter keeps [] = tt
going-filter keeps (one ∷ rest) = filter-more keeps one rest (going-filter keeps rest)

on-filter : (before : List ConsumerId) (keeps : Consumer → Bool) (consumers : List Consumer)
    → GoesOn before consumers → GoesOn before (filter keeps consumers)
on-filter before keeps consumers on = record {
  apart = part-apart _ (ids consumers) (part-filter keeps consumers) on.apart;
  part = part-trans _ (ids (going consumers)) before (going-filter keeps consumers) on.part;
}

pub on-acts : (before : List ConsumerId) (command : Command) → is_subscribe command ≡ false
    → KeepsConsumers command (GoesOn before)
on-acts before command plain = record {
  join = λ consumers id mode turn on is. absurd (false≢true (sym plain ∙ ap is_subscribe is.2));
  cancel = λ consumers id one on found is.
      on-put before (record one { cancelled = true }) one consumers on (consumer-found id consumers one found) refl
      (λ _. refl);
  credit = λ consumers id one total on found link is.
      on-put before _ one consumers on (consumer-found id consumers one found) refl (λ was. was);
  turn = λ consumers one turn on here. on-put before _ one consumers on here refl (λ was. was);
  needed = λ rows consumers on. on-filter before (is_needed rows) consumers on;
  leave = λ consumers session on is.
      on-filter before (λ (one : Consumer). not (is_of_session session one)) consumers on;
}

-- Who goes on ------------------------------------------------------------------------------------------

-- ids are apart, and the consumer of this one isn't cancelled
pub record Stays (id : ConsumerId) (consumers : List Consumer) : Type 0 where
  pub apart : AreApart (ids consumers)
  pub one : Consumer
  pub there : In one consumers
  pub itself : one.id ≡ id
  pub goes : one.cancelled ≡ false

stays-put : (id : ConsumerId) (new old : Consumer) (consumers : List Consumer) → In old consumers → new.id ≡ old.id
    → (old.id ≡ id → old.cancelled ≡ false → new.cancelled ≡ false) → Stays id consumers
    → Stays id (put_consumer new consumers)
stays-put id new old consumers here same flag stays = elim (cases_Bool (same_consumer stays.one.id new.id)) [
  | inl own ↦
      let is : old ≡ stays.one =
      one_of old stays.one consumers stays.apart here stays.there
      (sym same ∙ sym (same_consumer-true stays.one.id new.id own)) in
      let its : old.id ≡ id = ap (λ (c : Consumer). c.id) is ∙ stays.itself in
      record {
        apart = subst AreApart (sym (ids-put new consumers)) stays.apart;
        one = new;
        there = subst (λ (c : Consumer). In c (put_consumer new consumers)) (cond-true _ new stays.one own)
            (In-map (put new) stays.one consumers stays.there);
        itself = same ∙ its;
        goes = flag its (ap (λ (c : Consumer). c.cancelled) is ∙ stays.goes);
      }
  | inr differs ↦ record {
    apart = subst AreApart (sym (ids-put new consumers)) stays.apart;
    one = stays.one;
    there = subst (λ (c : Consumer). In c (put_consumer new consumers)) (cond-false _ new stays.one differs)
        (In-map (put new) stays.one consumers stays.there);
    itself = stays.itself;
    goes = stays.goes;
  }
]

stays-filter : (id : ConsumerId) (keeps : Consumer → Bool) (consumers : List Consumer) → (stays : Stays id consumers)
    → keeps stays.one ≡ true → Stays id (filter keeps consumers)
stays-filter id keeps consumers stays passes = record {
  apart = part-apart _ (ids consumers) (part-filter keeps consumers) stays.apart;
  one = stays.one;
  there = In-filter keeps stays.one consumers stays.there passes;
  itself = stays.itself;
  goes = stays.goes;
}

pub stays-acts : (id : ConsumerId) (command : Command) → is_subscribe command ≡ false
    → ends_consumer command id ≡ false → KeepsConsumers command (Stays id)
stays-acts id command plain goes = record {
  join = λ consumers other mode turn stays is. absurd (false≢true (sym plain ∙ ap is_subscribe is.2));
  cancel = λ consumers other one stays found is.
      let its : one.id ≡ other =
      same_consumer-true one.id other (find-in (λ (c : Consumer). same_consumer c.id other) consumers one found).1 in
      stays-put id (record one { cancelled = true }) one consumers (consumer-found other consumers one found) refl
      (λ own _. absurd (ends-cancel command id goes (subst (Cancels command) (sym its ∙ own) is))) stays;
  credit = λ consumers other one total stays found link is.
      stays-put id _ one consumers (consumer-found other consumers one found) refl (λ _ was. was) stays;
  turn = λ consumers one turn stays here. stays-put id _ one consumers here refl (λ _ was. was) stays;
  needed = λ rows consumers stays.
      stays-filter id (is_needed rows) consumers stays
      (not_from_false _ (and_left stays.one.cancelled (nat_eq (out_count stays.one.id rows) 0) stays.goes));
  leave = λ consumers session stays is.
      stays-filter id (λ (one : Consumer). not (is_of_session session one)) consumers stays
      (not_from_false (is_of_session session stays.one) (not-of session is stays.one stays.itself));
}
  where
    not-of : (session : SessionId) → command ≡ Down session → (one : Consumer) → one.id ≡ id
        → is_of_session session one ≡ false
    not-of session is one itself = elim (cases_Bool (is_of_session session one)) [
      | inr other ↦ other
      | inl own ↦
          let same : session ≡ id.session =
          sym (same_session-true one.id.session session own) ∙ ap (λ (i : ConsumerId). i.session) itself in
          absurd (ends-down command id goes (is ∙ ap (λ (i : SessionId). Down i) same))
    ]
