-- Whom an id finds among the consumers once one of them has changed, joined or left.
use Rattle.std.proofs.Common.{◌≡◌, ◌⊎◌, ℕ, ◌+◌, Bool, true, false, not, cond, List, [], ◌∷◌, ◌++◌, Option, Some, None, refl, sym, ap, ◌∙◌, inl, inr}
use Rattle.std.specs.Prelude.{filter}
use Rattle.std.proofs.lemmas.Bool.{cases_Bool, cond-true, cond-false, not_from_true, not_from_false}
use Rattle.qq_base.specs.declared.ids.ConsumerId.{ConsumerId}
use Rattle.qq_base.specs.Ids.{same_consumer}
use Rattle.qq_model.proofs.OneConsumer.{same_consumer-true, same_consumer-refl}
use Rattle.qq_entry.specs.declared.command.Mode.{Mode}
use Rattle.qq_entry.specs.declared.command.Mode.TheVariants.{Prefetch, Link}
use Rattle.qq_model.specs.declared.consumer.Consumer.{Consumer}
use Rattle.qq_model.specs.Serving.{use_credit, serve}
use Rattle.qq_parts.specs.Reduced.{Item}
use Rattle.qq_parts.specs.Parts.{Served}
use Rattle.qq_parts.specs.Outs.{hand_to, serve_one}
use Rattle.qq_consumer.specs.Roster.{is_one, one_of}
use Rattle.qq_consumer.proofs.JoinedRows.{change_by}

-- the test of another id fails at the consumer of this one
fails : (id q : ConsumerId) (one : Served) → same_consumer id q ≡ false → is_one id one ≡ true → is_one q one ≡ false
fails id q one other is =
    ap (λ (i : ConsumerId). same_consumer i q) (same_consumer-true one.consumer.id id is) ∙ other

pub other-changed : (id q : ConsumerId) (f : Served → Served) (ones : List Served)
    → ((one : Served) → is_one id one ≡ true → is_one id (f one) ≡ true) → same_consumer id q ≡ false
    → one_of q (change_by id f ones) ≡ one_of q ones
other-changed id q f [] keeps other = refl
other-changed id q f (one ∷ ones) keeps other =
    by (cases_Bool (is_one id one)) (other-changed id q f ones keeps other)
  where
    by : (is_one id one ≡ true) ⊎ (is_one id one ≡ false) → one_of q (change_by id f ones) ≡ one_of q ones
        → one_of q (change_by id f (one ∷ ones)) ≡ one_of q (one ∷ ones)
    by (inl is) rest =
        ap (λ (o : Served). one_of q (o ∷ change_by id f ones)) (cond-true (is_one id one) (f one) one is)
        ∙ cond-false (is_one q (f one)) (Some (f one)) (one_of q (change_by id f ones))
        (fails id q (f one) other (keeps one is))
        ∙ rest ∙ sym (cond-false (is_one q one) (Some one) (one_of q ones) (fails id q one other is))
    by (inr isn't) rest =
        ap (λ (o : Served). one_of q (o ∷ change_by id f ones)) (cond-false (is_one id one) (f one) one isn't)
        ∙ ap (λ (o : Option Served). cond (is_one q one) (Some one) o) rest

pub own-changed : (id : ConsumerId) (f : Served → Served) (ones : List Served) (one : Served)
    → ((other : Served) → is_one id other ≡ true → is_one id (f other) ≡ true) → one_of id ones ≡ Some one
    → one_of id (change_by id f ones) ≡ Some (f one)
own-changed id f [] one keeps found = absurd cc
own-changed id f (first ∷ ones) one keeps found = by (cases_Bool (is_one id first))
    (λ is. own-changed id f ones one keeps is)
  where
    by : (is_one id first ≡ true) ⊎ (is_one id first ≡ false)
        → (one_of id ones ≡ Some one → one_of id (change_by id f ones) ≡ Some (f one))
        → one_of id (change_by id f (first ∷ ones)) ≡ Some (f one)
    by (inl is) rest =
        let e : Some first ≡ Some one = sym (cond-true (is_one id first) (Some first) (one_of id ones) is) ∙ found in
        let same : first ≡ one = cc in
        ap (λ (o : Served). one_of id (o ∷ change_by id f ones)) (cond-true (is_one id first) (f first) first is)
        ∙ cond-true (is_one id (f first)) (Some (f first)) (one_of id (change_by id f ones)) (keeps first is)
        ∙ ap (λ (o : Served). Some (f o)) same
    by (inr isn't) rest =
        ap (λ (o : Served). one_of id (o ∷ change_by id f ones)) (cond-false (is_one id first) (f first) first isn't)
        ∙ cond-false (is_one id first) (Some first) (one_of id (change_by id f ones)) isn't
        ∙ rest (sym (cond-false (is_one id first) (Some first) (one_of id ones) isn't) ∙ found)

-- ---- a delivery

pub serve-id : (turn : ℕ) (consumer : Consumer) → (serve turn consumer).id ≡ consumer.id
serve-id turn consumer = by consumer.mode
  where
    by : (mode : Mode) → (use_credit mode (record consumer { next_id = consumer.next_id + 1; turn = turn })).id
        ≡ consumer.id
    by (Prefetch prefetch) = refl
    by Link = refl

pub other-handed : (turn : ℕ) (x : Item) (id q : ConsumerId) (ones : List Served) → same_consumer id q ≡ false
    → one_of q (hand_to turn x id ones) ≡ one_of q ones
other-handed turn x id q [] other = refl
other-handed turn x id q (one ∷ ones) other =
    by (cases_Bool (is_one id one)) (other-handed turn x id q ones other)
  where
    by : (is_one id one ≡ true) ⊎ (is_one id one ≡ false) → one_of q (hand_to turn x id ones) ≡ one_of q ones
        → one_of q (hand_to turn x id (one ∷ ones)) ≡ one_of q (one ∷ ones)
    by (inl is) rest =
        ap (one_of q) (cond-true (is_one id one) (serve_one turn x one ∷ ones) (one ∷ hand_to turn x id ones) is)
        ∙ cond-false (is_one q (serve_one turn x one)) (Some (serve_one turn x one)) (one_of q ones)
        (ap (λ (i : ConsumerId). same_consumer i q) (serve-id turn one.consumer) ∙ fails id q one other is)
        ∙ sym (cond-false (is_one q one) (Some one) (one_of q ones) (fails id q one other is))
    by (inr isn't) rest =
        ap (one_of q) (cond-false (is_one id one) (serve_one turn x one ∷ ones) (one ∷ hand_to turn x id ones) isn't)
        ∙ ap (λ (o : Option Served). cond (is_one q one) (Some one) o) rest

pub own-handed : (turn : ℕ) (x : Item) (id : ConsumerId) (ones : List Served) (one : Served) → one_of id ones ≡ Some one
    → one_of id (hand_to turn x id ones) ≡ Some (serve_one turn x one)
own-handed turn x id [] one found = absurd cc
own-handed turn x id (first ∷ ones) one found = by (cases_Bool (is_one id first))
    (λ is. own-handed turn x id ones one is)
  where
    by : (is_one id first ≡ true) ⊎ (is_one id first ≡ false)
        → (one_of id ones ≡ Some one → one_of id (hand_to turn x id ones) ≡ Some (serve_one turn x one))
        → one_of id (hand_to turn x id (first ∷ ones)) ≡ Some (serve_one turn x one)
    by (inl is) rest =
        let e : Some first ≡ Some one = sym (cond-true (is_one id first) (Some first) (one_of id ones) is) ∙ found in
        let same : first ≡ one = cc in
        ap (one_of id) (cond-true (is_one id first) (serve_one turn x first ∷ ones) (first ∷ hand_to turn x id ones) is)
        ∙ cond-true (is_one id (serve_one turn x first)) (Some (serve_one turn x first)) (one_of id ones)
        (ap (λ (i : ConsumerId). same_consumer i id) (serve-id turn first.consumer) ∙ is)
        ∙ ap (λ (o : Served). Some (serve_one turn x o)) same
    by (inr isn't) rest =
        ap (one_of id) (cond-false (is_one id first) (serve_one turn x first ∷ ones)
        (first ∷ hand_to turn x id ones) isn't)
        ∙ cond-false (is_one id first) (Some first) (one_of id (hand_to turn x id ones)) isn't
        ∙ rest (sym (cond-false (is_one id first) (Some first) (one_of id ones) isn't) ∙ found)

-- ---- one joins

pub other-joined : (q : ConsumerId) (ones : List Served) (new : Served) → same_consumer new.consumer.id q ≡ false
    → one_of q (ones ++ new ∷ []) ≡ one_of q ones
other-joined q [] new other = cond-false (is_one q new) (Some new) None other
other-joined q (one ∷ ones) new other =
    ap (λ (o : Option Served). cond (is_one q one) (Some one) o) (other-joined q ones new other)

pub own-joined : (ones : List Served) (new : Served) → one_of new.consumer.id ones ≡ None
    → one_of new.consumer.id (ones ++ new ∷ []) ≡ Some new
own-joined [] new none =
    cond-true (is_one new.consumer.id new) (Some new) None (same_consumer-refl new.consumer.id)
own-joined (one ∷ ones) new none = by (cases_Bool (is_one new.consumer.id one)) (λ is. own-joined ones new is)
  where
    id : ConsumerId
    id = new.consumer.id

    by : (is_one id one ≡ true) ⊎ (is_one id one ≡ false)
        → (one_of id ones ≡ None → one_of id (ones ++ new ∷ []) ≡ Some new)
        → one_of id (one ∷ ones ++ new ∷ []) ≡ Some new
    by (inl is) rest =
        let e : Some one ≡ None = sym (cond-true (is_one id one) (Some one) (one_of id ones) is) ∙ none in absurd cc
    by (inr isn't) rest =
        cond-false (is_one id one) (Some one) (one_of id (ones ++ new ∷ [])) isn't
        ∙ rest (sym (cond-false (is_one id one) (Some one) (one_of id ones) isn't) ∙ none)

-- ---- one leaves

pub other-removed : (id q : ConsumerId) (ones : List Served) → same_consumer id q ≡ false
    → one_of q (filter (λ (one : Served). not (is_one id one)) ones) ≡ one_of q ones
other-removed id q [] other = refl
other-removed id q (one ∷ ones) other = by (cases_Bool (is_one id one)) (other-removed id q ones other)
  where
    stays : Served → Bool
    stays o = not (is_one id o)

    by : (is_one id one ≡ true) ⊎ (is_one id one ≡ false) → one_of q (filter stays ones) ≡ one_of q ones
        → one_of q (filter stays (one ∷ ones)) ≡ one_of q (one ∷ ones)
    by (inl is) rest =
        ap (one_of q) (cond-false (stays one) (one ∷ filter stays ones) (filter stays ones)
        (not_from_true (is_one id one) is))
        ∙ rest ∙ sym (cond-false (is_one q one) (Some one) (one_of q ones) (fails id q one other is))
    by (inr isn't) rest =
        ap (one_of q) (cond-true (stays one) (one ∷ filter stays ones) (filter stays ones)
        (not_from_false (is_one id one) isn't))
        ∙ ap (λ (o : Option Served). cond (is_one q one) (Some one) o) rest

pub own-removed : (id : ConsumerId) (ones : List Served)
    → one_of id (filter (λ (one : Served). not (is_one id one)) ones) ≡ None
own-removed id [] = refl
own-removed id (one ∷ ones) = by (cases_Bool (is_one id one)) (own-removed id ones)
  where
    stays : Served → Bool
    stays o = not (is_one id o)

    by : (is_one id one ≡ true) ⊎ (is_one id one ≡ false) → one_of id (filter stays ones) ≡ None
        → one_of id (filter stays (one ∷ ones)) ≡ None
    by (inl is) rest =
        ap (one_of id) (cond-false (stays one) (one ∷ filter stays ones) (filter stays ones)
        (not_from_true (is_one id one) is))
        ∙ rest
    by (inr isn't) rest =
        ap (one_of id) (cond-true (stays one) (one ∷ filter stays ones) (filter stays ones)
        (not_from_false (is_one id one) isn't))
        ∙ cond-false (is_one id one) (Some one) (one_of id (filter stays ones)) isn't ∙ rest

-- where nobody has an id, nobody changes by it
pub absent-changed : (id : ConsumerId) (f : Served → Served) (ones : List Served) → one_of id ones ≡ None
    → change_by id f ones ≡ ones
absent-changed id f [] none = refl
absent-changed id f (one ∷ ones) none = by (cases_Bool (is_one id one)) (λ is. absent-changed id f ones is)
  where
    by : (is_one id one ≡ true) ⊎ (is_one id one ≡ false) → (one_of id ones ≡ None → change_by id f ones ≡ ones)
        → change_by id f (one ∷ ones) ≡ one ∷ ones
    by (inl is) rest =
        let e : Some one ≡ None = sym (cond-true (is_one id one) (Some one) (one_of id ones) is) ∙ none in absurd cc
    by (inr isn't) rest =
        ap (λ (o : Served). o ∷ change_by id f ones) (cond-false (is_one id one) (f one) one isn't)
        ∙ ap (λ (os : List Served). one ∷ os)
        (rest (sym (cond-false (is_one id one) (Some one) (one_of id ones) isn't) ∙ none))
