-- What each call makes of how much is out.
use Rattle.std.proofs.Common.{◌≡◌, ℕ, ◌+◌, ◌-◌, Bool, true, false, not, ◌&&◌, List, [], ◌∷◌, ◌++◌, Option, Some, None, map, filter, length, refl, sym, ap, ◌∙◌, subst, arith, inl, inr, if◌then◌else◌}
use Rattle.std.specs.Prelude.{is_some, nat_eq, nat_lt, sum_by}
use Rattle.std.specs.List.{AllByRecursion}
use Rattle.std.specs.Option.{option_map, option_map_or, option_and_then}
use Rattle.qq_entry.specs.declared.message.ReadyRow.{ReadyRow}
use Rattle.qq_consumer.specs.declared.row.ConsumerRow.{ConsumerRow}
use Rattle.qq_consumer.specs.Turns.{turn_of, waiting_turn}
use Rattle.qq_base.specs.declared.ids.Index.{Index}
use Rattle.qq_model.specs.declared.place.Place.TheVariants.{Out}
use Rattle.qq_consumer.specs.declared.rising.Numbered.{Numbered}
use Rattle.qq_live.specs.Indices.{is_index, occurrences}
use Rattle.qq_ledger.specs.Low.{item_index}
use Rattle.qq_ledger.specs.Ledger.{message_index, numbered_index, out_indices}
use Rattle.qq_machine.proofs.Lists.{sum-over}
use Rattle.qq_ledger.proofs.Balance.{balance-none, balance-same, balance-more, balance-less}
use Rattle.qq_machine.specs.Counted.{IsTracked, ended_indices}
use Rattle.std.proofs.lemmas.Bool.{cases_Bool, cond-true, cond-false, cond_both, and_parts, eqb-true}
use Rattle.std.proofs.lemmas.List.Sums.{sum_by-append, sum_by-cons}
use Rattle.qq_base.specs.declared.ids.SessionId.{SessionId}
use Rattle.qq_base.specs.declared.ids.ConsumerId.{ConsumerId}
use Rattle.qq_base.specs.Ids.{same_consumer}
use Rattle.qq_model.specs.declared.consumer.Consumer.{Consumer}
use Rattle.qq_parts.specs.Reduced.{Item}
use Rattle.qq_base.proofs.Lists.{In, AllByRecursion-in, AllByRecursion-weaker, find-in}
use Rattle.qq_model.proofs.OneConsumer.{same_consumer-true, same_consumer-refl}
use Rattle.qq_parts.specs.Parts.{Served, outs, AreApart, AreTwo, item_number}
use Rattle.qq_parts.specs.Outs.{Cut, cut_id, behind_item, hand_to, serve_one}
use Rattle.qq_parts.specs.Changes.{moved}
use Rattle.qq_parts.specs.Consumers.{needed_one, change_one}
use Rattle.qq_consumer.specs.Roster.{is_one, one_of, is_there, Cuts, first_cut, cut_ids, cut_rest, with_out, put_rest, put_one, drop_finished, take_turn, begin_to_wait, credit_at, ConsumersState, served_of, out_item, Roster, remove_one, first_of, is_one_of, join, new_one, credited, give_credit, give_credit_by, drained, drain, drain_by, drain_by_mode, cancel, cancel_by, take_out, take_out_by, taken_rows, row_of, end, end_by}
use Rattle.qq_parts.specs.Turns.{credit_of_one}
use Rattle.qq_machine.specs.Counted.{total}
use Rattle.qq_entry.specs.declared.command.Mode.{Mode}
use Rattle.qq_entry.specs.declared.command.Mode.TheVariants.{Prefetch, Link}

-- what is out, each message counted as this says
abbrev pub weight : (ReadyRow → ℕ) → Item → ℕ
weight g x = g (row_of x)

abbrev pub weigh : (ReadyRow → ℕ) → List Item → ℕ
weigh g xs = sum_by (weight g) xs

abbrev pub total_by : (ReadyRow → ℕ) → List Served → ℕ
total_by g ones = weigh g (outs ones)

empty : (g : ReadyRow → ℕ) (xs : List Item) → length xs ≡ 0 → weigh g xs ≡ 0
empty g [] none = refl
empty g (x ∷ xs) none = absurd (omega (arith, none))

sum-ones : {A : Type 0} (xs : List A) → sum_by (λ (x : A). 1) xs ≡ length xs
sum-ones [] = refl
sum-ones {A = A} (x ∷ xs) =
    let rest = sum-ones xs in
    let next : 1 + length xs ≡ length (x ∷ xs) = omega arith in
    sum_by-cons (λ (y : A). 1) x xs ∙ ap (λ n. 1 + n) rest ∙ next

total-cons : (g : ReadyRow → ℕ) (one : Served) (ones : List Served) → total_by g (one ∷ ones) ≡ weigh g one.out + total_by g ones
total-cons g one ones = sum_by-append (weight g) one.out (outs ones)

-- consumers that change, each with as much out
pub total-map : (g : ReadyRow → ℕ) (f : Served → Served) → ((one : Served) → weigh g (f one).out ≡ weigh g one.out)
    → (ones : List Served) → total_by g (map f ones) ≡ total_by g ones
total-map g f same [] = refl
total-map g f same (one ∷ ones) =
    total-cons g (f one) (map f ones)
    ∙ ap (λ (n : ℕ). n + total_by g (map f ones)) (same one)
    ∙ ap (λ (n : ℕ). weigh g one.out + n) (total-map g f same ones)
    ∙ sym (total-cons g one ones)

change-out : (g : ReadyRow → ℕ) (new : Consumer) (one : Served) → weigh g (change_one new one).out ≡ weigh g one.out
change-out g new one =
    cond_both (same_consumer one.consumer.id new.id) (record { consumer = new; out = one.out }) one
    (λ (o : Served). weigh g o.out ≡ weigh g one.out) (λ _. refl) (λ _. refl)

pub total-put : (g : ReadyRow → ℕ) (new : Consumer) (ones : List Served) → total_by g (put_one new ones) ≡ total_by g ones
total-put g new ones = total-map g (change_one new) (change-out g new) ones

-- those that leave have nothing out
pub total-needed : (g : ReadyRow → ℕ) (ones : List Served) → total_by g (filter needed_one ones) ≡ total_by g ones
total-needed g [] = refl
total-needed g (one ∷ ones) = elim (cases_Bool (needed_one one)) [
  | inl stays ↦
      ap (total_by g) (cond-true (needed_one one) (one ∷ filter needed_one ones) (filter needed_one ones) stays)
      ∙ total-cons g one (filter needed_one ones)
      ∙ ap (λ (n : ℕ). weigh g one.out + n) (total-needed g ones) ∙ sym (total-cons g one ones)
  | inr goes ↦
      let none : weigh g one.out ≡ 0 = empty g one.out (no-out one.consumer.cancelled (length one.out) goes) in
      let left : total_by g (filter needed_one (one ∷ ones)) ≡ total_by g (filter needed_one ones) =
      ap (total_by g) (cond-false (needed_one one) (one ∷ filter needed_one ones) (filter needed_one ones) goes) in
      let rest : total_by g (filter needed_one ones) ≡ total_by g ones = total-needed g ones in
      let all : total_by g (one ∷ ones) ≡ weigh g one.out + total_by g ones = total-cons g one ones in
      omega (arith, none, left, rest, all)
]
  where
    un-not : (b : Bool) → not b ≡ false → b ≡ true
    un-not true is = refl
    un-not false is = sym is

    no-out : (b : Bool) (n : ℕ) → not (b && nat_eq n 0) ≡ false → n ≡ 0
    no-out b n is = eqb-true n 0 (and_parts b (nat_eq n 0) (un-not (b && nat_eq n 0) is)).1

-- one joins with nothing out
pub total-join : (g : ReadyRow → ℕ) (one : Served) (ones : List Served) → one.out ≡ [] → total_by g (ones ++ one ∷ []) ≡ total_by g ones
total-join g one [] none = ap (λ (xs : List Item). weigh g (xs ++ [])) none
total-join g one (other ∷ ones) none =
    total-cons g other (ones ++ one ∷ []) ∙ ap (λ (n : ℕ). weigh g other.out + n) (total-join g one ones none)
    ∙ sym (total-cons g other ones)

-- a message more is out
pub total-hand : (g : ReadyRow → ℕ) (turn : ℕ) (x : Item) (id : ConsumerId) (ones : List Served) → is_there id ones ≡ true
    → total_by g (hand_to turn x id ones) ≡ total_by g ones + g (row_of x)
total-hand g turn x id [] there = absurd cc
total-hand g turn x id (one ∷ ones) there = elim (cases_Bool (same_consumer one.consumer.id id)) [
  | inl own ↦
      let new : Served = serve_one turn x one in
      let a : total_by g (hand_to turn x id (one ∷ ones)) ≡ total_by g (new ∷ ones) =
      ap (total_by g) (cond-true (same_consumer one.consumer.id id) (new ∷ ones) (one ∷ hand_to turn x id ones) own) in
      let b : total_by g (new ∷ ones) ≡ weigh g new.out + total_by g ones = total-cons g new ones in
      let out : Item = moved (Out one.consumer.id one.consumer.next_id) x in
      let e : weigh g new.out ≡ weigh g one.out + weigh g (out ∷ []) = sum_by-append (weight g) one.out (out ∷ []) in
      let f : weigh g (out ∷ []) ≡ g (row_of x) + 0 = sum_by-cons (weight g) out [] in
      let d : total_by g (one ∷ ones) ≡ weigh g one.out + total_by g ones = total-cons g one ones in
      omega (arith, a, b, e, d, f)
  | inr other ↦
      let a : total_by g (hand_to turn x id (one ∷ ones)) ≡ total_by g (one ∷ hand_to turn x id ones) =
      ap (total_by g) (cond-false (same_consumer one.consumer.id id) (serve_one turn x one ∷ ones) (one ∷ hand_to turn x id ones) other) in
      let b : total_by g (one ∷ hand_to turn x id ones) ≡ weigh g one.out + total_by g (hand_to turn x id ones) =
      total-cons g one (hand_to turn x id ones) in
      let rest : total_by g (hand_to turn x id ones) ≡ total_by g ones + g (row_of x) =
      total-hand g turn x id ones
      (ap is_some (sym (cond-false (is_one id one) (Some one) (one_of id ones) other)) ∙ there) in
      let d : total_by g (one ∷ ones) ≡ weigh g one.out + total_by g ones = total-cons g one ones in
      omega (arith, a, b, rest, d)
]

-- what is taken out, and the rest
cut-length : (g : ReadyRow → ℕ) (id : ℕ) (xs : List Item)
    → weigh g xs ≡ option_map_or (λ (cut : Cut). weight g cut.item + weigh g cut.rest) (cut_id id xs) (weigh g xs)
cut-length g id [] = refl
cut-length g id (x ∷ xs) = by (nat_eq (item_number x) id) (cut_id id xs) (cut-length g id xs)
  where
    by : (b : Bool) (o : Option Cut) → weigh g xs ≡ option_map_or (λ (cut : Cut). weight g cut.item + weigh g cut.rest) o (weigh g xs)
        → weigh g (x ∷ xs) ≡ option_map_or (λ (cut : Cut). weight g cut.item + weigh g cut.rest)
        (if b then Some (record { item = x; rest = xs }) else option_map (behind_item x) o) (weigh g (x ∷ xs))
    by true o rest = sum_by-cons (weight g) x xs
    by false None rest = refl
    by false (Some cut) rest =
        let more : weigh g xs ≡ weight g cut.item + weigh g cut.rest = rest in
        let a = sum_by-cons (weight g) x xs in
        let d = sum_by-cons (weight g) x cut.rest in omega (arith, more, a, d)

pub cuts-length : (g : ReadyRow → ℕ) (ids : List ℕ) (xs : List Item) → weigh g (cut_ids ids xs).items + weigh g (cut_rest ids xs) ≡ weigh g xs
cuts-length g [] xs = let all : 0 + weigh g xs ≡ weigh g xs = omega arith in all
cuts-length g (id ∷ ids) xs = by (cuts-length g ids) (cut_id id xs) (cut-length g id xs)
  where
    by : ((ys : List Item) → weigh g (cut_ids ids ys).items + weigh g (cut_rest ids ys) ≡ weigh g ys) → (o : Option Cut)
        → weigh g xs ≡ option_map_or (λ (cut : Cut). weight g cut.item + weigh g cut.rest) o (weigh g xs)
        → let cuts : Cuts = option_map_or (λ (cut : Cut). first_cut cut.item (cut_ids ids cut.rest)) o (cut_ids ids xs) in
        weigh g cuts.items + weigh g cuts.rest ≡ weigh g xs
    by shorter None same = shorter xs
    by shorter (Some cut) more =
        let is : weigh g xs ≡ weight g cut.item + weigh g cut.rest = more in
        let rest : weigh g (cut_ids ids cut.rest).items + weigh g (cut_rest ids cut.rest) ≡ weigh g cut.rest =
        shorter cut.rest in
        let a = sum_by-cons (weight g) cut.item (cut_ids ids cut.rest).items in
        omega (arith, is, rest, a)

-- The consumer of an id alone -------------------------------------------------------------------------

apart-from : (id : ConsumerId) (one : Served) (ones : List Served) → same_consumer one.consumer.id id ≡ true
    → AllByRecursion (AreTwo one) ones → AllByRecursion (λ (x : Served). is_one id x ≡ false) ones
apart-from id one ones own apart =
    let same : one.consumer.id ≡ id = same_consumer-true one.consumer.id id own in
    AllByRecursion-weaker (AreTwo one) (λ (x : Served). is_one id x ≡ false)
    (λ x two. ap (λ (i : ConsumerId). same_consumer x.consumer.id i) (sym same) ∙ two.1) ones apart

kept-all : (id : ConsumerId) (f : List Item → List Item) (ones : List Served)
    → AllByRecursion (λ (x : Served). is_one id x ≡ false) ones → map (with_out id f) ones ≡ ones
kept-all id f [] none = refl
kept-all id f (one ∷ ones) none =
    ap (λ (o : Served). o ∷ map (with_out id f) ones)
    (cond-false (is_one id one) (record { consumer = one.consumer; out = f one.out }) one none.0)
    ∙ ap (λ (os : List Served). one ∷ os) (kept-all id f ones none.1)

stays-all : (id : ConsumerId) (ones : List Served) → AllByRecursion (λ (x : Served). is_one id x ≡ false) ones
    → remove_one id ones ≡ ones
stays-all id [] none = refl
stays-all id (one ∷ ones) none =
    cond-true (not (is_one id one)) (one ∷ remove_one id ones) (remove_one id ones) (ap not none.0)
    ∙ ap (λ (os : List Served). one ∷ os) (stays-all id ones none.1)

-- messages are taken out of it
pub total-taken : (g : ReadyRow → ℕ) (ids : List ℕ) (id : ConsumerId) (one : Served) (ones : List Served) → AreApart ones
    → one_of id ones ≡ Some one
    → total_by g (put_rest id ids ones) + weigh g (cut_ids ids one.out).items ≡ total_by g ones
total-taken g ids id one [] apart found = absurd cc
total-taken g ids id one (o ∷ ones) apart found = elim (cases_Bool (is_one id o)) [
  | inl own ↦
      let is : Some o ≡ Some one = sym (cond-true (is_one id o) (Some o) (one_of id ones) own) ∙ found in
      let same : o ≡ one = cc in
      let new : Served = record { consumer = o.consumer; out = cut_rest ids o.out } in
      let a : total_by g (put_rest id ids (o ∷ ones)) ≡ total_by g (new ∷ ones) =
      ap (λ (x : Served). total_by g (x ∷ put_rest id ids ones)) (cond-true (is_one id o) new o own)
      ∙ ap (λ (os : List Served). total_by g (new ∷ os)) (kept-all id (cut_rest ids) ones (apart-from id o ones own apart.0)) in
      let b : total_by g (new ∷ ones) ≡ weigh g (cut_rest ids o.out) + total_by g ones = total-cons g new ones in
      let e : weigh g (cut_ids ids one.out).items ≡ weigh g (cut_ids ids o.out).items =
      ap (λ (x : Served). weigh g (cut_ids ids x.out).items) (sym same) in
      let d : weigh g (cut_ids ids o.out).items + weigh g (cut_rest ids o.out) ≡ weigh g o.out = cuts-length g ids o.out in
      let all : total_by g (o ∷ ones) ≡ weigh g o.out + total_by g ones = total-cons g o ones in
      omega (arith, a, b, e, d, all)
  | inr other ↦
      let rest : total_by g (put_rest id ids ones) + weigh g (cut_ids ids one.out).items ≡ total_by g ones =
      total-taken g ids id one ones apart.1
      (sym (cond-false (is_one id o) (Some o) (one_of id ones) other) ∙ found) in
      let a : total_by g (put_rest id ids (o ∷ ones)) ≡ total_by g (o ∷ put_rest id ids ones) =
      ap (λ (x : Served). total_by g (x ∷ put_rest id ids ones))
      (cond-false (is_one id o) (record { consumer = o.consumer; out = cut_rest ids o.out }) o other) in
      let b : total_by g (o ∷ put_rest id ids ones) ≡ weigh g o.out + total_by g (put_rest id ids ones) =
      total-cons g o (put_rest id ids ones) in
      let all : total_by g (o ∷ ones) ≡ weigh g o.out + total_by g ones = total-cons g o ones in
      omega (arith, rest, a, b, all)
]

first-in : (session : SessionId) (ones : List Served) (one : Served) → first_of session ones ≡ Some one → In one ones
first-in session ones one found = (find-in (is_one_of session) ones one found).0

-- the longest joined consumer of a session leaves
pub total-end : (g : ReadyRow → ℕ) (session : SessionId) (one : Served) (ones : List Served) → AreApart ones
    → first_of session ones ≡ Some one
    → total_by g (remove_one one.consumer.id ones) + weigh g one.out ≡ total_by g ones
total-end g session one [] apart found = absurd cc
total-end g session one (o ∷ ones) apart found = elim (cases_Bool (is_one_of session o)) [
  | inl own ↦
      let is : Some o ≡ Some one = sym (cond-true (is_one_of session o) (Some o) (first_of session ones) own) ∙ found in
      let same : o ≡ one = cc in
      let itself : is_one one.consumer.id o ≡ true =
      ap (λ (x : Served). is_one x.consumer.id o) (sym same) ∙ same_consumer-refl o.consumer.id in
      let a : total_by g (remove_one one.consumer.id (o ∷ ones)) ≡ total_by g ones =
      ap (total_by g) (cond-false (not (is_one one.consumer.id o)) (o ∷ remove_one one.consumer.id ones)
      (remove_one one.consumer.id ones) (ap not itself)
      ∙ stays-all one.consumer.id ones (apart-from one.consumer.id o ones itself apart.0)) in
      let e : weigh g one.out ≡ weigh g o.out = ap (λ (x : Served). weigh g x.out) (sym same) in
      let all : total_by g (o ∷ ones) ≡ weigh g o.out + total_by g ones = total-cons g o ones in
      omega (arith, a, e, all)
  | inr other ↦
      let later : first_of session ones ≡ Some one =
      sym (cond-false (is_one_of session o) (Some o) (first_of session ones) other) ∙ found in
      let two : AreTwo o one = AllByRecursion-in (AreTwo o) one ones apart.0 (first-in session ones one later) in
      let rest : total_by g (remove_one one.consumer.id ones) + weigh g one.out ≡ total_by g ones =
      total-end g session one ones apart.1 later in
      let a : total_by g (remove_one one.consumer.id (o ∷ ones)) ≡ total_by g (o ∷ remove_one one.consumer.id ones) =
      ap (total_by g) (cond-true (not (is_one one.consumer.id o)) (o ∷ remove_one one.consumer.id ones)
      (remove_one one.consumer.id ones) (ap not two.0)) in
      let b : total_by g (o ∷ remove_one one.consumer.id ones) ≡ weigh g o.out + total_by g (remove_one one.consumer.id ones) =
      total-cons g o (remove_one one.consumer.id ones) in
      let all : total_by g (o ∷ ones) ≡ weigh g o.out + total_by g ones = total-cons g o ones in
      omega (arith, rest, a, b, all)
]

-- A turn is drawn -------------------------------------------------------------------------------------

pub total-waits : (g : ReadyRow → ℕ) (before : ℕ) (id : ConsumerId) (r : Roster)
    → total_by g (begin_to_wait before id r).served ≡ total_by g r.served
total-waits g before id r =
    cond_both (nat_eq before 0 && nat_lt 0 (credit_at id r.served)) (take_turn (one_of id r.served) r) r
    (λ (k : Roster). total_by g k.served ≡ total_by g r.served) (λ _. turn (one_of id r.served)) (λ _. refl)
  where
    turn : (o : Option Served) → total_by g (take_turn o r).served ≡ total_by g r.served
    turn None = refl
    turn (Some one) = total-put g (record (one.consumer) { turn = r.turns + 1 }) r.served

-- Calls -----------------------------------------------------------------------------------------------

pub total-subscribe : (g : ReadyRow → ℕ) (id : ConsumerId) (mode : Mode) (r : Roster) → total_by g (join id mode r).served ≡ total_by g r.served
total-subscribe g id mode r = total-join g (new_one id mode (r.turns + 1)) r.served refl

pub total-credit : (g : ReadyRow → ℕ) (id : ConsumerId) (credit : ℕ) (r : Roster)
    → total_by g (give_credit id credit r).served ≡ total_by g r.served
total-credit g id credit r = by (one_of id r.served)
  where
    by : (o : Option Served) → total_by g (give_credit_by o credit r).served ≡ total_by g r.served
    by None = refl
    by (Some one) =
        let new : Consumer = credited (credit - one.consumer.count) one.consumer in
        total-waits g one.consumer.credit one.consumer.id (record r { served = put_one new r.served })
        ∙ total-put g new r.served

pub total-drain : (g : ReadyRow → ℕ) (id : ConsumerId) (r : Roster) → total_by g (drain id r).served ≡ total_by g r.served
total-drain g id r = by (one_of id r.served)
  where
    by_mode : (mode : Mode) (consumer : Consumer) → total_by g (drain_by_mode mode consumer r).served ≡ total_by g r.served
    by_mode (Prefetch prefetch) consumer = refl
    by_mode Link consumer = total-put g (drained consumer) r.served

    by : (o : Option Served) → total_by g (drain_by o r).served ≡ total_by g r.served
    by None = refl
    by (Some one) = by_mode one.consumer.mode one.consumer

pub total-cancel : (g : ReadyRow → ℕ) (id : ConsumerId) (r : Roster) → total_by g (cancel id r).served ≡ total_by g r.served
total-cancel g id r = by (one_of id r.served)
  where
    by : (o : Option Served) → total_by g (cancel_by o r).served ≡ total_by g r.served
    by None = refl
    by (Some one) =
        let new : Consumer = record (one.consumer) { cancelled = true } in
        let left : Roster = drop_finished (record r { served = put_one new r.served }) in
        cond_both one.consumer.cancelled r left (λ (k : Roster). total_by g k.served ≡ total_by g r.served) (λ _. refl)
        (λ _. total-needed g (put_one new r.served) ∙ total-put g new r.served)

pub total-take : (g : ReadyRow → ℕ) (ids : List ℕ) (id : ConsumerId) (one : Served) (r : Roster) → AreApart r.served
    → one_of id r.served ≡ Some one
    → total_by g (take_out id ids r).served + sum_by g (taken_rows ids one) ≡ total_by g r.served
total-take g ids id one r apart found =
    let cut : Roster = record r { served = put_rest id ids r.served } in
    let a : total_by g (take_out id ids r).served ≡ total_by g (put_rest id ids r.served) =
    ap (λ (o : Option Served). total_by g (take_out_by o id ids r).served) found
    ∙ total-waits g (credit_of_one one) id (drop_finished cut)
    ∙ total-needed g cut.served in
    let b : sum_by g (taken_rows ids one) ≡ weigh g (cut_ids ids one.out).items =
    sum-over g row_of (cut_ids ids one.out).items in
    let rest = total-taken g ids id one r.served apart found in
    omega (arith, a, b, rest)

pub total-leave : (g : ReadyRow → ℕ) (session : SessionId) (one : Served) (r : Roster) → AreApart r.served
    → first_of session r.served ≡ Some one → total_by g (end session r).served + weigh g one.out ≡ total_by g r.served
total-leave g session one r apart found =
    let a : total_by g (end session r).served ≡ total_by g (remove_one one.consumer.id r.served) =
    ap (λ (o : Option Served). total_by g (end_by o r).served) found in
    let rest = total-end g session one r.served apart found in
    omega (arith, a, rest)

pub total-served : (g : ReadyRow → ℕ) (turn : ℕ) (x : Item) (id : ConsumerId) (ones : List Served)
    → is_some (waiting_turn ones id) ≡ true → total_by g (hand_to turn x id ones) ≡ total_by g ones + g (row_of x)
total-served g turn x id ones may = total-hand g turn x id ones (there (one_of id ones) may)
  where
    there : (o : Option Served) → is_some (option_and_then turn_of o) ≡ true → is_some o ≡ true
    there None is = absurd cc
    there (Some one) is = refl

-- what leaves with a consumer
ended-by : (g : ReadyRow → ℕ) (session : SessionId) (o : Option ConsumerRow) (r : Roster) → AreApart r.served
    → option_map served_of o ≡ first_of session r.served
    → total_by g (end session r).served
    + option_map_or (λ (row : ConsumerRow). sum_by (λ (one : Numbered ReadyRow). g one.item) row.out.items) o 0
    ≡ total_by g r.served
ended-by g session None r apart is =
    let same : total_by g (end session r).served ≡ total_by g r.served =
    ap (λ (o : Option Served). total_by g (end_by o r).served) (sym is) in
    omega (arith, same)
ended-by g session (Some row) r apart is =
    let gone = total-leave g session (served_of row) r apart (sym is) in
    let long : weigh g (served_of row).out ≡ sum_by (λ (one : Numbered ReadyRow). g one.item) row.out.items =
    sum-over (weight g) (out_item row.consumer.id) row.out.items in
    omega (arith, gone, long)

-- what is taken out of it
taken-by : {V : Type 0} (g : ReadyRow → ℕ) (items : V → List ReadyRow) (ids : List ℕ) (id : ConsumerId) (o : Option V)
    (r : Roster) → AreApart r.served → option_map items o ≡ option_map (taken_rows ids) (one_of id r.served)
    → total_by g (take_out id ids r).served + option_map_or (λ (v : V). sum_by g (items v)) o 0 ≡ total_by g r.served
taken-by {V = V} g items ids id o r apart is =
    let gone = by (one_of id r.served) refl in
    let count : option_map_or (λ (v : V). sum_by g (items v)) o 0
    ≡ option_map_or (sum_by g) (option_map (taken_rows ids) (one_of id r.served)) 0 =
    sums o ∙ ap (λ (rows : Option (List ReadyRow)). option_map_or (sum_by g) rows 0) is in
    omega (arith, gone, count)
  where
    sums : (o : Option V) → option_map_or (λ (v : V). sum_by g (items v)) o 0
        ≡ option_map_or (sum_by g) (option_map items o) 0
    sums None = refl
    sums (Some v) = refl

    by : (f : Option Served) → one_of id r.served ≡ f
        → total_by g (take_out id ids r).served
        + option_map_or (sum_by g) (option_map (taken_rows ids) (one_of id r.served)) 0 ≡ total_by g r.served
    by None found =
        let same : total_by g (take_out id ids r).served ≡ total_by g r.served =
        ap (λ (f : Option Served). total_by g (take_out_by f id ids r).served) found in
        let none : option_map_or (sum_by g) (option_map (taken_rows ids) (one_of id r.served)) 0 ≡ 0 =
        ap (λ (f : Option Served). option_map_or (sum_by g) (option_map (taken_rows ids) f) 0) found in
        omega (arith, same, none)
    by (Some one) found =
        let gone = total-take g ids id one r apart found in
        let count : option_map_or (sum_by g) (option_map (taken_rows ids) (one_of id r.served)) 0
        ≡ sum_by g (taken_rows ids one) =
        ap (λ (f : Option Served). option_map_or (sum_by g) (option_map (taken_rows ids) f) 0) found in
        omega (arith, gone, count)

-- How many are out ------------------------------------------------------------------------------------

pub count-is : (ones : List Served) → total ones ≡ total_by (λ (row : ReadyRow). 1) ones
count-is ones = sym (sum-ones (outs ones))

pub left-by : (session : SessionId) (o : Option ConsumerRow) (r : Roster) (n m : ℕ) → AreApart r.served
    → option_map served_of o ≡ first_of session r.served → n ≡ total r.served
    → m ≡ n - option_map_or (λ (row : ConsumerRow). length row.out.items) o 0 → m ≡ total (end session r).served
left-by session o r n m apart is all left =
    let gone = ended-by (λ (row : ReadyRow). 1) session o r apart is in
    let a = count-is r.served in
    let b = count-is (end session r).served in
    let e = lengths o in
    omega (arith, all, left, gone, a, b, e)
  where
    lengths : (o : Option ConsumerRow)
        → option_map_or (λ (row : ConsumerRow). sum_by (λ (one : Numbered ReadyRow). 1) row.out.items) o 0
        ≡ option_map_or (λ (row : ConsumerRow). length row.out.items) o 0
    lengths None = refl
    lengths (Some row) = sum-ones row.out.items

pub left-without : {V : Type 0} (items : V → List ReadyRow) (ids : List ℕ) (id : ConsumerId) (o : Option V)
    (r : Roster) (n m : ℕ) → AreApart r.served
    → option_map items o ≡ option_map (taken_rows ids) (one_of id r.served) → n ≡ total r.served
    → m ≡ n - option_map_or (λ (v : V). length (items v)) o 0 → m ≡ total (take_out id ids r).served
left-without {V = V} items ids id o r n m apart is all left =
    let gone = taken-by (λ (row : ReadyRow). 1) items ids id o r apart is in
    let a = count-is r.served in
    let b = count-is (take_out id ids r).served in
    let e = lengths o in
    omega (arith, all, left, gone, a, b, e)
  where
    lengths : (o : Option V) → option_map_or (λ (v : V). sum_by (λ (row : ReadyRow). 1) (items v)) o 0
        ≡ option_map_or (λ (v : V). length (items v)) o 0
    lengths None = refl
    lengths (Some v) = sum-ones (items v)

-- a message more is out, and calls that leave as many
pub count-served : (turn : ℕ) (x : Item) (id : ConsumerId) (ones : List Served)
    → is_some (waiting_turn ones id) ≡ true → total (hand_to turn x id ones) ≡ total ones + 1
count-served turn x id ones may =
    count-is (hand_to turn x id ones) ∙ total-served (λ (row : ReadyRow). 1) turn x id ones may
    ∙ ap (λ (n : ℕ). n + 1) (sym (count-is ones))

pub count-same : (old new : List Served) → ((g : ReadyRow → ℕ) → total_by g new ≡ total_by g old) → total new ≡ total old
count-same old new same = count-is new ∙ same (λ (row : ReadyRow). 1) ∙ sym (count-is old)

-- Which are out ---------------------------------------------------------------------------------------

abbrev pub named : ℕ → ReadyRow → ℕ
named i row = if is_index i row.index then 1 else 0

pub named-is : (i : ℕ) (ones : List Served) → occurrences i (out_indices ones) ≡ total_by (named i) ones
named-is i ones = sum-over (λ (index : Index). if is_index i index then 1 else 0) item_index (outs ones)

pub named-same : (old new : List Served) → ((g : ReadyRow → ℕ) → total_by g new ≡ total_by g old) → (i : ℕ)
    → occurrences i (out_indices new) ≡ occurrences i (out_indices old)
named-same old new same i = named-is i new ∙ same (named i) ∙ sym (named-is i old)

pub named-served : (turn : ℕ) (x : Item) (id : ConsumerId) (ones : List Served)
    → is_some (waiting_turn ones id) ≡ true → (i : ℕ)
    → occurrences i (out_indices (hand_to turn x id ones))
    ≡ occurrences i (out_indices ones) + occurrences i (x.row.index ∷ [])
named-served turn x id ones may i =
    let a = named-is i (hand_to turn x id ones) in
    let b = named-is i ones in
    let e = total-served (named i) turn x id ones may in
    let f : occurrences i (x.row.index ∷ []) ≡ named i (row_of x) + 0 =
    sum_by-cons (λ (index : Index). if is_index i index then 1 else 0) x.row.index [] in
    omega (arith, a, b, e, f)

pub named-ended : (session : SessionId) (o : Option ConsumerRow) (r : Roster) → AreApart r.served
    → option_map served_of o ≡ first_of session r.served → (i : ℕ)
    → occurrences i (out_indices r.served)
    ≡ occurrences i (out_indices (end session r).served) + occurrences i (ended_indices o)
named-ended session o r apart is i =
    let a = named-is i r.served in
    let b = named-is i (end session r).served in
    let e = ended-by (named i) session o r apart is in
    let f = sums o in
    omega (arith, a, b, e, f)
  where
    sums : (o : Option ConsumerRow) → occurrences i (ended_indices o)
        ≡ option_map_or (λ (row : ConsumerRow). sum_by (λ (one : Numbered ReadyRow). named i one.item) row.out.items) o 0
    sums None = refl
    sums (Some row) = sum-over (λ (index : Index). if is_index i index then 1 else 0) numbered_index row.out.items

pub named-taken : {V : Type 0} (items : V → List ReadyRow) (ids : List ℕ) (id : ConsumerId) (o : Option V) (r : Roster)
    → AreApart r.served → option_map items o ≡ option_map (taken_rows ids) (one_of id r.served) → (i : ℕ)
    → occurrences i (out_indices r.served)
    ≡ occurrences i (out_indices (take_out id ids r).served)
    + occurrences i (option_map_or (λ (v : V). map message_index (items v)) o [])
named-taken {V = V} items ids id o r apart is i =
    let a = named-is i r.served in
    let b = named-is i (take_out id ids r).served in
    let e = taken-by (named i) items ids id o r apart is in
    let f = sums o in
    omega (arith, a, b, e, f)
  where
    sums : (o : Option V) → occurrences i (option_map_or (λ (v : V). map message_index (items v)) o [])
        ≡ option_map_or (λ (v : V). sum_by (named i) (items v)) o 0
    sums None = refl
    sums (Some v) = sum-over (λ (index : Index). if is_index i index then 1 else 0) message_index (items v)

-- What is kept ----------------------------------------------------------------------------------------

-- as many are out, and the same
pub keeps-same : (old new : ConsumersState) (out base : ℕ) (came gone : List Index) → IsTracked old out base came gone
    → ((g : ReadyRow → ℕ) → total_by g new.roster.served ≡ total_by g old.roster.served) → new.base ≡ old.base
    → IsTracked new out base came gone
keeps-same old new out base came gone tracked same still =
    record {
      counted =
          record {
            now_out = tracked.counted.now_out ∙ sym (count-same old.roster.served new.roster.served same);
            base_out = tracked.counted.base_out ∙ sym (ap (λ (r : Roster). total r.served) still);
          };
      balance =
          balance-same tracked.balance
          (ap (λ (r : Roster). out_indices r.served) still)
          (named-same old.roster.served new.roster.served same) refl refl;
    }

-- the same is written down
pub keeps-named : (consumers : ConsumersState) (out base : ℕ) (came gone came' gone' : List Index)
    → IsTracked consumers out base came gone → came' ≡ came → gone' ≡ gone → IsTracked consumers out base came' gone'
keeps-named consumers out base came gone came' gone' tracked comes goes =
    subst (λ (xs : List Index). IsTracked consumers out base xs gone') (sym comes)
    (subst (λ (xs : List Index). IsTracked consumers out base came xs) (sym goes) tracked)

-- one more is out
pub keeps-more : (old new : ConsumersState) (out base after : ℕ) (came gone came' gone' : List Index) (index : Index)
    → IsTracked old out base came gone → after ≡ total new.roster.served
    → ((i : ℕ) → occurrences i (out_indices new.roster.served)
    ≡ occurrences i (out_indices old.roster.served) + occurrences i (index ∷ []))
    → new.base ≡ old.base → came' ≡ came ++ index ∷ [] → gone' ≡ gone → IsTracked new after base came' gone'
keeps-more old new out base after came gone came' gone' index tracked count more still comes goes =
    record {
      counted =
          record {
            now_out = count;
            base_out = tracked.counted.base_out ∙ sym (ap (λ (r : Roster). total r.served) still);
          };
      balance =
          balance-more (index ∷ []) tracked.balance
          (ap (λ (r : Roster). out_indices r.served) still) more comes goes;
    }

-- these are no longer out
pub keeps-less : (old new : ConsumersState) (out base after : ℕ) (came gone came' gone' less : List Index)
    → IsTracked old out base came gone → after ≡ total new.roster.served
    → ((i : ℕ) → occurrences i (out_indices old.roster.served)
    ≡ occurrences i (out_indices new.roster.served) + occurrences i less)
    → new.base ≡ old.base → came' ≡ came → gone' ≡ gone ++ less → IsTracked new after base came' gone'
keeps-less old new out base after came gone came' gone' less tracked count fewer still comes goes =
    record {
      counted =
          record {
            now_out = count;
            base_out = tracked.counted.base_out ∙ sym (ap (λ (r : Roster). total r.served) still);
          };
      balance =
          balance-less less tracked.balance
          (ap (λ (r : Roster). out_indices r.served) still) fewer comes goes;
    }

-- all is as it was at the last commit
pub keeps-back : (old failed new : ConsumersState) (out base : ℕ) (came gone came' gone' : List Index)
    → IsTracked old out base came gone → failed.base ≡ old.base → new.roster ≡ failed.base → new.base ≡ failed.base
    → came' ≡ [] → gone' ≡ [] → IsTracked new base base came' gone'
keeps-back old failed new out base came gone came' gone' tracked same back stays comes goes =
    record {
      counted =
          record {
            now_out = tracked.counted.base_out ∙ sym (ap (λ (r : Roster). total r.served) (back ∙ same));
            base_out = tracked.counted.base_out ∙ sym (ap (λ (r : Roster). total r.served) (stays ∙ same));
          };
      balance =
          balance-none (ap (λ (r : Roster). out_indices r.served) (back ∙ sym stays)) comes goes;
    }

-- a copy is of what is now, with nothing written down
pub keeps-copy : (old new : ConsumersState) (out base : ℕ) (came gone came' gone' : List Index)
    → IsTracked old out base came gone → new.roster ≡ old.roster → new.base ≡ old.roster → came' ≡ [] → gone' ≡ []
    → IsTracked new out out came' gone'
keeps-copy old new out base came gone came' gone' tracked same stays comes goes =
    record {
      counted =
          record {
            now_out = tracked.counted.now_out ∙ sym (ap (λ (r : Roster). total r.served) same);
            base_out = tracked.counted.now_out ∙ sym (ap (λ (r : Roster). total r.served) stays);
          };
      balance =
          balance-none (ap (λ (r : Roster). out_indices r.served) (same ∙ sym stays)) comes goes;
    }
