-- Deliveries of a consumer end: it leaves, draws a turn, or stays as it was.
use Rattle.std.proofs.Common.{◌≡◌, ◌⊎◌, ◌+◌, ◌-◌, ◌<◌, ◌≤◌, ℕ, zero, suc, Bool, true, false, not, ◌&&◌, cond, List, [], ◌∷◌, Option, Some, None, IfSome, length, refl, sym, ap, ◌∙◌, subst, inl, inr, arith}
use Rattle.std.specs.Prelude.{nat_eq, nat_lt, filter}
use Rattle.std.specs.List.{AllByRecursion}
use Rattle.std.specs.Option.{option_map, option_map_or, option_and_then}
use Rattle.std.proofs.lemmas.Bool.{false≢true, cases_Bool, cond-true, cond-false, not_from_true, not_from_false, lt-ltb, eqb-true}
use Rattle.qq_base.specs.declared.ids.ConsumerId.{ConsumerId}
use Rattle.qq_entry.specs.declared.command.Mode.{Mode}
use Rattle.qq_entry.specs.declared.command.Mode.TheVariants.{Prefetch, Link}
use Rattle.qq_model.specs.declared.consumer.Consumer.{Consumer}
use Rattle.qq_model.specs.Choice.{credit_left, prefetch_limit}
use Rattle.qq_parts.specs.Reduced.{Item}
use Rattle.qq_parts.specs.Parts.{Served, AreApart, item_number}
use Rattle.qq_parts.specs.Outs.{Cut, cut_id, behind_item}
use Rattle.qq_parts.specs.Turns.{credit_of_one, may_serve}
use Rattle.qq_parts.specs.Consumers.{needed_one}
use Rattle.qq_consumer.specs.Roster.{Roster, roster_of, is_one, one_of, put_one, put_rest, cut_ids, cut_rest, first_cut, credit_at, take_turn, begin_to_wait, take_out_by, take_out, remove_one}
use Rattle.qq_consumer.specs.declared.next.Next.{Next}
use Rattle.qq_consumer.specs.Next.{IsNext, IsNextOf}
use Rattle.qq_consumer.specs.Numbers.{AreBelow}
use Rattle.qq_consumer.specs.Turns.{turn_of, waiting_turn, Waiting, IsQueue, IsKept, leave, enter}
use Rattle.qq_consumer.proofs.JoinedRows.{change_by}
use Rattle.qq_consumer.proofs.Ones.{other-changed, own-changed, own-removed}
use Rattle.qq_consumer.proofs.Keeping.{FindsOthers, IsNeeded, moved-queue, kept-queue, drawn-turn}
use Rattle.qq_consumer.proofs.Queueing.{below-last}
use Rattle.qq_consumer.proofs.Changing.{IsThere, with_consumer, found-id, put-others, put-own, changed-needed, filter-all, filter-finished, cancelled-none, waits-by, removed-kept, both-false}

-- what is left with a consumer
abbrev pub with_rest : List ℕ → Served → Served
with_rest ids one = record { consumer = one.consumer; out = cut_rest ids one.out }

-- ---- what is left is no more

pub cut-shorter : (ids : List ℕ) (out : List Item) → length (cut_rest ids out) ≤ length out
cut-shorter [] out = omega arith
cut-shorter (id ∷ ids) out = by (cut_id id out) refl (λ xs. cut-shorter ids xs)
  where
    fewer : (xs : List Item) (cut : Cut) → cut_id id xs ≡ Some cut → length cut.rest ≤ length xs
    fewer [] cut found = absurd cc
    fewer (x ∷ xs) cut found = at (cases_Bool (nat_eq (item_number x) id)) (λ inner is. fewer xs inner is)
      where
        behind : (o : Option Cut) → option_map (behind_item x) o ≡ Some cut
            → ((inner : Cut) → o ≡ Some inner → length inner.rest ≤ length xs) → length cut.rest ≤ length (x ∷ xs)
        behind None is rest = absurd cc
        behind (Some inner) is rest =
            let same : behind_item x inner ≡ cut = cc in
            let le : length inner.rest ≤ length xs = rest inner refl in
            let le' : length (behind_item x inner).rest ≤ length (x ∷ xs) = omega (arith, le) in
            subst (λ (c : Cut). length c.rest ≤ length (x ∷ xs)) same le'

        at : (nat_eq (item_number x) id ≡ true) ⊎ (nat_eq (item_number x) id ≡ false)
            → ((inner : Cut) → cut_id id xs ≡ Some inner → length inner.rest ≤ length xs)
            → length cut.rest ≤ length (x ∷ xs)
        at (inl here) rest =
            let e : Some (record { item = x; rest = xs }) ≡ Some cut =
            sym (cond-true (nat_eq (item_number x) id) (Some (record { item = x; rest = xs }))
            (option_map (behind_item x) (cut_id id xs)) here) ∙ found in
            let same : record { item = x; rest = xs } ≡ cut = cc in
            let le : length xs ≤ length (x ∷ xs) = omega arith in
            subst (λ (c : Cut). length c.rest ≤ length (x ∷ xs)) same le
        at (inr other) rest =
            behind (cut_id id xs) (sym (cond-false (nat_eq (item_number x) id) (Some (record { item = x; rest = xs }))
            (option_map (behind_item x) (cut_id id xs)) other) ∙ found) rest

    by : (o : Option Cut) → cut_id id out ≡ o → ((xs : List Item) → length (cut_rest ids xs) ≤ length xs)
        → length (option_map_or (λ (cut : Cut). first_cut cut.item (cut_ids ids cut.rest)) o (cut_ids ids out)).rest
        ≤ length out
    by None is rest = rest out
    by (Some cut) is rest =
        let inner : length (cut_rest ids cut.rest) ≤ length cut.rest = rest cut.rest in
        let outer : length cut.rest ≤ length out = fewer out cut is in
        omega (arith, inner, outer)

more-credit : (mode : Mode) (credit few many : ℕ) → few ≤ many
    → credit_left mode credit many ≤ credit_left mode credit few
more-credit (Prefetch prefetch) credit few many le =
    let limit : ℕ = prefetch_limit prefetch in
    let e : limit - many ≤ limit - few = omega (arith, le) in e
more-credit Link credit few many le = omega arith

-- ---- the consumer after it

rest-keeps : (id : ConsumerId) (ids : List ℕ) (one : Served) → is_one id one ≡ true → is_one id (with_rest ids one)
    ≡ true
rest-keeps id ids one is = is

rest-others : (id : ConsumerId) (ids : List ℕ) (ones : List Served) → FindsOthers id ones (put_rest id ids ones)
rest-others id ids ones q other = other-changed id q (with_rest ids) ones (rest-keeps id ids) other

rest-own : (ids : List ℕ) (one : Served) (ones : List Served) → IsThere one ones
    → one_of one.consumer.id (put_rest one.consumer.id ids ones) ≡ Some (with_rest ids one)
rest-own ids one ones there = own-changed one.consumer.id (with_rest ids) ones one
    (rest-keeps one.consumer.id ids) there

-- without a consumer its change doesn't show
remove-changed : (id : ConsumerId) (ids : List ℕ) (ones : List Served) → remove_one id (put_rest id ids ones)
    ≡ remove_one id ones
remove-changed id ids [] = refl
remove-changed id ids (one ∷ ones) = by (cases_Bool (is_one id one)) (remove-changed id ids ones)
  where
    stays : Served → Bool
    stays o = not (is_one id o)

    now : Served
    now = cond (is_one id one) (with_rest ids one) one

    by : (is_one id one ≡ true) ⊎ (is_one id one ≡ false) → remove_one id (put_rest id ids ones) ≡ remove_one id ones
        → remove_one id (put_rest id ids (one ∷ ones)) ≡ remove_one id (one ∷ ones)
    by (inl is) rest =
        ap (λ (o : Served). filter stays (o ∷ put_rest id ids ones))
        (cond-true (is_one id one) (with_rest ids one) one is)
        ∙ cond-false (stays (with_rest ids one)) (with_rest ids one ∷ filter stays (put_rest id ids ones))
        (filter stays (put_rest id ids ones)) (not_from_true (is_one id one) is)
        ∙ rest ∙ sym (cond-false (stays one) (one ∷ filter stays ones) (filter stays ones)
        (not_from_true (is_one id one) is))
    by (inr isn't) rest =
        ap (λ (o : Served). filter stays (o ∷ put_rest id ids ones))
        (cond-false (is_one id one) (with_rest ids one) one isn't)
        ∙ cond-true (stays one) (one ∷ filter stays (put_rest id ids ones)) (filter stays (put_rest id ids ones))
        (not_from_false (is_one id one) isn't)
        ∙ ap (λ (os : List Served). one ∷ os) rest
        ∙ sym (cond-true (stays one) (one ∷ filter stays ones) (filter stays ones)
        (not_from_false (is_one id one) isn't))

-- ---- it leaves

cancelled-of : (one : Served) → needed_one one ≡ false → one.consumer.cancelled ≡ true
cancelled-of one over = by one.consumer.cancelled refl
  where
    by : (b : Bool) → one.consumer.cancelled ≡ b → b ≡ true
    by true is = refl
    by false is =
        absurd (false≢true (sym over ∙ ap (λ (c : Bool). not (c && nat_eq (length one.out) 0)) is))

pub leaves-roster : (ids : List ℕ) (one : Served) (ones : List Served) (turns : ℕ) → AreApart ones → IsThere one ones
    → AllByRecursion IsNeeded ones → needed_one (with_rest ids one) ≡ false
    → roster_of (remove_one one.consumer.id (put_rest one.consumer.id ids ones)) turns
    ≡ take_out_by (Some one) one.consumer.id ids (roster_of ones turns)
leaves-roster ids one ones turns apart there needed over =
    let id : ConsumerId = one.consumer.id in
    let left : Roster = roster_of (remove_one id ones) turns in
    ap (λ (s : List Served). roster_of s turns) (remove-changed id ids ones)
    ∙ sym (ap (λ (s : List Served). begin_to_wait (credit_of_one one) id (roster_of s turns))
    (filter-finished id (with_rest ids) ones one apart there needed over)
    ∙ cond-false (nat_eq (credit_of_one one) 0 && nat_lt 0 (credit_at id left.served))
    (take_turn (one_of id left.served) left)
    left (ap (λ (o : Option Served). nat_eq (credit_of_one one) 0 && nat_lt 0 (option_map_or credit_of_one o 0))
    (own-removed id ones) ∙ both-false (nat_eq (credit_of_one one) 0)))

pub leaves-kept : (ids : List ℕ) (one : Served) (ones : List Served) (turns : ℕ) (ws : Waiting) → IsThere one ones
    → IsKept ws (roster_of ones turns) → needed_one (with_rest ids one) ≡ false
    → IsKept ws (roster_of (remove_one one.consumer.id (put_rest one.consumer.id ids ones)) turns)
leaves-kept ids one ones turns ws there kept over =
    let id : ConsumerId = one.consumer.id in
    let none : waiting_turn ones id ≡ None =
    ap (option_and_then turn_of) there ∙ cancelled-none one (cancelled-of (with_rest ids one) over) in
    subst (λ (s : List Served). IsKept ws (roster_of s turns)) (sym (remove-changed id ids ones))
    (subst (λ (o : Option ℕ). IsKept (leave o ws) (roster_of (remove_one id ones) turns)) none
    (removed-kept id ones turns ws kept))

-- ---- it draws a turn

pub draws-roster : (ids : List ℕ) (one : Served) (ones : List Served) (turns : ℕ) → AreApart ones → IsThere one ones
    → AllByRecursion IsNeeded ones → needed_one (with_rest ids one) ≡ true
    → (nat_eq (credit_of_one one) 0 && nat_lt 0 (credit_of_one (with_rest ids one))) ≡ true
    → roster_of (put_one (record (one.consumer) { turn = turns + 1 }) (put_rest one.consumer.id ids ones)) (turns + 1)
    ≡ take_out_by (Some one) one.consumer.id ids (roster_of ones turns)
draws-roster ids one ones turns apart there needed still waits =
    let id : ConsumerId = one.consumer.id in
    let r : Roster = roster_of (put_rest id ids ones) turns in
    sym (ap (λ (s : List Served). begin_to_wait (credit_of_one one) id (roster_of s turns))
    (filter-all (put_rest id ids ones) (changed-needed id (with_rest ids) ones one apart there needed still))
    ∙ waits-by (credit_of_one one) id r (with_rest ids one) (rest-own ids one ones there)
    ∙ cond-true (nat_eq (credit_of_one one) 0 && nat_lt 0 (credit_of_one (with_rest ids one)))
    (take_turn (Some (with_rest ids one)) r) r waits)

no-credit : (one : Served) (b : Bool) → (nat_eq (credit_of_one one) 0 && b) ≡ true → turn_of one ≡ None
no-credit one b waits = by (cases_Bool (nat_eq (credit_of_one one) 0))
  where
    by : (nat_eq (credit_of_one one) 0 ≡ true) ⊎ (nat_eq (credit_of_one one) 0 ≡ false) → turn_of one ≡ None
    by (inl none) =
        cond-false (may_serve one) (Some one.consumer.turn) None
        (ap (λ n. not one.consumer.cancelled && nat_lt 0 n) (eqb-true (credit_of_one one) 0 none)
        ∙ both-false (not one.consumer.cancelled))
    by (inr some) = absurd (false≢true (sym (ap (λ (c : Bool). c && b) some) ∙ waits))

-- both changes of one are one change
put-rest : (consumer : Consumer) (ids : List ℕ) (ones : List Served)
    → put_one consumer (put_rest consumer.id ids ones)
    ≡ change_by consumer.id (λ (o : Served). with_consumer consumer (with_rest ids o)) ones
put-rest consumer ids [] = refl
put-rest consumer ids (one ∷ ones) =
    ap (λ (o : Served). o ∷ put_one consumer (put_rest consumer.id ids ones)) (by (cases_Bool (is_one consumer.id one)))
    ∙ ap (λ (os : List Served). after one ∷ os) (put-rest consumer ids ones)
  where
    put : Served → Served
    put o = cond (is_one consumer.id o) (with_consumer consumer o) o

    rest : Served → Served
    rest o = cond (is_one consumer.id o) (with_rest ids o) o

    after : Served → Served
    after o = cond (is_one consumer.id o) (with_consumer consumer (with_rest ids o)) o

    by : (is_one consumer.id one ≡ true) ⊎ (is_one consumer.id one ≡ false) → put (rest one) ≡ after one
    by (inl is) =
        ap put (cond-true (is_one consumer.id one) (with_rest ids one) one is)
        ∙ cond-true (is_one consumer.id one) (with_consumer consumer (with_rest ids one)) (with_rest ids one) is
        ∙ sym (cond-true (is_one consumer.id one) (with_consumer consumer (with_rest ids one)) one is)
    by (inr isn't) =
        ap put (cond-false (is_one consumer.id one) (with_rest ids one) one isn't)
        ∙ cond-false (is_one consumer.id one) (with_consumer consumer one) one isn't
        ∙ sym (cond-false (is_one consumer.id one) (with_consumer consumer (with_rest ids one)) one isn't)

pub draws-kept : (ids : List ℕ) (one : Served) (ones : List Served) (last turn : ℕ) (ws : Waiting) → AreApart ones
    → IsThere one ones → IsKept ws (roster_of ones last) → last + 1 ≡ turn → needed_one (with_rest ids one) ≡ true
    → (nat_eq (credit_of_one one) 0 && nat_lt 0 (credit_of_one (with_rest ids one))) ≡ true
    → (new : List Served) → new ≡ put_one (record (one.consumer) { turn = turn }) (put_rest one.consumer.id ids ones)
    → IsKept (enter one.consumer.id (waiting_turn new one.consumer.id) ws) (roster_of new turn)
draws-kept ids one ones last turn ws apart there kept next still waits new is =
    let id : ConsumerId = one.consumer.id in
    let consumer : Consumer = record (one.consumer) { turn = turn } in
    let mid : List Served = put_rest id ids ones in
    let own : one_of id (put_one consumer mid) ≡ Some (with_consumer consumer (with_rest ids one)) =
    put-own consumer mid (with_rest ids one) (rest-own ids one ones there) in
    let now : waiting_turn (put_one consumer mid) id ≡ turn_of (with_consumer consumer (with_rest ids one)) =
    ap (option_and_then turn_of) own in
    let was : waiting_turn ones id ≡ None =
    ap (option_and_then turn_of) there ∙ no-credit one (nat_lt 0 (credit_of_one (with_rest ids one))) waits in
    let less : last < turn = omega arith in
    subst (λ (s : List Served). IsKept (enter id (waiting_turn s id) ws) (roster_of s turn)) (sym is) (record {
      queue =
          subst
          (λ (o : Option ℕ). IsQueue (waiting_turn (put_one consumer mid)) turn
          (enter id (waiting_turn (put_one consumer mid) id) (leave o ws))) was
          (moved-queue id ones (put_one consumer mid) last turn ws kept.queue
          (λ q other. put-others consumer mid q other ∙ rest-others id ids ones q other) less
          (subst (λ (o : Option ℕ). (o ≡ None) ⊎ (o ≡ Some turn)) (sym now)
          (drawn-turn (with_consumer consumer (with_rest ids one)) turn refl)));
      needed =
          subst (AllByRecursion IsNeeded) (sym (put-rest consumer ids ones))
          (changed-needed id (λ (o : Served). with_consumer consumer
          (with_rest ids o)) ones one apart there kept.needed still);
    })

-- ---- it stays

pub stays-roster : (ids : List ℕ) (one : Served) (ones : List Served) (turns : ℕ) → AreApart ones → IsThere one ones
    → AllByRecursion IsNeeded ones → needed_one (with_rest ids one) ≡ true
    → (nat_eq (credit_of_one one) 0 && nat_lt 0 (credit_of_one (with_rest ids one))) ≡ false
    → roster_of (put_rest one.consumer.id ids ones) turns ≡ take_out_by (Some one) one.consumer.id ids
    (roster_of ones turns)
stays-roster ids one ones turns apart there needed still waits =
    let id : ConsumerId = one.consumer.id in
    let r : Roster = roster_of (put_rest id ids ones) turns in
    sym (ap (λ (s : List Served). begin_to_wait (credit_of_one one) id (roster_of s turns))
    (filter-all (put_rest id ids ones) (changed-needed id (with_rest ids) ones one apart there needed still))
    ∙ waits-by (credit_of_one one) id r (with_rest ids one) (rest-own ids one ones there)
    ∙ cond-false (nat_eq (credit_of_one one) 0 && nat_lt 0 (credit_of_one (with_rest ids one)))
    (take_turn (Some (with_rest ids one)) r) r waits)

same-serve : (ids : List ℕ) (one : Served)
    → (nat_eq (credit_of_one one) 0 && nat_lt 0 (credit_of_one (with_rest ids one))) ≡ false
    → nat_lt 0 (credit_of_one (with_rest ids one)) ≡ nat_lt 0 (credit_of_one one)
same-serve ids one waits = by (cases_Bool (nat_eq (credit_of_one one) 0))
  where
    more : credit_of_one one ≤ credit_of_one (with_rest ids one)
    more =
        more-credit one.consumer.mode one.consumer.credit (length (cut_rest ids one.out)) (length one.out)
        (cut-shorter ids one.out)

    by : (nat_eq (credit_of_one one) 0 ≡ true) ⊎ (nat_eq (credit_of_one one) 0 ≡ false)
        → nat_lt 0 (credit_of_one (with_rest ids one)) ≡ nat_lt 0 (credit_of_one one)
    by (inl none) =
        sym (ap (λ (b : Bool). b && nat_lt 0 (credit_of_one (with_rest ids one))) none) ∙ waits
        ∙ sym (ap (nat_lt 0) (eqb-true (credit_of_one one) 0 none))
    by (inr some) =
        let had : 0 < credit_of_one one = positive (credit_of_one one) some in
        let has : 0 < credit_of_one (with_rest ids one) = omega (arith, had, more) in
        lt-ltb 0 (credit_of_one (with_rest ids one)) has ∙ sym (lt-ltb 0 (credit_of_one one) had)
      where
        positive : (n : ℕ) → nat_eq n 0 ≡ false → 0 < n
        positive zero e = absurd (false≢true (sym e))
        positive (suc n) e = omega arith

pub stays-kept : (ids : List ℕ) (one : Served) (ones : List Served) (turns : ℕ) (ws : Waiting) → AreApart ones
    → IsThere one ones → IsKept ws (roster_of ones turns) → needed_one (with_rest ids one) ≡ true
    → (nat_eq (credit_of_one one) 0 && nat_lt 0 (credit_of_one (with_rest ids one))) ≡ false
    → IsKept ws (roster_of (put_rest one.consumer.id ids ones) turns)
stays-kept ids one ones turns ws apart there kept still waits =
    let id : ConsumerId = one.consumer.id in
    let le : turns ≤ turns = omega arith in
    let same : turn_of (with_rest ids one) ≡ turn_of one =
    ap (λ (b : Bool). cond (not one.consumer.cancelled && b) (Some one.consumer.turn) None)
    (same-serve ids one waits) in
    record {
      queue =
          kept-queue id ones (put_rest id ids ones) turns turns ws kept.queue (rest-others id ids ones)
          (ap (option_and_then turn_of) (rest-own ids one ones there) ∙ same
          ∙ sym (ap (option_and_then turn_of) there)) le;
      needed = changed-needed id (with_rest ids) ones one apart there kept.needed still;
    }

-- ---- as the call sees it, by an id

pub next-own : (id : ConsumerId) (ids : List ℕ) (one : Served) (ones mid : List Served) (before : ℕ) (what : Next)
    → Some one ≡ one_of id ones → mid ≡ put_rest id ids ones → before ≡ credit_of_one one
    → IsNextOf before (one_of id mid) what → IsNext (credit_of_one one) (with_rest ids one) what
next-own id ids one ones mid before what found is had next =
    let own : id ≡ one.consumer.id = sym (found-id id ones one (sym found)) in
    let there : IsThere one ones = ap (λ (i : ConsumerId). one_of i ones) (sym own) ∙ sym found in
    let now : one_of id mid ≡ Some (with_rest ids one) =
    ap (one_of id) is ∙ ap (λ (i : ConsumerId). one_of i (put_rest i ids ones)) own ∙ rest-own ids one ones there in
    subst (λ (o : Option Served). IsNextOf (credit_of_one one) o what) now
    (subst (λ n. IsNextOf n (one_of id mid) what) had next)

take-is : (id : ConsumerId) (ids : List ℕ) (one : Served) (ones : List Served) (turns : ℕ) → Some one ≡ one_of id ones
    → take_out_by (Some one) id ids (roster_of ones turns) ≡ take_out id ids (roster_of ones turns)
take-is id ids one ones turns found = ap (λ (o : Option Served). take_out_by o id ids (roster_of ones turns)) found

module _ (id : ConsumerId) (ids : List ℕ) (one : Served) (ones mid : List Served) (turns : ℕ) (ws : Waiting)
    (apart : AreApart ones) (kept : IsKept ws (roster_of ones turns)) (found : Some one ≡ one_of id ones)
    (is : mid ≡ put_rest id ids ones) where
  pub mid-there : IsThere (with_rest ids one) mid
  mid-there =
      ap (one_of one.consumer.id) is
      ∙ ap (λ (i : ConsumerId). one_of one.consumer.id (put_rest i ids ones)) (sym (found-id id ones one (sym found)))
      ∙ rest-own ids one ones (ap (λ (i : ConsumerId). one_of i ones) (found-id id ones one (sym found)) ∙ sym found)

  pub leaves-is : (left : List Served) → left ≡ remove_one id mid → needed_one (with_rest ids one) ≡ false
      → roster_of left turns ≡ take_out id ids (roster_of ones turns)
  leaves-is left gone over =
      ap (λ (s : List Served). roster_of s turns) (gone ∙ ap (remove_one id) is)
      ∙ subst
      (λ (i : ConsumerId). roster_of (remove_one i (put_rest i ids ones)) turns
      ≡ take_out_by (Some one) i ids (roster_of ones turns)) (found-id id ones one (sym found))
      (leaves-roster ids one ones turns apart
      (ap (λ (i : ConsumerId). one_of i ones) (found-id id ones one (sym found)) ∙ sym found) kept.needed over)
      ∙ take-is id ids one ones turns found

  pub leaves-keeps : (left : List Served) → left ≡ remove_one id mid → needed_one (with_rest ids one) ≡ false
      → IsKept ws (roster_of left turns)
  leaves-keeps left gone over =
      subst (λ (s : List Served). IsKept ws (roster_of s turns)) (sym (gone ∙ ap (remove_one id) is))
      (subst (λ (i : ConsumerId). IsKept ws (roster_of (remove_one i (put_rest i ids ones)) turns))
      (found-id id ones one (sym found))
      (leaves-kept ids one ones turns ws
      (ap (λ (i : ConsumerId). one_of i ones) (found-id id ones one (sym found)) ∙ sym found) kept over))

  pub stays-takes : needed_one (with_rest ids one) ≡ true
      → (nat_eq (credit_of_one one) 0 && nat_lt 0 (credit_of_one (with_rest ids one))) ≡ false
      → roster_of mid turns ≡ take_out id ids (roster_of ones turns)
  stays-takes still waits =
      ap (λ (s : List Served). roster_of s turns) is
      ∙ subst
      (λ (i : ConsumerId). roster_of (put_rest i ids ones) turns ≡ take_out_by (Some one) i ids (roster_of ones turns))
      (found-id id ones one (sym found))
      (stays-roster ids one ones turns apart
      (ap (λ (i : ConsumerId). one_of i ones) (found-id id ones one (sym found)) ∙ sym found) kept.needed still waits)
      ∙ take-is id ids one ones turns found

  pub stays-keeps : needed_one (with_rest ids one) ≡ true
      → (nat_eq (credit_of_one one) 0 && nat_lt 0 (credit_of_one (with_rest ids one))) ≡ false
      → IsKept ws (roster_of mid turns)
  stays-keeps still waits =
      subst (λ (s : List Served). IsKept ws (roster_of s turns)) (sym is)
      (subst (λ (i : ConsumerId). IsKept ws (roster_of (put_rest i ids ones) turns)) (found-id id ones one (sym found))
      (stays-kept ids one ones turns ws apart
      (ap (λ (i : ConsumerId). one_of i ones) (found-id id ones one (sym found)) ∙ sym found) kept still waits))

  pub draws-takes : (new : List Served) → new ≡ put_one (record (one.consumer) { turn = turns + 1 }) mid
      → needed_one (with_rest ids one) ≡ true
      → (nat_eq (credit_of_one one) 0 && nat_lt 0 (credit_of_one (with_rest ids one))) ≡ true
      → roster_of new (turns + 1) ≡ take_out id ids (roster_of ones turns)
  draws-takes new put still waits =
      ap (λ (s : List Served). roster_of s (turns + 1))
      (put ∙ ap (put_one (record (one.consumer) { turn = turns + 1 })) is)
      ∙ subst
      (λ (i : ConsumerId). roster_of (put_one (record (one.consumer) { turn = turns + 1 }) (put_rest i ids ones))
      (turns + 1)
      ≡ take_out_by (Some one) i ids (roster_of ones turns)) (found-id id ones one (sym found))
      (draws-roster ids one ones turns apart
      (ap (λ (i : ConsumerId). one_of i ones) (found-id id ones one (sym found)) ∙ sym found) kept.needed still waits)
      ∙ take-is id ids one ones turns found

  pub draws-keeps : (new : List Served) → new ≡ put_one (record (one.consumer) { turn = turns + 1 }) mid
      → needed_one (with_rest ids one) ≡ true
      → (nat_eq (credit_of_one one) 0 && nat_lt 0 (credit_of_one (with_rest ids one))) ≡ true
      → IsKept (enter id (waiting_turn new id) ws) (roster_of new (turns + 1))
  draws-keeps new put still waits =
      subst (λ (i : ConsumerId). IsKept (enter i (waiting_turn new i) ws) (roster_of new (turns + 1)))
      (found-id id ones one (sym found))
      (draws-kept ids one ones turns (turns + 1) ws apart
      (ap (λ (i : ConsumerId). one_of i ones) (found-id id ones one (sym found)) ∙ sym found) kept refl still waits new
      (put ∙ ap (put_one (record (one.consumer) { turn = turns + 1 })) (is
      ∙ ap (λ (i : ConsumerId). put_rest i ids ones) (sym (found-id id ones one (sym found))))))

  -- the turn that it draws is above all
  pub draws-below : (new : List Served) → new ≡ put_one (record (one.consumer) { turn = turns + 1 }) mid
      → IfSome (waiting_turn new id) (λ n. AreBelow n ws)
  draws-below new put = by (waiting_turn new id) refl
    where
      own : (n : ℕ) → waiting_turn new id ≡ Some n → n ≡ turns + 1
      own n at =
          let consumer : Consumer = record (one.consumer) { turn = turns + 1 } in
          let there : IsThere one ones =
          ap (λ (i : ConsumerId). one_of i ones) (found-id id ones one (sym found)) ∙ sym found in
          let midst : mid ≡ put_rest one.consumer.id ids ones =
          is ∙ ap (λ (i : ConsumerId). put_rest i ids ones) (sym (found-id id ones one (sym found))) in
          let turn : waiting_turn new id ≡ turn_of (with_consumer consumer (with_rest ids one)) =
          ap (λ (s : List Served). waiting_turn s id) (put ∙ ap (put_one consumer) midst)
          ∙ ap (waiting_turn (put_one consumer (put_rest one.consumer.id ids ones)))
          (sym (found-id id ones one (sym found)))
          ∙ ap (option_and_then turn_of)
          (put-own consumer (put_rest one.consumer.id ids ones) (with_rest ids one) (rest-own ids one ones there)) in
          at-turn (drawn-turn (with_consumer consumer (with_rest ids one)) (turns + 1) refl) (sym turn ∙ at)
        where
          at-turn : {o : Option ℕ} → (o ≡ None) ⊎ (o ≡ Some (turns + 1)) → o ≡ Some n → n ≡ turns + 1
          at-turn (inl none) e = let f : None ≡ Some n = sym none ∙ e in absurd cc
          at-turn (inr drawn) e = let f : Some n ≡ Some (turns + 1) = sym e ∙ drawn in cc

      by : (o : Option ℕ) → waiting_turn new id ≡ o → IfSome o (λ n. AreBelow n ws)
      by None at = tt
      by (Some n) at =
          let e : n ≡ turns + 1 = own n at in
          below-last turns n ws kept.queue.drawn (omega (arith, e))
