-- Consumers that are cancelled, get credit or have it drained.
use Rattle.std.proofs.Common.{◌≡◌, ◌⊎◌, ◌+◌, ◌<◌, ◌≤◌, ℕ, zero, suc, Bool, true, false, not, ◌&&◌, cond, List, [], ◌∷◌, Option, Some, None, IfSome, length, drop, refl, sym, ap, ◌∙◌, subst, inl, inr, arith}
use Rattle.std.specs.Prelude.{nat_eq, nat_lt, filter, find, slice_get, if◌then◌else◌}
use Rattle.std.specs.List.{AllByRecursion}
use Rattle.std.specs.Option.{option_map, option_map_or, option_and_then}
use Rattle.std.proofs.lemmas.Bool.{cases_Bool, cond-true, cond-false, not_from_true, not_from_false, lt-ltb}
use Rattle.qq_base.specs.declared.ids.ConsumerId.{ConsumerId}
use Rattle.qq_base.specs.declared.ids.SessionId.{SessionId}
use Rattle.qq_base.specs.Ids.{same_consumer}
use Rattle.qq_base.proofs.Lists.{find-in, AllByRecursion-filter}
use Rattle.qq_entry.specs.declared.command.Mode.{Mode}
use Rattle.qq_entry.specs.declared.command.Mode.TheVariants.{Link}
use Rattle.qq_model.specs.declared.consumer.Consumer.{Consumer}
use Rattle.qq_model.specs.Choice.{credit_left}
use Rattle.qq_model.proofs.OneConsumer.{same_consumer-true, same_consumer-refl}
use Rattle.qq_parts.specs.Parts.{Served, AreTwo, AreApart}
use Rattle.qq_parts.specs.Turns.{credit_of_one, may_serve}
use Rattle.qq_parts.specs.Consumers.{needed_one}
use Rattle.qq_consumer.specs.Roster.{Roster, roster_of, is_one, one_of, put_one, take_turn, begin_to_wait, credited, is_one_of}
use Rattle.qq_consumer.specs.Turns.{turn_of, waiting_turn, Waiting, IsQueue, IsKept, leave, enter}
use Rattle.qq_consumer.proofs.JoinedRows.{change_by}
use Rattle.qq_consumer.proofs.Cutting.{drop-at}
use Rattle.qq_consumer.proofs.Ones.{other-changed, own-changed, absent-changed, other-removed, own-removed}
use Rattle.qq_consumer.proofs.Keeping.{FindsOthers, IsNeeded, moved-queue, ended-queue, kept-queue}

-- ---- one of an id

-- nobody else has the id of one
pub apart-none : (id : ConsumerId) (first : Served) (ones : List Served) → AllByRecursion (AreTwo first) ones
    → is_one id first ≡ true → one_of id ones ≡ None
apart-none id first [] apart is = refl
apart-none id first (one ∷ ones) apart is =
    cond-false (is_one id one) (Some one) (one_of id ones)
    (ap (same_consumer one.consumer.id) (sym (same_consumer-true first.consumer.id id is)) ∙ apart.0.1)
    ∙ apart-none id first ones apart.1 is

pub found-id : (id : ConsumerId) (ones : List Served) (one : Served) → one_of id ones ≡ Some one → one.consumer.id ≡ id
found-id id ones one found = same_consumer-true one.consumer.id id (find-in (is_one id) ones one found).1

-- ---- who is needed

pub changed-needed : (id : ConsumerId) (f : Served → Served) (ones : List Served) (one : Served) → AreApart ones
    → one_of id ones ≡ Some one → AllByRecursion IsNeeded ones → IsNeeded (f one)
    → AllByRecursion IsNeeded (change_by id f ones)
changed-needed id f [] one apart found each new = tt
changed-needed id f (first ∷ ones) one apart found each new =
    by (cases_Bool (is_one id first)) (λ is. changed-needed id f ones one apart.1 is each.1 new)
  where
    by : (is_one id first ≡ true) ⊎ (is_one id first ≡ false)
        → (one_of id ones ≡ Some one → AllByRecursion IsNeeded (change_by id f ones))
        → AllByRecursion IsNeeded (change_by id f (first ∷ ones))
    by (inl is) rest =
        let e : Some first ≡ Some one = sym (cond-true (is_one id first) (Some first) (one_of id ones) is) ∙ found in
        let same : first ≡ one = cc in (
          subst IsNeeded (sym (cond-true (is_one id first) (f first) first is ∙ ap f same)) new,
          subst (AllByRecursion IsNeeded) (sym (absent-changed id f ones (apart-none id first ones apart.0 is))) each.1,
        )
    by (inr isn't) rest = (
      subst IsNeeded (sym (cond-false (is_one id first) (f first) first isn't)) each.0,
      rest (sym (cond-false (is_one id first) (Some first) (one_of id ones) isn't) ∙ found),
    )

pub filter-all : (ones : List Served) → AllByRecursion IsNeeded ones → filter needed_one ones ≡ ones
filter-all [] each = refl
filter-all (one ∷ ones) each =
    cond-true (needed_one one) (one ∷ filter needed_one ones) (filter needed_one ones) each.0
    ∙ ap (λ (os : List Served). one ∷ os) (filter-all ones each.1)

filter-absent : (id : ConsumerId) (ones : List Served) → one_of id ones ≡ None
    → filter (λ (one : Served). not (is_one id one)) ones ≡ ones
filter-absent id [] none = refl
filter-absent id (one ∷ ones) none = by (cases_Bool (is_one id one)) (λ is. filter-absent id ones is)
  where
    stays : Served → Bool
    stays o = not (is_one id o)

    by : (is_one id one ≡ true) ⊎ (is_one id one ≡ false) → (one_of id ones ≡ None → filter stays ones ≡ ones)
        → filter stays (one ∷ ones) ≡ one ∷ ones
    by (inl is) rest =
        let e : Some one ≡ None = sym (cond-true (is_one id one) (Some one) (one_of id ones) is) ∙ none in absurd cc
    by (inr isn't) rest =
        cond-true (stays one) (one ∷ filter stays ones) (filter stays ones) (not_from_false (is_one id one) isn't)
        ∙ ap (λ (os : List Served). one ∷ os)
        (rest (sym (cond-false (is_one id one) (Some one) (one_of id ones) isn't) ∙ none))

-- one that isn't needed any more leaves, and the others stay
pub filter-finished : (id : ConsumerId) (f : Served → Served) (ones : List Served) (one : Served) → AreApart ones
    → one_of id ones ≡ Some one → AllByRecursion IsNeeded ones → needed_one (f one) ≡ false
    → filter needed_one (change_by id f ones) ≡ filter (λ (o : Served). not (is_one id o)) ones
filter-finished id f [] one apart found each over = absurd cc
filter-finished id f (first ∷ ones) one apart found each over =
    by (cases_Bool (is_one id first)) (λ is. filter-finished id f ones one apart.1 is each.1 over)
  where
    stays : Served → Bool
    stays o = not (is_one id o)

    by : (is_one id first ≡ true) ⊎ (is_one id first ≡ false)
        → (one_of id ones ≡ Some one → filter needed_one (change_by id f ones) ≡ filter stays ones)
        → filter needed_one (change_by id f (first ∷ ones)) ≡ filter stays (first ∷ ones)
    by (inl is) rest =
        let e : Some first ≡ Some one = sym (cond-true (is_one id first) (Some first) (one_of id ones) is) ∙ found in
        let same : first ≡ one = cc in
        let none : one_of id ones ≡ None = apart-none id first ones apart.0 is in
        ap (λ (o : Served). filter needed_one (o ∷ change_by id f ones))
        (cond-true (is_one id first) (f first) first is ∙ ap f same)
        ∙ cond-false (needed_one (f one)) (f one ∷ filter needed_one (change_by id f ones))
        (filter needed_one (change_by id f ones)) over
        ∙ ap (filter needed_one) (absent-changed id f ones none) ∙ filter-all ones each.1
        ∙ sym (cond-false (stays first) (first ∷ filter stays ones) (filter stays ones)
        (not_from_true (is_one id first) is)
        ∙ filter-absent id ones none)
    by (inr isn't) rest =
        ap (λ (o : Served). filter needed_one (o ∷ change_by id f ones))
        (cond-false (is_one id first) (f first) first isn't)
        ∙ cond-true (needed_one first) (first ∷ filter needed_one (change_by id f ones))
        (filter needed_one (change_by id f ones)) each.0
        ∙ ap (λ (os : List Served). first ∷ os)
        (rest (sym (cond-false (is_one id first) (Some first) (one_of id ones) isn't) ∙ found))
        ∙ sym (cond-true (stays first) (first ∷ filter stays ones) (filter stays ones)
        (not_from_false (is_one id first) isn't))

-- ---- a consumer is put

abbrev pub with_consumer : Consumer → Served → Served
with_consumer new one = record { consumer = new; out = one.out }

keeps-id : (new : Consumer) (one : Served) → is_one new.id one ≡ true → is_one new.id (with_consumer new one) ≡ true
keeps-id new one is = same_consumer-refl new.id

pub put-others : (new : Consumer) (ones : List Served) → FindsOthers new.id ones (put_one new ones)
put-others new ones q other = other-changed new.id q (with_consumer new) ones (keeps-id new) other

pub put-own : (new : Consumer) (ones : List Served) (one : Served) → one_of new.id ones ≡ Some one
    → one_of new.id (put_one new ones) ≡ Some (with_consumer new one)
put-own new ones one found = own-changed new.id (with_consumer new) ones one (keeps-id new) found

pub put-twice : (a b : Consumer) (ones : List Served) → a.id ≡ b.id → put_one b (put_one a ones) ≡ put_one b ones
put-twice a b [] same = refl
put-twice a b (one ∷ ones) same =
    ap (λ (o : Served). o ∷ put_one b (put_one a ones)) (by (cases_Bool (is_one b.id one)))
    ∙ ap (λ (os : List Served). change_by_one ∷ os) (put-twice a b ones same)
  where
    change_by_one : Served
    change_by_one = cond (is_one b.id one) (with_consumer b one) one

    put : Consumer → Served → Served
    put new o = cond (is_one new.id o) (with_consumer new o) o

    by : (is_one b.id one ≡ true) ⊎ (is_one b.id one ≡ false) → put b (put a one) ≡ put b one
    by (inl is) =
        ap (put b) (cond-true (is_one a.id one) (with_consumer a one) one
        (ap (λ (i : ConsumerId). is_one i one) same ∙ is))
        ∙ cond-true (is_one b.id (with_consumer a one)) (with_consumer b one) (with_consumer a one)
        (ap (λ (i : ConsumerId). same_consumer i b.id) same ∙ same_consumer-refl b.id)
        ∙ sym (cond-true (is_one b.id one) (with_consumer b one) one is)
    by (inr isn't) =
        ap (put b) (cond-false (is_one a.id one) (with_consumer a one) one
        (ap (λ (i : ConsumerId). is_one i one) same ∙ isn't))

-- ---- link credit

pub link-credit : (one : Served) → one.consumer.mode ≡ Link → credit_of_one one ≡ one.consumer.credit
link-credit one link = ap (λ (mode : Mode). credit_left mode one.consumer.credit (length one.out)) link

pub link-turn : (one : Served) → one.consumer.mode ≡ Link → one.consumer.cancelled ≡ false → 0 < one.consumer.credit
    → turn_of one ≡ Some one.consumer.turn
link-turn one link current more =
    cond-true (may_serve one) (Some one.consumer.turn) None
    (ap (λ (b : Bool). not b && nat_lt 0 (credit_of_one one)) current
    ∙ ap (nat_lt 0) (link-credit one link) ∙ lt-ltb 0 one.consumer.credit more)

pub both-false : (b : Bool) → (b && false) ≡ false
both-false true = refl
both-false false = refl

pub link-none : (one : Served) → one.consumer.mode ≡ Link → one.consumer.credit ≡ 0 → turn_of one ≡ None
link-none one link zero_credit =
    cond-false (may_serve one) (Some one.consumer.turn) None
    (ap (λ (n : ℕ). not one.consumer.cancelled && nat_lt 0 n) (link-credit one link ∙ zero_credit)
    ∙ both-false (not one.consumer.cancelled))

pub cancelled-none : (one : Served) → one.consumer.cancelled ≡ true → turn_of one ≡ None
cancelled-none one over =
    cond-false (may_serve one) (Some one.consumer.turn) None
    (ap (λ (b : Bool). not b && nat_lt 0 (credit_of_one one)) over)

pub current-needed : (one : Served) → one.consumer.cancelled ≡ false → IsNeeded one
current-needed one current = ap (λ (b : Bool). not (b && nat_eq (length one.out) 0)) current

-- ---- credit is given

-- the consumer of this record is there
abbrev pub IsThere : Served → List Served → Type 0
IsThere one ones = one_of one.consumer.id ones ≡ Some one

pub waits-by : (before : ℕ) (id : ConsumerId) (r : Roster) (one : Served) → one_of id r.served ≡ Some one
    → begin_to_wait before id r
    ≡ cond (nat_eq before 0 && nat_lt 0 (credit_of_one one)) (take_turn (Some one) r) r
waits-by before id r one found =
    ap (λ (o : Option Served). cond (nat_eq before 0 && nat_lt 0 (option_map_or credit_of_one o 0))
    (take_turn o r) r) found

pub credit-draws : (one : Served) (ones : List Served) (credit turns : ℕ) → IsThere one ones → one.consumer.mode ≡ Link
    → one.consumer.credit ≡ 0 → 0 < credit
    → roster_of (put_one (record (one.consumer) { credit = credit; turn = turns + 1 }) ones) (turns + 1)
    ≡ begin_to_wait one.consumer.credit one.consumer.id (roster_of (put_one (credited credit one.consumer) ones) turns)
credit-draws one ones credit turns there link none more =
    let new : Consumer = credited credit one.consumer in
    let last : Consumer = record new { turn = turns + 1 } in
    let own : one_of new.id (put_one new ones) ≡ Some (with_consumer new one) = put-own new ones one there in
    let after : nat_lt 0 (credit_of_one (with_consumer new one)) ≡ true =
    ap (nat_lt 0) (link-credit (with_consumer new one) link) ∙ lt-ltb 0 credit more in
    sym (waits-by one.consumer.credit one.consumer.id (roster_of (put_one new ones) turns) (with_consumer new one) own
    ∙ cond-true (nat_eq one.consumer.credit 0 && nat_lt 0 (credit_of_one (with_consumer new one)))
    (take_turn (Some (with_consumer new one)) (roster_of (put_one new ones) turns)) (roster_of (put_one new ones) turns)
    (ap (λ n. nat_eq n 0 && nat_lt 0 (credit_of_one (with_consumer new one))) none ∙ after)
    ∙ ap (λ (s : List Served). roster_of s (turns + 1)) (put-twice new last ones refl))

pub credit-stays : (one : Served) (ones : List Served) (credit turns : ℕ) → IsThere one ones → one.consumer.mode ≡ Link
    → (nat_eq one.consumer.credit 0 && nat_lt 0 credit) ≡ false
    → roster_of (put_one (credited credit one.consumer) ones) turns
    ≡ begin_to_wait one.consumer.credit one.consumer.id (roster_of (put_one (credited credit one.consumer) ones) turns)
credit-stays one ones credit turns there link no_turn =
    let new : Consumer = credited credit one.consumer in
    let own : one_of new.id (put_one new ones) ≡ Some (with_consumer new one) = put-own new ones one there in
    sym (waits-by one.consumer.credit one.consumer.id (roster_of (put_one new ones) turns) (with_consumer new one) own
    ∙ cond-false (nat_eq one.consumer.credit 0 && nat_lt 0 (credit_of_one (with_consumer new one)))
    (take_turn (Some (with_consumer new one)) (roster_of (put_one new ones) turns)) (roster_of (put_one new ones) turns)
    (ap (λ n. nat_eq one.consumer.credit 0 && nat_lt 0 n) (link-credit (with_consumer new one) link) ∙ no_turn))

-- a consumer draws a turn
pub drawn-kept : (one : Served) (new : Consumer) (ones : List Served) (last turn : ℕ) (ws : Waiting) → AreApart ones
    → IsKept ws (roster_of ones last) → IsThere one ones → new.id ≡ one.consumer.id → last + 1 ≡ turn
    → turn_of one ≡ None → turn_of (with_consumer new one) ≡ Some turn → IsNeeded (with_consumer new one)
    → IsKept (enter one.consumer.id (Some turn) ws) (roster_of (put_one new ones) turn)
drawn-kept one new ones last turn ws apart kept there same next before after needed =
    let id : ConsumerId = one.consumer.id in
    let less : last < turn = omega arith in
    let found : one_of new.id ones ≡ Some one = ap (λ (i : ConsumerId). one_of i ones) same ∙ there in
    let was : waiting_turn ones id ≡ None = ap (option_and_then turn_of) there ∙ before in
    let is : waiting_turn (put_one new ones) id ≡ Some turn =
    ap (λ (i : ConsumerId). waiting_turn (put_one new ones) i) (sym same)
    ∙ ap (option_and_then turn_of) (put-own new ones one found) ∙ after in
    record {
      queue =
          subst (λ (us : Waiting). IsQueue (waiting_turn (put_one new ones)) turn us)
          (ap (λ (o : Option ℕ). enter id o (leave (waiting_turn ones id) ws)) is
          ∙ ap (λ (o : Option ℕ). enter id (Some turn) (leave o ws)) was)
          (moved-queue id ones (put_one new ones) last turn ws kept.queue
          (λ q other. put-others new ones q (ap (λ (i : ConsumerId). same_consumer i q) same ∙ other)) less (inr is));
      needed = changed-needed new.id (with_consumer new) ones one apart found kept.needed needed;
    }

-- a consumer may not be served any more
pub ended-kept : (one : Served) (new : Consumer) (ones : List Served) (turns : ℕ) (ws : Waiting) → AreApart ones
    → IsKept ws (roster_of ones turns) → IsThere one ones → new.id ≡ one.consumer.id
    → turn_of (with_consumer new one) ≡ None → IsNeeded (with_consumer new one)
    → IsKept (leave (waiting_turn ones one.consumer.id) ws) (roster_of (put_one new ones) turns)
ended-kept one new ones turns ws apart kept there same after needed =
    let id : ConsumerId = one.consumer.id in
    let found : one_of new.id ones ≡ Some one = ap (λ (i : ConsumerId). one_of i ones) same ∙ there in
    let is : waiting_turn (put_one new ones) id ≡ None =
    ap (λ (i : ConsumerId). waiting_turn (put_one new ones) i) (sym same)
    ∙ ap (option_and_then turn_of) (put-own new ones one found) ∙ after in
    record {
      queue =
          ended-queue id ones (put_one new ones) turns ws kept.queue
          (λ q other. put-others new ones q (ap (λ (i : ConsumerId). same_consumer i q) same ∙ other)) is;
      needed = changed-needed new.id (with_consumer new) ones one apart found kept.needed needed;
    }

-- a consumer keeps its turn
pub turn-kept : (one : Served) (new : Consumer) (ones : List Served) (turns : ℕ) (ws : Waiting) → AreApart ones
    → IsKept ws (roster_of ones turns) → IsThere one ones → new.id ≡ one.consumer.id
    → turn_of (with_consumer new one) ≡ turn_of one → IsNeeded (with_consumer new one)
    → IsKept ws (roster_of (put_one new ones) turns)
turn-kept one new ones turns ws apart kept there same after needed =
    let id : ConsumerId = one.consumer.id in
    let found : one_of new.id ones ≡ Some one = ap (λ (i : ConsumerId). one_of i ones) same ∙ there in
    let is : waiting_turn (put_one new ones) id ≡ waiting_turn ones id =
    ap (λ (i : ConsumerId). waiting_turn (put_one new ones) i) (sym same)
    ∙ ap (option_and_then turn_of) (put-own new ones one found) ∙ after ∙ sym (ap (option_and_then turn_of) there) in
    let le : turns ≤ turns = omega arith in
    record {
      queue =
          kept-queue id ones (put_one new ones) turns turns ws kept.queue
          (λ q other. put-others new ones q (ap (λ (i : ConsumerId). same_consumer i q) same ∙ other)) is le;
      needed = changed-needed new.id (with_consumer new) ones one apart found kept.needed needed;
    }

filtered-needed : (passes : Served → Bool) (ones : List Served) → AllByRecursion IsNeeded ones
    → AllByRecursion IsNeeded (filter passes ones)
filtered-needed passes ones each = AllByRecursion-filter IsNeeded passes ones each

-- a consumer leaves
pub removed-kept : (id : ConsumerId) (ones : List Served) (turns : ℕ) (ws : Waiting) → IsKept ws (roster_of ones turns)
    → IsKept (leave (waiting_turn ones id) ws) (roster_of (filter (λ (one : Served). not (is_one id one)) ones) turns)
removed-kept id ones turns ws kept = record {
  queue =
      ended-queue id ones (filter (λ (one : Served). not (is_one id one)) ones) turns ws kept.queue
      (λ q other. other-removed id q ones other) (ap (option_and_then turn_of) (own-removed id ones));
  needed = filtered-needed (λ (one : Served). not (is_one id one)) ones kept.needed;
}

-- ---- the first of a session

slice_get_none : (ones : List Served) (place : ℕ) → slice_get ones place ≡ None → length ones ≤ place
slice_get_none [] place none = omega arith
slice_get_none (one ∷ ones) zero none = absurd cc
slice_get_none (one ∷ ones) (suc place) none = let rest = slice_get_none ones place none in omega arith

-- the test at a place decides what the search goes on with
pub found-first : (session : SessionId) (ones : List Served) (place : ℕ) (id : ConsumerId) → place < length ones
    → IfSome (slice_get ones place)
    (λ one. Some id ≡ (if is_one_of session one then Some one.consumer.id else None))
    → find (is_one_of session) (drop place ones) ≡ find (is_one_of session) ones
    → Some id ≡ option_map (λ (one : Served). one.consumer.id) (find (is_one_of session) ones)
found-first session ones place id within at left = by (slice_get ones place) refl at
  where
    by : (o : Option Served) → slice_get ones place ≡ o
        → IfSome o (λ one. Some id ≡ (if is_one_of session one then Some one.consumer.id else None))
        → Some id ≡ option_map (λ (one : Served). one.consumer.id) (find (is_one_of session) ones)
    by None is at' = absurd (omega (arith, within, slice_get_none ones place is))
    by (Some one) is at' =
        here (cases_Bool (is_one_of session one))
      where
        rest : List Served
        rest = drop (place + 1) ones

        seen : cond (is_one_of session one) (Some one) (find (is_one_of session) rest) ≡ find (is_one_of session) ones
        seen = sym (ap (find (is_one_of session)) (drop-at ones place one is)) ∙ left

        here : (is_one_of session one ≡ true) ⊎ (is_one_of session one ≡ false)
            → Some id ≡ option_map (λ (x : Served). x.consumer.id) (find (is_one_of session) ones)
        here (inl its) =
            at' ∙ cond-true (is_one_of session one) (Some one.consumer.id) None its
            ∙ ap (option_map (λ (x : Served). x.consumer.id))
            (sym (cond-true (is_one_of session one) (Some one) (find (is_one_of session) rest) its) ∙ seen)
        here (inr isn't) =
            let e : Some id ≡ None = at' ∙ cond-false (is_one_of session one)
            (Some one.consumer.id) None isn't in absurd cc

pub passed-first : (session : SessionId) (ones : List Served) (place : ℕ) → place < length ones
    → IfSome (slice_get ones place)
    (λ one. None ≡ (if is_one_of session one then Some one.consumer.id else None))
    → find (is_one_of session) (drop place ones) ≡ find (is_one_of session) ones
    → find (is_one_of session) (drop (place + 1) ones) ≡ find (is_one_of session) ones
passed-first session ones place within at left = by (slice_get ones place) refl at
  where
    by : (o : Option Served) → slice_get ones place ≡ o
        → IfSome o (λ one. None ≡ (if is_one_of session one then Some one.consumer.id else None))
        → find (is_one_of session) (drop (place + 1) ones) ≡ find (is_one_of session) ones
    by None is at' = absurd (omega (arith, within, slice_get_none ones place is))
    by (Some one) is at' =
        here (cases_Bool (is_one_of session one))
      where
        rest : List Served
        rest = drop (place + 1) ones

        here : (is_one_of session one ≡ true) ⊎ (is_one_of session one ≡ false)
            → find (is_one_of session) rest ≡ find (is_one_of session) ones
        here (inl its) =
            let e : None ≡ Some one.consumer.id =
            at' ∙ cond-true (is_one_of session one) (Some one.consumer.id) None its in absurd cc
        here (inr isn't) =
            sym (cond-false (is_one_of session one) (Some one) (find (is_one_of session) rest) isn't)
            ∙ sym (ap (find (is_one_of session)) (drop-at ones place one is)) ∙ left
