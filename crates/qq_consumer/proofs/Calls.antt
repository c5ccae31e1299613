-- The calls of the consumers: a cancel, a credit, the end of a session.
use Rattle.std.proofs.Common.{◌≡◌, ◌⊎◌, ◌+◌, ◌<◌, ℕ, zero, suc, Bool, true, false, not, ◌&&◌, List, Option, Some, None, IfSome, length, refl, sym, ap, ◌∙◌, subst, inl, inr, arith}
use Rattle.std.specs.Prelude.{nat_eq, nat_lt, filter, find}
use Rattle.std.specs.List.{AllByRecursion}
use Rattle.std.specs.Option.{option_map}
use Rattle.std.proofs.lemmas.Bool.{false≢true, cases_Bool, cond-false, and_parts, eqb-true, ltb-true, lt-ltb}
use Rattle.std.proofs.lemmas.List.{length-map}
use Rattle.qq_base.specs.declared.ids.ConsumerId.{ConsumerId}
use Rattle.qq_base.specs.declared.ids.SessionId.{SessionId}
use Rattle.qq_base.proofs.Lists.{find-in, AllByRecursion-in}
use Rattle.qq_entry.specs.declared.command.Mode.TheVariants.{Link}
use Rattle.qq_model.specs.declared.consumer.Consumer.{Consumer}
use Rattle.qq_parts.specs.Reduced.{Item}
use Rattle.qq_parts.specs.Parts.{Served, AreApart, consumer_at}
use Rattle.qq_parts.specs.Consumers.{needed_one}
use Rattle.qq_consumer.specs.declared.row.ConsumerRow.{ConsumerRow}
use Rattle.qq_consumer.specs.Roster.{roster_of, served_of, out_item, is_one, one_of, put_one, remove_one, is_one_of, cancel, cancel_by, drop_finished, credited, drained, set_credit}
use Rattle.qq_consumer.specs.Turns.{waiting_turn, Waiting, IsKept, leave, enter}
use Rattle.qq_consumer.proofs.Keeping.{IsNeeded}
use Rattle.qq_consumer.proofs.NextOne.{found-in}
use Rattle.qq_consumer.proofs.Changing.{IsThere, with_consumer, found-id, changed-needed, filter-all, filter-finished, link-turn, link-none, cancelled-none, current-needed, credit-draws, credit-stays, drawn-kept, ended-kept, turn-kept}

-- ---- one that was found

pub is-there : (id : ConsumerId) (ones : List Served) (one : Served) → Some one ≡ one_of id ones → IsThere one ones
is-there id ones one found =
    ap (λ (i : ConsumerId). one_of i ones) (found-id id ones one (sym found)) ∙ sym found

pub one-needed : (id : ConsumerId) (ones : List Served) (one : Served) → one_of id ones ≡ Some one
    → AllByRecursion IsNeeded ones → IsNeeded one
one-needed id ones one found each =
    AllByRecursion-in IsNeeded one ones each (find-in (is_one id) ones one found).0

-- a row's list of what is out is as long as the parts'
pub out-empty : (row : ConsumerRow) (b : Bool) → b ≡ nat_eq (length row.out.items) 0
    → nat_eq (length (served_of row).out) 0 ≡ b
out-empty row b is = ap (λ n. nat_eq n 0) (length-map row.out.items (out_item row.consumer.id)) ∙ sym is

-- ---- a cancel

abbrev pub over : Consumer → Consumer
over consumer = record consumer { cancelled = true }

cancel-is : (one : Served) (ones : List Served) (turns : ℕ) → IsThere one ones → one.consumer.cancelled ≡ false
    → cancel one.consumer.id (roster_of ones turns)
    ≡ roster_of (filter needed_one (put_one (over one.consumer) ones)) turns
cancel-is one ones turns there current =
    ap (λ (o : Option Served). cancel_by o (roster_of ones turns)) there
    ∙ cond-false one.consumer.cancelled (roster_of ones turns)
    (drop_finished (roster_of (put_one (over one.consumer) ones) turns)) current

pub cancel-idle : (id : ConsumerId) (one : Served) (ones : List Served) (turns : ℕ) → AreApart ones
    → Some one ≡ one_of id ones → AllByRecursion IsNeeded ones → one.consumer.cancelled ≡ false
    → nat_eq (length one.out) 0 ≡ true
    → roster_of (remove_one id ones) turns ≡ cancel id (roster_of ones turns)
cancel-idle id one ones turns apart found each current idle =
    let there : IsThere one ones = is-there id ones one found in
    subst (λ (i : ConsumerId). roster_of (remove_one i ones) turns ≡ cancel i (roster_of ones turns))
    (found-id id ones one (sym found))
    (sym (cancel-is one ones turns there current
    ∙ ap (λ (s : List Served). roster_of s turns)
    (filter-finished one.consumer.id (with_consumer (over one.consumer)) ones one apart there each (ap not idle))))

pub cancel-busy : (id : ConsumerId) (one : Served) (ones : List Served) (turns : ℕ) → AreApart ones
    → Some one ≡ one_of id ones → AllByRecursion IsNeeded ones → one.consumer.cancelled ≡ false
    → nat_eq (length one.out) 0 ≡ false
    → roster_of (put_one (over one.consumer) ones) turns ≡ cancel id (roster_of ones turns)
cancel-busy id one ones turns apart found each current busy =
    let there : IsThere one ones = is-there id ones one found in
    subst (λ (i : ConsumerId). roster_of (put_one (over one.consumer) ones) turns ≡ cancel i (roster_of ones turns))
    (found-id id ones one (sym found))
    (sym (cancel-is one ones turns there current
    ∙ ap (λ (s : List Served). roster_of s turns)
    (filter-all (put_one (over one.consumer) ones)
    (changed-needed one.consumer.id (with_consumer (over one.consumer)) ones one apart there each (ap not busy)))))

-- who is left in the queue
pub left-by : (id : ConsumerId) (ones : List Served) (r : Option ℕ) (ws vs : Waiting) → r ≡ waiting_turn ones id
    → vs ≡ leave r ws → leave (waiting_turn ones id) ws ≡ vs
left-by id ones r ws vs is after = sym (after ∙ ap (λ (o : Option ℕ). leave o ws) is)

pub busy-kept : (id : ConsumerId) (one : Served) (ones : List Served) (turns : ℕ) (ws : Waiting) → AreApart ones
    → IsKept ws (roster_of ones turns) → Some one ≡ one_of id ones → nat_eq (length one.out) 0 ≡ false
    → IsKept (leave (waiting_turn ones id) ws) (roster_of (put_one (over one.consumer) ones) turns)
busy-kept id one ones turns ws apart kept found busy =
    subst (λ (i : ConsumerId). IsKept (leave (waiting_turn ones i) ws)
    (roster_of (put_one (over one.consumer) ones) turns))
    (found-id id ones one (sym found))
    (ended-kept one (over one.consumer) ones turns ws apart kept (is-there id ones one found) refl
    (cancelled-none (with_consumer (over one.consumer) one) refl) (ap not busy))

-- ---- the end of a session

pub first-one : (session : SessionId) (ones : List Served) (id : ConsumerId) → AreApart ones
    → Some id ≡ option_map (λ (one : Served). one.consumer.id) (find (is_one_of session) ones)
    → one_of id ones ≡ find (is_one_of session) ones
first-one session ones id apart first = by (find (is_one_of session) ones) refl first
  where
    by : (o : Option Served) → find (is_one_of session) ones ≡ o
        → Some id ≡ option_map (λ (one : Served). one.consumer.id) o → one_of id ones ≡ find (is_one_of session) ones
    by None is none = absurd cc
    by (Some one) is found =
        let own : id ≡ one.consumer.id = cc in
        ap (λ (i : ConsumerId). one_of i ones) own
        ∙ found-in one ones apart (find-in (is_one_of session) ones one is).0 ∙ sym is

-- ---- a credit

pub there-out : (k : Consumer) (ones : List Served) → option_map consumer_at (one_of k.id ones) ≡ Some k
    → (out : List Item) × (one_of k.id ones ≡ Some (record { consumer = k; out = out }))
there-out k ones there = by (one_of k.id ones) there
  where
    by : (o : Option Served) → option_map consumer_at o ≡ Some k
        → (out : List Item) × (o ≡ Some (record { consumer = k; out = out }))
    by None none = absurd cc
    by (Some one) is =
        let same : one.consumer ≡ k = cc in
        (one.out, ap (λ (c : Consumer). let o : Served = record { consumer = c; out = one.out } in Some o) same)

pub there-row : (id : ConsumerId) (ones : List Served) (row : ConsumerRow) → Some (served_of row) ≡ one_of id ones
    → option_map consumer_at (one_of row.consumer.id ones) ≡ Some row.consumer
there-row id ones row found = ap (option_map consumer_at) (is-there id ones (served_of row) found)

-- the consumer draws a turn
pub set-draws : (k : Consumer) (ones : List Served) (credit last : ℕ) (ws : Waiting) → AreApart ones
    → option_map consumer_at (one_of k.id ones) ≡ Some k → IsKept ws (roster_of ones last) → k.mode ≡ Link
    → k.cancelled ≡ false → (nat_eq k.credit 0 && nat_lt 0 credit) ≡ true
    → IsKept (enter k.id (Some (last + 1)) ws)
    (roster_of (put_one (record k { credit = credit; turn = last + 1 }) ones) (last + 1))
set-draws k ones credit last ws apart there kept link current waits =
    let found = there-out k ones there in
    let one : Served = record { consumer = k; out = found.0 } in
    let new : Consumer = record k { credit = credit; turn = last + 1 } in
    let parts = and_parts (nat_eq k.credit 0) (nat_lt 0 credit) waits in
    drawn-kept one new ones last (last + 1) ws apart kept found.1 refl refl
    (link-none one link (eqb-true k.credit 0 parts.0))
    (link-turn (with_consumer new one) link current (ltb-true 0 credit parts.1))
    (current-needed (with_consumer new one) current)

pub draws-is : (k : Consumer) (ones : List Served) (credit turns : ℕ)
    → option_map consumer_at (one_of k.id ones) ≡ Some k → k.mode ≡ Link
    → (nat_eq k.credit 0 && nat_lt 0 credit) ≡ true
    → roster_of (put_one (record k { credit = credit; turn = turns + 1 }) ones) (turns + 1)
    ≡ set_credit credit k (roster_of ones turns)
draws-is k ones credit turns there link waits =
    let found = there-out k ones there in
    let one : Served = record { consumer = k; out = found.0 } in
    let parts = and_parts (nat_eq k.credit 0) (nat_lt 0 credit) waits in
    credit-draws one ones credit turns found.1 link (eqb-true k.credit 0 parts.0) (ltb-true 0 credit parts.1)

pub stays-is : (k : Consumer) (ones : List Served) (credit turns : ℕ)
    → option_map consumer_at (one_of k.id ones) ≡ Some k → k.mode ≡ Link
    → (nat_eq k.credit 0 && nat_lt 0 credit) ≡ false
    → roster_of (put_one (credited credit k) ones) turns ≡ set_credit credit k (roster_of ones turns)
stays-is k ones credit turns there link waits =
    let found = there-out k ones there in
    credit-stays (record { consumer = k; out = found.0 }) ones credit turns found.1 link waits

-- its credit ends
pub set-ends : (k : Consumer) (ones : List Served) (credit turns : ℕ) (ws : Waiting) → AreApart ones
    → option_map consumer_at (one_of k.id ones) ≡ Some k → IsKept ws (roster_of ones turns) → k.mode ≡ Link
    → k.cancelled ≡ false → nat_eq credit 0 ≡ true
    → IsKept (leave (waiting_turn ones k.id) ws) (roster_of (put_one (credited credit k) ones) turns)
set-ends k ones credit turns ws apart there kept link current none =
    let found = there-out k ones there in
    let one : Served = record { consumer = k; out = found.0 } in
    ended-kept one (credited credit k) ones turns ws apart kept found.1 refl
    (link-none (with_consumer (credited credit k) one) link (eqb-true credit 0 none))
    (current-needed (with_consumer (credited credit k) one) current)

-- it keeps its turn
pub set-keeps : (k : Consumer) (ones : List Served) (credit turns : ℕ) (ws : Waiting) → AreApart ones
    → option_map consumer_at (one_of k.id ones) ≡ Some k → IsKept ws (roster_of ones turns) → k.mode ≡ Link
    → k.cancelled ≡ false → (nat_eq k.credit 0 && nat_lt 0 credit) ≡ false → nat_eq credit 0 ≡ false
    → IsKept ws (roster_of (put_one (credited credit k) ones) turns)
set-keeps k ones credit turns ws apart there kept link current waits some =
    let found = there-out k ones there in
    let one : Served = record { consumer = k; out = found.0 } in
    let more : 0 < credit = positive credit some in
    turn-kept one (credited credit k) ones turns ws apart kept found.1 refl
    (link-turn (with_consumer (credited credit k) one) link current more ∙ sym (link-turn one link current (had more)))
    (current-needed (with_consumer (credited credit k) one) current)
  where
    positive : (n : ℕ) → nat_eq n 0 ≡ false → 0 < n
    positive zero e = absurd (false≢true (sym e))
    positive (suc n) e = omega arith

    had : 0 < credit → 0 < k.credit
    had more = by (cases_Bool (nat_eq k.credit 0))
      where
        by : (nat_eq k.credit 0 ≡ true) ⊎ (nat_eq k.credit 0 ≡ false) → 0 < k.credit
        by (inl none) =
            absurd (false≢true (sym waits ∙ ap (λ (b : Bool). b && nat_lt 0 credit) none ∙ lt-ltb 0 credit more))
        by (inr has) = positive k.credit has

-- ---- a drain

pub drain-kept : (id : ConsumerId) (one : Served) (new : Consumer) (ones : List Served) (turns : ℕ) (ws : Waiting)
    → AreApart ones → IsKept ws (roster_of ones turns) → Some one ≡ one_of id ones → one.consumer.mode ≡ Link
    → new ≡ drained one.consumer
    → IsKept (leave (waiting_turn ones id) ws) (roster_of (put_one new ones) turns)
drain-kept id one new ones turns ws apart kept found link is =
    subst (λ (k : Consumer). IsKept (leave (waiting_turn ones id) ws) (roster_of (put_one k ones) turns)) (sym is)
    (subst
    (λ (i : ConsumerId). IsKept (leave (waiting_turn ones i) ws)
    (roster_of (put_one (drained one.consumer) ones) turns))
    (found-id id ones one (sym found))
    (ended-kept one (drained one.consumer) ones turns ws apart kept (is-there id ones one found) refl
    (link-none (with_consumer (drained one.consumer) one) link refl) (one-needed id ones one (sym found) kept.needed)))

pub next-id : (one : Served) (new : Consumer) (ones : List Served) → IsThere one ones → new.id ≡ one.consumer.id
    → new.next_id ≡ one.consumer.next_id → IfSome (one_of new.id ones)
    (λ (x : Served). new.next_id ≡ x.consumer.next_id)
next-id one new ones there same next =
    subst (λ (o : Option Served). IfSome o (λ (x : Served). new.next_id ≡ x.consumer.next_id))
    (sym (ap (λ (i : ConsumerId). one_of i ones) same ∙ there)) next
