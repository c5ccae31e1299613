-- Consumers that are put back with the turns that they have, and what is known of the turns of consumers.
use Rattle.std.proofs.Common.{◌≡◌, ℕ, ◌≤◌, false, List, [], ◌∷◌, ◌++◌, Option, Some, None, IfSome, map, refl, sym, ap, ◌∙◌, subst}
use Rattle.std.specs.List.{AllByRecursion}
use Rattle.std.specs.Option.{option_and_then}
use Rattle.std.proofs.lemmas.Bool.{false≢true, cond-true, cond-false}
use Rattle.qq_base.specs.declared.ids.ConsumerId.{ConsumerId}
use Rattle.qq_base.specs.Ids.{same_consumer}
use Rattle.qq_base.proofs.Lists.{AllByRecursion-in, AllByRecursion-append, AllByRecursion-weaker, find-in}
use Rattle.qq_model.proofs.OneConsumer.{same_consumer-refl}
use Rattle.qq_parts.specs.Parts.{Served, AreTwo, AreApart}
use Rattle.qq_consumer.specs.declared.rising.Numbered.{Numbered}
use Rattle.qq_consumer.specs.declared.row.ConsumerRow.{ConsumerRow}
use Rattle.qq_consumer.specs.Numbers.{IsFree}
use Rattle.qq_consumer.specs.Roster.{served_of, is_one, one_of, is_there}
use Rattle.qq_consumer.specs.Turns.{turn_of, waiting_turn, Waiting, waiter, IsQueue, IsKept, place_in, HasDrawn, HaveTwoTurns, TurnsDiffer, HaveTurns}
use Rattle.qq_consumer.proofs.Copying.{each-middle}
use Rattle.qq_consumer.proofs.Ones.{other-joined, own-joined}
use Rattle.qq_consumer.proofs.Queueing.{in-each, in-once, place-queue}
use Rattle.qq_consumer.proofs.Keeping.{IsNeeded, none-there}

-- ---- one is put back

-- who waits by a turn is a consumer that has it
waits : (P : Served → Type 0) (q : ConsumerId) (n : ℕ) (ones : List Served) → AllByRecursion P ones
    → waiting_turn ones q ≡ Some n → (one : Served) × P one × (turn_of one ≡ Some n)
waits P q n ones each is = by (one_of q ones) refl is
  where
    by : (o : Option Served) → one_of q ones ≡ o → option_and_then turn_of o ≡ Some n
        → (one : Served) × P one × (turn_of one ≡ Some n)
    by None found none = absurd cc
    by (Some one) found turn = (one, AllByRecursion-in P one ones each (find-in (is_one q) ones one found).0, turn)

-- nobody waits by the turn of one that has another turn than each
pub free-turn : (new : Served) (ones : List Served) (last : ℕ) (ws : Waiting) → IsQueue (waiting_turn ones) last ws
    → AllByRecursion (λ (one : Served). HaveTwoTurns one new) ones → IfSome (turn_of new) (λ n. IsFree n ws)
free-turn new ones last ws queue differ = by (turn_of new) refl
  where
    by : (o : Option ℕ) → turn_of new ≡ o → IfSome o (λ n. IsFree n ws)
    by None is = tt
    by (Some n) is =
        AllByRecursion-weaker (λ (o : Numbered ConsumerId). waiting_turn ones o.item ≡ Some o.number)
        (λ (o : Numbered ConsumerId). o.number ≡ n → ⊥) (λ o turn same. other o turn same) ws queue.among
      where
        other : (o : Numbered ConsumerId) → waiting_turn ones o.item ≡ Some o.number → o.number ≡ n → ⊥
        other o turn same =
            let it = waits (λ (one : Served). HaveTwoTurns one new) o.item o.number ones differ turn in
            let two : turn_of new ≡ Some o.number → ⊥ =
            subst (λ (t : Option ℕ). IfSome t (λ m. turn_of new ≡ Some m → ⊥)) it.2 it.1 in
            two (is ∙ ap (λ k. Some k) (sym same))

pub put-kept : (new : Served) (old : List Served) (last : ℕ) (ws : Waiting)
    → IsKept ws (record { served = old; turns = last }) → is_there new.consumer.id old ≡ false → HasDrawn last new
    → AllByRecursion (λ (one : Served). HaveTwoTurns one new) old → IsNeeded new
    → IsKept (place_in new.consumer.id (turn_of new) ws) (record { served = old ++ new ∷ []; turns = last })
put-kept new old last ws kept free drawn differ needed =
    let none : one_of new.consumer.id old ≡ None = none-there new.consumer.id old free in
    record {
      queue =
          place-queue new.consumer.id (waiting_turn old) (waiting_turn (old ++ new ∷ [])) last ws (turn_of new) kept.queue
          (λ q other. ap (option_and_then turn_of) (other-joined q old new other))
          (ap (option_and_then turn_of) none) (ap (option_and_then turn_of) (own-joined old new none)) drawn
          (free-turn new old last ws kept.queue differ);
      needed = AllByRecursion-append IsNeeded old (new ∷ []) kept.needed (needed, tt);
    }

pub differ-middle : (done : List Served) (one : Served) (more : List Served) → TurnsDiffer (done ++ one ∷ more)
    → AllByRecursion (λ (other : Served). HaveTwoTurns other one) done
differ-middle [] one more differ = tt
differ-middle (first ∷ done) one more differ = (
  each-middle (HaveTwoTurns first) done one more differ.0,
  differ-middle done one more differ.1,
)

-- all are those so far, this one, and the rest
pub parts-are : (done : List Served) (row : ConsumerRow) (old rest : List ConsumerRow) (all : List Served)
    → done ++ map served_of old ≡ all → old ≡ row ∷ rest → all ≡ done ++ served_of row ∷ map served_of rest
parts-are done row old rest all are is =
    sym are ∙ ap (λ (rows : List ConsumerRow). done ++ map served_of rows) is

-- ---- the turns of consumers

each-both : {A : Type 0} (P Q : A → Type 0) (xs : List A) → AllByRecursion P xs → AllByRecursion Q xs
    → AllByRecursion (λ (x : A). P x × Q x) xs
each-both P Q [] ps qs = tt
each-both P Q (x ∷ xs) ps qs = ((ps.0, qs.0), each-both P Q xs ps.1 qs.1)

abbrev IsFound : List Served → Served → Type 0
IsFound ones one = one_of one.consumer.id ones ≡ Some one

-- each is found by its id
all-found : (ones : List Served) → AreApart ones → AllByRecursion (IsFound ones) ones
all-found [] apart = tt
all-found (first ∷ ones) apart = (
  cond-true (is_one first.consumer.id first) (Some first) (one_of first.consumer.id ones)
      (same_consumer-refl first.consumer.id),
  AllByRecursion-weaker (λ (one : Served). AreTwo first one × IsFound ones one) (IsFound (first ∷ ones))
      (λ one both.
      cond-false (is_one one.consumer.id first) (Some first) (one_of one.consumer.id ones) both.0.0 ∙ both.1) ones
      (each-both (AreTwo first) (IsFound ones) ones apart.0 (all-found ones apart.1)),
)

-- in the queue of these turns
module _ (f : ConsumerId → Option ℕ) (last : ℕ) (ws : Waiting) (queue : IsQueue f last ws) where
  abbrev HasOwn : Served → Type 0
  HasOwn one = f one.consumer.id ≡ turn_of one

  has-drawn : (one : Served) → HasOwn one → HasDrawn last one
  has-drawn one own = by (turn_of one) refl
    where
      by : (o : Option ℕ) → turn_of one ≡ o → IfSome o (λ n. n ≤ last)
      by None is = tt
      by (Some n) is =
          in-each (λ (o : Numbered ConsumerId). o.number ≤ last) (waiter n one.consumer.id) ws queue.drawn
          (queue.all one.consumer.id n (own ∙ is))

  two-turns : (a b : Served) → AreTwo a b → HasOwn a → HasOwn b → HaveTwoTurns a b
  two-turns a b two own its = by (turn_of a) refl
    where
      by : (o : Option ℕ) → turn_of a ≡ o → IfSome o (λ n. turn_of b ≡ Some n → ⊥)
      by None is = tt
      by (Some n) is = λ same.
          false≢true (sym two.0
          ∙ ap (same_consumer a.consumer.id) (ap (λ (o : Numbered ConsumerId). o.item)
          (in-once (waiter n b.consumer.id) (waiter n a.consumer.id) ws queue.order
          (queue.all b.consumer.id n (its ∙ same)) (queue.all a.consumer.id n (own ∙ is)) refl))
          ∙ same_consumer-refl a.consumer.id)

  all-differ : (ones : List Served) → AreApart ones → AllByRecursion HasOwn ones → TurnsDiffer ones
  all-differ [] apart own = tt
  all-differ (one ∷ ones) apart own = (
    AllByRecursion-weaker (λ (other : Served). AreTwo one other × HasOwn other) (HaveTwoTurns one)
        (λ other both. two-turns one other both.0 own.0 both.1) ones (each-both (AreTwo one) HasOwn ones apart.0 own.1),
    all-differ ones apart.1 own.1,
  )

  all-drawn : (ones : List Served) → AllByRecursion HasOwn ones → AllByRecursion (HasDrawn last) ones
  all-drawn ones own = AllByRecursion-weaker HasOwn (HasDrawn last) has-drawn ones own

pub kept-turns : (ones : List Served) (last : ℕ) (ws : Waiting) → AreApart ones
    → IsKept ws (record { served = ones; turns = last }) → HaveTurns (record { served = ones; turns = last })
kept-turns ones last ws apart kept =
    let own : AllByRecursion (λ (one : Served). waiting_turn ones one.consumer.id ≡ turn_of one) ones =
    AllByRecursion-weaker (IsFound ones) (λ (one : Served). waiting_turn ones one.consumer.id ≡ turn_of one)
    (λ one found. ap (option_and_then turn_of) found) ones (all-found ones apart) in
    record {
      drawn = all-drawn (waiting_turn ones) last ws kept.queue ones own;
      differ = all-differ (waiting_turn ones) last ws kept.queue ones apart own;
    }
