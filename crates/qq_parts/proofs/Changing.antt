-- Consumers change in the parts as in the queue.
use Rattle.std.proofs.Common.{◌≡◌, ℕ, ◌+◌, Bool, true, false, cond, ◌&&◌, List, [], ◌∷◌, Option, Some, None, map, nat_lt, refl, sym, ap, ◌∙◌, subst, if◌then◌else◌}
use Rattle.std.specs.Prelude.{find, nat_eq}
use Rattle.std.specs.Option.{option_map, option_map_or}
use Rattle.qq_base.proofs.Lists.{In, find-in}
use Rattle.qq_base.specs.declared.ids.ConsumerId.{ConsumerId}
use Rattle.qq_base.specs.Ids.{same_consumer}
use Rattle.qq_model.specs.declared.consumer.Consumer.{Consumer}
use Rattle.qq_model.specs.State.{State}
use Rattle.qq_model.specs.Choice.{credit_left, free_credit}
use Rattle.qq_model.specs.Changes.{put_consumer, consumer_of, credit_of, take_turn, begin_to_wait, drop_finished}
use Rattle.qq_model.proofs.Soundness.{Contains-in}
use Rattle.qq_parts.specs.Parts.{Served, consumer_at, Parts, Stands, IsWhole}
use Rattle.qq_parts.specs.Changes.{Holds}
use Rattle.qq_parts.specs.Turns.{credit_of_one}
use Rattle.qq_parts.specs.Consumers.{changed, keep_ones, needed_one}
use Rattle.qq_parts.proofs.Reading.{out-is}
use Rattle.qq_parts.proofs.Leaving.{may_change, may_finish}
use Rattle.qq_parts.specs.Commands.{one_of, parts_credit, parts_take_turn, parts_begin_to_wait}
use Rattle.qq_parts.proofs.Works.{whole-rest}

-- The consumer of an id -------------------------------------------------------------------------------

find-over : {A B : Type 0} (test : B → Bool) (f : A → B) (xs : List A)
    → find test (map f xs) ≡ option_map f (find (λ (x : A). test (f x)) xs)
find-over test f [] = refl
find-over {A = A} {B = B} test f (x ∷ xs) = by (test (f x)) (find-over test f xs)
  where
    by : (b : Bool) → find test (map f xs) ≡ option_map f (find (λ (y : A). test (f y)) xs)
        → cond b (Some (f x)) (find test (map f xs)) ≡ option_map f (cond b (Some x) (find (λ (y : A). test (f y)) xs))
    by true rest = refl
    by false rest = rest

pub one-of : (id : ConsumerId) (m : Parts) (s : State) → Stands m s
    → consumer_of id s.consumers ≡ option_map consumer_at (one_of id m.served)
one-of id m s stands =
    ap (λ (t : State). consumer_of id t.consumers) stands.rest
    ∙ find-over (λ (c : Consumer). same_consumer c.id id) consumer_at m.served

pub one-in : (id : ConsumerId) (ones : List Served) (one : Served) → one_of id ones ≡ Some one → In one ones
one-in id ones one found = (find-in (λ (k : Served). same_consumer k.consumer.id id) ones one found).0

-- its free credit
pub credit-is : (id : ConsumerId) (m : Parts) (s : State) → Stands m s → IsWhole m
    → credit_of id s.rows s.consumers ≡ parts_credit id m
credit-is id m s stands whole =
    ap (λ (o : Option Consumer). option_map_or (free_credit s.rows) o 0) (one-of id m s stands)
    ∙ by (one_of id m.served) refl
  where
    by : (o : Option Served) → one_of id m.served ≡ o
        → option_map_or (free_credit s.rows) (option_map consumer_at o) 0 ≡ option_map_or credit_of_one o 0
    by None found = refl
    by (Some one) found =
        ap (λ n. credit_left one.consumer.mode one.consumer.credit n)
        (out-is m s one stands whole (one-in id m.served one found))

-- A change --------------------------------------------------------------------------------------------

-- parts and a state, each with a change under a test
pub holds-if : (a b : Bool) (m n : Parts) (s u : State) → b ≡ a → Holds m s → Holds n u
    → Holds (if a then m else n) (if b then s else u)
holds-if a b m n s u is first second =
    subst (λ (c : Bool). Holds (if a then m else n) (if c then s else u)) (sym is) (by a)
  where
    by : (c : Bool) → Holds (if c then m else n) (if c then s else u)
    by true = first
    by false = second

pub changes-one : (m : Parts) (s : State) (one : Served) (new : Consumer) → Holds m s → In one m.served
    → new.id ≡ one.consumer.id → new.next_id ≡ one.consumer.next_id
    → Holds (changed new m) (record s { consumers = put_consumer new s.consumers })
changes-one m s one new it here id next =
    may_change m s it.stands it.whole one new (Contains-in one m.served here) id next

pub finishes : (m : Parts) (s : State) → Holds m s → Holds (keep_ones needed_one m) (drop_finished s)
finishes m s it = may_finish m s it.stands it.whole

-- a turn is drawn
abbrev drawn : Parts → Parts
drawn m = record m { rest = record (m.rest) { turns = m.rest.turns + 1 } }

draws : (m : Parts) (s : State) → Holds m s → Holds (drawn m) (record s { turns = s.turns + 1 })
draws m s it = record {
  stands = record {
    rest = ap (λ (t : State). record t { turns = t.turns + 1 }) it.stands.rest;
    perm = it.stands.perm;
    rising = it.stands.rising;
    long = it.stands.long;
  };
  whole = whole-rest m (drawn m).rest refl refl refl it.whole;
}

takes-turn : (id : ConsumerId) (m : Parts) (s : State) (o : Option Served) → Holds m s → one_of id m.served ≡ o
    → Holds (parts_take_turn o m) (take_turn (option_map consumer_at o) s)
takes-turn id m s None it found = it
takes-turn id m s (Some one) it found =
    let c : Consumer = one.consumer in
    let turns : s.turns ≡ m.rest.turns = ap (λ (t : State). t.turns) it.stands.rest in
    let made =
    changes-one (drawn m) (record s { turns = s.turns + 1 }) one (record c { turn = m.rest.turns + 1 }) (draws m s it)
    (one-in id m.served one found) refl refl in
    subst (λ n. Holds (changed (record c { turn = m.rest.turns + 1 }) (drawn m))
    (record s { turns = s.turns + 1; consumers = put_consumer (record c { turn = n + 1 }) s.consumers }))
    (sym turns) made

pub begins : (before : ℕ) (id : ConsumerId) (m : Parts) (s : State) → Holds m s
    → Holds (parts_begin_to_wait before id m) (begin_to_wait before id s)
begins before id m s it =
    holds-if (nat_eq before 0 && nat_lt 0 (parts_credit id m))
    (nat_eq before 0 && nat_lt 0 (credit_of id s.rows s.consumers)) (parts_take_turn (one_of id m.served) m) m
    (take_turn (consumer_of id s.consumers) s) s
    (ap (λ n. nat_eq before 0 && nat_lt 0 n) (credit-is id m s it.stands it.whole))
    (subst (λ (o : Option Consumer). Holds (parts_take_turn (one_of id m.served) m) (take_turn o s))
    (sym (one-of id m s it.stands)) (takes-turn id m s (one_of id m.served) it refl))
    it
