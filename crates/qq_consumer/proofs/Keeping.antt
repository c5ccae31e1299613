-- What each change of the consumers keeps: the queue of those that wait, and that each is needed.
use Rattle.std.proofs.Common.{◌≡◌, ◌⊎◌, ◌+◌, ◌<◌, ◌≤◌, ℕ, Bool, true, false, not, ◌&&◌, cond, List, [], ◌∷◌, ◌++◌, Option, Some, None, IfSome, length, is_some, refl, sym, ap, ◌∙◌, subst, inl, inr, arith}
use Rattle.std.specs.Prelude.{nat_eq}
use Rattle.std.specs.List.{AllByRecursion}
use Rattle.std.specs.Option.{option_and_then}
use Rattle.std.proofs.lemmas.Bool.{false≢true, cases_Bool, cond-true, cond-false, ne_eqb}
use Rattle.std.proofs.lemmas.List.{length_push}
use Rattle.qq_base.specs.declared.ids.ConsumerId.{ConsumerId}
use Rattle.qq_base.specs.Ids.{same_consumer}
use Rattle.qq_base.proofs.Lists.{AllByRecursion-append}
use Rattle.qq_entry.specs.declared.command.Mode.{Mode}
use Rattle.qq_entry.specs.declared.command.Mode.TheVariants.{Prefetch, Link}
use Rattle.qq_model.specs.declared.consumer.Consumer.{Consumer}
use Rattle.qq_model.specs.Commands.{new_consumer}
use Rattle.qq_model.specs.Serving.{use_credit, serve}
use Rattle.qq_model.proofs.OneConsumer.{same_consumer-refl}
use Rattle.qq_parts.specs.Reduced.{Item}
use Rattle.qq_parts.specs.Parts.{Served}
use Rattle.qq_parts.specs.Outs.{hand_to, serve_one}
use Rattle.qq_parts.specs.Turns.{may_serve}
use Rattle.qq_parts.specs.Consumers.{needed_one}
use Rattle.qq_consumer.specs.Numbers.{AreBelow}
use Rattle.qq_consumer.specs.declared.row.ConsumerRow.{ConsumerRow}
use Rattle.qq_consumer.specs.Roster.{is_one, one_of, is_there, served_of}
use Rattle.qq_consumer.specs.Turns.{turn_of, waiting_turn, Waiting, IsQueue, IsKept, leave, enter}
use Rattle.qq_consumer.proofs.Ones.{other-handed, own-handed, other-joined, own-joined}
use Rattle.qq_consumer.proofs.Queueing.{stays-queue, leave-queue, enter-queue, below-last}

-- ---- the queue

-- a consumer is aside
abbrev aside : ConsumerId → (ConsumerId → Option ℕ) → ConsumerId → Option ℕ
aside id f q = cond (same_consumer id q) None (f q)

-- the consumers find the others as before
abbrev pub FindsOthers : ConsumerId → List Served → List Served → Type 0
FindsOthers id old new = (q : ConsumerId) → same_consumer id q ≡ false → one_of q new ≡ one_of q old

left-queue : (id : ConsumerId) (old : List Served) (last : ℕ) (ws : Waiting) → IsQueue (waiting_turn old) last ws
    → IsQueue (aside id (waiting_turn old)) last (leave (waiting_turn old id) ws)
left-queue id old last ws queue =
    leave-queue id (waiting_turn old) (aside id (waiting_turn old)) last ws (waiting_turn old id) queue
    (λ q other. cond-false (same_consumer id q) None (waiting_turn old q) other) refl
    (cond-true (same_consumer id id) None (waiting_turn old id) (same_consumer-refl id))

-- one that was aside is in the queue by its new turn
pub moved-queue : (id : ConsumerId) (old new : List Served) (last later : ℕ) (ws : Waiting)
    → IsQueue (waiting_turn old) last ws → FindsOthers id old new → last < later
    → (waiting_turn new id ≡ None) ⊎ (waiting_turn new id ≡ Some later)
    → IsQueue (waiting_turn new) later (enter id (waiting_turn new id) (leave (waiting_turn old id) ws))
moved-queue id old new last later ws queue others less drawn =
    enter-queue id (aside id (waiting_turn old)) (waiting_turn new) last later (leave (waiting_turn old id) ws)
    (waiting_turn new id) (left-queue id old last ws queue)
    (λ q other. ap (option_and_then turn_of) (others q other)
    ∙ sym (cond-false (same_consumer id q) None (waiting_turn old q) other))
    (cond-true (same_consumer id id) None (waiting_turn old id) (same_consumer-refl id)) refl less drawn

-- one that may not be served any more leaves it
pub ended-queue : (id : ConsumerId) (old new : List Served) (last : ℕ) (ws : Waiting)
    → IsQueue (waiting_turn old) last ws → FindsOthers id old new → waiting_turn new id ≡ None
    → IsQueue (waiting_turn new) last (leave (waiting_turn old id) ws)
ended-queue id old new last ws queue others none =
    leave-queue id (waiting_turn old) (waiting_turn new) last ws (waiting_turn old id) queue
    (λ q other. ap (option_and_then turn_of) (others q other)) refl none

-- one whose turn stays keeps its place
pub kept-queue : (id : ConsumerId) (old new : List Served) (last later : ℕ) (ws : Waiting)
    → IsQueue (waiting_turn old) last ws → FindsOthers id old new → waiting_turn new id ≡ waiting_turn old id
    → last ≤ later → IsQueue (waiting_turn new) later ws
kept-queue id old new last later ws queue others same le =
    stays-queue id (waiting_turn old) (waiting_turn new) last later ws queue
    (λ q other. ap (option_and_then turn_of) (others q other)) same le

-- a turn that is drawn now is above all
pub entered-below : (id : ConsumerId) (old new : List Served) (last later : ℕ) (ws : Waiting)
    → IsQueue (waiting_turn old) last ws → last < later
    → (waiting_turn new id ≡ None) ⊎ (waiting_turn new id ≡ Some later)
    → IfSome (waiting_turn new id) (λ n. AreBelow n (leave (waiting_turn old id) ws))
entered-below id old new last later ws queue less (inl none) =
    subst (λ (o : Option ℕ). IfSome o (λ n. AreBelow n (leave (waiting_turn old id) ws))) (sym none) tt
entered-below id old new last later ws queue less (inr drawn) =
    subst (λ (o : Option ℕ). IfSome o (λ n. AreBelow n (leave (waiting_turn old id) ws))) (sym drawn)
    (below-last last later (leave (waiting_turn old id) ws) (left-queue id old last ws queue).drawn less)

-- a consumer's turn is its own, if it may be served
pub drawn-turn : (one : Served) (turn : ℕ) → one.consumer.turn ≡ turn → (turn_of one ≡ None) ⊎ (turn_of one ≡ Some turn)
drawn-turn one turn own = by (cases_Bool (may_serve one))
  where
    by : (may_serve one ≡ true) ⊎ (may_serve one ≡ false) → (turn_of one ≡ None) ⊎ (turn_of one ≡ Some turn)
    by (inl may) = inr (cond-true (may_serve one) (Some one.consumer.turn) None may ∙ ap (λ n. Some n) own)
    by (inr may) = inl (cond-false (may_serve one) (Some one.consumer.turn) None may)

-- ---- a delivery

serve-turn : (turn : ℕ) (consumer : Consumer) → (serve turn consumer).turn ≡ turn
serve-turn turn consumer = by consumer.mode
  where
    by : (mode : Mode) → (use_credit mode (record consumer { next_id = consumer.next_id + 1; turn = turn })).turn ≡ turn
    by (Prefetch prefetch) = refl
    by Link = refl

some-of : {A : Type 0} (o : Option A) → is_some o ≡ true → (x : A) × (o ≡ Some x)
some-of None some = absurd (false≢true some)
some-of (Some x) some = (x, refl)

-- who may be served is there
pub served-there : (id : ConsumerId) (old : List Served) → is_some (waiting_turn old id) ≡ true
    → (one : Served) × (one_of id old ≡ Some one)
served-there id old some = by (one_of id old) refl some
  where
    by : (o : Option Served) → one_of id old ≡ o → is_some (option_and_then turn_of o) ≡ true
        → (one : Served) × (one_of id old ≡ Some one)
    by None is some' = absurd (false≢true some')
    by (Some one) is some' = (one, is)

pub handed-turn : (turn : ℕ) (x : Item) (id : ConsumerId) (old : List Served) → is_some (waiting_turn old id) ≡ true
    → (waiting_turn (hand_to turn x id old) id ≡ None) ⊎ (waiting_turn (hand_to turn x id old) id ≡ Some turn)
handed-turn turn x id old some =
    let there = served-there id old some in
    let one : Served = there.0 in
    let is : waiting_turn (hand_to turn x id old) id ≡ turn_of (serve_one turn x one) =
    ap (option_and_then turn_of) (own-handed turn x id old one there.1) in
    subst (λ (o : Option ℕ). (o ≡ None) ⊎ (o ≡ Some turn)) (sym is)
    (drawn-turn (serve_one turn x one) turn (serve-turn turn one.consumer))

abbrev pub IsNeeded : Served → Type 0
IsNeeded one = needed_one one ≡ true

not-both : (b : Bool) → not (b && false) ≡ true
not-both true = refl
not-both false = refl

pub needed-out : (consumer : Consumer) (out : List Item) (x : Item)
    → IsNeeded (record { consumer = consumer; out = out ++ x ∷ [] })
needed-out consumer out x =
    ap (λ n. not (consumer.cancelled && nat_eq n 0)) (length_push out x)
    ∙ ap (λ (b : Bool). not (consumer.cancelled && b)) (ne_eqb (length out + 1) 0 (λ e. absurd (omega (arith, e))))
    ∙ not-both consumer.cancelled

pub handed-needed : (turn : ℕ) (x : Item) (id : ConsumerId) (old : List Served) → AllByRecursion IsNeeded old
    → AllByRecursion IsNeeded (hand_to turn x id old)
handed-needed turn x id [] each = tt
handed-needed turn x id (one ∷ old) each = by (cases_Bool (is_one id one)) (handed-needed turn x id old each.1)
  where
    by : (is_one id one ≡ true) ⊎ (is_one id one ≡ false) → AllByRecursion IsNeeded (hand_to turn x id old)
        → AllByRecursion IsNeeded (hand_to turn x id (one ∷ old))
    by (inl is) rest =
        subst (AllByRecursion IsNeeded)
        (sym (cond-true (is_one id one) (serve_one turn x one ∷ old) (one ∷ hand_to turn x id old) is))
        (needed-out (serve turn one.consumer) one.out _, each.1)
    by (inr isn't) rest =
        subst (AllByRecursion IsNeeded)
        (sym (cond-false (is_one id one) (serve_one turn x one ∷ old) (one ∷ hand_to turn x id old) isn't))
        (each.0, rest)

-- all of a delivery
pub delivered-kept : (turn : ℕ) (x : Item) (id : ConsumerId) (old new : List Served) (last : ℕ) (ws vs : Waiting)
    → IsKept ws (record { served = old; turns = last }) → is_some (waiting_turn old id) ≡ true → last + 1 ≡ turn
    → new ≡ hand_to turn x id old → vs ≡ enter id (waiting_turn new id) (leave (waiting_turn old id) ws)
    → IsKept vs (record { served = new; turns = turn })
delivered-kept turn x id old new last ws vs kept some next is after =
    let less : last < turn = omega arith in
    subst (λ (s : List Served). IsKept vs (record { served = s; turns = turn })) (sym is)
    (subst (λ (us : Waiting). IsKept us (record { served = hand_to turn x id old; turns = turn }))
    (sym (after ∙ ap (λ (s : List Served). enter id (waiting_turn s id) (leave (waiting_turn old id) ws)) is)) (record {
      queue =
          moved-queue id old (hand_to turn x id old) last turn ws kept.queue
          (λ q other. other-handed turn x id q old other) less (handed-turn turn x id old some);
      needed = handed-needed turn x id old kept.needed;
    }))

-- ---- one joins

pub none-there : (id : ConsumerId) (old : List Served) → is_there id old ≡ false → one_of id old ≡ None
none-there id old free = by (one_of id old) free
  where
    by : (o : Option Served) → is_some o ≡ false → o ≡ None
    by None e = refl
    by (Some one) e = absurd (false≢true (sym e))

pub joined-kept : (new : Served) (old : List Served) (last turn : ℕ) (ws : Waiting)
    → IsKept ws (record { served = old; turns = last }) → is_there new.consumer.id old ≡ false → last + 1 ≡ turn
    → new.consumer.turn ≡ turn → IsNeeded new
    → IsKept (enter new.consumer.id (turn_of new) ws) (record { served = old ++ new ∷ []; turns = turn })
joined-kept new old last turn ws kept free next own needed =
    let id : ConsumerId = new.consumer.id in
    let less : last < turn = omega arith in
    let none : one_of id old ≡ None = none-there id old free in
    let before : waiting_turn old id ≡ None = ap (option_and_then turn_of) none in
    let now : waiting_turn (old ++ new ∷ []) id ≡ turn_of new = ap (option_and_then turn_of)
    (own-joined old new none) in
    record {
      queue =
          subst (λ (us : Waiting). IsQueue (waiting_turn (old ++ new ∷ [])) turn us)
          (ap (λ (o : Option ℕ). enter id o (leave (waiting_turn old id) ws)) now
          ∙ ap (λ (o : Option ℕ). enter id (turn_of new) (leave o ws)) before)
          (moved-queue id old (old ++ new ∷ []) last turn ws kept.queue (λ q other. other-joined q old new other) less
          (subst (λ (o : Option ℕ). (o ≡ None) ⊎ (o ≡ Some turn)) (sym now) (drawn-turn new turn own)));
      needed = AllByRecursion-append IsNeeded old (new ∷ []) kept.needed (needed, tt);
    }

pub joined-below : (new : Served) (old : List Served) (last turn : ℕ) (ws : Waiting)
    → IsKept ws (record { served = old; turns = last }) → last + 1 ≡ turn → new.consumer.turn ≡ turn
    → IfSome (turn_of new) (λ n. AreBelow n ws)
joined-below new old last turn ws kept next own = by (drawn-turn new turn own)
  where
    by : (turn_of new ≡ None) ⊎ (turn_of new ≡ Some turn) → IfSome (turn_of new) (λ n. AreBelow n ws)
    by (inl none) = subst (λ (o : Option ℕ). IfSome o (λ n. AreBelow n ws)) (sym none) tt
    by (inr drawn) =
        subst (λ (o : Option ℕ). IfSome o (λ n. AreBelow n ws)) (sym drawn)
        (below-last last turn ws kept.queue.drawn (omega arith))

-- as it joins
pub new-kept : (id : ConsumerId) (mode : Mode) (row : ConsumerRow) (old : List Served) (last turn : ℕ) (ws : Waiting)
    → row.consumer ≡ new_consumer id mode turn → IsKept ws (record { served = old; turns = last })
    → is_there id old ≡ false → last + 1 ≡ turn
    → IsKept (enter id (turn_of (served_of row)) ws) (record { served = old ++ served_of row ∷ []; turns = turn })
new-kept id mode row old last turn ws is kept free next =
    subst
    (λ (k : Consumer). IsKept (enter id (turn_of (served_of (record { consumer = k; out = row.out }))) ws)
    (record { served = old ++ served_of (record { consumer = k; out = row.out }) ∷ []; turns = turn })) (sym is)
    (joined-kept (served_of
    (record { consumer = new_consumer id mode turn; out = row.out })) old last turn ws kept free next
    refl refl)

pub new-below : (id : ConsumerId) (mode : Mode) (row : ConsumerRow) (old : List Served) (last turn : ℕ) (ws : Waiting)
    → row.consumer ≡ new_consumer id mode turn → IsKept ws (record { served = old; turns = last }) → last + 1 ≡ turn
    → IfSome (turn_of (served_of row)) (λ n. AreBelow n ws)
new-below id mode row old last turn ws is kept next =
    joined-below (served_of row) old last turn ws kept next (ap (λ (k : Consumer). k.turn) is)
