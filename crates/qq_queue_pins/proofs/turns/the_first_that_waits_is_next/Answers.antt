use Rattle.std.proofs.Common.{◌≡◌, ◌⊎◌, ◌≤◌, ◌+◌, ◌∷◌, List, true, false, refl}
use Rattle.std.specs.Prelude.{Contains}
use Rattle.qq_base.proofs.Lists.{AllByRecursion-in}
use Rattle.qq_model.proofs.Soundness.{in_contains}
use Rattle.qq_parts.specs.Outs.{hand_over, serve_one}
use Rattle.qq_parts.specs.Parts.{Served}
use Rattle.qq_parts.specs.Turns.{AreWaiting, behind, may_serve}
use Rattle.qq_queue_pins.proofs.turns.the_first_that_waits_is_next.Goals as goal

pub returns-clause-next : goal.returns-clause-next
returns-clause-next c = λ m s waiting stands whole wait. (c.turns_are_a_queue.ensures m s waiting stands whole wait).next

pub returns-clause-among : goal.returns-clause-among
returns-clause-among c = λ m s x one other ones stands whole wait there.
    let late : List Served = behind (serve_one (m.rest.turns + 1) x one) ones in
    let after : AreWaiting (hand_over x one.consumer m) late =
    (c.turns_are_a_queue.ensures m s (one ∷ ones) stands whole wait).later x one ones refl in
    AllByRecursion-in
    (λ (each : Served). Contains (hand_over x one.consumer m).served each × (may_serve each ≡ true)) other late
    after.among (in_contains late other there)

pub returns-clause-all : goal.returns-clause-all
returns-clause-all c = λ m s x one other ones stands whole wait there.
    let late : List Served = behind (serve_one (m.rest.turns + 1) x one) ones in
    let after : AreWaiting (hand_over x one.consumer m) late =
    (c.turns_are_a_queue.ensures m s (one ∷ ones) stands whole wait).later x one ones refl in
    AllByRecursion-in (λ (each : Served). (may_serve each ≡ false) ⊎ Contains late each) other
    (hand_over x one.consumer m).served after.all (in_contains (hand_over x one.consumer m).served other there)

pub returns-clause-order : goal.returns-clause-order
returns-clause-order c = λ m s x one ones stands whole wait.
    ((c.turns_are_a_queue.ensures m s (one ∷ ones) stands whole wait).later x one ones refl).order

pub returns-clause-drawn : goal.returns-clause-drawn
returns-clause-drawn c = λ m s x one other ones stands whole wait there.
    let late : List Served = behind (serve_one (m.rest.turns + 1) x one) ones in
    let after : AreWaiting (hand_over x one.consumer m) late =
    (c.turns_are_a_queue.ensures m s (one ∷ ones) stands whole wait).later x one ones refl in
    AllByRecursion-in (λ (each : Served). each.consumer.turn ≤ m.rest.turns + 1) other late after.drawn
    (in_contains late other there)
