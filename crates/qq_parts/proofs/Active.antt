-- The single active consumer.
use Rattle.std.proofs.Common.{◌≡◌, Bool, true, false, not, cond, List, [], ◌∷◌, Option, Some, None, map, refl, ap, ◌∙◌, if◌then◌else◌}
use Rattle.std.specs.Prelude.{find}
use Rattle.std.specs.Option.{option_and_then, option_map}
use Rattle.qq_base.proofs.Lists.{find-in}
use Rattle.qq_model.specs.declared.consumer.Consumer.{Consumer}
use Rattle.qq_model.specs.State.{State}
use Rattle.qq_model.specs.Choice.{servable_consumer, active_consumer, next_consumer}
use Rattle.qq_parts.specs.Parts.{Served, consumer_at, Parts, Stands, IsWhole}
use Rattle.qq_parts.specs.Turns.{may_serve, servable_one, is_current, active_one}
use Rattle.qq_parts.proofs.Waiting.{may-is}

find-current : (ones : List Served)
    → find (λ (c : Consumer). not c.cancelled) (map consumer_at ones) ≡ option_map consumer_at (find is_current ones)
find-current [] = refl
find-current (one ∷ ones) = by (not one.consumer.cancelled) (find-current ones)
  where
    by : (b : Bool) → find (λ (c : Consumer). not c.cancelled) (map consumer_at ones)
        ≡ option_map consumer_at (find is_current ones)
        → cond b (Some one.consumer) (find (λ (c : Consumer). not c.cancelled) (map consumer_at ones))
        ≡ option_map consumer_at (cond b (Some one) (find is_current ones))
    by true rest = refl
    by false rest = rest

servable-is : (m : Parts) (s : State) (o : Option Served) → Stands m s → IsWhole m → find is_current m.served ≡ o
    → option_and_then (servable_consumer s.rows) (option_map consumer_at o)
    ≡ option_map consumer_at (option_and_then servable_one o)
servable-is m s None stands whole found = refl
servable-is m s (Some one) stands whole found =
    let here = (find-in is_current m.served one found).0 in
    ap (λ (b : Bool). if b then Some one.consumer else None) (may-is m s one stands whole here) ∙ by (may_serve one)
  where
    by : (b : Bool) → (if b then Some one.consumer else None) ≡ option_map consumer_at (if b then Some one else None)
    by true = refl
    by false = refl

pub active-is : (m : Parts) (s : State) → Stands m s → IsWhole m
    → next_consumer true s.rows s.consumers ≡ option_map consumer_at (active_one m.served)
active-is m s stands whole =
    ap (λ (t : State). active_consumer s.rows t.consumers) stands.rest
    ∙ ap (option_and_then (servable_consumer s.rows)) (find-current m.served)
    ∙ servable-is m s (find is_current m.served) stands whole refl
