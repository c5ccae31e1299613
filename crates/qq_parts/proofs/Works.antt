-- A step under way in the parts, and what it stands for.
use Rattle.std.proofs.Common.{◌≡◌, ℕ, zero, suc, Bool, true, false, List, ◌++◌, Option, Some, None, sym, ap, subst, if◌then◌else◌}
use Rattle.std.specs.Option.{option_map_or}
use Rattle.qq_entry.specs.declared.audit.Effect.{Effect}
use Rattle.qq_model.specs.State.{State}
use Rattle.qq_model.specs.Changes.{Progress, while_next}
use Rattle.qq_model.specs.declared.place.Key.TheVariants.{Front, Back}
use Rattle.qq_model.specs.declared.place.Place.TheVariants.{Ready}
use Rattle.qq_parts.specs.Parts.{Parts, Stands, ArePlaced, AreDead, IsWhole}
use Rattle.qq_parts.specs.Changes.{HoldsAfter}
use Rattle.qq_parts.specs.Work.{Work, StandsFor}

-- after a change with these effects more
pub following : (m : Parts) (s : State) (more effects : List Effect) (after : Progress)
    → HoldsAfter m more (record { state = s; effects = effects }) after
    → StandsFor (record { parts = m; effects = effects ++ more }) after
following m s more effects after it = record { stands = it.stands; whole = it.whole; effects = it.effects }

-- both stop, or both go on
abbrev pub GoOn : Option Work → Option Progress → Type 0
GoOn None None = Unit {0}
GoOn (Some t) (Some p) = StandsFor t p
GoOn _ _ = ⊥

-- what is true of the state with the effects of the parts, is true of the step under way
pub with-effects : (P : Progress → Type 0) (t : Work) (p : Progress) → StandsFor t p
    → P (record { state = p.state; effects = t.effects }) → P p
with-effects P t p it holds =
    subst (λ (effects : List Effect). P (record { state = p.state; effects = effects })) (sym it.effects) holds

-- Loops -----------------------------------------------------------------------------------------------

-- a step that is made under a test
pub goes-if : (a b : Bool) (x : Option Work) (y : Option Progress) → b ≡ a → GoOn x y
    → GoOn (if a then x else None) (if b then y else None)
goes-if a b x y is on = subst (λ (c : Bool). GoOn (if a then x else None) (if c then y else None)) (sym is) (by a)
  where
    by : (c : Bool) → GoOn (if c then x else None) (if c then y else None)
    by true = on
    by false = tt

goes-by : (f : Work → Work) (g : Progress → Progress) (t : Work) (p : Progress) (o : Option Work) (q : Option Progress)
    → StandsFor t p → GoOn o q → ((a : Work) (b : Progress) → StandsFor a b → StandsFor (f a) (g b))
    → StandsFor (option_map_or f o t) (option_map_or g q p)
goes-by f g t p None None it on rest = it
goes-by f g t p None (Some b) it on rest = absurd on
goes-by f g t p (Some a) None it on rest = absurd on
goes-by f g t p (Some a) (Some b) it on rest = rest a b on

-- as many rounds, each of which goes on in both
pub loops : (next : Work → Option Work) (step : Progress → Option Progress)
    → ((t : Work) (p : Progress) → StandsFor t p → GoOn (next t) (step p))
    → (n : ℕ) (t : Work) (p : Progress) → StandsFor t p → StandsFor (while_next n next t) (while_next n step p)
loops next step goes zero t p it = it
loops next step goes (suc n) t p it =
    goes-by (while_next n next) (while_next n step) t p (next t) (step p) it (goes t p it) (loops next step goes n)

-- Counters --------------------------------------------------------------------------------------------

-- other counters, but for those from which places are drawn
pub whole-rest : (m : Parts) (rest : State) → m.rest.returns ≡ rest.returns → m.rest.orders ≡ rest.orders
    → m.rest.deads ≡ rest.deads → IsWhole m → IsWhole (record m { rest = rest })
whole-rest m rest returns orders deads whole = record {
  fronts = subst (λ n. ArePlaced (λ k. Ready (Front k)) n m.fronts) returns whole.fronts;
  backs = subst (λ n. ArePlaced (λ k. Ready (Back k)) n m.backs) orders whole.backs;
  served = whole.served;
  apart = whole.apart;
  dead = subst (λ n. AreDead n m.dead) deads whole.dead;
}

-- the arguments are the queue's
pub args-are : (m : Parts) (s : State) → Stands m s → s.args ≡ m.rest.args
args-are m s stands = ap (λ (t : State). t.args) stands.rest
