-- All checkouts are made in the parts as in the queue.
use Rattle.std.proofs.Common.{◌≡◌, ℕ, zero, suc, ◌+◌, ◌≤◌, ◌⊎◌, Bool, true, false, List, [], ◌∷◌, ◌++◌, Option, Some, None, map, length, refl, sym, ap, ◌∙◌, subst}
use Rattle.std.specs.Prelude.{Contains}
use Rattle.std.specs.Option.{option_map, option_map_or}
use Rattle.std.specs.List.{AllByRecursion}
use Rattle.qq_base.proofs.Lists.{In, In-map}
use Rattle.qq_entry.specs.declared.audit.Effect.{Effect}
use Rattle.qq_entry.specs.declared.audit.Effect.TheVariants.{Deliver}
use Rattle.qq_model.specs.declared.place.Row.{Row}
use Rattle.qq_model.specs.declared.consumer.Consumer.{Consumer}
use Rattle.qq_model.specs.State.{State}
use Rattle.qq_model.specs.Choice.{next_consumer}
use Rattle.qq_model.specs.Changes.{Progress, while_next}
use Rattle.qq_model.specs.Serving.{deliver, deliver_by, check_out, check_out_all}
use Rattle.qq_model.proofs.Soundness.{in_contains}
use Rattle.qq_parts.specs.Reduced.{Item, item_row}
use Rattle.qq_parts.specs.Parts.{Served, consumer_at, Parts}
use Rattle.qq_parts.specs.Reads.{first_of, ready_items}
use Rattle.qq_parts.specs.Changes.{Taken, take_by, take_first}
use Rattle.qq_parts.specs.Outs.{delivery_to}
use Rattle.qq_parts.specs.Turns.{may_serve, AreWaiting, first_one}
use Rattle.qq_parts.specs.Rounds.{Serving, serve_first, round_by, round, serve_all, IsServing}
use Rattle.qq_parts.proofs.Reading.{next-is, ready-is}
use Rattle.qq_parts.proofs.Moving.{first-taken}
use Rattle.qq_parts.proofs.Delivering.{delivers}
use Rattle.qq_parts.proofs.Waiting.{next-in_turn, serving}

-- both stop, or both go on
abbrev pub GoOn : Option Serving → Option Progress → Type 0
GoOn None None = Unit {0}
GoOn (Some t) (Some p) = IsServing t p
GoOn _ _ = ⊥

-- what is taken is the first, and what is left has the same consumers and turns
leaves-by : (fronts backs : List Item) (m : Parts) (taken : Taken) → take_by fronts backs m ≡ Some taken
    → (first_of (fronts ++ backs) ≡ Some taken.item) × (taken.left.served ≡ m.served) × (taken.left.rest ≡ m.rest)
leaves-by [] [] m taken is = absurd cc
leaves-by [] (x ∷ backs) m taken is =
    let same : record { item = x; left = record m { fronts = []; backs = backs } } ≡ taken = cc in
    subst (λ (t : Taken). (Some x ≡ Some t.item) × (t.left.served ≡ m.served) × (t.left.rest ≡ m.rest)) same
    (refl, refl, refl)
leaves-by (x ∷ fronts) backs m taken is =
    let same : record { item = x; left = record m { fronts = fronts; backs = backs } } ≡ taken = cc in
    subst (λ (t : Taken). (Some x ≡ Some t.item) × (t.left.served ≡ m.served) × (t.left.rest ≡ m.rest)) same
    (refl, refl, refl)

none-by : (fronts backs : List Item) (m : Parts) → take_by fronts backs m ≡ None → first_of (fronts ++ backs) ≡ None
none-by [] [] m is = refl
none-by [] (x ∷ backs) m is = absurd cc
none-by (x ∷ fronts) backs m is = absurd cc

-- what waits in the parts, waits in what is left of them
waits-left : (m left : Parts) (waiting : List Served) → left.served ≡ m.served → left.rest ≡ m.rest
    → AreWaiting m waiting → AreWaiting left waiting
waits-left m left waiting served rest queue = record {
  among =
      subst (λ (ones : List Served).
      AllByRecursion
      (λ (one : Served). Contains ones one × (may_serve one ≡ true))
      waiting) (sym served) queue.among;
  all =
      subst (λ (ones : List Served).
      AllByRecursion
      (λ (one : Served).
      (may_serve one ≡ false) ⊎ Contains waiting one) ones) (sym served) queue.all;
  order = queue.order;
  drawn =
      subst (λ (s : State).
      AllByRecursion (λ (one : Served). one.consumer.turn ≤ s.turns) waiting) (sym rest)
      queue.drawn;
}

serves-one : (t : Serving) (p : Progress) (taken : Taken) (one : Served) (ones : List Served) → IsServing t p
    → take_first t.parts ≡ Some taken → t.waiting ≡ one ∷ ones
    → IsServing (serve_first taken one ones t) (deliver taken.item.row one.consumer p)
serves-one t p taken one ones it first waits =
    let m : Parts = t.parts in
    let is = first-taken m p.state taken it.stands it.whole first in
    let leaves = leaves-by m.fronts m.backs m taken first in
    let queue : AreWaiting taken.left (one ∷ ones) =
    subst (AreWaiting taken.left) waits (waits-left m taken.left t.waiting leaves.1 leaves.2 it.waiting) in
    let here : In one.consumer (map consumer_at taken.left.served) =
    In-map consumer_at one taken.left.served (in_contains taken.left.served one queue.among.0.0) in
    let made = delivers taken.item one.consumer taken.left p.state is.stands is.whole here p.effects in
    record {
      stands = made.stands;
      whole = made.whole;
      waiting = serving taken.left taken.item one ones is.whole queue;
      effects =
          made.effects
          ∙ ap (λ (effects : List Effect). effects ++ Deliver one.consumer.id (delivery_to one.consumer taken.item) ∷ [])
          it.effects;
      shared = it.shared;
    }

round-by : (t : Serving) (p : Progress) (o : Option Taken) (waiting : List Served) → IsServing t p
    → take_first t.parts ≡ o → t.waiting ≡ waiting
    → GoOn (round_by o waiting t)
    (deliver_by (option_map item_row (first_of (ready_items t.parts))) (option_map consumer_at (first_one waiting)) p)
round-by t p None waiting it first waits =
    subst (λ (o : Option Item).
    GoOn None (deliver_by (option_map item_row o) (option_map consumer_at (first_one waiting)) p))
    (sym (none-by t.parts.fronts t.parts.backs t.parts first)) tt
round-by t p (Some taken) [] it first waits =
    subst (λ (o : Option Item). GoOn None (deliver_by (option_map item_row o) None p))
    (sym (leaves-by t.parts.fronts t.parts.backs t.parts taken first).0) tt
round-by t p (Some taken) (one ∷ ones) it first waits =
    subst (λ (o : Option Item).
    GoOn (Some (serve_first taken one ones t)) (deliver_by (option_map item_row o) (Some one.consumer) p))
    (sym (leaves-by t.parts.fronts t.parts.backs t.parts taken first).0)
    (serves-one t p taken one ones it first waits)

round-goes : (t : Serving) (p : Progress) → IsServing t p → GoOn (round t) (check_out p)
unfolding check_out
round-goes t p it =
    let message = next-is t.parts p.state it.stands it.whole in
    let consumer : next_consumer p.state.args.single_active p.state.rows p.state.consumers
    ≡ option_map consumer_at (first_one t.waiting) =
    ap (λ (single : Bool). next_consumer single p.state.rows p.state.consumers) it.shared
    ∙ next-in_turn t.parts p.state t.waiting it.stands it.whole it.waiting in
    subst (λ (row : Option Row). GoOn (round t) (deliver_by row
    (next_consumer p.state.args.single_active p.state.rows p.state.consumers) p)) (sym message)
    (subst (λ (one : Option Consumer). GoOn (round t)
    (deliver_by (option_map item_row (first_of (ready_items t.parts))) one p)) (sym consumer)
    (round-by t p (take_first t.parts) t.waiting it refl refl))

goes-by : (f : Serving → Serving) (g : Progress → Progress) (t : Serving) (p : Progress) (o : Option Serving)
    (q : Option Progress) → IsServing t p → GoOn o q
    → ((a : Serving) (b : Progress) → IsServing a b → IsServing (f a) (g b))
    → IsServing (option_map_or f o t) (option_map_or g q p)
goes-by f g t p None None it on rest = it
goes-by f g t p None (Some b) it on rest = absurd on
goes-by f g t p (Some a) None it on rest = absurd on
goes-by f g t p (Some a) (Some b) it on rest = rest a b on

rounds : (n : ℕ) (t : Serving) (p : Progress) → IsServing t p
    → IsServing (while_next n round t) (while_next n check_out p)
rounds zero t p it = it
rounds (suc n) t p it =
    goes-by (while_next n round) (while_next n check_out) t p (round t) (check_out p) it (round-goes t p it) (rounds n)

pub serves_all : (t : Serving) (p : Progress) → IsServing t p → IsServing (serve_all t) (check_out_all p)
unfolding check_out_all
serves_all t p it =
    subst (λ n. IsServing (serve_all t) (while_next n check_out p))
    (sym (ready-is t.parts p.state it.stands it.whole)) (rounds (length (ready_items t.parts)) t p it)
