-- What the numbers of a sound queue are.
use Rattle.std.proofs.Common.{◌≡◌, ℕ, suc, ◌<◌, ◌≤◌, ◌-◌, List, [], ◌∷◌, Some, None, inl, inr, sym, ap, subst, ◌∙◌, arith}
use Rattle.std.specs.Prelude.{All, Contains}
use Rattle.std.proofs.lemmas.Bool.{cond-true}
use Rattle.qq_base.specs.Ids.{same_consumer}
use Rattle.qq_base.specs.declared.ids.ConsumerId.{ConsumerId}
use Rattle.qq_base.proofs.Lists.{In}
use Rattle.qq_entry.specs.declared.message.Reason.{Reason}
use Rattle.qq_model.specs.declared.consumer.Consumer.{Consumer}
use Rattle.qq_model.specs.declared.place.Row.{Row}
use Rattle.qq_model.specs.declared.place.Place.{Place}
use Rattle.qq_model.specs.declared.place.Place.TheVariants.{Ready, Out, Dead}
use Rattle.qq_model.specs.declared.place.Key.TheVariants.{Front, Back}
use Rattle.qq_model.specs.declared.session.OpenSession.{OpenSession}
use Rattle.qq_model.specs.Commands.{delivery_id}
use Rattle.qq_model.specs.Gate.{IsNumbered}
use Rattle.qq_model.specs.Sound.{front_number, back_number, death_number, KeepsAnswers, IsSound}
use Rattle.qq_model.specs.State.{State}
use Rattle.qq_model.proofs.OneConsumer.{same_consumer-refl}
use Rattle.qq_model.proofs.Soundness.{in_contains}

pub front_drawn : (s : State) (row : Row) (n : ℕ) → IsSound s → Contains s.rows row → row.place ≡ Ready (Front n)
    → (0 < n) × (n ≤ s.returns)
front_drawn s row n sound there is = sound.messages.fronts.drawn row n there (ap front_number is)

pub back_drawn : (s : State) (row : Row) (n : ℕ) → IsSound s → Contains s.rows row → row.place ≡ Ready (Back n)
    → (0 < n) × (n ≤ s.orders)
back_drawn s row n sound there is = sound.messages.backs.drawn row n there (ap back_number is)

pub dead_drawn : (s : State) (row : Row) (n : ℕ) (reason : Reason) → IsSound s → Contains s.rows row
    → row.place ≡ Dead n reason → (0 < n) × (n ≤ s.deads)
dead_drawn s row n reason sound there is = sound.messages.deads.drawn row n there (ap death_number is)

pub front_once : (s : State) (a b : Row) (n : ℕ) → IsSound s → Contains s.rows a → Contains s.rows b
    → a.place ≡ Ready (Front n) → b.place ≡ Ready (Front n) → a ≡ b
front_once s a b n sound in_a in_b is_a is_b =
    sound.messages.fronts.once a b n in_a in_b (ap front_number is_a) (ap front_number is_b)

pub back_once : (s : State) (a b : Row) (n : ℕ) → IsSound s → Contains s.rows a → Contains s.rows b
    → a.place ≡ Ready (Back n) → b.place ≡ Ready (Back n) → a ≡ b
back_once s a b n sound in_a in_b is_a is_b =
    sound.messages.backs.once a b n in_a in_b (ap back_number is_a) (ap back_number is_b)

pub dead_once : (s : State) (a b : Row) (n : ℕ) (first second : Reason) → IsSound s → Contains s.rows a
    → Contains s.rows b → a.place ≡ Dead n first → b.place ≡ Dead n second → a ≡ b
dead_once s a b n first second sound in_a in_b is_a is_b =
    sound.messages.deads.once a b n in_a in_b (ap death_number is_a) (ap death_number is_b)

id-of : (consumer : ConsumerId) (place : Place) (id : ℕ) → place ≡ Out consumer id
    → delivery_id consumer place ≡ Some id
id-of consumer place id is =
    ap (delivery_id consumer) is
    ∙ cond-true (same_consumer consumer consumer) (Some id) None (same_consumer-refl consumer)

pub id_drawn : (s : State) (one : Consumer) (row : Row) (id : ℕ) → IsSound s → Contains s.consumers one
    → IsNumbered one.id.session → Contains s.rows row → row.place ≡ Out one.id id → (0 < id) × (id ≤ one.next_id - 1)
id_drawn s one row id sound there numbered in_row is =
    (sound.consumers.deliveries one there numbered).drawn row id in_row (id-of one.id row.place id is)

pub id_once : (s : State) (one : Consumer) (a b : Row) (id : ℕ) → IsSound s → Contains s.consumers one
    → IsNumbered one.id.session → Contains s.rows a → Contains s.rows b → a.place ≡ Out one.id id
    → b.place ≡ Out one.id id → a ≡ b
id_once s one a b id sound there numbered in_a in_b is_a is_b =
    (sound.consumers.deliveries one there numbered).once a b id in_a in_b (id-of one.id a.place id is_a)
    (id-of one.id b.place id is_b)

-- what holds of each is true of one that is there
of-in : {A : Type 0} (P : A → Type 0) (xs : List A) (one : A) → All P xs → In one xs → P one
of-in P [] one each here = absurd here
of-in P (x ∷ xs) one each (inl same) = subst P (sym same) (each 0 x (omega arith))
of-in P (x ∷ xs) one each (inr later) =
    of-in P xs one (λ k d lt. each (suc k) d (omega (arith, lt))) later

pub answers_of : (s : State) (one : OpenSession) → IsSound s → Contains s.sessions.opened one → KeepsAnswers one
answers_of s one sound there =
    of-in KeepsAnswers s.sessions.opened one sound.sessions.kept (in_contains s.sessions.opened one there)
