-- Two steps under way that differ in what is gone alone, and the changes that keep them so.
use Rattle.std.proofs.Common.{◌≡◌, ℕ, zero, suc, ◌+◌, ◌≤◌, Bool, true, false, cond, not, ◌&&◌, List, [], ◌∷◌, ◌++◌, Option, Some, None, refl, sym, ap, ◌∙◌, subst, if◌then◌else◌}
use Rattle.std.specs.Prelude.{nat_eq, nat_lt, filter, find, fold}
use Rattle.std.specs.Option.{option_map_or, option_and_then}
use Rattle.qq_base.specs.declared.ids.ConsumerId.{ConsumerId}
use Rattle.qq_entry.specs.declared.message.Message.{Message}
use Rattle.qq_entry.specs.declared.message.Reason.{Reason}
use Rattle.qq_entry.specs.declared.audit.Effect.TheVariants.{DeadOnce}
use Rattle.qq_entry.specs.declared.queue.Strategy.{Strategy}
use Rattle.qq_entry.specs.declared.queue.Strategy.TheVariants.{Absent, AtMostOnce, AtLeastOnce}
use Rattle.qq_entry.specs.declared.message.Reason.TheVariants as reason
use Rattle.qq_model.specs.declared.place.Key.TheVariants.{Front, Back}
use Rattle.qq_model.specs.declared.place.GoneReason.TheVariants as gone
use Rattle.qq_model.specs.declared.place.Place.{Place}
use Rattle.qq_model.specs.declared.place.Place.TheVariants.{Ready, Dead, Gone}
use Rattle.qq_model.specs.declared.place.Row.{Row}
use Rattle.qq_model.specs.declared.consumer.Consumer.{Consumer}
use Rattle.qq_model.specs.State.{State}
use Rattle.qq_model.specs.Choice.{credit_left, free_credit, may_be_served, waiting_turn, longest_waiting, servable_consumer, next_consumer}
use Rattle.qq_model.specs.Limits.{has_passed}
use Rattle.qq_model.specs.Changes.{Progress, while_next, put_row, consumer_of, die_by, die, go_back, return_row, is_needed, drop_finished, credit_of, take_turn, begin_to_wait}
use Rattle.qq_model.specs.Commands.{Acted, set_state}
use Rattle.qq_model.proofs.Least.{least_by-same_keys}
use Rattle.qq_model.proofs.Lists.{AllByRecursion-from_in}
use Rattle.qq_parts.proofs.Live.{Alike, Scans, scans}
use Rattle.qq_parts.proofs.Puts.{Lives, put-alike, message-alike, alike-later}

-- a state with other rows and messages
abbrev pub with_rows : List Row → List Message → State → State
with_rows rows messages s = record s { rows = rows; messages = messages }

-- a step under way with other rows and messages
abbrev pub over_rows : List Row → List Message → Progress → Progress
over_rows rows messages p = record p { state = with_rows rows messages p.state }

-- two states that differ in what is gone alone
pub record Twins (last : ℕ) (s t : State) : Type 0 where
  pub rows : List Row
  pub messages : List Message
  pub is : t ≡ with_rows rows messages s
  pub alike : Alike last s.rows s.messages rows messages

-- and two steps under way
pub record Same (last : ℕ) (p q : Progress) : Type 0 where
  pub rows : List Row
  pub messages : List Message
  pub is : q ≡ over_rows rows messages p
  pub alike : Alike last p.state.rows p.state.messages rows messages

pub record SameActed (last : ℕ) (a b : Acted) : Type 0 where
  pub progress : Same last a.progress b.progress
  pub answer : a.answer ≡ b.answer

-- both stop, or both go on alike
abbrev pub SameMaybe : ℕ → Option Progress → Option Progress → Type 0
SameMaybe last None None = Unit {0}
SameMaybe last (Some p) (Some q) = Same last p q
SameMaybe last _ _ = ⊥

-- what is alike before a change, is so after it
abbrev pub Keeps : ℕ → (Progress → Progress) → Type 0
Keeps last f =
    (p : Progress) (rows : List Row) (messages : List Message)
    → Alike last p.state.rows p.state.messages rows messages → Same last (f p) (f (over_rows rows messages p))

abbrev pub KeepsMaybe : ℕ → (Progress → Option Progress) → Type 0
KeepsMaybe last f =
    (p : Progress) (rows : List Row) (messages : List Message)
    → Alike last p.state.rows p.state.messages rows messages → SameMaybe last (f p) (f (over_rows rows messages p))

abbrev pub KeepsActed : ℕ → (Progress → Acted) → Type 0
KeepsActed last f =
    (p : Progress) (rows : List Row) (messages : List Message)
    → Alike last p.state.rows p.state.messages rows messages → SameActed last (f p) (f (over_rows rows messages p))

pub then_same : {last : ℕ} (f : Progress → Progress) → Keeps last f → (p q : Progress) → Same last p q
    → Same last (f p) (f q)
then_same {last = last} f keeps p q same =
    subst (λ r. Same last (f p) (f r)) (sym same.is) (keeps p same.rows same.messages same.alike)

pub same-later : {last : ℕ} (next : ℕ) (p q : Progress) → last ≤ next → Same last p q → Same next p q
same-later next p q le same = record {
  rows = same.rows;
  messages = same.messages;
  is = same.is;
  alike = alike-later next p.state.rows p.state.messages same.rows same.messages le same.alike;
}

pub acted-later : {last : ℕ} (next : ℕ) (a b : Acted) → last ≤ next → SameActed last a b → SameActed next a b
acted-later next a b le same =
    record { progress = same-later next a.progress b.progress le same.progress; answer = same.answer }

-- two choices by one test
pub cond-pair : {A B : Type 0} (b : Bool) (R : A → B → Type 0) (x y : A) (x' y' : B) → (b ≡ true → R x x')
    → (b ≡ false → R y y') → R (cond b x y) (cond b x' y')
cond-pair true R x y x' y' holds fails = holds refl
cond-pair false R x y x' y' holds fails = fails refl

-- where nothing is done, what is alike stays so
pub same-as : {last : ℕ} (p : Progress) (rows : List Row) (messages : List Message)
    → Alike last p.state.rows p.state.messages rows messages → Same last p (over_rows rows messages p)
same-as p rows messages alike = record { rows = rows; messages = messages; is = refl; alike = alike }

-- Loops -----------------------------------------------------------------------------------------------

while-by : {last : ℕ} (f : Progress → Progress) (p q : Progress) (o o' : Option Progress) → Same last p q
    → SameMaybe last o o' → ((a b : Progress) → Same last a b → Same last (f a) (f b))
    → Same last (option_map_or f o p) (option_map_or f o' q)
while-by f p q None None same it rest = same
while-by f p q None (Some b) same it rest = absurd it
while-by f p q (Some a) None same it rest = absurd it
while-by f p q (Some a) (Some b) same it rest = rest a b it

pub while-same : {last : ℕ} (next : Progress → Option Progress) → KeepsMaybe last next → (n : ℕ) (p q : Progress)
    → Same last p q → Same last (while_next n next p) (while_next n next q)
while-same next keeps zero p q same = same
while-same {last = last} next keeps (suc n) p q same =
    while-by (while_next n next) p q (next p) (next q) same
    (subst (λ r. SameMaybe last (next p) (next r)) (sym same.is) (keeps p same.rows same.messages same.alike))
    (while-same next keeps n)

-- as many rounds on both sides
pub rounds-same : {last : ℕ} (next : Progress → Option Progress) → KeepsMaybe last next → (n m : ℕ) → n ≡ m
    → (p q : Progress) → Same last p q → Same last (while_next n next p) (while_next m next q)
rounds-same {last = last} next keeps n m e p q same =
    subst (λ k. Same last (while_next n next p) (while_next k next q)) e (while-same next keeps n p q same)

pub fold-same : {A : Type 0} {last : ℕ} (f : Progress → A → Progress) → ((x : A) → Keeps last (λ p. f p x))
    → (xs : List A) (p q : Progress) → Same last p q → Same last (fold f p xs) (fold f q xs)
fold-same f keeps [] p q same = same
fold-same f keeps (x ∷ xs) p q same =
    fold-same f keeps xs (f p x) (f q x) (then_same (λ r. f r x) (keeps x) p q same)

-- A message dies, or goes back -----------------------------------------------------------------------

-- a message, at another place
pub lives-at : (rows : List Row) (row : Row) (place : Place) → Lives rows row → Lives rows (record row { place = place })
lives-at rows row place lives =
    record { old = lives.old; here = lives.here; live = lives.live; index = lives.index }

die_by-same : {last : ℕ} (strategy : Strategy) (cause : Reason) (row : Row) (p : Progress) (rows : List Row)
    (messages : List Message) → Alike last p.state.rows p.state.messages rows messages → Lives p.state.rows row
    → Same last (die_by strategy cause row p) (die_by strategy cause row (over_rows rows messages p))
die_by-same Absent cause row p rows messages alike lives =
    let new : Row = record row { place = Gone (gone.Died cause) } in
    record {
      rows = put_row new rows;
      messages = messages;
      is = refl;
      alike = put-alike new p.state.rows p.state.messages rows messages alike (lives-at _ row _ lives);
    }
die_by-same AtMostOnce cause row p rows messages alike lives =
    let new : Row = record row { place = Gone (gone.Died cause) } in
    record {
      rows = put_row new rows;
      messages = messages;
      is =
          ap (λ (message : Message). record {
            state = record (p.state) { rows = put_row new rows; messages = messages };
            effects = p.effects ++ DeadOnce cause message ∷ [];
          }) (sym (message-alike row p.state.rows p.state.messages rows messages alike lives));
      alike = put-alike new p.state.rows p.state.messages rows messages alike (lives-at _ row _ lives);
    }
die_by-same AtLeastOnce cause row p rows messages alike lives =
    let new : Row = record row { place = Dead (p.state.deads + 1) cause } in
    record {
      rows = put_row new rows;
      messages = messages;
      is = refl;
      alike = put-alike new p.state.rows p.state.messages rows messages alike (lives-at _ row _ lives);
    }

pub die-same : {last : ℕ} (cause : Reason) (row : Row) (p : Progress) (rows : List Row) (messages : List Message)
    → Alike last p.state.rows p.state.messages rows messages → Lives p.state.rows row
    → Same last (die cause row p) (die cause row (over_rows rows messages p))
unfolding die
die-same cause row p rows messages alike lives =
    die_by-same p.state.args.strategy cause row p rows messages alike lives

go_back-same : {last : ℕ} (limit : Option ℕ) (row : Row) (p : Progress) (rows : List Row) (messages : List Message)
    → Alike last p.state.rows p.state.messages rows messages → Lives p.state.rows row
    → Same last (go_back limit row p) (go_back limit row (over_rows rows messages p))
go_back-same None row p rows messages alike lives =
    let new : Row = record row { place = Ready (Back (p.state.orders + 1)) } in
    record {
      rows = put_row new rows;
      messages = messages;
      is = refl;
      alike = put-alike new p.state.rows p.state.messages rows messages alike (lives-at _ row _ lives);
    }
go_back-same (Some limit) row p rows messages alike lives =
    let new : Row = record row { place = Ready (Front (p.state.returns + 1)) } in
    record {
      rows = put_row new rows;
      messages = messages;
      is = refl;
      alike = put-alike new p.state.rows p.state.messages rows messages alike (lives-at _ row _ lives);
    }

pub return_row-same : {last : ℕ} (row : Row) (p : Progress) (rows : List Row) (messages : List Message)
    → Alike last p.state.rows p.state.messages rows messages → Lives p.state.rows row
    → Same last (return_row row p) (return_row row (over_rows rows messages p))
unfolding return_row
return_row-same {last = last} row p rows messages alike lives =
    let counted : Row = record row { count = row.count + 1 } in
    let q : Progress = over_rows rows messages p in
    let its : Lives p.state.rows counted =
    record { old = lives.old; here = lives.here; live = lives.live; index = lives.index } in
    cond-pair (has_passed p.state.args.delivery_limit counted.count) (Same last)
    (die reason.DeliveryLimit counted p) (go_back p.state.args.delivery_limit counted p)
    (die reason.DeliveryLimit counted q) (go_back p.state.args.delivery_limit counted q)
    (λ _. die-same reason.DeliveryLimit counted p rows messages alike its)
    (λ _. go_back-same p.state.args.delivery_limit counted p rows messages alike its)

-- Consumers -------------------------------------------------------------------------------------------

pub free_credit-same : (rows rows' : List Row) → Scans rows rows' → (one : Consumer)
    → free_credit rows one ≡ free_credit rows' one
free_credit-same rows rows' same one = ap (credit_left one.mode one.credit) (same.out one.id)

pub may_be_served-same : (rows rows' : List Row) → Scans rows rows' → (one : Consumer)
    → may_be_served rows one ≡ may_be_served rows' one
may_be_served-same rows rows' same one =
    ap (λ n. not one.cancelled && nat_lt 0 n) (free_credit-same rows rows' same one)

active-by : (rows rows' : List Row) → Scans rows rows' → (o : Option Consumer)
    → option_and_then (servable_consumer rows) o ≡ option_and_then (servable_consumer rows') o
active-by rows rows' same None = refl
active-by rows rows' same (Some one) =
    ap (λ (may : Bool). if may then Some one else None) (may_be_served-same rows rows' same one)

longest-same : (rows rows' : List Row) → Scans rows rows' → (consumers : List Consumer)
    → longest_waiting rows consumers ≡ longest_waiting rows' consumers
longest-same rows rows' same consumers =
    least_by-same_keys nat_lt (waiting_turn rows) (waiting_turn rows') consumers
    (AllByRecursion-from_in (λ (one : Consumer). waiting_turn rows one ≡ waiting_turn rows' one) consumers
    (λ one here. ap (λ (may : Bool). if may then Some one.turn else None) (may_be_served-same rows rows' same one)))

pub next_consumer-same : (single : Bool) (rows rows' : List Row) → Scans rows rows' → (consumers : List Consumer)
    → next_consumer single rows consumers ≡ next_consumer single rows' consumers
next_consumer-same true rows rows' same consumers =
    active-by rows rows' same (find (λ (one : Consumer). not one.cancelled) consumers)
next_consumer-same false rows rows' same consumers = longest-same rows rows' same consumers

credit-by : (rows rows' : List Row) → Scans rows rows' → (o : Option Consumer)
    → option_map_or (free_credit rows) o 0 ≡ option_map_or (free_credit rows') o 0
credit-by rows rows' same None = refl
credit-by rows rows' same (Some one) = free_credit-same rows rows' same one

pub credit_of-same : (id : ConsumerId) (rows rows' : List Row) → Scans rows rows' → (consumers : List Consumer)
    → credit_of id rows consumers ≡ credit_of id rows' consumers
credit_of-same id rows rows' same consumers = credit-by rows rows' same (consumer_of id consumers)

filter-same : {A : Type 0} (p q : A → Bool) → ((x : A) → p x ≡ q x) → (xs : List A) → filter p xs ≡ filter q xs
filter-same p q same [] = refl
filter-same {A = A} p q same (x ∷ xs) =
    ap (λ (b : Bool). cond b (x ∷ filter p xs) (filter p xs)) (same x)
    ∙ ap (λ (ys : List A). cond (q x) (x ∷ ys) ys) (filter-same p q same xs)

pub finished-same : {last : ℕ} → Keeps last (λ p. set_state (drop_finished p.state) p)
finished-same p rows messages alike =
    let same = scans p.state.rows p.state.messages rows messages alike in
    record {
      rows = rows;
      messages = messages;
      is =
          ap (λ (consumers : List Consumer).
          record p { state = record (p.state) { rows = rows; messages = messages; consumers = consumers } })
          (sym (filter-same (is_needed p.state.rows) (is_needed rows)
          (λ one. ap (λ n. not (one.cancelled && nat_eq n 0)) (same.out one.id)) p.state.consumers));
      alike = alike;
    }

turn-same : {last : ℕ} (o : Option Consumer) → Keeps last (λ p. set_state (take_turn o p.state) p)
turn-same None p rows messages alike = same-as p rows messages alike
turn-same (Some one) p rows messages alike =
    record { rows = rows; messages = messages; is = refl; alike = alike }

pub waits-same : {last : ℕ} (before : ℕ) (id : ConsumerId)
    → Keeps last (λ p. set_state (begin_to_wait before id p.state) p)
waits-same {last = last} before id p rows messages alike =
    let same = scans p.state.rows p.state.messages rows messages alike in
    let q : Progress = over_rows rows messages p in
    let one : Option Consumer = consumer_of id p.state.consumers in
    let test : ℕ → Bool = λ n. nat_eq before 0 && nat_lt 0 n in
    let start : State → Bool → Progress = λ s b. set_state (if b then take_turn one s else s) (record p { state = s }) in
    subst (λ n. Same last (start p.state (test (credit_of id p.state.rows p.state.consumers))) (start q.state (test n)))
    (credit_of-same id p.state.rows rows same p.state.consumers)
    (by (test (credit_of id p.state.rows p.state.consumers)))
  where
    by : (b : Bool) → Same last
        (set_state (if b then take_turn (consumer_of id p.state.consumers) p.state else p.state) p)
        (set_state
        (if b then take_turn (consumer_of id p.state.consumers) (with_rows rows messages p.state)
        else with_rows rows messages p.state) (over_rows rows messages p))
    by true = turn-same (consumer_of id p.state.consumers) p rows messages alike
    by false = same-as p rows messages alike
