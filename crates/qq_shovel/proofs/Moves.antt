-- What was settled was confirmed.
use Rattle.std.proofs.Common.{◌≡◌, ◌∙◌, ◌+◌, ◌<◌, ℕ, zero, suc, Bool, true, false, List, [], ◌∷◌, ◌++◌, ap, arith, cond, Option, Some, None, refl, subst, sym}
use Rattle.std.specs.Bool.{Decides}
use Rattle.std.specs.Prelude.{◌&&◌, Contains, slice_get}
use Rattle.std.proofs.lemmas.Bool.{and_parts}
use Rattle.std.proofs.lemmas.Bool.Decides.{Decides-ltb}
use Rattle.std.proofs.lemmas.List.Elements.{Contains-append_right}
use Rattle.qq_base.specs.Ids.{same_session}
use Rattle.qq_base.specs.declared.ids.SessionId.{SessionId}
use Rattle.qq_model.proofs.SessionLemmas.{same_session-true}
use Rattle.qq_entry.specs.declared.answer.Answer.{Answer}
use Rattle.qq_entry.specs.declared.answer.Answer.TheVariants as answers
use Rattle.qq_entry.specs.declared.answer.Delivery.{Delivery}
use Rattle.qq_entry.specs.declared.audit.AuditRow.{AuditRow}
use Rattle.qq_entry.specs.declared.command.Command.{Command}
use Rattle.qq_entry.specs.declared.command.Command.TheVariants as commands
use Rattle.qq_entry.specs.declared.command.Stamp.{Stamp}
use Rattle.qq_entry.specs.declared.command.Unstamped.TheVariants as bodies
use Rattle.qq_entry.specs.declared.message.Message.{Message}
use Rattle.qq_entry.specs.declared.message.Origin.{Origin}
use Rattle.qq_shovel.specs.Moving.{Moving, after_row, close_by, confirmed, is_confirmed, is_new, is_open, publish_of, settle_by}
use Rattle.qq_shovel.specs.Moved.{AreInTurn, AreKept, Arrives, Deed, Moved, Shows, after_deed, after_deeds, given_on, message_of, publishes}
use Rattle.qq_shovel.specs.declared.shovel.TheConstants.{TAG}

-- ---- the session is the same all the time

close-session : (n : Option ℕ) (m : Moving) → (close_by n m).session ≡ m.session
close-session None m = refl
close-session (Some number) m = refl

close-had : (n : Option ℕ) (m : Moving) → (close_by n m).had ≡ m.had
close-had None m = refl
close-had (Some number) m = refl

deed-session : (deed : Deed) (m : Moving) → (after_deed deed m).session ≡ m.session
deed-session (Arrives delivery) m = by (is_new m delivery)
  where
    by : (b : Bool) → (cond b (record m { had = delivery.id; opened = m.opened ++ delivery.id ∷ [] }) m).session ≡ m.session
    by true = refl
    by false = refl
deed-session (Shows row) m = close-session (confirmed m.session row) m

deeds-session : (deeds : List Deed) (m : Moving) → (after_deeds deeds m).session ≡ m.session
deeds-session [] m = refl
deeds-session (deed ∷ deeds) m = deeds-session deeds (after_deed deed m) ∙ deed-session deed m

-- ---- the publish of a number is of the delivery of that id

-- a delivery that arrived
record Arrived (deeds : List Deed) (id : ℕ) (message : Message) : Type 0 where
  delivery : Delivery
  is_in : Contains deeds (Arrives delivery)
  id_is : delivery.id ≡ id
  message_is : delivery.message ≡ message

later : (deed : Deed) (deeds : List Deed) (id id' : ℕ) (message : Message) → id ≡ id' → Arrived deeds id message
    → Arrived (deed ∷ deeds) id' message
later deed deeds id id' message e a = record {
  delivery = a.delivery;
  is_in = Contains-append_right (deed ∷ []) deeds (Arrives a.delivery) a.is_in;
  id_is = a.id_is ∙ e;
  message_is = a.message_is;
}

no-message : (n : Option ℕ) (m : Moving) → message_of (settle_by m n) ≡ []
no-message None m = refl
no-message (Some number) m = by (is_open m number)
  where
    by : (b : Bool) → message_of (cond b (Some (bodies.Settle TAG (number ∷ []))) None) ≡ []
    by true = refl
    by false = refl

publish-of : (deeds : List Deed) (m : Moving) (n : ℕ) (message : Message) → AreInTurn deeds m
    → slice_get (publishes deeds m) n ≡ Some message → Arrived deeds (m.had + n + 1) message
publish-of [] m n message turns is = absurd cc
publish-of (Shows row ∷ deeds) m n message turns is =
    let here : slice_get (publishes deeds (after_row row m)) n ≡ Some message =
    ap (λ (l : List Message). slice_get (l ++ publishes deeds (after_row row m)) n)
    (sym (no-message (confirmed m.session row) m)) ∙ is in
    let found = publish-of deeds (after_row row m) n message turns.1 here in
    let had : (after_row row m).had ≡ m.had = close-had (confirmed m.session row) m in
    later (Shows row) deeds _ _ message (ap (λ (h : ℕ). h + n + 1) had) found
publish-of (Arrives delivery ∷ deeds) m n message turns is =
    by (λ m' k. publish-of deeds m' k message) (is_new m delivery) (Decides-ltb m.had delivery.id) n turns.1 is
  where
    next : Moving
    next = record m { had = delivery.id; opened = m.opened ++ delivery.id ∷ [] }

    by : ((m' : Moving) (k : ℕ) → AreInTurn deeds m' → slice_get (publishes deeds m') k ≡ Some message
        → Arrived deeds (m'.had + k + 1) message)
        → (new : Bool) → Decides new (m.had < delivery.id) → (n : ℕ) → AreInTurn deeds (cond new next m)
        → slice_get (message_of (cond new (Some (bodies.Enqueue None delivery.message)) None)
        ++ publishes deeds (cond new next m)) n ≡ Some message
        → Arrived (Arrives delivery ∷ deeds) (m.had + n + 1) message
    by more false decides n turns' is' =
        later (Arrives delivery) deeds _ _ message refl (more m n turns' is')
    by more true decides zero turns' is' =
        let lt = decides.0 refl in
        let within = turns.0.1 in
        let id : delivery.id ≡ m.had + 0 + 1 = omega (arith, lt, within) in
        let same : delivery.message ≡ message = cc in
        record { delivery = delivery; is_in = (0, omega arith, refl); id_is = id; message_is = same }
    by more true decides (suc k) turns' is' =
        let lt = decides.0 refl in
        let within = turns.0.1 in
        let id : delivery.id + k + 1 ≡ m.had + suc k + 1 = omega (arith, lt, within) in
        later (Arrives delivery) deeds _ _ message id (more next k turns' is')

-- ---- a settle

some-one : {A : Type 0} (x y : A) (o : Option A) → o ≡ Some x → o ≡ Some y → x ≡ y
some-one x y o e f = by (sym e ∙ f)
  where
    by : Some x ≡ Some y → x ≡ y
    by is = cc

settled-by : (m : Moving) (n : Option ℕ) (id : ℕ) → settle_by m n ≡ Some (bodies.Settle TAG (id ∷ [])) → n ≡ Some id
settled-by m None id is = absurd cc
settled-by m (Some number) id is = by (is_open m number) is
  where
    by : (b : Bool) → cond b (Some (bodies.Settle TAG (number ∷ []))) None ≡ Some (bodies.Settle TAG (id ∷ []))
        → Some number ≡ Some id
    by true e = cc
    by false e = absurd cc

-- it comes of a row
settle-row : (deed : Deed) (m : Moving) (id : ℕ) → given_on deed m ≡ Some (bodies.Settle TAG (id ∷ []))
    → (row : AuditRow) × (deed ≡ Shows row) × (confirmed m.session row ≡ Some id)
settle-row (Arrives delivery) m id is = absurd (by (is_new m delivery) is)
  where
    by : (b : Bool) → cond b (Some (bodies.Enqueue None delivery.message)) None ≡ Some (bodies.Settle TAG (id ∷ [])) → ⊥
    by true e = absurd cc
    by false e = absurd cc
settle-row (Shows row) m id is = (row, refl, settled-by m (confirmed m.session row) id is)

-- ---- a row that confirms

record Confirms (session : SessionId) (row : AuditRow) (id : ℕ) : Type 0 where
  fresh : row.fresh ≡ true
  answer : row.answer ≡ answers.Confirmed
  stamp : Stamp
  origin : Option Origin
  message : Message
  command : row.entry.command ≡ commands.Enqueue stamp origin message
  of_session : stamp.session ≡ session
  number : stamp.seq ≡ id

confirmed-is : (answer : Answer) → is_confirmed answer ≡ true → answer ≡ answers.Confirmed
confirmed-is answers.Confirmed is = refl
confirmed-is answer is = absurd cc

record IsPublish (session : SessionId) (command : Command) (id : ℕ) : Type 0 where
  stamp : Stamp
  origin : Option Origin
  message : Message
  is : command ≡ commands.Enqueue stamp origin message
  of_session : stamp.session ≡ session
  number : stamp.seq ≡ id

publish-is : (session : SessionId) (command : Command) (id : ℕ) → publish_of session command ≡ Some id
    → IsPublish session command id
publish-is session (commands.Enqueue stamp origin message) id is =
    by (same_session stamp.session session) refl is
  where
    by : (b : Bool) → same_session stamp.session session ≡ b → cond b (Some stamp.seq) None ≡ Some id
        → IsPublish session (commands.Enqueue stamp origin message) id
    by true same e = record {
      stamp = stamp;
      origin = origin;
      message = message;
      is = refl;
      of_session = same_session-true stamp.session session same;
      number = cc;
    }
    by false same e = absurd cc
publish-is session command id is = absurd cc

confirms : (session : SessionId) (row : AuditRow) (id : ℕ) → confirmed session row ≡ Some id → Confirms session row id
confirms session row id is = by (row.fresh && is_confirmed row.answer) refl is
  where
    by : (b : Bool) → (row.fresh && is_confirmed row.answer) ≡ b
        → cond b (publish_of session row.entry.command) None ≡ Some id → Confirms session row id
    by false same e = absurd cc
    by true same e =
        let both = and_parts row.fresh (is_confirmed row.answer) same in
        let publish = publish-is session row.entry.command id e in
        record {
          fresh = both.0;
          answer = confirmed-is row.answer both.1;
          stamp = publish.stamp;
          origin = publish.origin;
          message = publish.message;
          command = publish.is;
          of_session = publish.of_session;
          number = publish.number;
        }

-- ---- the law

pub moved : (session : SessionId) (deeds : List Deed) (m : Moving) (deliveries : List Delivery)
    (source target : List AuditRow) → m.had ≡ 0 → m.session ≡ session
    → AreKept session deeds m deliveries source target → Moved session deliveries source target
moved session deeds m deliveries source target none own kept id settles =
    let given = kept.settled id settles in
    let of_row = settle-row given.deed (after_deeds given.before m) id given.is in
    let row = of_row.0 in
    let session_is : (after_deeds given.before m).session ≡ session = deeds-session given.before m ∙ own in
    let c = confirms session row id
    (subst (λ (s : SessionId). confirmed s row ≡ Some id) session_is of_row.2) in
    let among : Contains deeds (Shows row) =
    subst (λ (l : List Deed). Contains l (Shows row)) (sym given.parts)
    (Contains-append_right given.before (given.deed ∷ given.after) (Shows row)
    (subst (λ (d : Deed). Contains (d ∷ given.after) (Shows row)) (sym of_row.1) (0, omega arith, refl))) in
    let there = kept.shown row among in
    let publish = kept.published row c.stamp c.origin c.message there c.fresh c.command c.of_session in
    let arrived = publish-of deeds m publish.0 c.message kept.turns publish.2 in
    let id_is : m.had + publish.0 + 1 ≡ id = omega (arith, none, publish.1, c.number) in (
      c.message,
      record {
        delivery = arrived.delivery;
        is_in = kept.arrived arrived.delivery arrived.is_in;
        id_is = arrived.id_is ∙ id_is;
        message_is = arrived.message_is;
      },
      record {
        row = row;
        is_in = there;
        fresh = c.fresh;
        confirmed = c.answer;
        stamp = c.stamp;
        of_session = c.of_session;
        number_is = c.number;
        origin = c.origin;
        is = c.command;
      },
    )
