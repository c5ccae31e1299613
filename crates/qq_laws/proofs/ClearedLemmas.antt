-- A command that ends a delivery leaves nothing out as that delivery.
use Rattle.std.proofs.Common.{◌≡◌, ℕ, true, not, ◌&&◌, List, [], ◌∷◌, Option, Some, None, refl, sym, ap, ◌∙◌, subst, inl, inr}
use Rattle.std.specs.Prelude.{nat_eq, filter}
use Rattle.std.specs.List.{list_any}
use Rattle.std.proofs.lemmas.Bool.{false≢true, and_parts, and_from, eqb-true, eq-eqb, not-true}
use Rattle.qq_base.specs.declared.ids.Index.{Index}
use Rattle.qq_base.specs.declared.ids.SessionId.{SessionId}
use Rattle.qq_base.specs.declared.ids.ConsumerId.{ConsumerId}
use Rattle.qq_base.specs.Ids.{same_consumer}
use Rattle.qq_entry.specs.Command.{consumer_id}
use Rattle.qq_entry.specs.declared.command.Command.{Command}
use Rattle.qq_entry.specs.declared.command.Command.TheVariants.{Settle, Return, Discard, Down}
use Rattle.qq_model.specs.declared.place.Place.TheVariants.{Out}
use Rattle.qq_model.specs.declared.place.Row.{Row}
use Rattle.qq_model.specs.declared.consumer.Consumer.{Consumer}
use Rattle.qq_model.specs.declared.consumer.Outcome.{Outcome}
use Rattle.qq_model.specs.declared.consumer.Outcome.TheVariants.{Settled, Returned, Discarded}
use Rattle.qq_model.specs.State.{State, Sessions}
use Rattle.qq_model.specs.Limits.{is_with_consumer}
use Rattle.qq_model.specs.Changes.{Progress, consumer_of, drop_finished, credit_of}
use Rattle.qq_model.specs.Commands.{set_state, is_delivery, delivered_row, end_delivery, end_delivery_by, end_deliveries, finish_by, finish, is_of_session, return_session, down, act}
use Rattle.qq_model.specs.Reasons.{ends_delivery}
use Rattle.qq_base.proofs.Lists.{In, In-filter_passes, list_any-in, list_any-from_in}
use Rattle.qq_model.proofs.ActKeeps.{act-keeps, fits}
use Rattle.qq_model.proofs.Drawn.{In-put_row}
use Rattle.qq_model.proofs.Holders.{Held, Held-acts, Held-arrives, Seat}
use Rattle.qq_model.proofs.Lists.{find-none}
use Rattle.qq_model.proofs.Loops.{fold-keeps_in}
use Rattle.qq_model.proofs.Lookups.{delivered_row-in}
use Rattle.qq_model.proofs.OneConsumer.{same_consumer-refl, same_consumer-true}
use Rattle.qq_laws.proofs.Carried.{acted_with}
use Rattle.qq_laws.proofs.MessageChanges.{Ended, end_delivery-ended, same-waits}
use Rattle.qq_laws.proofs.Explained.{ends-index, ends-out}

-- nothing is out as the delivery of an id to a consumer
abbrev pub NotOut : ConsumerId → ℕ → List Row → Type 0
NotOut consumer id rows = (row : Row) → In row rows → row.place ≡ Out consumer id → ⊥

-- at most one message is
abbrev pub IsOutAlone : ConsumerId → ℕ → List Row → Type 0
IsOutAlone consumer id rows =
    (a b : Row) → In a rows → In b rows → a.place ≡ Out consumer id → b.place ≡ Out consumer id → a ≡ b

-- what is with a consumer after a delivery has ended was there before
ended-from : {command : Command} (p q : Progress) (old row : Row) (consumer : ConsumerId) (id : ℕ)
    → (ended : Ended command p q old) → In row q.state.rows → row.place ≡ Out consumer id
    → In row p.state.rows × (row.index.0 ≡ ended.new.index.0 → ⊥)
ended-from p q old row consumer id ended here is =
    elim (In-put_row row ended.new p.state.rows (subst (In row) ended.rows here)) [
      | inl same ↦
          absurd (false≢true (sym (ends-out ended.why)
          ∙ ap (λ (r : Row). is_with_consumer r.place) (sym same) ∙ ap is_with_consumer is))
      | inr before ↦ before
    ]

ended-not_out : {command : Command} (p q : Progress) (old : Row) (consumer : ConsumerId) (id : ℕ)
    → Ended command p q old → NotOut consumer id p.state.rows → NotOut consumer id q.state.rows
ended-not_out p q old consumer id ended none row here is =
    none row (ended-from p q old row consumer id ended here is).0 is

ended-alone : {command : Command} (p q : Progress) (old : Row) (consumer : ConsumerId) (id : ℕ)
    → Ended command p q old → IsOutAlone consumer id p.state.rows → IsOutAlone consumer id q.state.rows
ended-alone p q old consumer id ended alone a b ina inb isa isb =
    alone a b (ended-from p q old a consumer id ended ina isa).0 (ended-from p q old b consumer id ended inb isb).0
    isa isb

delivery-is : (consumer : ConsumerId) (id : ℕ) → is_delivery consumer id (Out consumer id) ≡ true
delivery-is consumer id = and_from _ _ (same_consumer-refl consumer) (eq-eqb id id refl)

-- one id of those that a command names
cleared-one : (command : Command) (outcome : Outcome) → fits command outcome ≡ true → (consumer : ConsumerId) (id : ℕ)
    → ends_delivery command consumer id ≡ true → (p : Progress) → IsOutAlone consumer id p.state.rows
    → NotOut consumer id (end_delivery_by outcome (delivered_row consumer id p.state.rows) p).state.rows
cleared-one command outcome fit consumer id ends p alone =
    by (delivered_row consumer id p.state.rows) refl
  where
    by : (o : Option Row) → delivered_row consumer id p.state.rows ≡ o
        → NotOut consumer id (end_delivery_by outcome o p).state.rows
    by None found row here is =
        false≢true (sym (find-none (λ (one : Row). is_delivery consumer id one.place) p.state.rows found)
        ∙ list_any-from_in (λ (one : Row). is_delivery consumer id one.place) row p.state.rows here
        (ap (is_delivery consumer id) is ∙ delivery-is consumer id))
    by (Some old) found row here is =
        let some = delivered_row-in consumer id p.state.rows old found in
        let ended : Ended command p (end_delivery outcome old p) old =
        end_delivery-ended outcome fit old p consumer id some.1 ends some.0 in
        let before = ended-from p (end_delivery outcome old p) old row consumer id ended here is in
        let same : row ≡ old = alone row old before.0 some.0 is some.1 in
        before.1 (ap (λ (r : Row). r.index.0) same ∙ sym (ap (λ (i : Index). i.0) (ends-index ended.why)))

-- each other one leaves it so
kept-one : {command : Command} (J : List Row → Type 0)
    → ((p q : Progress) (old : Row) → Ended command p q old → J p.state.rows → J q.state.rows) → (outcome : Outcome)
    → fits command outcome ≡ true → (consumer : ConsumerId) (n : ℕ) → ends_delivery command consumer n ≡ true
    → (p : Progress) → J p.state.rows
    → J (end_delivery_by outcome (delivered_row consumer n p.state.rows) p).state.rows
kept-one J keeps outcome fit consumer n ends p holds = by (delivered_row consumer n p.state.rows) refl
  where
    by : (o : Option Row) → delivered_row consumer n p.state.rows ≡ o → J (end_delivery_by outcome o p).state.rows
    by None found = holds
    by (Some old) found =
        let some = delivered_row-in consumer n p.state.rows old found in
        keeps p (end_delivery outcome old p) old (end_delivery-ended outcome fit old p consumer n some.1 ends some.0)
        holds

cleared-all : (command : Command) (outcome : Outcome) → fits command outcome ≡ true → (consumer : ConsumerId)
    (id : ℕ) (ids : List ℕ) (p : Progress) → ((n : ℕ) → In n ids → ends_delivery command consumer n ≡ true)
    → In id ids → IsOutAlone consumer id p.state.rows
    → NotOut consumer id (end_deliveries outcome consumer ids p).state.rows
cleared-all command outcome fit consumer id [] p ends within alone = absurd within
cleared-all command outcome fit consumer id (n ∷ ids) p ends (inl same) alone =
    let first : Progress = end_delivery_by outcome (delivered_row consumer n p.state.rows) p in
    let none : NotOut consumer id first.state.rows =
    subst (λ m. NotOut consumer id (end_delivery_by outcome (delivered_row consumer m p.state.rows) p).state.rows) same
    (cleared-one command outcome fit consumer id (ap (ends_delivery command consumer) same ∙ ends n (inl refl)) p alone) in
    fold-keeps_in (λ (q : Progress). NotOut consumer id q.state.rows)
    (λ (now : Progress) (m : ℕ). end_delivery_by outcome (delivered_row consumer m now.state.rows) now) ids
    (λ now m later holds. kept-one (NotOut consumer id)
    (λ a b old ended it. ended-not_out a b old consumer id ended it) outcome fit consumer m (ends m (inr later)) now
    holds) first none
cleared-all command outcome fit consumer id (n ∷ ids) p ends (inr later) alone =
    cleared-all command outcome fit consumer id ids (end_delivery_by outcome (delivered_row consumer n p.state.rows) p)
    (λ m within. ends m (inr within)) later
    (kept-one (IsOutAlone consumer id) (λ a b old ended it. ended-alone a b old consumer id ended it) outcome fit
    consumer n (ends n (inl refl)) p alone)

seat-found : (id : ConsumerId) (consumers : List Consumer) → Seat id consumers → consumer_of id consumers ≡ None → ⊥
seat-found id consumers seat none =
    false≢true (sym (find-none (λ (one : Consumer). same_consumer one.id id) consumers none)
    ∙ list_any-from_in (λ (one : Consumer). same_consumer one.id id) seat.0 consumers seat.1
    (ap (λ (i : ConsumerId). same_consumer i id) seat.2 ∙ same_consumer-refl id))

cleared-finish : (command : Command) (outcome : Outcome) → fits command outcome ≡ true → (consumer : ConsumerId)
    (id : ℕ) (ids : List ℕ) (p : Progress) → ((n : ℕ) → In n ids → ends_delivery command consumer n ≡ true)
    → In id ids → IsOutAlone consumer id p.state.rows → Seat consumer p.state.consumers
    → NotOut consumer id (finish outcome consumer ids p).progress.state.rows
unfolding finish
cleared-finish command outcome fit consumer id ids p ends within alone seat =
    by (consumer_of consumer p.state.consumers) refl
  where
    by : (o : Option Consumer) → consumer_of consumer p.state.consumers ≡ o
        → NotOut consumer id (finish_by o outcome consumer ids p).progress.state.rows
    by None found = absurd (seat-found consumer p.state.consumers seat found)
    by (Some one) found =
        let rest : Progress = end_deliveries outcome consumer ids p in
        let left : Progress = set_state (drop_finished rest.state) rest in
        subst (NotOut consumer id)
        (sym (same-waits (credit_of consumer p.state.rows p.state.consumers) consumer left).rows)
        (cleared-all command outcome fit consumer id ids p ends within alone)

-- the end of a session
down-consumers : (session : SessionId) (p : Progress) → let back = return_session session p.state.consumers p in
    (down session p).progress.state.consumers
    ≡ filter (λ (one : Consumer). not (is_of_session session one)) back.state.consumers
unfolding down
down-consumers session p = refl

-- what a command names
named : (consumer other : ConsumerId) (id : ℕ) (ids : List ℕ)
    → (same_consumer consumer other && list_any (nat_eq id) ids) ≡ true → (other ≡ consumer) × In id ids
named consumer other id ids ends =
    let parts = and_parts (same_consumer consumer other) (list_any (nat_eq id) ids) ends in
    let some = list_any-in (nat_eq id) ids parts.1 in (
      sym (same_consumer-true consumer other parts.0),
      subst (λ n. In n ids) (sym (eqb-true id some.0 some.2)) some.1,
    )

own-ends : (consumer : ConsumerId) (ids : List ℕ) (n : ℕ) → In n ids
    → (same_consumer consumer consumer && list_any (nat_eq n) ids) ≡ true
own-ends consumer ids n within =
    and_from _ _ (same_consumer-refl consumer) (list_any-from_in (nat_eq n) n ids within (eq-eqb n n refl))

-- a command that ends the delivery of an id leaves nothing out as that
pub cleared : (s : State) (x : Sessions) (index : Index) (command : Command) (consumer : ConsumerId) (id : ℕ)
    → Held s.rows s.consumers → Seat consumer s.consumers → IsOutAlone consumer id s.rows
    → ends_delivery command consumer id ≡ true
    → NotOut consumer id (acted_with s x index command).progress.state.rows
unfolding act
cleared s x index (Settle stamp tag ids) consumer id held seat alone ends =
    let is = named consumer (consumer_id stamp tag) id ids ends in
    subst (λ (c : ConsumerId). NotOut c id (acted_with s x index (Settle stamp tag ids)).progress.state.rows) is.0
    (cleared-finish (Settle stamp tag ids) Settled refl (consumer_id stamp tag) id ids _
    (own-ends (consumer_id stamp tag) ids) is.1
    (subst (λ (c : ConsumerId). IsOutAlone c id s.rows) (sym is.0) alone)
    (subst (λ (c : ConsumerId). Seat c s.consumers) (sym is.0) seat))
cleared s x index (Return stamp tag ids) consumer id held seat alone ends =
    let is = named consumer (consumer_id stamp tag) id ids ends in
    subst (λ (c : ConsumerId). NotOut c id (acted_with s x index (Return stamp tag ids)).progress.state.rows) is.0
    (cleared-finish (Return stamp tag ids) Returned refl (consumer_id stamp tag) id ids _
    (own-ends (consumer_id stamp tag) ids) is.1
    (subst (λ (c : ConsumerId). IsOutAlone c id s.rows) (sym is.0) alone)
    (subst (λ (c : ConsumerId). Seat c s.consumers) (sym is.0) seat))
cleared s x index (Discard stamp tag ids) consumer id held seat alone ends =
    let is = named consumer (consumer_id stamp tag) id ids ends in
    subst (λ (c : ConsumerId). NotOut c id (acted_with s x index (Discard stamp tag ids)).progress.state.rows) is.0
    (cleared-finish (Discard stamp tag ids) Discarded refl (consumer_id stamp tag) id ids _
    (own-ends (consumer_id stamp tag) ids) is.1
    (subst (λ (c : ConsumerId). IsOutAlone c id s.rows) (sym is.0) alone)
    (subst (λ (c : ConsumerId). Seat c s.consumers) (sym is.0) seat))
cleared s x index (Down session) consumer id held seat alone ends = λ row here is.
    let start : Progress = record { state = record s { sessions = x }; effects = [] } in
    let back : Progress = return_session session s.consumers start in
    let held' : Held (down session start).progress.state.rows (down session start).progress.state.consumers =
    act-keeps {I = λ p. Held p.state.rows p.state.consumers} index (Down session) (Held-acts (Down session))
    (Held-arrives index (Down session)) start held in
    let one = held' row consumer id here is in
    let there : In one.0 (filter (λ (c : Consumer). not (is_of_session session c)) back.state.consumers) =
    subst (In one.0) (down-consumers session start) one.1 in
    let stays = In-filter_passes (λ (c : Consumer). not (is_of_session session c)) one.0 back.state.consumers there in
    false≢true (sym (not-true (is_of_session session one.0) stays)
    ∙ ap (λ (c : ConsumerId). ends_delivery (Down session) c id) one.2 ∙ ends)
cleared s x index _ consumer id held seat alone ends = absurd (false≢true ends)
