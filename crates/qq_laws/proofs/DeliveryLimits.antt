-- A message dies of the delivery limit at the return that passes it, and never else.
use Rattle.std.proofs.Common.{◌≡◌, ℕ, ◌+◌, ◌⊎◌, true, false, ◌&&◌, List, ◌++◌, Option, Some, None, refl, sym, ap, ◌∙◌, subst, inl, inr}
use Rattle.std.specs.Prelude.{slice_get, Contains}
use Rattle.std.proofs.lemmas.Bool.{false≢true, cases_Bool, and_parts, and_from}
use Rattle.qq_base.specs.declared.ids.Index.{Index}
use Rattle.qq_entry.specs.declared.command.Command.{Command}
use Rattle.qq_entry.specs.declared.command.Entry.{Entry}
use Rattle.qq_entry.specs.declared.message.Message.{Message}
use Rattle.qq_entry.specs.declared.message.Reason.{Reason}
use Rattle.qq_entry.specs.declared.message.Reason.TheVariants as reason
use Rattle.qq_entry.specs.declared.queue.QueueArgs.{QueueArgs}
use Rattle.qq_entry.specs.declared.queue.Strategy.{Strategy}
use Rattle.qq_entry.specs.declared.queue.Strategy.TheVariants.{Absent, AtMostOnce, AtLeastOnce}
use Rattle.qq_model.specs.declared.place.Place.{Place}
use Rattle.qq_model.specs.declared.place.Place.TheVariants.{Ready}
use Rattle.qq_model.specs.declared.place.Row.{Row}
use Rattle.qq_model.specs.State.{State, empty_queue}
use Rattle.qq_model.specs.Limits.{is_ready, has_passed}
use Rattle.qq_model.specs.Reasons.{ends_delivery}
use Rattle.qq_model.specs.Step.{carry_out}
use Rattle.qq_model.specs.Audit.{next_index, next_step, state_after}
use Rattle.qq_base.proofs.Lists.{In, In-append_left}
use Rattle.qq_model.proofs.Lists.{AllZip-second, slice_get-append}
use Rattle.qq_model.proofs.Soundness.{Contains-in, in_contains, rows_at}
use Rattle.qq_laws.specs.Counts.{IsWithNumbered, KeepsDeliveryLimit, gives_back, is_returned}
use Rattle.qq_laws.specs.Explains.{ActsOn, IsDeath, IsLimited, IsServed, death_place, died_of}
use Rattle.qq_laws.specs.Explains.DisposesOf.{IsSettled, IsDiscarded, GoesBack, PassesLimit, IsDeadLettered}
use Rattle.qq_laws.specs.Explains.ActsOn.{Stays, IsGot, IsPurged, IsEnded}
use Rattle.qq_laws.specs.Published.{new_message}
use Rattle.qq_laws.specs.Rows.{new_rows}
use Rattle.qq_laws.proofs.Carried.{acted_with, served_with, carried, is_carried, is_stale}
use Rattle.qq_laws.proofs.CountLemmas.{discards-alone, ready-stays, settles-alone, stays-out}
use Rattle.qq_laws.proofs.DeadLemmas.{rests, zip-first}
use Rattle.qq_laws.proofs.Explained.{death-ready}

-- what a death is of
death-of : (args : QueueArgs) (cause : Reason) (place : Place) → IsDeath args cause place → died_of place ≡ Some cause
death-of args cause place death = ap died_of death.1 ∙ by args.strategy death.0
  where
    by : (strategy : Strategy) (n : ℕ) → died_of (death_place strategy n cause) ≡ Some cause
    by Absent n = refl
    by AtMostOnce n = refl
    by AtLeastOnce n = refl

-- What a return that passes the limit does -------------------------------------------------------------

-- of a message that a command gives back, and doesn't leave
passes : {s : State} {command : Command} (old new : Row) → gives_back command old.place ≡ true
    → (new ≡ old → gives_back command old.place ≡ false) → has_passed s.args.delivery_limit (old.count + 1) ≡ true
    → ActsOn s command old new
    → (place : Place) × IsDeath s.args reason.DeliveryLimit place
    × (new ≡ record old { count = old.count + 1; place = place })
passes {s = s} {command = command} old new gives stays passed acts = by acts
  where
    none : {A : Type 0} → gives_back command old.place ≡ false → A
    none is = absurd (false≢true (sym is ∙ gives))

    by : ActsOn s command old new
        → (place : Place) × IsDeath s.args reason.DeliveryLimit place
        × (new ≡ record old { count = old.count + 1; place = place })
    by (Stays same) = none (stays same)
    by (IsGot gets first made) = none (ready-stays command old.place first.ready)
    by (IsPurged purges ready made) = none (ready-stays command old.place ready)
    by (IsEnded (IsSettled consumer id is settles ends made)) =
        none (ap (gives_back command) is ∙ ap (λ b. b && ends_delivery command consumer id)
        (settles-alone command settles))
    by (IsEnded (IsDiscarded consumer id place is discards ends death made)) =
        none (ap (gives_back command) is ∙ ap (λ b. b && ends_delivery command consumer id)
        (discards-alone command discards))
    by (IsEnded (GoesBack consumer id key is back ends within at made)) =
        absurd (false≢true (sym within ∙ passed))
    by (IsEnded (PassesLimit consumer id place is back ends passed' death made)) = (place, death, made)
    by (IsEnded (IsDeadLettered number cause is settles given made)) = none (ap (gives_back command) is)

-- What has died of the limit ---------------------------------------------------------------------------

abbrev IsLimitDeath : Row → Type 0
IsLimitDeath row = died_of row.place ≡ Some reason.DeliveryLimit

-- the row that a command made so
record Made (s : State) (command : Command) (old new : Row) : Type 0 where
  gives : gives_back command old.place ≡ true
  out : is_ready old.place ≡ false
  count : new.count ≡ old.count + 1
  passed : has_passed s.args.delivery_limit new.count ≡ true

limit-acted : {s : State} {command : Command} (old new : Row) → IsLimitDeath new → ActsOn s command old new
    → (new ≡ old) ⊎ Made s command old new
limit-acted {s = s} {command = command} old new died acts = by acts
  where
    other : {A : Type 0} (o : Option Reason) → died_of new.place ≡ o → (o ≡ Some reason.DeliveryLimit → ⊥) → A
    other o is differs = absurd (differs (sym is ∙ died))

    by : ActsOn s command old new → (new ≡ old) ⊎ Made s command old new
    by (Stays same) = inl same
    by (IsGot gets first made) = other None (ap (λ (r : Row). died_of r.place) made) (λ e. cc)
    by (IsPurged purges ready made) = other None (ap (λ (r : Row). died_of r.place) made) (λ e. cc)
    by (IsEnded (IsSettled consumer id is settles ends made)) =
        other None (ap (λ (r : Row). died_of r.place) made) (λ e. cc)
    by (IsEnded (IsDiscarded consumer id place is discards ends death made)) =
        other (Some reason.Rejected)
        (ap (λ (r : Row). died_of r.place) made ∙ death-of s.args reason.Rejected place death) (λ e. cc)
    by (IsEnded (GoesBack consumer id key is back ends within at made)) =
        other None (ap (λ (r : Row). died_of r.place) made) (λ e. cc)
    by (IsEnded (PassesLimit consumer id place is back ends passed death made)) = inr (record {
      gives = ap (gives_back command) is ∙ and_from _ _ back ends;
      out = ap is_ready is;
      count = ap (λ (r : Row). r.count) made;
      passed =
          ap (λ (r : Row). has_passed s.args.delivery_limit r.count) made ∙ passed;
    })
    by (IsEnded (IsDeadLettered number cause is settles given made)) =
        other None (ap (λ (r : Row). died_of r.place) made) (λ e. cc)

limit-served : (old new : Row) → IsLimitDeath new → IsServed old new → new ≡ old
limit-served old new died (inl same) = same
limit-served old new died (inr out) =
    let none : died_of new.place ≡ None = ap (λ (r : Row). died_of r.place) out.3 in
    let e : None ≡ Some reason.DeliveryLimit = sym none ∙ died in absurd cc

limit-limited : (args : QueueArgs) (rows : List Row) (old new : Row) → IsLimitDeath new → IsLimited args rows old new
    → new ≡ old
limit-limited args rows old new died (inl stays) = stays.0
limit-limited args rows old new died (inr dropped) =
    let some : died_of new.place ≡ Some reason.MaxLen =
    ap (λ (r : Row). died_of r.place) dropped.4 ∙ death-of args reason.MaxLen dropped.0 dropped.3 in
    let e : Some reason.MaxLen ≡ Some reason.DeliveryLimit = sym some ∙ died in absurd cc

-- a message that arrives hasn't died
arrived-ready : (s : State) (index : Index) (o : Option Message) (row : Row) → In row (new_rows s index o)
    → is_ready row.place ≡ true
arrived-ready s index None row here = absurd here
arrived-ready s index (Some message) row (inl same) = ap (λ (r : Row). is_ready r.place) same
arrived-ready s index (Some message) row (inr later) = absurd later

death-unready : (place : Place) → is_ready place ≡ true → died_of place ≡ None
death-unready (Ready key) ready = refl
death-unready _ ready = absurd (false≢true ready)

-- The law ----------------------------------------------------------------------------------------------

pub keeps_delivery_limit : (args : QueueArgs) (before : List Entry) (entry : Entry)
    → KeepsDeliveryLimit (state_after (empty_queue args) before) entry
keeps_delivery_limit args before entry = record { dies = dies; only = only }
  where
    s : State
    s = state_after (empty_queue args) before

    index : Index
    index = next_index s

    dies : (row : Row) → Contains s.rows row → IsWithNumbered row.place → is_returned s entry row ≡ true
        → has_passed s.args.delivery_limit (row.count + 1) ≡ true
        → (place : Place) × IsDeath s.args reason.DeliveryLimit place
        × Contains (next_step s entry).state.rows (record row { count = row.count + 1; place = place })
    dies row there numbered returned passed =
        let parts = and_parts (next_step s entry).fresh (gives_back entry.command row.place) returned in
        let here = in_contains s.rows row there in
        let it = is_carried s entry parts.0 in
        let phases = carried s it.sessions entry.command (rows_at args before) in
        let acted = (acted_with s it.sessions index entry.command).progress.state.rows in
        let served = (served_with s it.sessions index entry.command).state.rows in
        let final = (carry_out index entry.command (record s { sessions = it.sessions })).progress.state.rows in
        let first = zip-first (ActsOn s entry.command) _ acted row phases.acts (In-append_left row s.rows _ here) in
        let dead = passes row first.0 parts.1
        (λ same. stays-out args before entry parts.0 row here numbered (subst (λ (r : Row). In r acted) same first.1))
        passed first.2 in
        let new : Row = record row { count = row.count + 1; place = dead.0 } in
        let unready : is_ready dead.0 ≡ false = ap is_ready dead.1.1 ∙ death-ready s.args.strategy dead.1.0 _ in
        let last : In new final =
        rests s.args acted served final new phases.serves phases.limits
        (subst (λ (r : Row). In r acted) dead.2 first.1) unready in
        (dead.0, dead.1, Contains-in new (next_step s entry).state.rows (subst (In new) (sym it.rows) last))

    only : (k : ℕ) (new : Row) → slice_get (next_step s entry).state.rows k ≡ Some new → IsLimitDeath new
        → (slice_get s.rows k ≡ Some new)
        ⊎ ((old : Row) × (slice_get s.rows k ≡ Some old) × (is_returned s entry old ≡ true)
        × (new.count ≡ old.count + 1) × (has_passed s.args.delivery_limit new.count ≡ true))
    only k new found died = elim (cases_Bool (next_step s entry).fresh) [
      | inr stale ↦ inl (ap (λ (rows : List Row). slice_get rows k) (sym (is_stale s entry stale).rows) ∙ found)
      | inl fresh ↦
          let it = is_carried s entry fresh in
          let phases = carried s it.sessions entry.command (rows_at args before) in
          let a = carry_out index entry.command (record s { sessions = it.sessions }) in
          let acted = (acted_with s it.sessions index entry.command).progress.state.rows in
          let served = (served_with s it.sessions index entry.command).state.rows in
          let all = s.rows ++ new_rows s index (new_message true a.answer entry.command) in
          let third = AllZip-second (IsLimited s.args served) served a.progress.state.rows k new phases.limits
          (ap (λ (rows : List Row). slice_get rows k) (sym it.rows) ∙ found) in
          let same : new ≡ third.0 = limit-limited s.args served third.0 new died third.2 in
          let second = AllZip-second IsServed acted served k third.0 phases.serves third.1 in
          let same' : third.0 ≡ second.0 =
          limit-served second.0 third.0 (subst IsLimitDeath same died) second.2 in
          let first = AllZip-second (ActsOn s entry.command) all acted k second.0 phases.acts second.1 in
          by k new died fresh first.0 (new_message true a.answer entry.command) first.1
          (limit-acted first.0 new died
          (subst (ActsOn s entry.command first.0) (sym (same ∙ same')) first.2))
    ]
      where
        by : (k : ℕ) (new : Row) → IsLimitDeath new → (next_step s entry).fresh ≡ true → (old : Row)
            → (o : Option Message) → slice_get (s.rows ++ new_rows s index o) k ≡ Some old
            → (new ≡ old) ⊎ Made s entry.command old new
            → (slice_get s.rows k ≡ Some new)
            ⊎ ((old : Row) × (slice_get s.rows k ≡ Some old) × (is_returned s entry old ≡ true)
            × (new.count ≡ old.count + 1) × (has_passed s.args.delivery_limit new.count ≡ true))
        by k new died fresh old o at (inl same) = elim (slice_get-append s.rows (new_rows s index o) k old at) [
          | inl was ↦ inl (was ∙ ap (λ (r : Row). Some r) (sym same))
          | inr brought ↦
              let none : died_of old.place ≡ None =
              death-unready old.place (arrived-ready s index o old brought) in
              let e : None ≡ Some reason.DeliveryLimit =
              sym none ∙ ap (λ (r : Row). died_of r.place) (sym same) ∙ died in absurd cc
        ]
        by k new died fresh old o at (inr made) = elim (slice_get-append s.rows (new_rows s index o) k old at) [
          | inl was ↦ inr (old, was, and_from _ _ fresh made.gives, made.count, made.passed)
          | inr brought ↦ absurd (false≢true (sym made.out ∙ arrived-ready s index o old brought))
        ]
