-- Dead letters are offered to the worker in order, and none is left out.
use Rattle.std.proofs.Common.{◌≡◌, ℕ, ◌<◌, ◌≤◌, ◌⊎◌, Bool, true, false, ◌&&◌, List, [], ◌∷◌, ◌++◌, Option, Some, None, refl, sym, ap, ◌∙◌, subst, inl, inr, arith, if◌then◌else◌}
use Rattle.std.specs.Prelude.{nat_eq, nat_lt, nat_le}
use Rattle.std.specs.Option.{is_some}
use Rattle.std.specs.List.{AllByRecursion}
use Rattle.std.proofs.lemmas.Bool.{false≢true, cases_Bool, cond-true, cond-false, and_from, eq-eqb, ne_eqb, leb-true, leb-false, lt-ltb, ltb-true, ltb-false}
use Rattle.std.proofs.lemmas.List.Elements.{filter_map-append}
use Rattle.std.proofs.lemmas.Option.{none-some}
use Rattle.qq_base.specs.declared.ids.Index.{Index}
use Rattle.qq_entry.specs.declared.audit.Effect.{Effect}
use Rattle.qq_entry.specs.declared.audit.Effect.TheVariants.{Deliver, DeadOnce, Offer}
use Rattle.qq_entry.specs.declared.command.Command.{Command}
use Rattle.qq_entry.specs.declared.command.Entry.{Entry}
use Rattle.qq_entry.specs.declared.message.Message.{Message}
use Rattle.qq_entry.specs.declared.message.Reason.{Reason}
use Rattle.qq_entry.specs.declared.queue.QueueArgs.{QueueArgs}
use Rattle.qq_entry.specs.declared.queue.Strategy.{Strategy}
use Rattle.qq_entry.specs.declared.queue.Strategy.TheVariants.{Absent, AtMostOnce, AtLeastOnce}
use Rattle.qq_model.specs.declared.TheConstants.{MOST_GIVEN}
use Rattle.qq_model.specs.declared.place.GoneReason.TheVariants as gone
use Rattle.qq_model.specs.declared.place.Place.{Place}
use Rattle.qq_model.specs.declared.place.Place.TheVariants.{Ready, Out, Dead, Gone}
use Rattle.qq_model.specs.declared.place.Row.{Row}
use Rattle.qq_model.specs.State.{State, Sessions, empty_queue}
use Rattle.qq_model.specs.Choice.{is_lesser}
use Rattle.qq_model.specs.Changes.{Progress, message_of}
use Rattle.qq_model.specs.Serving.{dead_number, next_dead, given_count, offer_at, offer_by, give_dead, give_all_dead}
use Rattle.qq_model.specs.Step.{Step, carry_out}
use Rattle.qq_model.specs.Audit.{next_index, next_step, state_after}
use Rattle.qq_base.proofs.Lists.{In, AllByRecursion-append, AllByRecursion-in, AllByRecursion-weaker, In-append_left, In-append_right}
use Rattle.qq_model.proofs.Choices.{is_some-if, next_dead-in}
use Rattle.qq_model.proofs.Least.{least_by-least, least_by-none, nat_lt-order}
use Rattle.qq_model.proofs.RunsOut.{give_all_dead-runs_out}
use Rattle.qq_model.proofs.Soundness.{Contains-in, in_contains}
use Rattle.qq_model.proofs.StepKeeps.{after-keeps}
use Rattle.qq_laws.specs.DeadLetters.{IsGivenAll, OffersInOrder, RisesTo, given_before, offered_number, offered_numbers}
use Rattle.qq_laws.proofs.Carried.{is_carried, is_stale}
use Rattle.qq_laws.proofs.MessageChanges.{Replaced, SameMessages, letters}
use Rattle.qq_laws.proofs.Following.{KeepsOffers, carried-gives, gives-messages, limited-messages, limited_with}

-- Before the offers ------------------------------------------------------------------------------------

abbrev IsNoOffer : Effect → Type 0
IsNoOffer (Offer number cause message) = ⊥
IsNoOffer _ = Unit {0}

letters-no_offer : (strategy : Strategy) (place : Place) (m : Message)
    → AllByRecursion IsNoOffer (letters place strategy m)
letters-no_offer strategy (Ready key) m = tt
letters-no_offer strategy (Out consumer id) m = tt
letters-no_offer strategy (Dead n cause) m = tt
letters-no_offer Absent (Gone (gone.Died cause)) m = tt
letters-no_offer AtMostOnce (Gone (gone.Died cause)) m = (tt, tt)
letters-no_offer AtLeastOnce (Gone (gone.Died cause)) m = tt
letters-no_offer strategy (Gone _) m = tt

offered-none : (effects : List Effect) → AllByRecursion IsNoOffer effects → offered_numbers effects ≡ []
offered-none [] none = refl
offered-none (Deliver consumer delivery ∷ effects) none = offered-none effects none.1
offered-none (DeadOnce cause message ∷ effects) none = offered-none effects none.1
offered-none (Offer number cause message ∷ effects) none = absurd none.0

-- nothing was offered yet, and the worker is the one that was attached, or another that was given nothing
record Offerless (s : State) (p : Progress) : Type 0 where
  none : AllByRecursion IsNoOffer p.effects
  worker : ((p.state.attached ≡ s.attached) × (p.state.given ≡ s.given))
      ⊎ ((s.attached < p.state.attached) × (p.state.given ≡ 0))

offerless-same : (s : State) (p q : Progress) → Offerless s p → SameMessages p q → Offerless s q
offerless-same s p q it same = record {
  none = subst (AllByRecursion IsNoOffer) (sym same.effects) it.none;
  worker = elim (it.worker) [
    | inl old ↦ inl (same.attached ∙ old.0, same.given ∙ old.1)
    | inr new ↦ inr (subst (λ n. s.attached < n) (sym same.attached) new.0, same.given ∙ new.1)
  ];
}

offerless-replaced : {Why : Row → Type 0} (s : State) (p q : Progress) (old : Row) → Offerless s p
    → Replaced Why p q old → Offerless s q
offerless-replaced s p q old it r = record {
  none =
      subst (AllByRecursion IsNoOffer) (sym r.effects)
      (AllByRecursion-append IsNoOffer p.effects _ it.none
      (letters-no_offer p.state.args.strategy r.new.place (message_of p.state.rows p.state.messages r.new)));
  worker = elim (it.worker) [
    | inl old' ↦ inl (r.attached ∙ old'.0, r.given ∙ old'.1)
    | inr new ↦ inr (subst (λ n. s.attached < n) (sym r.attached) new.0, r.given ∙ new.1)
  ];
}

offerless-limited : (s : State) (x : Sessions) (index : Index) (command : Command)
    → Offerless s (limited_with s x index command)
offerless-limited s x index command =
    limited-messages {J = Offerless s} index command s x (record {
      ends = λ p q old it ended. offerless-replaced s p q old it ended;
      same = offerless-same s;
      takes = λ row gets found it. record { none = it.none; worker = it.worker };
      purges = λ purges it. record { none = it.none; worker = it.worker };
      attaches = λ term is greater it. record { none = tt; worker = inr (ltb-true s.attached term.0 greater, refl) };
    }) (λ message it. record { none = it.none; worker = it.worker }) (record {
      delivers = λ p row consumer it found next. record {
        none = AllByRecursion-append IsNoOffer p.effects _ it.none (tt, tt);
        worker = it.worker;
      };
      same = offerless-same s;
      drops = λ p q row it found r. offerless-replaced s p q row it r;
    }) (record { none = tt; worker = inl (refl, refl) })

-- The offers -------------------------------------------------------------------------------------------

rises-push : (low mid n : ℕ) (ns : List ℕ) → RisesTo low ns mid → mid < n → RisesTo low (ns ++ n ∷ []) n
rises-push low mid n [] rises less = (omega (arith, rises, less), refl)
rises-push low mid n (m ∷ ns) rises less = (rises.0, rises-push m mid n ns rises.1 less)

abbrev ShowsDead : Progress → Effect → Type 0
ShowsDead p (Offer number cause message) =
    (row : Row) × In row p.state.rows × (row.place ≡ Dead number cause)
    × (message ≡ message_of p.state.rows p.state.messages row)
ShowsDead p _ = Unit {0}

-- what was offered of the dead of a queue
record Giving (first p : Progress) : Type 0 where
  rows : p.state.rows ≡ first.state.rows
  messages : p.state.messages ≡ first.state.messages
  attached : p.state.attached ≡ first.state.attached
  rises : RisesTo first.state.given (offered_numbers p.effects) p.state.given
  all : (row : Row) (number : ℕ) (cause : Reason) → In row first.state.rows → row.place ≡ Dead number cause
      → number ≤ p.state.given → (number ≤ first.state.given) ⊎ In number (offered_numbers p.effects)
  shown : AllByRecursion (ShowsDead first) p.effects

-- a dead message above what was given has its number as its key
dead-key : (given number : ℕ) (cause : Reason) → given < number → dead_number given (Dead number cause) ≡ Some number
dead-key given number cause less = cond-true (nat_lt given number) (Some number) None (lt-ltb given number less)

-- the next dead message is above what was given, and no other is between
next-above : (given number : ℕ) (cause : Reason) (rows : List Row) (row : Row) → row.place ≡ Dead number cause
    → next_dead given rows ≡ Some row
    → (given < number)
    × ((x : Row) (n : ℕ) (why : Reason) → In x rows → x.place ≡ Dead n why → given < n → number ≤ n)
next-above given number cause rows row is found =
    let some = next_dead-in given rows row found in
    let above : given < number =
    ltb-true given number (sym (is_some-if (nat_lt given number) number)
    ∙ sym (ap (λ place. is_some (dead_number given place)) is) ∙ some.1) in (
      above,
      λ x n why here at less.
          let least : is_lesser nat_lt (dead_number given x.place) (dead_number given row.place) ≡ false =
          AllByRecursion-in
          (λ (one : Row). is_lesser nat_lt (dead_number given one.place) (dead_number given row.place) ≡ false) x rows
          (least_by-least nat_lt (λ (one : Row). dead_number given one.place) nat_lt-order rows row found) here in
          let mine : dead_number given x.place ≡ Some n = ap (dead_number given) at ∙ dead-key given n why less in
          let its : dead_number given row.place ≡ Some number =
          ap (dead_number given) is ∙ dead-key given number cause above in
          let not_less : nat_lt n number ≡ false =
          ap (λ o. is_lesser nat_lt o (Some number)) (sym mine)
          ∙ ap (λ o. is_lesser nat_lt (dead_number given x.place) o) (sym its) ∙ least in
          ltb-false n number not_less,
    )

giving-offers : (first : Progress) → KeepsOffers (Giving first)
giving-offers first p number cause row it here is found =
    let message : Message = message_of p.state.rows p.state.messages row in
    let next = next-above p.state.given number cause p.state.rows row is found in
    let numbers : offered_numbers (p.effects ++ Offer number cause message ∷ []) ≡ offered_numbers p.effects
    ++ number ∷ [] =
    filter_map-append offered_number p.effects (Offer number cause message ∷ []) in
    record {
      rows = it.rows;
      messages = it.messages;
      attached = it.attached;
      rises =
          subst (λ ns. RisesTo first.state.given ns number) (sym numbers)
          (rises-push first.state.given p.state.given number (offered_numbers p.effects) it.rises next.0);
      all = λ x n why there at less. elim (cases_Bool (nat_le n p.state.given)) [
        | inl before ↦ elim (it.all x n why there at (leb-true n p.state.given before)) [
          | inl low ↦ inl low
          | inr old ↦
              inr (subst (In n) (sym numbers) (In-append_left n (offered_numbers p.effects) (number ∷ []) old))
        ]
        | inr after ↦
            let above : p.state.given < n = leb-false n p.state.given after in
            let up : number ≤ n =
            next.1 x n why (subst (λ (rs : List Row). In x rs) (sym it.rows) there) at above in
            let same : n ≡ number = omega (arith, up, less) in
            inr (subst (In n) (sym numbers)
            (In-append_right n (offered_numbers p.effects) (number ∷ []) (inl same)))
      ];
      shown =
          AllByRecursion-append (ShowsDead first) p.effects (Offer number cause message ∷ []) it.shown (
            (
              row,
              subst (λ (rs : List Row). In row rs) it.rows here,
              is,
              ap (λ (rs : List Row). message_of rs p.state.messages row) it.rows
                  ∙ ap (λ (ms : List Message). message_of first.state.rows ms row) it.messages,
            ),
            tt,
          );
    }

no_offer-shown : (p : Progress) (effect : Effect) → IsNoOffer effect → ShowsDead p effect
no_offer-shown p (Offer number cause message) none = absurd none
no_offer-shown p _ none = tt

gives-all : (s : State) (p : Progress) → Offerless s p → Giving p (give_all_dead p)
gives-all s p it =
    gives-messages {J = Giving p} (giving-offers p) p (record {
      rows = refl;
      messages = refl;
      attached = refl;
      rises =
          subst (λ ns. RisesTo p.state.given ns p.state.given) (sym (offered-none p.effects it.none)) refl;
      all = λ row number cause here is less. inl less;
      shown = AllByRecursion-weaker IsNoOffer (ShowsDead p) (no_offer-shown p) p.effects it.none;
    })

given-first : (s : State) (p q : Progress) → Offerless s p → q.state.attached ≡ p.state.attached
    → p.state.given ≡ given_before s q.state
given-first s p q it same = elim (it.worker) [
  | inl old ↦
      old.1
      ∙ sym (cond-true (nat_eq q.state.attached s.attached) s.given 0
      (eq-eqb q.state.attached s.attached (same ∙ old.0)))
  | inr new ↦
      new.1
      ∙ sym (cond-false (nat_eq q.state.attached s.attached) s.given 0
      (ne_eqb q.state.attached s.attached (λ e. omega (arith, e, same, new.0))))
]

pub offers_in_order : (s : State) (entry : Entry) → OffersInOrder s entry
offers_in_order s entry = elim (cases_Bool (next_step s entry).fresh) [
  | inl fresh ↦
      let is = is_carried s entry fresh in
      let limited : Progress = limited_with s is.sessions (next_index s) entry.command in
      let a = carry_out (next_index s) entry.command (record s { sessions = is.sessions }) in
      let gives = carried-gives (next_index s) entry.command s is.sessions in
      let before = offerless-limited s is.sessions (next_index s) entry.command in
      let it : Giving limited a.progress = subst (Giving limited) (sym gives) (gives-all s limited before) in
      let low : limited.state.given ≡ given_before s made.state =
      given-first s limited a.progress before it.attached
      ∙ ap (λ n. if nat_eq n s.attached then s.given else 0) (sym is.attached) in
      record {
        rising =
            subst (λ n. RisesTo n (offered_numbers made.effects) made.state.given) low
            (subst (λ (es : List Effect). RisesTo limited.state.given (offered_numbers es) made.state.given)
            (sym is.effects)
            (subst (λ n. RisesTo limited.state.given (offered_numbers a.progress.effects) n) (sym is.given) it.rises));
        all = λ row number cause there at less.
            let here : In row limited.state.rows =
            subst (λ (rs : List Row). In row rs) (is.rows ∙ it.rows) (in_contains made.state.rows row there) in
            elim (it.all row number cause here at (subst (λ n. number ≤ n) is.given less)) [
              | inl low' ↦ inl (subst (λ n. number ≤ n) low low')
              | inr one ↦
                  inr (Contains-in number (offered_numbers made.effects)
                  (subst (λ (es : List Effect). In number (offered_numbers es)) (sym is.effects) one))
            ];
        shown = λ number cause message there.
            let shows : ShowsDead limited (Offer number cause message) =
            AllByRecursion-in (ShowsDead limited) (Offer number cause message) a.progress.effects it.shown
            (subst (In (Offer number cause message)) is.effects
            (in_contains made.effects (Offer number cause message) there)) in (
              shows.0,
              Contains-in shows.0 made.state.rows
                  (subst (λ (rs : List Row). In shows.0 rs) (sym (is.rows ∙ it.rows)) shows.1),
              shows.2,
              shows.3 ∙ ap (λ (rs : List Row). message_of rs limited.state.messages shows.0)
                  (sym (is.rows ∙ it.rows))
                  ∙ ap (λ (ms : List Message). message_of made.state.rows ms shows.0) (sym (is.messages ∙ it.messages)),
            );
      }
  | inr stale ↦
      let is = is_stale s entry stale in
      let low : s.given ≡ given_before s made.state =
      sym (cond-true (nat_eq made.state.attached s.attached) s.given 0
      (eq-eqb made.state.attached s.attached is.attached)) in
      record {
        rising =
            subst (λ (es : List Effect). RisesTo (given_before s made.state) (offered_numbers es) made.state.given)
            (sym is.effects) (is.given ∙ low);
        all = λ row number cause there at less. inl (subst (λ n. number ≤ n) (is.given ∙ low) less);
        shown = λ number cause message there.
            absurd (subst (In (Offer number cause message)) is.effects
            (in_contains made.effects (Offer number cause message) there));
      }
]
  where
    made : Step
    made = next_step s entry

-- Nothing is left to give ------------------------------------------------------------------------------

-- the same of what stands in the list
abbrev IsGiven : State → Type 0
IsGiven s =
    0 < s.attached → given_count s.given s.rows < MOST_GIVEN
    → (row : Row) (number : ℕ) (cause : Reason) → In row s.rows → row.place ≡ Dead number cause → number ≤ s.given

given-through : (p : Progress) → give_dead p ≡ None → IsGiven p.state
unfolding give_dead
given-through p ends on few row number cause here is =
    by (next_dead p.state.given p.state.rows) refl
    (sym (cond-true may (offer_by (next_dead p.state.given p.state.rows) p) None
    (and_from _ _ (lt-ltb 0 p.state.attached on)
    (lt-ltb (given_count p.state.given p.state.rows) MOST_GIVEN few))) ∙ ends)
  where
    may : Bool
    may = (nat_lt 0 p.state.attached && nat_lt (given_count p.state.given p.state.rows) MOST_GIVEN)

    offers : (next : Row) (place : Place) → next.place ≡ place
        → is_some (dead_number p.state.given place) ≡ true → offer_at place next p ≡ None → ⊥
    offers next (Dead n why) at some none = absurd cc
    offers next _ at some none = false≢true some

    by : (o : Option Row) → next_dead p.state.given p.state.rows ≡ o → offer_by o p ≡ None → number ≤ p.state.given
    by None found none =
        let keyless : dead_number p.state.given row.place ≡ None =
        AllByRecursion-in (λ (one : Row). dead_number p.state.given one.place ≡ None) row p.state.rows
        (least_by-none nat_lt (λ (one : Row). dead_number p.state.given one.place) nat_lt-order p.state.rows found)
        here in
        elim (cases_Bool (nat_le number p.state.given)) [
          | inl up_to ↦ leb-true number p.state.given up_to
          | inr above ↦
              absurd (none-some number (sym keyless ∙ ap (dead_number p.state.given) is
              ∙ dead-key p.state.given number cause (leb-false number p.state.given above)))
        ]
    by (Some next) found none =
        absurd (offers next next.place refl (next_dead-in p.state.given p.state.rows next found).1 none)

pub is_given_all : (args : QueueArgs) (entries : List Entry) → IsGivenAll (state_after (empty_queue args) entries)
is_given_all args entries on few row number cause there is =
    let s = state_after (empty_queue args) entries in
    let given : IsGiven s = after-keeps IsGiven (λ t. record {
      stale = λ x holds. holds;
      fresh = λ command x y holds.
          let p = limited_with t x (next_index t) command in
          let q = (carry_out (next_index t) command (record t { sessions = x })).progress in
          let through : IsGiven q.state =
          given-through q (subst (λ (r : Progress). give_dead r ≡ None)
          (sym (carried-gives (next_index t) command t x)) (give_all_dead-runs_out p)) in
          through;
    }) (empty_queue args) entries (λ on few row number cause here is. absurd here) in
    given on few row number cause (in_contains s.rows row there) is
