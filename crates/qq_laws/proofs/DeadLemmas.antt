-- A message that is dead stays so until its number is settled.
use Rattle.std.proofs.Common.{◌≡◌, ℕ, ◌≤◌, ◌⊎◌, Bool, true, false, List, [], ◌∷◌, Option, Some, None, refl, sym, ap, ◌∙◌, subst, inl, inr, if◌then◌else◌}
use Rattle.std.specs.Prelude.{nat_eq, nat_le, fold}
use Rattle.std.specs.List.{AllZip, list_any}
use Rattle.std.proofs.lemmas.Bool.{false≢true, cases_Bool, cond-true, cond-false, cond_both, and_parts, and_from, eqb-true, eq-eqb, leb-true, le-leb}
use Rattle.qq_base.specs.declared.ids.Index.{Index}
use Rattle.qq_base.specs.declared.ids.Term.{Term}
use Rattle.qq_entry.specs.declared.answer.Answer.TheVariants as answer
use Rattle.qq_entry.specs.Command.{stamp}
use Rattle.qq_entry.specs.declared.command.Command.{Command}
use Rattle.qq_entry.specs.declared.command.Command.TheVariants.{DeadSettle}
use Rattle.qq_entry.specs.declared.command.DeadDone.{DeadDone}
use Rattle.qq_entry.specs.declared.command.Entry.{Entry}
use Rattle.qq_entry.specs.declared.message.Reason.{Reason}
use Rattle.qq_entry.specs.declared.queue.QueueArgs.{QueueArgs}
use Rattle.qq_model.specs.declared.place.GoneReason.TheVariants as gone
use Rattle.qq_model.specs.declared.place.Place.{Place}
use Rattle.qq_model.specs.declared.place.Place.TheVariants.{Dead, Gone}
use Rattle.qq_model.specs.declared.place.Row.{Row}
use Rattle.qq_model.specs.State.{State, Sessions, empty_queue}
use Rattle.qq_model.specs.Limits.{is_ready, is_dead}
use Rattle.qq_model.specs.Changes.{Progress, put_row}
use Rattle.qq_model.specs.Commands.{Acted, reply, is_at_least_once, is_dead_number, dead_row, given_row, Settling, settle_dead_by, settle_dead, dead_settle, act}
use Rattle.qq_model.specs.Reasons.{settles_dead}
use Rattle.qq_model.specs.Step.{carry_out, step_by, step}
use Rattle.qq_model.specs.Sound.{death_number}
use Rattle.qq_model.specs.Audit.{next_index, next_step, state_after}
use Rattle.qq_base.proofs.Lists.{In, In-append_left, list_any-in, list_any-from_in}
use Rattle.qq_model.proofs.Drawn.{In-put_row}
use Rattle.qq_model.proofs.Lists.{find-none}
use Rattle.qq_model.proofs.Lookups.{dead_row-in}
use Rattle.qq_model.proofs.Loops.{fold-keeps_in}
use Rattle.qq_model.proofs.Numbers.{Numbered}
use Rattle.qq_model.proofs.Soundness.{Contains-in, in_contains, rows_at}
use Rattle.qq_laws.specs.DeadLetters.{is_settled_by, IsDeadUntilSettled}
use Rattle.qq_laws.specs.Explains.{ActsOn, IsServed, IsLimited}
use Rattle.qq_laws.specs.Explains.DisposesOf.{IsSettled, IsDiscarded, GoesBack, PassesLimit, IsDeadLettered}
use Rattle.qq_laws.specs.Explains.ActsOn.{Stays, IsGot, IsPurged, IsEnded}
use Rattle.qq_laws.proofs.DeadKinds.{has_dead}
use Rattle.qq_laws.proofs.Carried.{acted_with, served_with, carried, is_carried, is_stale}

-- what stands in the first of two lists that match has what matches it in the second
pub zip-first : {A B : Type 0} (R : A → B → Type 0) (xs : List A) (ys : List B) (x : A) → AllZip R xs ys → In x xs
    → (y : B) × In y ys × R x y
zip-first R [] ys x zipped here = absurd here
zip-first R (a ∷ xs) [] x zipped here = absurd zipped
zip-first R (a ∷ xs) (b ∷ ys) x zipped (inl same) = (b, inl refl, subst (λ c. R c b) (sym same) zipped.0)
zip-first R (a ∷ xs) (b ∷ ys) x zipped (inr later) =
    let rest = zip-first R xs ys x zipped.1 later in (rest.0, inr rest.1, rest.2)

-- The settlement takes effect --------------------------------------------------------------------------

-- no message is dead under a number
abbrev NotDead : ℕ → List Row → Type 0
NotDead number rows = (row : Row) → In row rows → is_dead_number number row.place ≡ true → ⊥

-- those that are have one index
abbrev IsDeadAlone : ℕ → List Row → Type 0
IsDeadAlone number rows =
    (a b : Row) → In a rows → In b rows → is_dead_number number a.place ≡ true
    → is_dead_number number b.place ≡ true → a.index.0 ≡ b.index.0

-- a dead letter that was settled
abbrev pub lettered : Row → Row
lettered row = record row { place = Gone gone.DeadLettered }

settled-from : (number : ℕ) (old row : Row) (rows : List Row) → In row (put_row (lettered old) rows)
    → is_dead_number number row.place ≡ true → In row rows × (row.index.0 ≡ old.index.0 → ⊥)
settled-from number old row rows here dead = elim (In-put_row row (lettered old) rows here) [
  | inl same ↦
      absurd (false≢true (ap (λ (r : Row). is_dead_number number r.place) (sym same) ∙ dead))
  | inr before ↦ before
]

record Going (given attached : ℕ) (J : List Row → Type 0) (now : Settling) : Type 0 where
  same_given : now.progress.state.given ≡ given
  same_attached : now.progress.state.attached ≡ attached
  holds : J now.progress.state.rows

-- what each settlement of a dead letter keeps
kept-settled : (given attached : ℕ) (J : List Row → Type 0)
    → ((old : Row) (rows : List Row) → J rows → J (put_row (lettered old) rows)) → (o : Option Row) (now : Settling)
    → Going given attached J now → Going given attached J (settle_dead_by o now)
kept-settled given attached J keeps None now going = going
kept-settled given attached J keeps (Some old) now going =
    record { same_given = going.same_given; same_attached = going.same_attached; holds = keeps old now.progress.state.rows going.holds }

settle_dead-keeps : (given attached : ℕ) (J : List Row → Type 0)
    → ((old : Row) (rows : List Row) → J rows → J (put_row (lettered old) rows)) → (done : List DeadDone)
    → (now : Settling) → Going given attached J now
    → Going given attached J (fold (λ (now : Settling) (one : DeadDone).
    settle_dead_by (given_row one.number now.progress.state) now) now done)
settle_dead-keeps given attached J keeps done now going =
    fold-keeps_in (Going given attached J)
    (λ (now : Settling) (one : DeadDone). settle_dead_by (given_row one.number now.progress.state) now) done
    (λ now one within it. kept-settled given attached J keeps (given_row one.number now.progress.state) now it) now
    going

settled-one : (number given attached : ℕ) (now : Settling) → number ≤ given
    → Going given attached (IsDeadAlone number) now
    → Going given attached (NotDead number) (settle_dead_by (given_row number now.progress.state) now)
settled-one number given attached now less going =
    by (given_row number now.progress.state) (sym (cond-true (nat_le number now.progress.state.given)
    (dead_row number now.progress.state.rows) None
    (le-leb number now.progress.state.given (subst (λ n. number ≤ n) (sym going.same_given) less))))
  where
    by : (o : Option Row) → dead_row number now.progress.state.rows ≡ o
        → Going given attached (NotDead number) (settle_dead_by o now)
    by None found = record {
      same_given = going.same_given;
      same_attached = going.same_attached;
      holds = λ row here dead. false≢true
          (sym (find-none (λ (one : Row). is_dead_number number one.place) now.progress.state.rows found)
          ∙ list_any-from_in (λ (one : Row). is_dead_number number one.place) row now.progress.state.rows here dead);
    }
    by (Some old) found =
        let some = dead_row-in number now.progress.state.rows old found in
        let its : is_dead_number number old.place ≡ true =
        ap (is_dead_number number) some.1.1 ∙ eq-eqb number number refl in
        record {
          same_given = going.same_given;
          same_attached = going.same_attached;
          holds = λ row here dead.
              let before = settled-from number old row now.progress.state.rows here dead in
              before.1 (going.holds row old before.0 some.0 dead its);
        }

not_dead-kept : (number : ℕ) (old : Row) (rows : List Row) → NotDead number rows
    → NotDead number (put_row (lettered old) rows)
not_dead-kept number old rows none row here dead = none row (settled-from number old row rows here dead).0 dead

dead_alone-kept : (number : ℕ) (old : Row) (rows : List Row) → IsDeadAlone number rows
    → IsDeadAlone number (put_row (lettered old) rows)
dead_alone-kept number old rows alone a b ina inb deada deadb =
    alone a b (settled-from number old a rows ina deada).0 (settled-from number old b rows inb deadb).0 deada deadb

settled-all : (number given attached : ℕ) (done : List DeadDone) (one : DeadDone) (now : Settling) → number ≤ given
    → In one done → one.number ≡ number → Going given attached (IsDeadAlone number) now
    → Going given attached (NotDead number) (fold (λ (now : Settling) (one : DeadDone).
    settle_dead_by (given_row one.number now.progress.state) now) now done)
settled-all number given attached [] one now less within is going = absurd within
settled-all number given attached (first ∷ done) one now less (inl same) is going =
    let its : first.number ≡ number = ap (λ (d : DeadDone). d.number) (sym same) ∙ is in
    let cleared : Going given attached (NotDead number)
    (settle_dead_by (given_row first.number now.progress.state) now) =
    subst (λ n. Going given attached (NotDead number) (settle_dead_by (given_row n now.progress.state) now)) (sym its)
    (settled-one number given attached now less going) in
    settle_dead-keeps given attached (NotDead number) (not_dead-kept number) done _ cleared
settled-all number given attached (first ∷ done) one now less (inr later) is going =
    settled-all number given attached done one _ less later is
    (kept-settled given attached (IsDeadAlone number) (dead_alone-kept number)
    (given_row first.number now.progress.state) now going)

dead_settle-cleared : (number : ℕ) (term : Term) (done : List DeadDone) (p : Progress)
    → is_at_least_once p.state.args.strategy ≡ true → settles_dead (DeadSettle term done) p.state.attached number ≡ true
    → number ≤ p.state.given → IsDeadAlone number p.state.rows
    → NotDead number (dead_settle term done p).progress.state.rows
unfolding dead_settle
dead_settle-cleared number term done p least settles less alone =
    let parts = and_parts (nat_eq term.0 p.state.attached)
    (list_any (λ (one : DeadDone). nat_eq one.number number) done) settles in
    let some = list_any-in (λ (one : DeadDone). nat_eq one.number number) done parts.1 in
    let settling : Settling = settle_dead done p in
    let cleared = settled-all number p.state.given p.state.attached done some.0 (record { progress = p; count = 0 })
    less some.1 (eqb-true some.0.number number some.2)
    (record { same_given = refl; same_attached = refl; holds = alone }) in
    subst (λ (a : Acted). NotDead number a.progress.state.rows)
    (sym (cond-true _ (reply (answer.DeadSettled settling.count) settling.progress) (reply answer.Stale p)
    (and_from _ _ least parts.0))) cleared.holds

act-cleared : (s : State) (x : Sessions) (index : Index) (command : Command) (number : ℕ)
    → is_at_least_once s.args.strategy ≡ true → settles_dead command s.attached number ≡ true → number ≤ s.given
    → IsDeadAlone number s.rows → NotDead number (acted_with s x index command).progress.state.rows
unfolding act
act-cleared s x index (DeadSettle term done) number least settles less alone =
    dead_settle-cleared number term done (record { state = record s { sessions = x }; effects = [] }) least settles
    less alone
act-cleared s x index _ number least settles less alone = absurd (false≢true settles)

-- What becomes of a message that is dead ---------------------------------------------------------------

-- a command settles it, or leaves it
dead-acted : {s : State} {command : Command} (old new : Row) (number : ℕ) (cause : Reason)
    → old.place ≡ Dead number cause → ActsOn s command old new
    → (new ≡ old) ⊎ ((new ≡ lettered old) × (is_settled_by command s number ≡ true))
dead-acted old new number cause is (Stays same) = inl same
dead-acted old new number cause is (IsGot gets first made) =
    absurd (false≢true (sym (ap is_ready is) ∙ first.ready))
dead-acted old new number cause is (IsPurged purges ready made) = absurd (false≢true (sym (ap is_ready is) ∙ ready))
dead-acted old new number cause is (IsEnded (IsSettled consumer id at settles ends made)) =
    absurd (false≢true (sym (ap is_dead at) ∙ ap is_dead is))
dead-acted old new number cause is (IsEnded (IsDiscarded consumer id place at discards ends death made)) =
    absurd (false≢true (sym (ap is_dead at) ∙ ap is_dead is))
dead-acted old new number cause is (IsEnded (GoesBack consumer id key at back ends within key' made)) =
    absurd (false≢true (sym (ap is_dead at) ∙ ap is_dead is))
dead-acted old new number cause is (IsEnded (PassesLimit consumer id place at back ends passed death made)) =
    absurd (false≢true (sym (ap is_dead at) ∙ ap is_dead is))
dead-acted {s = s} {command = command} old new number cause is
    (IsEnded (IsDeadLettered other cause' at settles given made)) =
    let e : Dead number cause ≡ Dead other cause' = sym is ∙ at in
    let same : other ≡ number = cc in
    inr (
      made,
      and_from _ _ (subst (λ n. settles_dead command s.attached n ≡ true) same settles)
          (le-leb number s.given (subst (λ n. n ≤ s.given) same given)),
    )

unready-served : (old new : Row) → is_ready old.place ≡ false → IsServed old new → new ≡ old
unready-served old new other (inl same) = same
unready-served old new other (inr out) = absurd (false≢true (sym other ∙ out.2))

unready-limited : (args : QueueArgs) (rows : List Row) (old new : Row) → is_ready old.place ≡ false
    → IsLimited args rows old new → new ≡ old
unready-limited args rows old new other (inl stays) = stays.0
unready-limited args rows old new other (inr died) = absurd (false≢true (sym other ∙ died.1))

settles-unstamped : (command : Command) (attached number : ℕ) → settles_dead command attached number ≡ true
    → stamp command ≡ None
settles-unstamped (DeadSettle term done) attached number settles = refl
settles-unstamped _ attached number settles = absurd (false≢true settles)

-- a settlement is carried out
pub settles-fresh : (s : State) (entry : Entry) → stamp entry.command ≡ None → (next_step s entry).fresh ≡ true
unfolding step
settles-fresh s entry none = ap (λ o. (step_by o (next_index s) entry.command s).fresh) none

dead-number : (number : ℕ) (place : Place) → is_dead_number number place ≡ true → death_number place ≡ Some number
dead-number number (Dead other cause) is = ap (λ (n : ℕ). Some n) (eqb-true other number is)
dead-number number _ is = absurd (false≢true is)

dead-alone : (s : State) (number : ℕ) → Numbered s → IsDeadAlone number s.rows
dead-alone s number it a b ina inb deada deadb =
    it.deads.once a b number ina inb (dead-number number a.place deada) (dead-number number b.place deadb)

-- a message that isn't ready is as the command itself leaves it
pub rests : (args : QueueArgs) (acted served final : List Row) (row : Row) → AllZip IsServed acted served
    → AllZip (IsLimited args served) served final → In row acted → is_ready row.place ≡ false → In row final
rests args acted served final row serves limits here other =
    let second = zip-first IsServed acted served row serves here in
    let same = unready-served row second.0 other second.2 in
    let third = zip-first (IsLimited args served) served final row limits (subst (λ (r : Row). In r served) same
    second.1) in
    subst (λ (r : Row). In r final) (unready-limited args served row third.0 other third.2) third.1

-- a message that is dead, once a settlement is looked at
abbrev settled_as : Bool → Row → Row
settled_as b row = if b then lettered row else row

pub dead_until_settled : (args : QueueArgs) (before : List Entry) (entry : Entry)
    → IsDeadUntilSettled (state_after (empty_queue args) before) entry
dead_until_settled args before entry row number cause there is =
    Contains-in (settled_as settled row) (next_step s entry).state.rows (elim (cases_Bool (next_step s entry).fresh) [
      | inl fresh ↦ carries fresh
      | inr stale ↦ subst (In (settled_as settled row)) (sym (is_stale s entry stale).rows) (waits stale)
    ])
  where
    s : State
    s = state_after (empty_queue args) before

    settled : Bool
    settled = is_settled_by entry.command s number

    here : In row s.rows
    here = in_contains s.rows row there

    least : is_at_least_once s.args.strategy ≡ true
    least = has_dead args before row here (ap is_dead is)

    waits : (next_step s entry).fresh ≡ false → In (settled_as settled row) s.rows
    waits stale = elim (cases_Bool settled) [
      | inl done' ↦
          let parts = and_parts (settles_dead entry.command s.attached number) (nat_le number s.given) done' in
          absurd (false≢true (sym stale
          ∙ settles-fresh s entry (settles-unstamped entry.command s.attached number parts.0)))
      | inr no' ↦ subst (λ (r : Row). In r s.rows) (sym (cond-false settled (lettered row) row no')) here
    ]

    carries : (next_step s entry).fresh ≡ true → In (settled_as settled row) (next_step s entry).state.rows
    carries fresh =
        let it = is_carried s entry fresh in
        let phases = carried s it.sessions entry.command (rows_at args before) in
        let acted = (acted_with s it.sessions (next_index s) entry.command).progress.state.rows in
        let served = (served_with s it.sessions (next_index s) entry.command).state.rows in
        let final = (carry_out (next_index s) entry.command (record s { sessions = it.sessions })).progress.state.rows in
        let first = zip-first (ActsOn s entry.command) _ acted row phases.acts (In-append_left row s.rows _ here) in
        let mid : In (settled_as settled row) acted = elim (dead-acted row first.0 number cause is first.2) [
          | inl same ↦ elim (cases_Bool settled) [
            | inl done' ↦
                let parts = and_parts (settles_dead entry.command s.attached number) (nat_le number s.given) done' in
                absurd (act-cleared s it.sessions (next_index s) entry.command number least parts.0
                (leb-true number s.given parts.1) (dead-alone s number (rows_at args before).numbered) row
                (subst (λ (r : Row). In r acted) same first.1)
                (ap (is_dead_number number) is ∙ eq-eqb number number refl))
            | inr no' ↦
                subst (λ (r : Row). In r acted) (same ∙ sym (cond-false settled (lettered row) row no')) first.1
          ]
          | inr gone' ↦
              subst (λ (r : Row). In r acted) (gone'.0 ∙ sym (cond-true settled (lettered row) row gone'.1)) first.1
        ] in
        let other : is_ready (settled_as settled row).place ≡ false =
        cond_both settled (lettered row) row (λ (r : Row). is_ready r.place ≡ false) (λ _. refl)
        (λ _. ap is_ready is) in
        subst (In (settled_as settled row)) (sym it.rows)
        (rests s.args acted served final (settled_as settled row) phases.serves phases.limits mid other)
