-- Only a queue that dead-letters at least once keeps its dead.
use Rattle.std.proofs.Common.{◌≡◌, true, List, refl, sym, ap, ◌∙◌, subst, inl, inr}
use Rattle.std.proofs.lemmas.Bool.{false≢true, cases_Bool, cond-true, cond-false, and_parts}
use Rattle.qq_base.specs.declared.ids.Index.{Index}
use Rattle.qq_entry.specs.declared.command.Command.{Command}
use Rattle.qq_entry.specs.declared.command.Entry.{Entry}
use Rattle.qq_entry.specs.declared.queue.QueueArgs.{QueueArgs}
use Rattle.qq_model.specs.declared.place.GoneReason.TheVariants as gone
use Rattle.qq_model.specs.declared.place.Place.{Place}
use Rattle.qq_model.specs.declared.place.Place.TheVariants.{Out, Dead, Gone}
use Rattle.qq_model.specs.declared.place.Row.{Row}
use Rattle.qq_model.specs.State.{State, empty_queue}
use Rattle.qq_model.specs.Limits.{is_dead, is_ready}
use Rattle.qq_model.specs.Changes.{put_row}
use Rattle.qq_model.specs.Commands.{is_at_least_once, purge_row}
use Rattle.qq_model.specs.Reasons.{may_die, may_move}
use Rattle.qq_model.specs.Serving.{deliver}
use Rattle.qq_model.specs.Audit.{next_index, state_after}
use Rattle.qq_base.proofs.Lists.{In, In-append_cases}
use Rattle.qq_model.proofs.ActKeeps.{KeepsArrivals}
use Rattle.qq_model.proofs.CarryOut.{carry_out-keeps}
use Rattle.qq_model.proofs.Drawn.{In-mapped, In-put_row}
use Rattle.qq_model.proofs.SingleChanges.{Acts, KeepsDeliveries, KeepsRows, Serves}
use Rattle.qq_model.proofs.Soundness.{in_contains}
use Rattle.qq_model.proofs.StepKeeps.{after-keeps}
use Rattle.qq_laws.specs.DeadLetters.{KeepsDead}

-- each message that is dead is in a queue that dead-letters at least once
abbrev pub HasDead : State → Type 0
HasDead s = (row : Row) → In row s.rows → is_dead row.place ≡ true → is_at_least_once s.args.strategy ≡ true

dead-moved : (args : QueueArgs) (command : Command) (place : Place) → may_move args command place ≡ true
    → is_dead place ≡ true → is_at_least_once args.strategy ≡ true
dead-moved args command (Dead number cause) may dead =
    (and_parts (is_at_least_once args.strategy) (may_die args command cause) may).0
dead-moved args command _ may dead = absurd (false≢true dead)

-- a row that isn't dead is put, or one that may be
dead-put : (s t : State) (new : Row) → HasDead s → t.args ≡ s.args → t.rows ≡ put_row new s.rows
    → (is_dead new.place ≡ true → is_at_least_once s.args.strategy ≡ true) → HasDead t
dead-put s t new it args rows may row here dead =
    let same : is_at_least_once t.args.strategy ≡ is_at_least_once s.args.strategy =
    ap (λ (a : QueueArgs). is_at_least_once a.strategy) args in
    same ∙ elim (In-put_row row new s.rows (subst (λ (rs : List Row). In row rs) rows here)) [
      | inl is ↦ may (ap (λ (r : Row). is_dead r.place) (sym is) ∙ dead)
      | inr old ↦ it row old.0 dead
    ]

HasDead-rows : (command : Command) → KeepsRows command (λ p. HasDead p.state)
HasDead-rows command = record {
  row = λ p q old new it here moves out why turns.
      dead-put p.state q.state new it turns.args turns.rows
      (dead-moved p.state.args command new.place moves.place);
}

purged-dead : (row : Row) → is_dead (purge_row row).place ≡ true → is_dead row.place ≡ true
purged-dead row dead = elim (cases_Bool (is_ready row.place)) [
  | inl ready ↦
      absurd (false≢true (ap (λ (r : Row). is_dead r.place)
      (sym (cond-true (is_ready row.place) (record row { place = Gone gone.Purged }) row ready)) ∙ dead))
  | inr other ↦
      ap (λ (r : Row). is_dead r.place)
      (sym (cond-false (is_ready row.place) (record row { place = Gone gone.Purged }) row other)) ∙ dead
]

HasDead-acts : (command : Command) → Acts command (λ p. HasDead p.state)
HasDead-acts command = record {
  rows = HasDead-rows command;
  purge = λ p it purges row here dead.
      let old = In-mapped purge_row row p.state.rows here in
      it old.0 old.1 (purged-dead old.0 (ap (λ (r : Row). is_dead r.place) (sym old.2) ∙ dead));
  attach = λ p term it least greater. it;
  join = λ p id mode it above own. it;
  cancel = λ p id consumer it found. it;
  finish = λ p it. it;
  credit = λ p id consumer credit it found. it;
  turn = λ p id consumer it found. it;
  leave = λ p session it is same none. it;
}

HasDead-delivers : KeepsDeliveries (λ p. HasDead p.state)
HasDead-delivers p row consumer it found next =
    dead-put p.state (deliver row consumer p).state (record row { place = Out consumer.id consumer.next_id }) it refl refl
    (λ dead. absurd (false≢true dead))

HasDead-serves : (command : Command) → Serves command (λ p. HasDead p.state)
HasDead-serves command = record {
  rows = HasDead-rows command;
  offer = λ p number cause row it here is next may few. it;
  drain = λ p id consumer it found. it;
}

HasDead-arrives : (index : Index) (command : Command) → KeepsArrivals index command (λ p. HasDead p.state)
HasDead-arrives index command p given message it is found row here dead =
    elim (In-append_cases row p.state.rows _ here) [
      | inl old ↦ it row old dead
      | inr new ↦ elim new [
        | inl same ↦ absurd (false≢true (ap (λ (r : Row). is_dead r.place) (sym same) ∙ dead))
        | inr later ↦ absurd later
      ]
    ]

pub has_dead : (args : QueueArgs) (entries : List Entry) → HasDead (state_after (empty_queue args) entries)
has_dead args entries = after-keeps HasDead (λ t. record {
  stale = λ x it. it;
  fresh = λ command x y it.
      carry_out-keeps {I = λ p. HasDead p.state} (next_index t) command (record t { sessions = x })
      (HasDead-acts command) HasDead-delivers (HasDead-serves command)
      (HasDead-arrives (next_index t) command) it;
}) (empty_queue args) entries (λ row here dead. absurd here)

pub keeps_dead : (args : QueueArgs) (entries : List Entry) → KeepsDead (state_after (empty_queue args) entries)
keeps_dead args entries row there dead =
    let s = state_after (empty_queue args) entries in has_dead args entries row (in_contains s.rows row there) dead
