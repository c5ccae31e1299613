-- A rejection names a limit that is met.
use Rattle.std.proofs.Common.{◌≡◌, ◌⊎◌, true, List, [], Option, Some, None, refl, sym, ap, ◌∙◌, inl, inr, not}
use Rattle.std.proofs.lemmas.Bool.{cases_Bool, cond-true, cond-false, and_from}
use Rattle.qq_entry.specs.declared.answer.Full.{Full}
use Rattle.qq_entry.specs.declared.answer.Full.TheVariants.{Length, ByteLength, Live}
use Rattle.qq_entry.specs.declared.command.Command.TheVariants.{Enqueue}
use Rattle.qq_entry.specs.declared.command.Entry.{Entry}
use Rattle.qq_entry.specs.declared.queue.QueueArgs.{QueueArgs}
use Rattle.qq_model.specs.declared.place.Row.{Row}
use Rattle.qq_model.specs.State.{State}
use Rattle.qq_model.specs.Limits.{publish_limit}
use Rattle.qq_model.specs.Changes.{Progress}
use Rattle.qq_model.specs.Commands.{enqueue_by}
use Rattle.qq_model.specs.Step.{Step}
use Rattle.qq_model.specs.Audit.{next_index, next_step}
use Rattle.qq_laws.specs.Rejected.{NamesLimit, is_first_met, is_met}
use Rattle.qq_laws.proofs.KeptLemmas.{enqueue-answer}
use Rattle.qq_laws.proofs.TakenLemmas.{let_in, made-carried}

-- the limit that a publish meets first is met
first-met : (args : QueueArgs) (rows : List Row) (o : Option Full) → publish_limit args rows ≡ o
    → (o ≡ None) ⊎ ((full : Full) × (o ≡ Some full) × (is_first_met full args rows ≡ true))
first-met args rows o is = elim (cases_Bool (is_met Length args rows)) [
  | inl length ↦
      inr (
        Length,
        sym is ∙ cond-true (is_met Length args rows) (Some Length) _ length,
        length,
      )
  | inr short ↦ elim (cases_Bool (is_met ByteLength args rows)) [
    | inl bytes ↦
        inr (
          ByteLength,
          sym is ∙ cond-false (is_met Length args rows) (Some Length) _ short
              ∙ cond-true (is_met ByteLength args rows) (Some ByteLength) _ bytes,
          and_from _ _ bytes (ap not short),
        )
    | inr few ↦ elim (cases_Bool (is_met Live args rows)) [
      | inl live ↦
          inr (
            Live,
            sym is ∙ cond-false (is_met Length args rows) (Some Length) _ short
                ∙ cond-false (is_met ByteLength args rows) (Some ByteLength) _ few
                ∙ cond-true (is_met Live args rows) (Some Live) None live,
            and_from _ _ live (and_from _ _ (ap not few) (ap not short)),
          )
      | inr free ↦
          inl (sym is ∙ cond-false (is_met Length args rows) (Some Length) _ short
          ∙ cond-false (is_met ByteLength args rows) (Some ByteLength) _ few
          ∙ cond-false (is_met Live args rows) (Some Live) None free)
    ]
  ]
]

pub names_limit : (s : State) (entry : Entry) → NamesLimit s entry
names_limit s entry given origin message is fresh =
    let made = made-carried s entry given (Enqueue given origin message) is refl fresh in
    let start : Progress = record { state = let_in s given; effects = [] } in
    let answer : (next_step s entry).answer
    ≡ (enqueue_by (publish_limit s.args s.rows) (next_index s) message start).answer =
    ap (λ (m : Step). m.answer) made ∙ enqueue-answer given origin message (next_index s) (let_in s given) in
    elim (first-met s.args s.rows (publish_limit s.args s.rows) refl) [
      | inl none ↦ inl (answer ∙ ap (λ o. (enqueue_by o (next_index s) message start).answer) none)
      | inr some ↦ inr (
        some.0,
        answer ∙ ap (λ o. (enqueue_by o (next_index s) message start).answer) some.1,
        some.2,
      )
    ]
