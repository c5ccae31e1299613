-- Two facts that single changes keep, both at once.
use Rattle.std.proofs.Common.{◌≡◌, ◌<◌, false, [], Option, Some, None, refl, sym, ◌∙◌}
use Rattle.std.proofs.lemmas.Bool.{false≢true}
use Rattle.qq_base.specs.declared.ids.Index.{Index}
use Rattle.qq_entry.specs.declared.command.Command.{Command}
use Rattle.qq_entry.specs.declared.command.Command.TheVariants.{Enqueue}
use Rattle.qq_entry.specs.declared.answer.Full.{Full}
use Rattle.qq_model.specs.declared.place.Row.{Row}
use Rattle.qq_model.specs.declared.consumer.Consumer.{Consumer}
use Rattle.qq_model.specs.State.{State}
use Rattle.qq_model.specs.Limits.{publish_limit}
use Rattle.qq_model.specs.Choice.{next_message, next_consumer}
use Rattle.qq_model.specs.Changes.{Progress}
use Rattle.qq_model.specs.Commands.{set_state, append_message, enqueue_by, enqueue, act}
use Rattle.qq_model.specs.Serving.{deliver}
use Rattle.qq_model.specs.Step.{carry_out}
use Rattle.qq_model.specs.Reasons.{is_enqueue}
use Rattle.std.specs.List.{AllByRecursion}
use Rattle.qq_model.proofs.ActKeeps.{KeepsArrivals}
use Rattle.qq_model.proofs.CarryOut.{carry_out-keeps, follow_on, follow_on-keeps}
use Rattle.qq_laws.proofs.Since.{Orderly, Since, Since-acts, Since-delivers, Since-orderly, Since-serves, Since-start}
use Rattle.qq_model.proofs.SingleChanges.{Acts, KeepsDeliveries, Serves}
use Rattle.qq_laws.proofs.Steps.{append_message-orderly}
use Rattle.qq_model.proofs.Indices.{Rises, indices}

both-acts : {command : Command} (I J : Progress → Type 0) → Acts command I → Acts command J
    → Acts command (λ p. I p × J p)
both-acts I J i j = record {
  rows =
      record {
        row =
            λ p q old new h here moves out why turns. (
              i.rows.row p q old new h.0 here moves out why turns,
              j.rows.row p q old new h.1 here moves out why
                  turns,
            );
      };
  purge = λ p h purges. (i.purge p h.0 purges, j.purge p h.1 purges);
  attach = λ p term h least greater. (i.attach p term h.0 least greater, j.attach p term h.1 least greater);
  join = λ p id mode h above own. (i.join p id mode h.0 above own, j.join p id mode h.1 above own);
  cancel = λ p id consumer h found. (i.cancel p id consumer h.0 found, j.cancel p id consumer h.1 found);
  finish = λ p h. (i.finish p h.0, j.finish p h.1);
  credit =
      λ p id consumer credit h found.
      (i.credit p id consumer credit h.0 found, j.credit p id consumer credit h.1 found);
  turn = λ p id consumer h found. (i.turn p id consumer h.0 found, j.turn p id consumer h.1 found);
  leave = λ p session h is same none. (i.leave p session h.0 is same none, j.leave p session h.1 is same none);
}

both-serves : {command : Command} (I J : Progress → Type 0) → Serves command I → Serves command J
    → Serves command (λ p. I p × J p)
both-serves I J i j = record {
  rows =
      record {
        row =
            λ p q old new h here moves out why turns. (
              i.rows.row p q old new h.0 here moves out why turns,
              j.rows.row p q old new h.1 here moves out why
                  turns,
            );
      };
  offer =
      λ p number reason row h here is next may few.
      (i.offer p number reason row h.0 here is next may few, j.offer p number reason row h.1 here is next may few);
  drain = λ p id consumer h found. (i.drain p id consumer h.0 found, j.drain p id consumer h.1 found);
}

-- each delivery of rows in order keeps I
abbrev pub KeepsInOrder : (Progress → Type 0) → Type 0
KeepsInOrder I =
    (p : Progress) (row : Row) (consumer : Consumer) → Rises (indices p.state.rows) → I p
    → next_message p.state.rows ≡ Some row
    → next_consumer p.state.args.single_active p.state.rows p.state.consumers ≡ Some consumer
    → I (deliver row consumer p)

both-delivers : (b : State) (command : Command) (I : Progress → Type 0) → Orderly b → KeepsInOrder I
    → KeepsDeliveries (λ p. Since b command p × I p)
both-delivers b command I orderly keeps p row consumer h found next = (
  Since-delivers b command orderly p row consumer h.0 found next,
  keeps p row consumer (Since-orderly b command p orderly h.0).rising h.1 found next,
)

other-with : (s : State) (index : Index) (command : Command) (I : Progress → Type 0) → is_enqueue command ≡ false
    → Orderly s → Acts command I → KeepsInOrder I → Serves command I
    → I (record { state = s; effects = [] }) → I (carry_out index command s).progress
other-with s index command I none orderly acts deliver serves holds =
    (carry_out-keeps {I = λ p. Since s command p × I p} index command s
    (both-acts (Since s command) I (Since-acts s command orderly) acts) (both-delivers s command I orderly deliver)
    (both-serves (Since s command) I (Since-serves s command orderly) serves)
    (λ p stamp message h is found. absurd (false≢true (sym none ∙ is)))
    (Since-start s command (record { state = s; effects = [] }) refl refl refl refl refl, holds)).1

-- what single changes keep where rows are in order, a whole command keeps from an orderly queue
pub carry_out-with : (s : State) (index : Index) (command : Command) (I : Progress → Type 0) → Orderly s
    → AllByRecursion (λ n. n < index.0) (indices s.rows) → Acts command I → KeepsInOrder I → Serves command I
    → KeepsArrivals index command I
    → I (record { state = s; effects = [] }) → I (carry_out index command s).progress
unfolding carry_out act enqueue
carry_out-with s index (Enqueue stamp origin message) I orderly below acts deliver serves arrives holds =
    by (publish_limit s.args s.rows) refl
  where
    command : Command
    command = Enqueue stamp origin message

    start : Progress
    start = record { state = s; effects = [] }

    by : (o : Option Full) → publish_limit s.args s.rows ≡ o
        → I (follow_on command (enqueue_by o index message start)).progress
    by None found =
        let b : State = append_message s index message in
        let orderly' : Orderly b = append_message-orderly s index message orderly below in
        (follow_on-keeps {I = λ p. Since b command p × I p} command (both-delivers b command I orderly' deliver)
        (both-serves (Since b command) I (Since-serves b command orderly') serves)
        (enqueue_by None index message start) (
          Since-start b command (set_state b start) refl refl refl refl refl,
          arrives start stamp message holds refl found,
        )).1
    by (Some full) found =
        (follow_on-keeps {I = λ p. Since s command p × I p} command (both-delivers s command I orderly deliver)
        (both-serves (Since s command) I (Since-serves s command orderly) serves)
        (enqueue_by (Some full) index message start)
        (Since-start s command start refl refl refl refl refl, holds)).1
carry_out-with s index command I orderly below acts deliver serves arrives holds =
    other-with s index command I refl orderly acts deliver serves holds
