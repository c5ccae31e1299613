-- What was changed stays, or is as it was.
use Rattle.std.proofs.Common.{◌≡◌, Bool, List, sym, ap, ◌∙◌}
use Rattle.qq_base.specs.declared.ids.Index.{Index}
use Rattle.qq_entry.specs.declared.queue.QueueArgs.{QueueArgs}
use Rattle.qq_entry.specs.declared.answer.Answer.{Answer}
use Rattle.qq_entry.specs.declared.audit.Effect.{Effect}
use Rattle.qq_entry.specs.declared.command.Entry.{Entry}
use Rattle.qq_parts.specs.Parts.{Parts}
use Rattle.qq_parts.specs.Step.{PartsStep, parts_step}
use Rattle.qq_machine.specs.declared.queue.Queue.{Queue}
use Rattle.qq_machine.specs.Views.{parts_of, parts_in, Content, content_of, base_of}

abbrev step_with : Bool → Answer → Parts → List Effect → PartsStep
step_with fresh answer parts effects =
    record { parts = parts; fresh = fresh; answer = answer; effects = effects }

-- a step that is committed
pub commits : (args : QueueArgs) (m : Parts) (index : Index) (entry : Entry) (stepped new : Queue) (fresh : Bool)
    (answer : Answer) (effects out : List Effect)
    → parts_step m index entry ≡ step_with fresh answer (parts_of args stepped) effects
    → content_of new ≡ content_of stepped → out ≡ effects
    → parts_step m index entry ≡ step_with fresh answer (parts_of args new) out
commits args m index entry stepped new fresh answer effects out made content same =
    made
    ∙ ap (λ (k : Content). step_with fresh answer (parts_in args k) effects) (sym content)
    ∙ ap (step_with fresh answer (parts_of args new)) (sym same)

-- a step that is undone
pub undoes : (args : QueueArgs) (old stepped new : Queue) → content_of new ≡ base_of stepped
    → base_of stepped ≡ base_of old → content_of old ≡ base_of old → parts_of args new ≡ parts_of args old
undoes args old stepped new content base committed =
    ap (parts_in args) (content ∙ base ∙ sym committed)
