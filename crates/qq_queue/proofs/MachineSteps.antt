-- The machine stands for a queue, before an entry and behind it.
use Rattle.std.proofs.Common.{◌≡◌, ◌+◌, ℕ, Bool, Option, Some, None, refl, sym, ap, subst, ◌∙◌}
use Rattle.std.specs.Prelude.{List}
use Rattle.qq_base.specs.Causes.{SpentOnlyWhere}
use Rattle.qq_base.specs.declared.ids.Index.{Index}
use Rattle.qq_base.specs.declared.memory.Memory.{Memory}
use Rattle.qq_base.specs.declared.memory.Memory.TheVariants.{Want, Spent}
use Rattle.qq_laws.specs.Far.{IsReached}
use Rattle.qq_laws.proofs.Within.{new-reached, next-reached}
use Rattle.qq_entry.specs.Command.{stamp}
use Rattle.qq_entry.specs.Range.{IsInRange}
use Rattle.qq_entry.specs.declared.answer.Answer.{Answer}
use Rattle.qq_entry.specs.declared.audit.Effect.{Effect}
use Rattle.qq_entry.specs.declared.command.Command.{Command}
use Rattle.qq_entry.specs.declared.command.Entry.{Entry}
use Rattle.qq_entry.specs.declared.command.Stamp.{Stamp}
use Rattle.qq_entry.specs.declared.queue.QueueArgs.{QueueArgs}
use Rattle.qq_model.specs.Audit.{next_index, next_step}
use Rattle.qq_model.specs.Gate.{gate}
use Rattle.qq_model.specs.Sound.{IsSound}
use Rattle.qq_model.specs.State.{State, empty_queue}
use Rattle.qq_model.specs.Step.{step}
use Rattle.qq_model.specs.declared.session.Gate.{Gate}
use Rattle.qq_model.specs.declared.session.Gate.TheVariants.{Fresh, Again, Gap, Forgotten, Ended, WindowFull, SessionsFull}
use Rattle.qq_model.proofs.Soundness.{is_sound}
use Rattle.qq_parts.specs.Parts.{Parts}
use Rattle.qq_parts.specs.Step.{StepsFor, new_parts, parts_step, parts_step_by, parts_go_through}
use Rattle.qq_parts.proofs.Stepping.{new-holds}
use Rattle.qq_raft_msg.specs.Queue.{IsApplied}
use Rattle.qq_queue.specs.Applied.{applied_of}
use Rattle.qq_queue.specs.StandsFor.{StandsFor}

gate-applied : (g : Gate) (index : Index) (by : Stamp) (command : Command) (m : Parts)
    → (parts_go_through g index by command m).parts.rest.applied ≡ index.0
gate-applied Fresh index by command m = refl
gate-applied (Again before) index by command m = refl
gate-applied (Gap next) index by command m = refl
gate-applied Forgotten index by command m = refl
gate-applied Ended index by command m = refl
gate-applied WindowFull index by command m = refl
gate-applied SessionsFull index by command m = refl

by-applied : (o : Option Stamp) (index : Index) (command : Command) (m : Parts)
    → (parts_step_by o index command m).parts.rest.applied ≡ index.0
by-applied None index command m = refl
by-applied (Some by) index command m = gate-applied (gate m.rest.sessions by) index by command m

-- a step counts its entry as applied
pub step-applied : (m : Parts) (index : Index) (e : Entry) → (parts_step m index e).parts.rest.applied ≡ index.0
unfolding parts_step
step-applied m index e = by-applied (stamp e.command) index e.command m

pub new-stands : (args : QueueArgs) → StandsFor (empty_queue args) (new_parts args)
new-stands args = record { reached = new-reached args; holds = new-holds args }

pub sound-reached : (s : State) → IsReached s → IsSound s
sound-reached s it = subst IsSound (sym it.is) (is_sound it.args it.entries)

-- the next index of the state is that of the machine
pub index-is : (s : State) (m : Parts) (index : Index) → index.0 ≡ m.rest.applied + 1 → StandsFor s m
    → next_index s ≡ index
index-is s m index next it =
    ap (λ (k : ℕ). let i : Index = record { 0 = k } in i)
    (ap (λ (t : State). t.applied + 1) it.holds.stands.rest ∙ sym next)

-- an entry was applied
pub next-applies : (s : State) (m n : Parts) (index : Index) (entry : Entry) (fresh : Bool) (answer : Answer)
    (effects : List Effect) → IsInRange entry → index.0 ≡ m.rest.applied + 1 → StandsFor s m
    → StepsFor (record { parts = n; fresh = fresh; answer = answer; effects = effects }) (next_step s entry)
    → IsApplied StandsFor (applied_of (step s index entry)) (fresh, answer, effects) n
next-applies s m n index entry fresh answer effects range next it made =
    subst (λ (i : Index). IsApplied StandsFor (applied_of (step s i entry)) (fresh, answer, effects) n)
    (index-is s m index next it)
    (record {
      fresh = sym made.fresh;
      answer = sym made.answer;
      effects = sym made.effects;
      next = record { reached = next-reached s entry it.reached range; holds = made.holds };
    })

pub spent-weaker : (e : Memory) (end : ℕ) (P Q : Type 0) → (P → Q) → SpentOnlyWhere e end P → SpentOnlyWhere e end Q
spent-weaker Want end P Q f cause = tt
spent-weaker (Spent number) end P Q f cause = (cause.0, f cause.1)
