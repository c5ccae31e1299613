-- A step under way in the parts of a queue, and the step under way that it stands for.
use Rattle.std.specs.Prelude.{◌≡◌, List}
use Rattle.qq_entry.specs.declared.answer.Answer.{Answer}
use Rattle.qq_entry.specs.declared.answer.Answer.TheVariants as answer
use Rattle.qq_entry.specs.declared.answer.Cause.{Cause}
use Rattle.qq_entry.specs.declared.audit.Effect.{Effect}
use Rattle.qq_model.specs.Changes.{Progress}
use Rattle.qq_model.specs.Commands.{Acted}
use Rattle.qq_parts.specs.Parts.{Parts, Stands, IsWhole}

-- the parts so far, and the effects so far
pub record Work : Type 0 where
  pub parts : Parts
  pub effects : List Effect

-- these, and the answer so far
pub record Answered : Type 0 where
  pub work : Work
  pub answer : Answer

-- nothing happens but an answer
abbrev pub say : Answer → Work → Answered
say answer t = record { work = t; answer = answer }

abbrev pub say_refused : Cause → Work → Answered
say_refused cause t = say (answer.Refused cause) t

-- other parts, with the same effects so far
abbrev pub with_parts : Parts → Work → Work
with_parts m t = record t { parts = m }

-- the parts stand for the state of a step under way, and are whole; the effects are the same
pub record StandsFor (t : Work) (p : Progress) : Type 0 where
  pub stands : Stands t.parts p.state
  pub whole : IsWhole t.parts
  pub effects : p.effects ≡ t.effects

-- so do these, with the same answer
pub record AnswersFor (a : Answered) (b : Acted) : Type 0 where
  pub work : StandsFor a.work b.progress
  pub answer : b.answer ≡ a.answer
