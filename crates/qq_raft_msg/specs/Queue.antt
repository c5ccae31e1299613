-- What applying an entry gives.
use Rattle.std.specs.Prelude.{◌≡◌, Bool, List}
use Rattle.qq_entry.specs.declared.answer.Answer.{Answer}
use Rattle.qq_entry.specs.declared.audit.Effect.{Effect}

-- the next state, whether the command counted as fresh, its answer, and its effects in order
pub record Applied (S : Type 0) : Type 0 where
  pub state : S
  pub fresh : Bool
  pub answer : Answer
  pub effects : List Effect

-- what a machine answered is what the definition gives, and the machine stands for the definition's next state
pub record IsApplied {S M : Type 0} (stands : S → M → Type 0) (made : Applied S) (answered : Bool × Answer × List Effect)
    (machine : M) : Type 0 where
  pub fresh : answered.0 ≡ made.fresh
  pub answer : answered.1 ≡ made.answer
  pub effects : answered.2 ≡ made.effects
  pub next : stands made.state machine
