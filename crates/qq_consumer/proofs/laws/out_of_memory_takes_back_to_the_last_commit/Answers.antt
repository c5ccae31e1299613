use Rattle.std.proofs.Common.{◌≡◌, sym, ◌∙◌, inl, inr}
use Rattle.qq_consumer.specs.Roster.{ConsumersState, IsBack}
use Rattle.qq_consumer.proofs.laws.out_of_memory_takes_back_to_the_last_commit.Goals as goal

pub returns-clause-calls : goal.returns-clause-calls
returns-clause-calls c = λ old new back. back

pub returns-clause-subscribe : goal.returns-clause-subscribe
returns-clause-subscribe c = λ old new back. back

pub returns-clause-credit : goal.returns-clause-credit
returns-clause-credit c = λ old new back. back

unchanged : (old new : ConsumersState) → IsBack old new → old.roster ≡ old.base → new.roster ≡ old.roster
unchanged old new (inl same) is = same
unchanged old new (inr back) is = back ∙ sym is

pub returns-clause-committed : goal.returns-clause-committed
returns-clause-committed c = unchanged
