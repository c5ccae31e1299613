use Rattle.qq_consumer.proofs.laws.a_refusal_changes_no_consumer.Goals as goal

pub returns-clause-spent : goal.returns-clause-spent
returns-clause-spent c = λ old new same. same

pub returns-clause-full : goal.returns-clause-full
returns-clause-full c = λ old new same. same

pub returns-clause-credit : goal.returns-clause-credit
returns-clause-credit c = λ cause old new same. same
