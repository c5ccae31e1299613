use Rattle.qq_consumer.proofs.laws.a_refusal_tells_its_rule.Goals as goal

pub returns-clause-spent : goal.returns-clause-spent
returns-clause-spent c = λ refusal is. is

pub returns-clause-full : goal.returns-clause-full
returns-clause-full c = λ refusal is. is

pub returns-clause-memory : goal.returns-clause-memory
returns-clause-memory c = λ refusal is. is

pub returns-clause-credit : goal.returns-clause-credit
returns-clause-credit c = λ cause refusal is. is

pub returns-clause-credit_memory : goal.returns-clause-credit_memory
returns-clause-credit_memory c = λ refusal is. is
