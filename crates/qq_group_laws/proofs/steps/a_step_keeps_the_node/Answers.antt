use Rattle.std.proofs.Common.{◌⊎◌, inl, inr}
use Rattle.qq_raft_model.specs.Handing.{Changes, Rests}
use Rattle.qq_raft_model.specs.Server.{step}
use Rattle.qq_group_laws.proofs.steps.a_step_keeps_the_node.Goals as goal

pub returns-clause-node : goal.returns-clause-node
returns-clause-node c = λ s input. (c.a_server_works_on_what_it_handed_out.ensures.one s input).node

pub returns-clause-peers : goal.returns-clause-peers
returns-clause-peers c = λ s input. (c.a_server_works_on_what_it_handed_out.ensures.one s input).nodes

pub returns-clause-term : goal.returns-clause-term
returns-clause-term c = λ s input. (c.a_server_works_on_what_it_handed_out.ensures.one s input).term

pub returns-clause-changes : goal.returns-clause-changes
returns-clause-changes c = λ s input.
    let hands : Rests s (step s input) ⊎ Changes s (step s input) =
    (c.a_server_works_on_what_it_handed_out.ensures.one s input).hands in
    elim hands [
      | inl rests ↦ inl rests.ops
      | inr changes ↦ inr (changes.op, changes.next, changes.ops)
    ]
