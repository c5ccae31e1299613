use Rattle.std.proofs.Common.{◌≡◌, ℕ, [], Option, Some, None, refl, sym, ap, ◌∙◌, arith, inl, inr}
use Rattle.qq_base.specs.Fronts.{put}
use Rattle.qq_log.specs.Stable.{apply_op, change as change_state}
use Rattle.qq_raft_model.specs.Leading.{add_entry, advance, lead, lead_if_elected, send, stand}
use Rattle.qq_raft_model.specs.Server.{accept, give_vote, notice, receive, receive_append, receive_appended, receive_vote, receive_voted, refuse, refuse_entries, step_back, submit, take_ack, take_entries, tick}
use Rattle.qq_raft_model.specs.State.{change, enter, say_all}
use Rattle.qq_base.specs.declared.ids.NodeId.{NodeId}
use Rattle.qq_raft_model.specs.State.{Server}
use Rattle.qq_raft_model.specs.GroupExample.{node, three, two_entries}
use Rattle.qq_raft_model.specs.Group.{group_after, lane_with}
use Rattle.qq_log.specs.Stable.{new_state}
use Rattle.qq_raft_model.specs.Server.{restart}
use Rattle.qq_raft_model.proofs.group_examples.a_leader_gets_ready.Goals as goal

differs : (n : ℕ) (m : NodeId) (k : ℕ) → m ≡ node k → (k ≡ n → ⊥) → m.0 ≡ n → ⊥
differs n m k is other same = other (sym (ap (λ (x : NodeId). x.0) is) ∙ same)

pub returns-clause-distinct : goal.returns-clause-distinct
returns-clause-distinct c = (
  λ m here. elim here [
    | inl second ↦ differs 1 m 2 second (λ e. omega (arith, e))
    | inr later ↦ elim later [
      | inl third ↦ differs 1 m 3 third (λ e. omega (arith, e))
      | inr nothing ↦ absurd nothing
    ]
  ],
  (
    λ m here. elim here [
      | inl third ↦ differs 2 m 3 third (λ e. omega (arith, e))
      | inr nothing ↦ absurd nothing
    ],
    (λ m here. absurd here, tt),
  ),
)

got : Option Server → Server
got None = restart (node 1) [] (lane_with (record { 0 = 1 }) new_state)
got (Some s) = s

pub returns-clause-ready : goal.returns-clause-ready
unfolding put send add_entry stand lead lead_if_elected advance change enter say_all refuse accept receive give_vote receive_vote receive_voted take_entries refuse_entries receive_append take_ack step_back receive_appended tick submit notice apply_op change_state got
returns-clause-ready c = (got ((group_after three two_entries).seat 1).server, refl, refl, refl)
