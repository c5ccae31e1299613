use Rattle.std.proofs.Common.{refl}
use Rattle.qq_base.specs.Fronts.{put}
use Rattle.qq_log.specs.Stable.{apply_op, change as change_state}
use Rattle.qq_raft_model.specs.Leading.{add_entry, advance, lead, lead_if_elected, send, stand}
use Rattle.qq_raft_model.specs.Server.{accept, give_vote, notice, receive, receive_append, receive_appended, receive_vote, receive_voted, refuse, refuse_entries, step_back, submit, take_ack, take_entries, tick}
use Rattle.qq_raft_model.specs.State.{change, enter, say_all}
use Rattle.qq_raft_model.proofs.group_examples.a_message_that_comes_again_changes_nothing.Goals as goal

pub returns-clause-audit : goal.returns-clause-audit
unfolding put send add_entry stand lead lead_if_elected advance change enter say_all refuse accept receive give_vote receive_vote receive_voted take_entries refuse_entries receive_append take_ack step_back receive_appended tick submit notice apply_op change_state
returns-clause-audit c = refl

pub returns-clause-leader : goal.returns-clause-leader
unfolding put send add_entry stand lead lead_if_elected advance change enter say_all refuse accept receive give_vote receive_vote receive_voted take_entries refuse_entries receive_append take_ack step_back receive_appended tick submit notice apply_op change_state
returns-clause-leader c = refl

pub returns-clause-follower : goal.returns-clause-follower
unfolding put send add_entry stand lead lead_if_elected advance change enter say_all refuse accept receive give_vote receive_vote receive_voted take_entries refuse_entries receive_append take_ack step_back receive_appended tick submit notice apply_op change_state
returns-clause-follower c = refl

pub returns-clause-later : goal.returns-clause-later
unfolding put send add_entry stand lead lead_if_elected advance change enter say_all refuse accept receive give_vote receive_vote receive_voted take_entries refuse_entries receive_append take_ack step_back receive_appended tick submit notice apply_op change_state
returns-clause-later c = refl
