use Rattle.std.proofs.Common.{refl}
use Rattle.qq_base.specs.Fronts.{put}
use Rattle.qq_command.specs.Encoding.{encoding, fields, payload}
use Rattle.qq_log.specs.Stable.{apply_op, change as change_state}
use Rattle.qq_raft_model.specs.Leading.{add_entry, advance, lead, lead_if_elected, send, stand}
use Rattle.qq_raft_model.specs.Server.{accept, give_vote, notice, receive, receive_append, receive_appended, receive_vote, receive_voted, refuse, refuse_entries, step_back, submit, take_ack, take_entries, tick}
use Rattle.qq_raft_model.specs.State.{change, enter, say_all}
use Rattle.qq_raft_model.proofs.group_examples.an_entry_of_an_older_term_may_be_replaced.Goals as goal

pub returns-clause-first : goal.returns-clause-first
unfolding put send add_entry stand lead lead_if_elected advance change enter say_all refuse accept receive give_vote receive_vote receive_voted take_entries refuse_entries receive_append take_ack step_back receive_appended tick submit notice apply_op change_state encoding payload fields
returns-clause-first c = refl

pub returns-clause-second : goal.returns-clause-second
unfolding put send add_entry stand lead lead_if_elected advance change enter say_all refuse accept receive give_vote receive_vote receive_voted take_entries refuse_entries receive_append take_ack step_back receive_appended tick submit notice apply_op change_state encoding payload fields
returns-clause-second c = refl

pub returns-clause-third : goal.returns-clause-third
unfolding put send add_entry stand lead lead_if_elected advance change enter say_all refuse accept receive give_vote receive_vote receive_voted take_entries refuse_entries receive_append take_ack step_back receive_appended tick submit notice apply_op change_state encoding payload fields
returns-clause-third c = refl

pub returns-clause-fourth : goal.returns-clause-fourth
unfolding put send add_entry stand lead lead_if_elected advance change enter say_all refuse accept receive give_vote receive_vote receive_voted take_entries refuse_entries receive_append take_ack step_back receive_appended tick submit notice apply_op change_state encoding payload fields
returns-clause-fourth c = refl

pub returns-clause-audit : goal.returns-clause-audit
unfolding put send add_entry stand lead lead_if_elected advance change enter say_all refuse accept receive give_vote receive_vote receive_voted take_entries refuse_entries receive_append take_ack step_back receive_appended tick submit notice apply_op change_state encoding payload fields
returns-clause-audit c = refl

pub returns-clause-fifth : goal.returns-clause-fifth
unfolding put send add_entry stand lead lead_if_elected advance change enter say_all refuse accept receive give_vote receive_vote receive_voted take_entries refuse_entries receive_append take_ack step_back receive_appended tick submit notice apply_op change_state encoding payload fields
returns-clause-fifth c = refl

pub returns-clause-commit : goal.returns-clause-commit
unfolding put send add_entry stand lead lead_if_elected advance change enter say_all refuse accept receive give_vote receive_vote receive_voted take_entries refuse_entries receive_append take_ack step_back receive_appended tick submit notice apply_op change_state encoding payload fields
returns-clause-commit c = refl
