use Rattle.std.proofs.Common.{refl}
use Rattle.qq_raft_model.specs.Leading.{lead_if_elected, lead, add_entry, advance, send}
use Rattle.qq_raft_model.specs.Server.{receive, accept, refuse, receive_vote, give_vote, receive_append, take_entries, refuse_entries, receive_appended, take_ack, step_back, notice}
use Rattle.qq_raft_model.specs.State.{change, enter, say_all}
use Rattle.qq_raft_model.proofs.examples.a_vote_is_durable_single_and_for_a_current_log.Goals as goal

pub returns-clause-first : goal.returns-clause-first
unfolding receive accept refuse receive_vote give_vote receive_append take_entries refuse_entries receive_appended take_ack step_back notice lead_if_elected lead add_entry advance send change enter say_all
returns-clause-first c = refl

pub returns-clause-later : goal.returns-clause-later
unfolding receive accept refuse receive_vote give_vote receive_append take_entries refuse_entries receive_appended take_ack step_back notice lead_if_elected lead add_entry advance send change enter say_all
returns-clause-later c = refl

pub returns-clause-other : goal.returns-clause-other
unfolding receive accept refuse receive_vote give_vote receive_append take_entries refuse_entries receive_appended take_ack step_back notice lead_if_elected lead add_entry advance send change enter say_all
returns-clause-other c = refl

pub returns-clause-shorter : goal.returns-clause-shorter
unfolding receive accept refuse receive_vote give_vote receive_append take_entries refuse_entries receive_appended take_ack step_back notice lead_if_elected lead add_entry advance send change enter say_all
returns-clause-shorter c = refl
