use Rattle.std.proofs.Common.{refl}
use Rattle.qq_raft_model.specs.Leading.{lead_if_elected, lead, add_entry, advance, send}
use Rattle.qq_raft_model.specs.Server.{receive, accept, refuse, receive_vote, give_vote, receive_append, take_entries, refuse_entries, receive_appended, take_ack, step_back, notice}
use Rattle.qq_raft_model.specs.State.{change, enter, say_all}
use Rattle.qq_raft_model.proofs.examples.an_append_cuts_only_what_differs.Goals as goal

pub returns-clause-old : goal.returns-clause-old
unfolding receive accept refuse receive_vote give_vote receive_append take_entries refuse_entries receive_appended take_ack step_back notice lead_if_elected lead add_entry advance send change enter say_all
returns-clause-old c = refl

pub returns-clause-nothing : goal.returns-clause-nothing
unfolding receive accept refuse receive_vote give_vote receive_append take_entries refuse_entries receive_appended take_ack step_back notice lead_if_elected lead add_entry advance send change enter say_all
returns-clause-nothing c = refl

pub returns-clause-tail : goal.returns-clause-tail
unfolding receive accept refuse receive_vote give_vote receive_append take_entries refuse_entries receive_appended take_ack step_back notice lead_if_elected lead add_entry advance send change enter say_all
returns-clause-tail c = refl

pub returns-clause-change : goal.returns-clause-change
unfolding receive accept refuse receive_vote give_vote receive_append take_entries refuse_entries receive_appended take_ack step_back notice lead_if_elected lead add_entry advance send change enter say_all
returns-clause-change c = refl

pub returns-clause-gap : goal.returns-clause-gap
unfolding receive accept refuse receive_vote give_vote receive_append take_entries refuse_entries receive_appended take_ack step_back notice lead_if_elected lead add_entry advance send change enter say_all
returns-clause-gap c = refl
