use Rattle.std.proofs.Common.{refl}
use Rattle.qq_raft_model.specs.Leading.{lead_if_elected, lead, add_entry, advance, send}
use Rattle.qq_raft_model.specs.Server.{receive, accept, refuse, receive_vote, give_vote, receive_append, take_entries, refuse_entries, receive_appended, take_ack, step_back, notice}
use Rattle.qq_raft_model.specs.State.{change, enter, say_all}
use Rattle.qq_raft_model.proofs.examples.an_entry_of_an_older_term_is_not_committed_by_counting.Goals as goal

pub returns-clause-older : goal.returns-clause-older
unfolding receive accept refuse receive_vote give_vote receive_append take_entries refuse_entries receive_appended take_ack step_back notice lead_if_elected lead add_entry advance send change enter say_all
returns-clause-older c = refl

pub returns-clause-own : goal.returns-clause-own
unfolding receive accept refuse receive_vote give_vote receive_append take_entries refuse_entries receive_appended take_ack step_back notice lead_if_elected lead add_entry advance send change enter say_all
returns-clause-own c = refl

pub returns-clause-ready : goal.returns-clause-ready
unfolding receive accept refuse receive_vote give_vote receive_append take_entries refuse_entries receive_appended take_ack step_back notice lead_if_elected lead add_entry advance send change enter say_all
returns-clause-ready c = refl
