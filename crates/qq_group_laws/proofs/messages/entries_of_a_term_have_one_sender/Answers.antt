use Rattle.qq_group_laws.proofs.Senders.{leader-sends, one-sender}
use Rattle.qq_group_laws.proofs.messages.entries_of_a_term_have_one_sender.Goals as goal

pub returns-clause-one : goal.returns-clause-one
returns-clause-one c = one-sender

pub returns-clause-leader : goal.returns-clause-leader
returns-clause-leader c = leader-sends
