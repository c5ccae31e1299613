use Rattle.qq_group_laws.proofs.messages.a_message_that_was_read_is_read_again.Goals as goal

pub returns-clause-again : goal.returns-clause-again
returns-clause-again c = λ bytes rest x fits is.
    c.messages_read_back.ensures.again x.0 rest (c.messages_read_back.ensures.alone bytes x fits is).writable

pub returns-clause-sender : goal.returns-clause-sender
returns-clause-sender c = λ bytes x fits is.
    (c.messages_read_back.ensures.alone bytes x fits is).writable.envelope.0

pub returns-clause-receiver : goal.returns-clause-receiver
returns-clause-receiver c = λ bytes x fits is.
    (c.messages_read_back.ensures.alone bytes x fits is).writable.envelope.1

pub returns-clause-term : goal.returns-clause-term
returns-clause-term c = λ bytes x fits is.
    (c.messages_read_back.ensures.alone bytes x fits is).writable.envelope.2
