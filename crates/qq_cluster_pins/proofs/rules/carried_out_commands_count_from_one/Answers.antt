use Rattle.qq_cluster_pins.proofs.rules.carried_out_commands_count_from_one.Goals as goal

pub returns : goal.returns
returns c = λ args group session events place number.
    (c.sessions_go_on.ensures.answered args group session events).numbers place number
