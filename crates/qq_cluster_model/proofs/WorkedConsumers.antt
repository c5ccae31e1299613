-- What the worked scripts of consumers print.
use Rattle.std.proofs.Common.{◌≡◌, ◌++◌, refl}
use Rattle.std.specs.Fmt.{digits}
use Rattle.std.specs.Prelude.{codes}
use Rattle.qq_base.specs.Fronts.{put}
use Rattle.qq_command.specs.Encoding.{body, content, death, deaths, encoding, fields, key, origin, payload, session, stamp}
use Rattle.qq_log.specs.Stable.{apply_op, change as change_log}
use Rattle.qq_model.specs.Changes.{die, return_row}
use Rattle.qq_model.specs.Commands.{act, enqueue, finish, get, subscribe}
use Rattle.qq_model.specs.Gate.{gate, admit, keep_answer, take_tag, turn_away}
use Rattle.qq_model.specs.Serving.{check_out, check_out_all, drain_after, drop_head, keep_limits, give_dead, give_all_dead}
use Rattle.qq_model.specs.Step.{carry_out, step}
use Rattle.qq_raft_model.specs.Leading.{send, add_entry, stand, lead, lead_if_elected, advance}
use Rattle.qq_raft_model.specs.Server.{refuse, give_vote, receive_vote, receive_voted, take_entries, refuse_entries, receive_append, take_ack, step_back, receive_appended, accept, receive, tick, submit, notice}
use Rattle.qq_raft_model.specs.State.{change, enter, say_all}
use Rattle.qq_cluster_model.specs.Example.{in_order, missed, output_of, settle_untaken, setup_of, subscribed_late}
use Rattle.qq_cluster_model.specs.Rules.{most_rounds}
use Rattle.qq_cluster_model.specs.Serving.{all_given, line}

pub missed-printed : output_of (setup_of 1 1) all_given missed
    ≡ codes "2 q1: subscribed 1\nconfirmed 1\n2 q1: deliver 1 1 1 a\naudit q1 0 3\n"
    ++ codes "1 1 noop 1 lead\n2 1 subscribe 2 1 1 subscribed 1\n"
    ++ codes "3 1 enqueue 1 1 1 confirmed 1\n"
unfolding digits put most_rounds line step carry_out act gate admit keep_answer take_tag turn_away enqueue get subscribe finish die return_row check_out check_out_all drain_after drop_head keep_limits give_dead give_all_dead apply_op change_log send add_entry stand lead lead_if_elected advance refuse give_vote receive_vote receive_voted take_entries refuse_entries receive_append take_ack step_back receive_appended accept receive tick submit notice change enter say_all encoding payload fields session stamp origin body key death deaths content
missed-printed = refl

pub untaken-printed : output_of (setup_of 1 1) all_given settle_untaken
    ≡ codes "not taken 1\naudit q1 0 1\n1 1 noop 1 lead\n"
unfolding digits put most_rounds line step carry_out act gate admit keep_answer take_tag turn_away enqueue get subscribe finish die return_row check_out check_out_all drain_after drop_head keep_limits give_dead give_all_dead apply_op change_log send add_entry stand lead lead_if_elected advance refuse give_vote receive_vote receive_voted take_entries refuse_entries receive_append take_ack step_back receive_appended accept receive tick submit notice change enter say_all encoding payload fields session stamp origin body key death deaths content
untaken-printed = refl

pub in_order-printed : output_of (setup_of 1 1) all_given in_order
    ≡ codes "2 q1: subscribed 1\nconfirmed 1\nconfirmed 2\n2 q1: not taken 2\n"
    ++ codes "2 q1: deliver 1 1 1 a\n2 q1: deliver 1 2 2 b\n2 q1: done\nconfirmed 3\n"
    ++ codes "2 q1: deliver 1 3 3 c\naudit q1 0 6\n1 1 noop 1 lead\n"
    ++ codes "2 1 subscribe 2 1 1 subscribed 1\n3 1 enqueue 1 1 1 confirmed 1\n"
    ++ codes "4 1 enqueue 1 2 1 confirmed 2\n5 1 settle 2 2 1 2 done\n"
    ++ codes "6 1 enqueue 1 3 1 confirmed 3\n"
unfolding digits put most_rounds line step carry_out act gate admit keep_answer take_tag turn_away enqueue get subscribe finish die return_row check_out check_out_all drain_after drop_head keep_limits give_dead give_all_dead apply_op change_log send add_entry stand lead lead_if_elected advance refuse give_vote receive_vote receive_voted take_entries refuse_entries receive_append take_ack step_back receive_appended accept receive tick submit notice change enter say_all encoding payload fields session stamp origin body key death deaths content
in_order-printed = refl

pub late-printed : output_of (setup_of 1 1) all_given subscribed_late
    ≡ codes "confirmed 1\n2 q1: deliver 1 1 1 a\n2 q1: subscribed 1\naudit q1 0 4\n"
    ++ codes "1 1 noop 1 lead\n2 1 subscribe 2 1 1 subscribed 1\n"
    ++ codes "3 1 enqueue 1 1 1 confirmed 1\n4 1 subscribe 2 1 1 subscribed 1 again\n"
unfolding digits put most_rounds line step carry_out act gate admit keep_answer take_tag turn_away enqueue get subscribe finish die return_row check_out check_out_all drain_after drop_head keep_limits give_dead give_all_dead apply_op change_log send add_entry stand lead lead_if_elected advance refuse give_vote receive_vote receive_voted take_entries refuse_entries receive_append take_ack step_back receive_appended accept receive tick submit notice change enter say_all encoding payload fields session stamp origin body key death deaths content
late-printed = refl
