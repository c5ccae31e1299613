use Rattle.std.proofs.Common.{refl}
use Rattle.qq_model.specs.Changes.{die, return_row}
use Rattle.qq_model.specs.Commands.{act, enqueue, subscribe, finish, down, return_all}
use Rattle.qq_model.specs.Gate.{gate, admit, keep_answer, take_tag, end_session}
use Rattle.qq_model.specs.Serving.{check_out, check_out_all, drain_after, drop_head, keep_limits, give_dead, give_all_dead}
use Rattle.qq_model.specs.Step.{carry_out, step}
use Rattle.qq_laws.proofs.numerals.a_limit_of_two_is_met_by_the_third_message.Goals as goal

pub returns-clause-length : goal.returns-clause-length
unfolding die return_row act enqueue subscribe finish down end_session take_tag return_all gate admit keep_answer check_out check_out_all drain_after drop_head keep_limits give_dead give_all_dead carry_out step
returns-clause-length c = refl

pub returns-clause-bytes : goal.returns-clause-bytes
unfolding die return_row act enqueue subscribe finish down end_session take_tag return_all gate admit keep_answer check_out check_out_all drain_after drop_head keep_limits give_dead give_all_dead carry_out step
returns-clause-bytes c = refl

pub returns-clause-live : goal.returns-clause-live
unfolding die return_row act enqueue subscribe finish down end_session take_tag return_all gate admit keep_answer check_out check_out_all drain_after drop_head keep_limits give_dead give_all_dead carry_out step
returns-clause-live c = refl

pub returns-clause-live_of_all : goal.returns-clause-live_of_all
unfolding die return_row act enqueue subscribe finish down end_session take_tag return_all gate admit keep_answer check_out check_out_all drain_after drop_head keep_limits give_dead give_all_dead carry_out step
returns-clause-live_of_all c = refl

pub returns-clause-confirmed : goal.returns-clause-confirmed
unfolding die return_row act enqueue subscribe finish down end_session take_tag return_all gate admit keep_answer check_out check_out_all drain_after drop_head keep_limits give_dead give_all_dead carry_out step
returns-clause-confirmed c = refl

pub returns-clause-head : goal.returns-clause-head
unfolding die return_row act enqueue subscribe finish down end_session take_tag return_all gate admit keep_answer check_out check_out_all drain_after drop_head keep_limits give_dead give_all_dead carry_out step
returns-clause-head c = refl

pub returns-clause-heads : goal.returns-clause-heads
unfolding die return_row act enqueue subscribe finish down end_session take_tag return_all gate admit keep_answer check_out check_out_all drain_after drop_head keep_limits give_dead give_all_dead carry_out step
returns-clause-heads c = refl
