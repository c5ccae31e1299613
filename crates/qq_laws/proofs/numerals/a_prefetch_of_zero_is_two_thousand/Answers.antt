use Rattle.std.proofs.Common.{refl}
use Rattle.qq_model.specs.Changes.{die, return_row}
use Rattle.qq_model.specs.Commands.{act, enqueue, subscribe, finish, down, return_all}
use Rattle.qq_model.specs.Gate.{gate, admit, keep_answer, take_tag, end_session}
use Rattle.qq_model.specs.Serving.{check_out, check_out_all, drain_after, drop_head, keep_limits, give_dead, give_all_dead}
use Rattle.qq_model.specs.Step.{carry_out, step}
use Rattle.qq_laws.proofs.numerals.a_prefetch_of_zero_is_two_thousand.Goals as goal

pub returns-clause-two : goal.returns-clause-two
unfolding die return_row act enqueue subscribe finish down end_session take_tag return_all gate admit keep_answer check_out check_out_all drain_after drop_head keep_limits give_dead give_all_dead carry_out step
returns-clause-two c = refl
