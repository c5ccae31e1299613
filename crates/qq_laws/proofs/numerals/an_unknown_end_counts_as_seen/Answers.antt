use Rattle.std.proofs.Common.{refl}
use Rattle.qq_model.specs.Commands.{act, enqueue, down}
use Rattle.qq_model.specs.Gate.{gate, admit, keep_answer, end_session}
use Rattle.qq_model.specs.Serving.{check_out, check_out_all, drain_after, drop_head, keep_limits, give_dead, give_all_dead}
use Rattle.qq_model.specs.Step.{carry_out, step}
use Rattle.qq_laws.proofs.numerals.an_unknown_end_counts_as_seen.Goals as goal

pub returns-clause-once : goal.returns-clause-once
unfolding act enqueue down end_session gate admit keep_answer check_out check_out_all drain_after drop_head keep_limits give_dead give_all_dead carry_out step
returns-clause-once c = refl

pub returns-clause-twice : goal.returns-clause-twice
unfolding act enqueue down end_session gate admit keep_answer check_out check_out_all drain_after drop_head keep_limits give_dead give_all_dead carry_out step
returns-clause-twice c = refl

pub returns-clause-known : goal.returns-clause-known
unfolding act enqueue down end_session gate admit keep_answer check_out check_out_all drain_after drop_head keep_limits give_dead give_all_dead carry_out step
returns-clause-known c = refl
