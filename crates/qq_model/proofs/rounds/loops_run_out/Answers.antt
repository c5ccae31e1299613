use Rattle.qq_model.proofs.RunsOut.{check_out_all-runs_out, return_all-runs_out, keep_limits-runs_out, give_all_dead-runs_out}
use Rattle.qq_model.proofs.rounds.loops_run_out.Goals as goal

pub returns : goal.returns
returns c = record {
  delivered = check_out_all-runs_out;
  returned = return_all-runs_out;
  dropped = keep_limits-runs_out;
  given = give_all_dead-runs_out;
}
