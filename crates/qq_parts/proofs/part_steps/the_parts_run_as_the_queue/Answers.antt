use Rattle.std.proofs.Common.{sym}
use Rattle.qq_parts.proofs.Between.{runs, all-served}
use Rattle.qq_parts.proofs.part_steps.the_parts_run_as_the_queue.Goals as goal

pub returns : goal.returns
returns c = record {
  stands = λ args entries range. (runs args entries range).holds;
  audit = λ args entries range. sym (runs args entries range).audit;
  effects = λ args entries range. sym (runs args entries range).effects;
  served = all-served;
}
