use Rattle.std.proofs.Common.{map}
use Rattle.qq_model.proofs.Soundness.{in_contains}
use Rattle.qq_parts.specs.Parts.{consumer_at}
use Rattle.qq_parts.proofs.Delivering.{delivers, joins, purges}
use Rattle.qq_parts.proofs.parts.consumers_are_served.Goals as goal

pub returns : goal.returns
returns c = record {
  delivers = λ x consumer m s with whole here.
      delivers x consumer m s with whole (in_contains (map consumer_at m.served) consumer here);
  joins = joins;
  purges = purges;
}
