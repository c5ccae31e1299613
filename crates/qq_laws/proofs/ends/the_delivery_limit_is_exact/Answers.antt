use Rattle.qq_laws.proofs.DeliveryLimits.{keeps_delivery_limit}
use Rattle.qq_laws.proofs.ends.the_delivery_limit_is_exact.Goals as goal

pub returns : goal.returns
returns c = keeps_delivery_limit
