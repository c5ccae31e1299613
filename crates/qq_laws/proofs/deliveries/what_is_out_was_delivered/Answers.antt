use Rattle.qq_laws.proofs.OutByDelivery.{out_by_delivery}
use Rattle.qq_laws.proofs.deliveries.what_is_out_was_delivered.Goals as goal

pub returns : goal.returns
returns c = out_by_delivery
