use Rattle.qq_queue_pins.proofs.LowMark.{one_mark}
use Rattle.qq_queue_pins.proofs.client.a_client_has_one_low_mark.Goals as goal

pub returns : goal.returns
returns c = one_mark
