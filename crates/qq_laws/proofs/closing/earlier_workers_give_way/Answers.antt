use Rattle.qq_laws.proofs.GivingWay.{gives_way}
use Rattle.qq_laws.proofs.closing.earlier_workers_give_way.Goals as goal

pub returns : goal.returns
returns c = gives_way
