use Rattle.std.proofs.Common.{refl}
use Rattle.qq_shovel.proofs.Moves.{moved}
use Rattle.qq_shovel.proofs.laws.what_was_settled_stands_confirmed.Goals as goal

pub returns : goal.returns
returns c = λ here there session prefetch deeds deliveries source target. moved session deeds _ deliveries source target
    refl refl
