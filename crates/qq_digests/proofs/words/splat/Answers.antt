use Rattle.std.proofs.Common.{refl}
use Rattle.qq_digests.proofs.Eight.{below_eight}
use Rattle.qq_digests.proofs.words.splat.Goals as goal

pub returns : goal.returns
returns c = below_eight _ refl refl refl refl refl refl refl refl
