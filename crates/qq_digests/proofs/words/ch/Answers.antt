use Rattle.std.proofs.Common.{refl}
use Rattle.qq_digests.proofs.words.ch.Goals as goal

pub returns : goal.returns
returns c = λ j lt. rw (c.xor.ensures j lt, c.and.ensures j lt, c.and-2.ensures j lt, c.not.ensures j lt) refl
