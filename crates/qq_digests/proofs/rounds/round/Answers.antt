use Rattle.std.proofs.Common.{refl}
use Rattle.qq_digests.proofs.rounds.round.Goals as goal

pub returns : goal.returns
returns c = λ j lt.
    rw (
      c.add32-3.ensures j lt,
      c.add32-4.ensures j lt,
      c.add32-temp1-2.ensures j lt,
      c.add32-2.ensures j lt,
      c.splat.ensures j lt,
      c.add32-temp1.ensures j lt,
      c.ch.ensures j lt,
      c.add32.ensures j lt,
      c.big_sigma1.ensures j lt,
      c.add32-temp2.ensures j lt,
      c.big_sigma0.ensures j lt,
      c.maj.ensures j lt,
    ) refl
