use Rattle.std.proofs.Common.{refl, sym}
use Rattle.sha2.proofs.Schedule256.{rounds_first}
use Rattle.qq_digests.specs.Lanes.{lane, words_of}
use Rattle.qq_digests.proofs.Bytes.{word_of}
use Rattle.qq_digests.proofs.rounds.first_step.Goals as goal

pub returns : goal.returns
returns c = λ j lt b h window held.
    rounds_first b h (words_of j c.args.words.now) (lane j c.args.v) c.args.t _ _ _ c.requires window held refl
    (sym (word_of c.args.words.now j c.args.t)) (c.round.ensures j lt)
