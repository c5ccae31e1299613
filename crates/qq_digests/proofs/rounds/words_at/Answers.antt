use Rattle.std.proofs.Common.{ap, ◌∙◌, arith}
use Rattle.sha2.specs.Sha256.{word_at}
use Rattle.qq_digests.proofs.Eight.{below_eight}
use Rattle.qq_digests.proofs.rounds.words_at.Goals as goal

pub returns : goal.returns
returns c =
    let word = word_at c.args.bytes.now in
    below_eight _
    (c.word_at.ensures ∙ ap word (omega arith))
    (c.word_at-2.ensures ∙ ap word (omega arith))
    (c.word_at-3.ensures ∙ ap word (omega arith))
    (c.word_at-4.ensures ∙ ap word (omega arith))
    (c.word_at-5.ensures ∙ ap word (omega arith))
    (c.word_at-6.ensures ∙ ap word (omega arith))
    (c.word_at-7.ensures ∙ ap word (omega arith))
    (c.word_at-8.ensures ∙ ap word (omega arith))
